-- What holds of answers and of the least table. The contracts of `least` say that it does, for every order of values in which only equal values tie.
--     AnswersLongestMatch      an answer is the longest match
--     KeepsAnswers      the least table answers as the table
--     HasFewest      no table with the same answers has fewer entries
--     IsCanonical      tables with the same answers have one least table
--     KeepsWidth, IsNoLarger, IsStable      no longer keys;  no more entries;  the least table of a least table is itself
--     KnowsEachKey      candidates, what is placed and what is stored at each key, by those of the keys one bit longer
--     TellsCoverage      the least table answers at a key just where each address that goes on from it has an answer
--     IsAscending, ListsPlaced      candidates ascend;  the entries of the least table are those that were placed
--     ServesBelowEach      the step by which the least table has the fewest entries
use Rattle.std.specs.Prelude.{◌≡◌, ◌↔◌, ℕ, ◌+◌, ◌<◌, ◌≤◌, Bool, true, false, List, [], ◌∷◌, ◌++◌, length, Option, Some, None, IsSome}
use Rattle.std.specs.declared.cmp.Ordering.{Ordering}
use Rattle.std.specs.Option.{option_map}
use Rattle.std.specs.List.Sorted.{IsStrictlySortedBy}
use Rattle.std.specs.FinMap.{get, len, entries, find}
use Rattle.prefix_model.specs.Keys.{KeyBits, key_cmp}
use Rattle.prefix_model.specs.Tables.{KeyMap, Values, answer, answer_under, SameAnswers, HasWidth, IsFewest, IsLongestMatch}
use Rattle.prefix_model.specs.Candidates.{candidates, joined, only, offers}
use Rattle.prefix_model.specs.LeastTable.{entry, with_halves, least_table, stored, inherited, placed, place, candidates_at, inherited_at}

abbrev pub AnswersLongestMatch : Type 0 → Type 0
AnswersLongestMatch V = (m : KeyMap V) (k : KeyBits) → IsLongestMatch m k (answer m k)

module _ {V : Type 0} (cmp : V → V → Ordering) where
  abbrev pub KeepsAnswers : Type 0
  KeepsAnswers = (w : ℕ) (m : KeyMap V) → SameAnswers w m (least_table cmp w m)

  abbrev pub HasFewest : Type 0
  HasFewest = (w : ℕ) (m : KeyMap V) → IsFewest w (least_table cmp w m)

  abbrev pub IsCanonical : Type 0
  IsCanonical = (w : ℕ) (m n : KeyMap V) → SameAnswers w m n → least_table cmp w m ≡ least_table cmp w n

  abbrev pub KeepsWidth : Type 0
  KeepsWidth = (w : ℕ) (m : KeyMap V) → HasWidth w (least_table cmp w m)

  abbrev pub IsNoLarger : Type 0
  IsNoLarger = (w : ℕ) (m : KeyMap V) → len (least_table cmp w m) ≤ len m

  abbrev pub IsStable : Type 0
  IsStable = (w : ℕ) (m : KeyMap V) → least_table cmp w (least_table cmp w m) ≡ least_table cmp w m

  -- candidates by recursion on the bits that are left
  pub record CandidatesByBits (w : ℕ) (m : KeyMap V) (s : KeyBits) : Type 0 where
    pub at_address : length s ≡ w → candidates_at cmp w m s ≡ option_map only (answer m s)
    pub by_halves : length s < w → candidates_at cmp w m s ≡ joined cmp (candidates_at cmp w m (s ++ false ∷ [])) (candidates_at cmp w m (s ++ true ∷ []))

  -- what is placed, by recursion on the bits that are left
  pub record PlaceByBits (w : ℕ) (m : KeyMap V) (s : KeyBits) (v : Option V) : Type 0 where
    pub at_address : length s ≡ w → place cmp w m s v ≡ entry (stored cmp (candidates_at cmp w m s) v)
    pub by_halves : length s < w → place cmp w m s v
        ≡ with_halves (stored cmp (candidates_at cmp w m s) v) (place cmp w m (s ++ false ∷ []) (inherited cmp (candidates_at cmp w m s) v))
        (place cmp w m (s ++ true ∷ []) (inherited cmp (candidates_at cmp w m s) v))

  -- The least table at a key, by what the key inherits: a key stores what is placed there, and answers what it hands down.
  pub record LeastAtKey (w : ℕ) (m : KeyMap V) (s : KeyBits) : Type 0 where
    pub stored_there : get (least_table cmp w m) s ≡ stored cmp (candidates_at cmp w m s) (inherited_at cmp w m s)
    pub answered_there : answer (least_table cmp w m) s ≡ inherited cmp (candidates_at cmp w m s) (inherited_at cmp w m s)
    pub handed_on : (b : Bool) → length s < w → inherited_at cmp w m (s ++ b ∷ []) ≡ inherited cmp (candidates_at cmp w m s) (inherited_at cmp w m s)

  abbrev pub KnowsEachKey : Type 0
  KnowsEachKey = (w : ℕ) (m : KeyMap V) (s : KeyBits) → length s ≤ w → CandidatesByBits w m s × LeastAtKey w m s × ((v : Option V) → PlaceByBits w m s v)

  -- these entries and an inherited v answer f at each address with n bits to go
  abbrev pub Serves : ℕ → Option V → List (KeyBits × V) → Values V → Type 0
  Serves n v es f = (k : KeyBits) → length k ≡ n → answer_under v (λ q. find key_cmp q es) k ≡ f k

  -- the step on which `HasFewest` rests: at a key with n bits to go, under an inherited v
  pub record ServesWithFewest (n : ℕ) (f : Values V) (v : Option V) : Type 0 where
    pub not_under_value : candidates cmp n f ≡ None → IsSome v → (es : List (KeyBits × V)) → Serves n v es f → ⊥
    pub serves : (candidates cmp n f ≡ None → v ≡ None) → Serves n v (placed cmp n f v) f
    pub fewest : (es : List (KeyBits × V)) → Serves n v es f → length (placed cmp n f v) ≤ length es
    pub at_candidate : (l : List V) → candidates cmp n f ≡ Some l → offers cmp l v ≡ true → length (placed cmp n f v) + 1 ≡ length (placed cmp n f None)
    pub elsewhere : (l : List V) → candidates cmp n f ≡ Some l → offers cmp l v ≡ false → length (placed cmp n f v) ≡ length (placed cmp n f None)

  abbrev pub ServesBelowEach : Type 0
  ServesBelowEach = (n : ℕ) (f : Values V) (v : Option V) → ServesWithFewest n f v

  -- every address that goes on from s has an answer just where the least table has an answer at s
  abbrev pub TellsCoverage : Type 0
  TellsCoverage = (w : ℕ) (m : KeyMap V) (s : KeyBits) → length s ≤ w → ((k : KeyBits) → length k + length s ≡ w → IsSome (answer m (s ++ k))) ↔ IsSome (answer (least_table cmp w m) s)

  -- the candidates at a key are in ascending order, so that the first is the least
  abbrev pub IsAscending : Type 0
  IsAscending = (n : ℕ) (f : Values V) (l : List V) → candidates cmp n f ≡ Some l → IsStrictlySortedBy cmp l

  -- the entries of the least table in key order are those that were placed
  abbrev pub ListsPlaced : Type 0
  ListsPlaced = (w : ℕ) (m : KeyMap V) → entries (least_table cmp w m) ≡ placed cmp w (answer m) None
