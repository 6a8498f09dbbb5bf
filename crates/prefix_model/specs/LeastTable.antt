-- The table with the fewest keys that has the answers of another: the third pass of ORTC, from the empty key down.
-- At a key with candidates that inherits one of them nothing is stored. Where it inherits none of them the least is stored. Below a hole nothing is inherited.
--     least_table cmp w m      the least table of m for addresses of w bits
--     placed cmp n f v      its entries at and below a key with n bits to go that inherits v, in key order
--     stored cmp c v, inherited cmp c v      what a key with the candidates c that inherits v stores;  and hands down
--     candidates_at, inherited_at, place      the same at a key of a table
--     entry, below, with_halves      lists of entries: at the empty key; behind a bit; at a key and in its halves
use Rattle.std.specs.Prelude.{ℕ, zero, suc, ◌-◌, Bool, true, false, List, [], ◌∷◌, ◌++◌, map, length, Option, Some, None, if◌then◌else◌}
use Rattle.std.specs.declared.cmp.Ordering.{Ordering}
use Rattle.std.specs.FinMap.{from_entries}
use Rattle.prefix_model.specs.Keys.{KeyBits}
use Rattle.prefix_model.specs.Tables.{KeyMap, Values, after, answer}
use Rattle.prefix_model.specs.Candidates.{Candidates, candidates, least, offers}

-- the entry at the empty key, where there is a value
abbrev pub entry : {V : Type 0} → Option V → List (KeyBits × V)
entry None = []
entry (Some x) = ([], x) ∷ []

-- the entries with bit b before each key
abbrev pub below : {V : Type 0} → Bool → List (KeyBits × V) → List (KeyBits × V)
below b es = map (λ e. (b ∷ e.0, e.1)) es

-- what stands at a key, and below it behind either bit
abbrev pub with_halves : {V : Type 0} → Option V → List (KeyBits × V) → List (KeyBits × V) → List (KeyBits × V)
with_halves x es fs = entry x ++ (below false es ++ below true fs)

module _ {V : Type 0} (cmp : V → V → Ordering) where
  -- what is stored at a key with these candidates that inherits v
  abbrev pub stored : Candidates V → Option V → Option V
  stored None v = None
  stored (Some l) v = if offers cmp l v then None else least l

  -- and what the keys below it inherit
  abbrev pub inherited : Candidates V → Option V → Option V
  inherited None v = None
  inherited (Some l) v = if offers cmp l v then v else least l

  -- the entries at and below a key with n bits to go that inherits v, by what follows the key, in key order
  abbrev pub placed : ℕ → Values V → Option V → List (KeyBits × V)
  placed zero f v = entry (stored (candidates cmp zero f) v)
  placed (suc n) f v =
      let u = inherited (candidates cmp (suc n) f) v in
      with_halves (stored (candidates cmp (suc n) f) v) (placed n (after false f) u) (placed n (after true f) u)

  -- what is placed from the empty key down, which inherits nothing
  abbrev pub least_table : ℕ → KeyMap V → KeyMap V
  least_table w m = from_entries (placed w (answer m) None)

  -- what a key with n bits to go hands down to the key that goes on by s, where it inherits v itself
  abbrev pub handed_down : ℕ → Values V → Option V → KeyBits → Option V
  handed_down n f v [] = v
  handed_down zero f v (b ∷ s) = None
  handed_down (suc n) f v (b ∷ s) = handed_down n (after b f) (inherited (candidates cmp (suc n) f) v) s

  -- the same at a key s of a table
  abbrev pub candidates_at : ℕ → KeyMap V → KeyBits → Candidates V
  candidates_at w m s = candidates cmp (w - length s) (λ k. answer m (s ++ k))

  abbrev pub inherited_at : ℕ → KeyMap V → KeyBits → Option V
  inherited_at w m s = handed_down w (answer m) None s

  abbrev pub place : ℕ → KeyMap V → KeyBits → Option V → List (KeyBits × V)
  place w m s v = placed (w - length s) (λ k. answer m (s ++ k)) v
