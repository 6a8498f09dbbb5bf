-- What holds of positions, spellings and checks. The contracts of `layout` say that it does.
--     ListsPositions      the positions are the empty key and the fronts of stored keys whose lengths are multiples of five, in order
--     SpellsOne, SpellsOnePair      bytes spell at most one table;  one pair
--     AcceptsSpelled, SpellsAccepted      what is spelled is accepted;  what is accepted is spelled
--     IsExact      there is no cause just where bytes spell a pair
--     IsCodecOfNumbers w      the codec of numbers of this width is lawful, and spells each of them
use Rattle.std.specs.Prelude.{◌⊎◌, true, ◌≡◌, ◌↔◌, ℕ, ◌^◌, ◌<◌, List, ◌++◌, Ok, []}
use Rattle.std.specs.Int.{Width}
use mir.Val.{bits}
use Rattle.std.specs.List.Sorted.{IsStrictlySortedBy}
use Rattle.prefix_model.specs.Keys.{KeyBits, shorter_first, stands_in}
use Rattle.prefix_model.specs.Tables.{KeyMap}
use Rattle.prefix_model.specs.Positions.{positions, has_node_length}
use Rattle.prefix_model.specs.Spelling.{Codec, IsLawful, HasSpelling, IsBytes, spelling, Spells, SpellsPair, number_codec}
use Rattle.prefix_model.specs.FirstCause.{check, check_pair}

module _ {V : Type 0} (codec : Codec V) where
  -- a front of bytes that spells a table tells the table and where it ends
  abbrev pub SpellsOne : Type 0
  SpellsOne = (w : ℕ) (front rest other_front other_rest : List ℕ) (m n : KeyMap V)
      → Spells codec w front m → Spells codec w other_front n → front ++ rest ≡ other_front ++ other_rest → (m ≡ n) × (front ≡ other_front) × (rest ≡ other_rest)

  -- what is spelled is accepted
  abbrev pub AcceptsSpelled : Type 0
  AcceptsSpelled = (w : ℕ) (front rest : List ℕ) (m : KeyMap V) → Spells codec w front m → check codec w (front ++ rest) ≡ Ok rest

  -- and what is accepted is spelled
  abbrev pub SpellsAccepted : Type 0
  SpellsAccepted = (w : ℕ) (bytes rest : List ℕ) → IsBytes bytes → check codec w bytes ≡ Ok rest → (m : KeyMap V) × Spells codec w (spelling codec m) m × (bytes ≡ spelling codec m ++ rest)

  abbrev pub IsExact : Type 0
  IsExact = (v w : ℕ) (bytes : List ℕ) → IsBytes bytes → (check_pair codec v w bytes ≡ Ok tt) ↔ ((m : KeyMap V) × (n : KeyMap V) × SpellsPair codec v w bytes m n)

  abbrev pub SpellsOnePair : Type 0
  SpellsOnePair = (v w : ℕ) (bytes : List ℕ) (m n m2 n2 : KeyMap V) → SpellsPair codec v w bytes m n → SpellsPair codec v w bytes m2 n2 → (m ≡ m2) × (n ≡ n2)

pub record IsCodecOfNumbers (w : Width) : Type 0 where
  pub lawful : IsLawful (number_codec w)
  pub spelled : (n : ℕ) → n < 2 ^ bits w → HasSpelling (number_codec w) n

-- the positions are the empty key and each front of a stored key whose length is a multiple of five, by length and then in key order
pub record ArePositions (ks ps : List KeyBits) : Type 0 where
  pub ordered : IsStrictlySortedBy shorter_first ps
  pub members : (q : KeyBits) → (stands_in ps q ≡ true) ↔ ((q ≡ []) ⊎ ((has_node_length q ≡ true) × ((k : KeyBits) × (rest : KeyBits) × (stands_in ks k ≡ true) × (k ≡ q ++ rest))))

abbrev pub ListsPositions : Type 0
ListsPositions = (ks : List KeyBits) → ArePositions ks (positions ks)
