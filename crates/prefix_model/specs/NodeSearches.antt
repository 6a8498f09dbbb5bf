-- Searches for the first entry of a table, node by node.
--     IsChosen n places children k      k stands at a place of the node n that is set in `places`, or below a child that is set in `children`
--     IsFirstOf f C r      r is the first entry of f of whose key C holds, and none where C holds of no stored key
--     StandsBelow p q inclusive k      k begins with p and does not stand before q, and is not q unless inclusive
--     IsFromPlace inclusive r places children      the bits of what stands from the place r on
use Rattle.std.specs.Prelude.{◌≡◌, ℕ, Bool, true, ◌++◌, slice_get, Option, None, Some, IsSome}
use Rattle.std.specs.Int.{bit_at}
use Rattle.prefix_model.specs.Keys.{KeyBits, digit}
use Rattle.prefix_model.specs.Tables.{Values}
use Rattle.prefix_model.specs.Positions.{data_places, child_places}
use Rattle.prefix_model.specs.Walks.{begins_with, stands_from}

pub data IsChosen (n : KeyBits) (places children : ℕ) (k : KeyBits) : Type 0 where
  at_place : (b : ℕ) (s : KeyBits) → slice_get data_places b ≡ Some s → bit_at places b ≡ 1 → k ≡ n ++ s → IsChosen n places children k
  below_child : (c : ℕ) (s r : KeyBits) → slice_get child_places c ≡ Some s → bit_at children c ≡ 1 → k ≡ (n ++ s) ++ r → IsChosen n places children k

module _ {V : Type 0} (f : Values V) (C : KeyBits → Type 0) where
  pub record IsFirstOfAt (e : KeyBits × V) : Type 0 where
    pub stored : f e.0 ≡ Some e.1
    pub chosen : C e.0
    pub first : (k : KeyBits) → IsSome (f k) → C k → stands_from true e.0 k ≡ true

  abbrev pub IsFirstOf : Option (KeyBits × V) → Type 0
  IsFirstOf None = (k : KeyBits) → IsSome (f k) → C k → ⊥
  IsFirstOf (Some e) = IsFirstOfAt e

abbrev pub StandsBelow : KeyBits → KeyBits → Bool → KeyBits → Type 0
StandsBelow p q i k = (begins_with p k ≡ true) × (stands_from i q k ≡ true)

-- the places of a node that stand from r on, r itself only where it counts, and the children whose keys do
pub record IsFromPlace (inclusive : Bool) (r : KeyBits) (places children : ℕ) : Type 0 where
  pub place : (b : ℕ) (s : KeyBits) → slice_get data_places b ≡ Some s → bit_at places b ≡ digit (stands_from inclusive r s)
  pub child : (c : ℕ) (s : KeyBits) → slice_get child_places c ≡ Some s → bit_at children c ≡ digit (stands_from true r s)
