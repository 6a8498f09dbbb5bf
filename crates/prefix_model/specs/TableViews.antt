-- What a contract sees of a table.
--     TableView T      the entries, the kept positions, and the position that each node number names
--     HoldsPositions view      the positions of the entries are kept
use Rattle.std.specs.Prelude.{◌≡◌, ℕ, ◌%◌, ◌≤◌, true, [], ◌++◌, length, take, Some, IsSome}
use Rattle.std.specs.Option.{unwrap_or}
use Rattle.std.specs.Ordering.{nat_cmp}
use Rattle.std.specs.FinMap as map
use Rattle.std.specs.Coded.{Coded, code_by, coded×, coded_ℕ, coded_bool, coded_list}
use Rattle.std.proofs.Common.{refl}
use base.Stored.{coded_unit}
use Rattle.prefix_model.specs.Keys.{KeyBits, stands_in}
use Rattle.prefix_model.specs.Tables.{KeyMap, Values}
use Rattle.prefix_model.specs.Positions.{PositionSet, positions_of_key}

pub record TableView (T : Type 0) : Type 0 where
  pub entries : KeyMap T
  pub kept : PositionSet
  pub places : map.FinMap nat_cmp KeyBits

abbrev pub coded_key : Coded KeyBits
coded_key = coded_list coded_bool

-- a view is stored as its three parts
abbrev pub coded_view : {T : Type 0} → Coded T → Coded (TableView T)
coded_view {T} code =
    code_by (KeyMap T × (PositionSet × map.FinMap nat_cmp KeyBits)) (coded× (map.code coded_key code) (coded× (map.code coded_key coded_unit) (map.code coded_ℕ coded_key)))
    (λ v. (v.entries, (v.kept, v.places))) (λ p. record { entries = p.0; kept = p.1.0; places = p.1.1 }) (λ _. refl)

-- the position that a node number names
abbrev pub position_at : {T : Type 0} → TableView T → ℕ → KeyBits
position_at view at = unwrap_or (map.get view.places at) []

-- the key of n bits at the front of these bits
abbrev pub key_of : KeyBits → ℕ → KeyBits
key_of bits len = take len bits

-- two views of the same entries and the same kept positions; node numbers may differ
pub record IsSameTable {T : Type 0} (old new : TableView T) : Type 0 where
  pub entries : new.entries ≡ old.entries
  pub kept : new.kept ≡ old.kept

-- the kept positions have the lengths of nodes, node numbers name them alone, and each position of an entry is one
pub record HoldsPositions {T : Type 0} (view : TableView T) : Type 0 where
  pub root : map.contains_key view.kept [] ≡ true
  pub named : (at : ℕ) (p : KeyBits) → map.get view.places at ≡ Some p → map.contains_key view.kept p ≡ true
  pub lengths : (p : KeyBits) → map.contains_key view.kept p ≡ true → (length p % 5 ≡ 0) × (length p ≤ 125)
  -- the position above a kept one is kept
  pub above : (p c : KeyBits) → length c ≡ 5 → map.contains_key view.kept (p ++ c) ≡ true → map.contains_key view.kept p ≡ true
  -- each position of a stored key is kept
  pub stored : (k q : KeyBits) → IsSome (map.get view.entries k) → stands_in (positions_of_key k) q ≡ true → map.contains_key view.kept q ≡ true

module _ {T : Type 0} where
  -- what is stored at and below a key, by what follows the key
  abbrev pub stored_from : TableView T → KeyBits → Values T
  stored_from view s q = map.get view.entries (s ++ q)
