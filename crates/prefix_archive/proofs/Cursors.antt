-- The position of a child, by the number that its bits spell.
use Rattle.std.proofs.Common.{◌≡◌, ℕ, ◌+◌, ◌*◌, ◌/◌, ◌%◌, ◌^◌, ◌<◌, ◌≤◌, true, eqb, inl, inr, ◌⊎◌, ◌++◌, [], length, refl, sym, ap, ◌∙◌, subst, arith, Some, length-append}
use Rattle.std.specs.Prelude.{slice_get, IsBitSet}
use Rattle.std.specs.Int.{bit_at}
use Rattle.std.specs.FinMap as finite
use Rattle.std.proofs.lemmas.Bool.{eq-eqb}
use Rattle.std.proofs.lemmas.Nat.Bits.{bit_at_cat_low}
use Rattle.std.proofs.lemmas.Nat.{pow-add}
use lib.Pow.{pow_mono}
use Rattle.prefix_model.specs.Keys.{KeyBits, low_bits, number, stands_in}
use Rattle.prefix_model.specs.Tables.{KeyMap, HasWidth}
use Rattle.prefix_model.specs.Positions.{NodeRecord, child_places, has_node_length}
use Rattle.prefix_model.specs.InPlace.{IsRecordOf, is_position}
use Rattle.prefix_model.proofs.KeyLemmas.{stands_in-keys}
use Rattle.prefix_model.proofs.KeyNumbers.{length-low_bits, number-low_bits, low_bits-append, low_bits-same}
use Rattle.prefix_model.proofs.Archive.Descent.{child_bit_tells}
use Rattle.prefix_model.proofs.Archive.Levels.{lists_positions}
use Rattle.prefix_model.proofs.MaskBits.{bit_set_from}
use Rattle.prefix_archive.proofs.Places.{child_place_at}

pub bit_is_set : (n k : ℕ) → IsBitSet n k → eqb (bit_at n k) 1 ≡ true
bit_is_set n k h = eq-eqb (bit_at n k) 1 (bit_set_from n k h)

pub child_position : (d path slot : ℕ) → slot < 32 → low_bits (d + 5) (path * 32 + slot) ≡ low_bits d path ++ low_bits 5 slot
child_position d path slot small =
    let high : (path * 32 + slot) / 2 ^ 5 ≡ path = omega arith in
    low_bits-append d 5 (path * 32 + slot)
    ∙ (λ j. low_bits d (high j) ++ low_bits-same 5 (path * 2 ^ 5 + slot) slot (λ i l. bit_at_cat_low path 5 slot i l) j)

pub child_path : (d path slot : ℕ) → slot < 32 → path < 2 ^ d → path * 32 + slot < 2 ^ (d + 5)
child_path d path slot small within = let e = pow-add 2 d 5 in omega (arith, e, within)

pub path_within : (d path slot : ℕ) → slot < 32 → path < 2 ^ d → d + 5 ≤ 128 → path * 32 + slot < 2 ^ 128
path_within d path slot small within high = let p = pow_mono high in let c = child_path d path slot small within in omega (arith, p, c)

pub slot_place : (slot : ℕ) → slot < 32 → slice_get child_places slot ≡ Some (low_bits 5 slot)
slot_place slot l =
    let n : number (low_bits 5 slot) ≡ slot = number-low_bits 5 slot ∙ (let e : slot % 2 ^ 5 ≡ slot = omega arith in e) in
    subst (λ k. slice_get child_places k ≡ Some (low_bits 5 slot)) n (child_place_at (low_bits 5 slot) (length-low_bits 5 slot))

module _ {V : Type 0} (m : KeyMap V) where
  -- a position is no longer than an address
  pub position_within : (w : ℕ) → HasWidth w m → (p : KeyBits) → is_position m p ≡ true → length p ≤ w
  unfolding is_position
  position_within w wide p h = go (((lists_positions (finite.keys m)).members p).0 h)
    where
      go : (p ≡ []) ⊎ ((has_node_length p ≡ true) × ((k : KeyBits) × (rest : KeyBits) × (stands_in (finite.keys m) k ≡ true) × (k ≡ p ++ rest))) → length p ≤ w
      go (inl e) = omega (arith, ap length e)
      go (inr (l, k)) =
          let long : length k.0 ≤ w = wide k.0 (sym (stands_in-keys m k.0) ∙ k.2) in
          let a = ap length k.3 in
          let b = length-append p k.1 in omega (arith, a, b, long)

  -- the child at a child bit that is set
  pub child_there : (p : KeyBits) (r : NodeRecord) → IsRecordOf m p r → (slot : ℕ) → slot < 32 → eqb (bit_at r.child_bits slot) 1 ≡ true → is_position m (p ++ low_bits 5 slot) ≡ true
  child_there p r h slot l set = sym (child_bit_tells m p r h slot (low_bits 5 slot) (slot_place slot l)) ∙ set

  pub child_depth : (w d path slot : ℕ) → HasWidth w m → is_position m (low_bits d path ++ low_bits 5 slot) ≡ true → d + 5 ≤ w
  child_depth w d path slot wide h =
      let l = position_within w wide (low_bits d path ++ low_bits 5 slot) h in
      let a = length-append (low_bits d path) (low_bits 5 slot) in
      let b = length-low_bits d path in
      let c = length-low_bits 5 slot in omega arith

  -- the root is kept
  pub root_kept : is_position m [] ≡ true
  unfolding is_position
  root_kept = ((lists_positions (finite.keys m)).members []).1 (inl refl)

pub no_bits : low_bits 0 0 ≡ []
unfolding low_bits
no_bits = refl
