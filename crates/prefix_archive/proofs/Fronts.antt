-- Fronts of a key below a position.
use Rattle.std.proofs.Common.{◌≡◌, ℕ, ◌+◌, ◌%◌, ◌≤◌, length, take, drop, refl, sym, ap, ◌∙◌, arith, false, Option, Some, None, length-take}
use Rattle.std.specs.Prelude.{is_some, bit_and, min}
use Rattle.std.specs.FinMap as finite
use Rattle.std.proofs.lemmas.Bool.{eq-eqb}
use Rattle.prefix_model.specs.Keys.{KeyBits, low_bits}
use Rattle.prefix_model.specs.Tables.{KeyMap}
use Rattle.prefix_model.specs.Positions.{data_bits}
use Rattle.prefix_model.specs.Masks.{data_mask, begins_with}
use Rattle.prefix_model.specs.InPlace.{is_position}
use Rattle.prefix_model.proofs.Archive.Descent.{stored_position}
use Rattle.prefix_model.proofs.KeyPieces.{take_parts}
use Rattle.prefix_model.proofs.Matching.HitLaws.{are_hits}
use Rattle.prefix_model.specs.Hits.{HasNoneIn, AreHits}

module _ {V : Type 0} (m : KeyMap V) (bits : KeyBits) where
  -- below a key that is no position nothing is stored
  pub none_below : (d n : ℕ) → d % 5 ≡ 0 → n ≤ length bits + 1 → d ≤ length bits → is_position m (take d bits) ≡ false → HasNoneIn m bits d n
  none_below d n five fits within gone j from below = go (finite.get m (take j bits)) refl
    where
      go : (o : Option V) → finite.get m (take j bits) ≡ o → finite.get m (take j bits) ≡ None
      go None e = e
      go (Some v) e =
          let len : length (take d bits) ≡ d = let a = length-take d bits in omega (arith, a) in
          let node = eq-eqb (length (take d bits) % 5) 0 (ap (λ k. k % 5) len ∙ five) in
          let there = stored_position m (take d bits) (drop d (take j bits)) node (ap (λ k. is_some (finite.get m k)) (take_parts bits d j from) ∙ ap is_some e) in
          absurd (let x = sym gone ∙ there in cc)

  -- of a key whose next five bits are the slot's
  pub hits_above : (d slot marks mask : ℕ) → d + 5 ≤ length bits → low_bits 5 slot ≡ drop d (take (d + 5) bits) → marks ≡ data_bits (finite.get m) (take d bits) → mask ≡ data_mask (λ s. begins_with s (low_bits 5 slot)) → AreHits m bits d (min (d + 5 + 1) (d + 5)) marks (bit_and marks mask)
  hits_above d slot marks mask within same marks_are mask_is =
      are_hits m bits d (d + 5) (omega arith) within marks mask (bit_and marks mask) marks_are (mask_is ∙ ap (λ q. data_mask (λ s. begins_with s q)) same) refl
