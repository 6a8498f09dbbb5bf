-- Prefixes of either family with zero host bits.
use Rattle.std.proofs.Common.{◌≡◌, ℕ, ◌-◌, false, length, replicate, refl, sym, ap, subst, arith, length-append}
use Rattle.std.proofs.lemmas.List.{length-replicate}
use Rattle.either.specs.declared.Either.{Either}
use Rattle.either.specs.declared.Either.TheVariants.{Left, Right}
use Rattle.prefix_model.specs.Keys.{padded}
use Rattle.prefix_table.specs.declared.prefixes.PrefixKey.{Ghosts}
use Rattle.prefix_map.specs.Items.{IsItem}
use Rattle.prefix_joint_walks.specs.Joint.{HasZeroHostBits}

module _ {P : Type 0} (w : ℕ) (g : Ghosts P) where
  -- bits that end in zeros fill the width
  pub is_item : (p : P) → length (g.bits p) ≡ w → g.prefix_len p ≡ length (g.key p) → g.bits p ≡ padded w (g.key p) → IsItem w g p (g.key p)
  is_item p all len bits =
      let k = g.key p in
      let a = ap length bits in
      let b = length-append k (replicate (w - length k) false) in
      let z = length-replicate (w - length k) false in
      record { key_is = refl; length_is = len; fits = omega (arith, all, len, a, b, z); bits_are = bits }

module _ {P1 P2 : Type 0} (w1 : ℕ) (g1 : Ghosts P1) (w2 : ℕ) (g2 : Ghosts P2) (q : Either P1 P2) where
  pub first_bare : (p : P1) → q ≡ Left p → IsItem w1 g1 p (g1.key p) → HasZeroHostBits w1 g1 w2 g2 q
  first_bare p is item = subst (HasZeroHostBits w1 g1 w2 g2) (sym is) item

  pub second_bare : (p : P2) → q ≡ Right p → IsItem w2 g2 p (g2.key p) → HasZeroHostBits w1 g1 w2 g2 q
  second_bare p is item = subst (HasZeroHostBits w1 g1 w2 g2) (sym is) item
