-- Tables of one width.
use Rattle.std.proofs.Common.{◌≡◌, ℕ, length, take, Some, cond, sym, ap, ◌∙◌, arith, length-take}
use Rattle.std.specs.Prelude.{is_some}
use Rattle.std.specs.FinMap as map
use Rattle.prefix_model.specs.Keys.{KeyBits, key_cmp}
use Rattle.prefix_model.specs.Tables.{KeyMap, HasWidth}
use Rattle.prefix_model.proofs.Order.{key_total}
use Rattle.prefix_model.proofs.KeyLists.{same_or_other, tied-same_key}
use Rattle.prefix_model.proofs.KeyLists.Same.{same, other}

pub width-empty : (V : Type 0) (w : ℕ) → HasWidth {V = V} w map.empty
width-empty V w q some = let none = sym (ap is_some (map.get-empty {X = V} key_cmp q)) ∙ some in absurd cc

pub width-insert : {V : Type 0} (w : ℕ) (m : KeyMap V) (bits : KeyBits) (len : ℕ) (v : V) → HasWidth w m → length bits ≡ w → HasWidth w (map.insert m (take len bits) v)
width-insert w m bits len v wide whole q some =
    elim (same_or_other q (take len bits)) [
      | same e ↦ let size = length-take len bits in let same_size = ap length e in omega (arith, size, same_size)
      | other f ↦ wide q (ap is_some (sym (map.get-insert key_total m (take len bits) v q ∙ ap (λ b. cond b (Some v) (map.get m q)) (tied-same_key q (take len bits) ∙ f))) ∙ some)
    ]
