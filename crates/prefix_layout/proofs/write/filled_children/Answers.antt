use Rattle.std.proofs.Common.{◌≡◌, ℕ, List, sym, subst, arith}
use Rattle.prefix_model.specs.Masks.{set_bits}
use Rattle.prefix_layout.specs.Writing.{filled_bits}
use Rattle.prefix_layout.proofs.SetBits.{set_bits_small}
use Rattle.prefix_layout.proofs.Settling.{Filling}
use Rattle.prefix_layout.proofs.write.filled_children.Goals as goal

pub loop-bit-init : goal.loop-bit-init
loop-bit-init c =
    let rest : c.into_iter-bit-iterator.result ≡ set_bits c.args.child_bits = cc in
    let ns = c.args.children.now in
    let total = filled_bits (set_bits c.args.child_bits) ns in
    record {
      can_next = tt;
      is_finite = tt;
      filling = subst (λ (bs : List ℕ). Filling 0 0 bs ns total) (sym rest) record { sum = omega arith; len = omega (arith, c.requires.each); small = set_bits_small c.args.child_bits };
    }
