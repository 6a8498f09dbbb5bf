use Rattle.std.proofs.Common.{◌≡◌, Bool, true, false, not, refl}
use mathlib.Core.Bool.{beq}
use Rattle.prefix_model.proofs.KeyPlaces.{longer_front}
use Rattle.prefix_view.proofs.equality.same_fronts.Goals as goal

-- what the test `a != b` says where it fails
same_bits : (a b : Bool) → not (beq a b) ≡ false → a ≡ b
same_bits true true e = refl
same_bits true false e = cc
same_bits false true e = cc
same_bits false false e = refl

pub loop-i-preserved : goal.loop-i-preserved
loop-i-preserved g c =
    let bit = same_bits c.bit.result c.bit-in-loop-i.result c.if-bit.false in
    longer_front (g.A.Bits.bits c.args.a) (g.B.Bits.bits c.args.b) c.loop-i.i c.bit.result c.bit-in-loop-i.result c.loop-i.invariant c.bit.ensures c.bit-in-loop-i.ensures bit
