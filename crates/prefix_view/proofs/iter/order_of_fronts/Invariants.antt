use Rattle.std.proofs.Common.{◌≡◌, take}
use Rattle.prefix_view.proofs.iter.order_of_fronts.Given as goal

-- the bits that were compared are the same
abbrev pub invariant-loop-i : goal.invariant-loop-i
invariant-loop-i g l = take l.i (g.R.Bits.bits l.a) ≡ take l.i (g.R.Bits.bits l.b)
