use Rattle.std.proofs.Common.{arith}
use Rattle.prefix_aggregate.proofs.collecting.bits_within.Goals as goal

pub overflow_add-depth : goal.overflow_add-depth
overflow_add-depth g c = let w = g.met.R.Bits.greatest_width_law in let h = c.requires.within in omega (arith, w, h)
