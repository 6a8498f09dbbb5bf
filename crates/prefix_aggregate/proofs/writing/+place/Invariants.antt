use Rattle.std.proofs.Common.{◌-◌, ◌+◌, ◌*◌, cond}
use Rattle.std.specs.Prelude.{nat_lt}
use Rattle.prefix_aggregate.proofs.writing.+place.Given as goal

abbrev pub decreases-place_at : goal.decreases-place_at
decreases-place_at g l = 8 * (g.R.Bits.WIDTH - l.len) + cond (nat_lt l.place 31) 1 5

abbrev pub decreases-place_slot : goal.decreases-place_slot
decreases-place_slot g l = 8 * (g.R.Bits.WIDTH - l.len) + 3

abbrev pub decreases-place_node : goal.decreases-place_node
decreases-place_node g l = 8 * (g.R.Bits.WIDTH - l.depth) + 2

abbrev pub decreases-place_inner : goal.decreases-place_inner
decreases-place_inner g l = 8 * (g.R.Bits.WIDTH - l.len)
