use Rattle.std.proofs.Common.{◌+◌, ◌-◌, ◌*◌, cond, length}
use Rattle.std.specs.Prelude.{nat_lt}
use Rattle.prefix_aggregate.specs.Reading.{place_key}
use Rattle.prefix_aggregate.proofs.collecting.+collect.Given as goal

abbrev pub decreases-collect_at : goal.decreases-collect_at
decreases-collect_at g l = 8 * (g.R.Bits.WIDTH - (l.node.now.depth + length (place_key l.place))) + cond (nat_lt l.place 31) 1 5

abbrev pub decreases-collect_inner : goal.decreases-collect_inner
decreases-collect_inner g l = 8 * (g.R.Bits.WIDTH - (l.node.now.depth + length (place_key l.place)))

abbrev pub decreases-collect_slot : goal.decreases-collect_slot
decreases-collect_slot g l = 8 * (g.R.Bits.WIDTH - (l.node.now.depth + 5)) + 4

abbrev pub decreases-collect : goal.decreases-collect
decreases-collect g l = 8 * (g.R.Bits.WIDTH - l.depth) + 3

abbrev pub decreases-collect_whole : goal.decreases-collect_whole
decreases-collect_whole g l = 8 * (g.R.Bits.WIDTH - l.node.now.depth) + 2
