use Rattle.std.proofs.Common.{◌+◌, ◌-◌, ◌*◌, ◌/◌}
use Rattle.prefix_table.proofs.retain.+retain_below.Given as goal

abbrev pub decreases-retain_below : goal.decreases-retain_below
decreases-retain_below g l = 157 - (6 * (l.depth / 5) + l.level)
