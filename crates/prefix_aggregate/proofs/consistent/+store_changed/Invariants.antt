use Rattle.std.proofs.Common.{◌-◌}
use Rattle.prefix_aggregate.proofs.consistent.+store_changed.Given as goal

abbrev pub decreases-store_changed : goal.decreases-store_changed
decreases-store_changed g l = g.R.Bits.WIDTH - l.len
