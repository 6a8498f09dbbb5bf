use Rattle.std.proofs.Common.{◌≡◌, ◌+◌, ◌-◌, ◌^◌, length}
use Rattle.std.specs.Prelude.{min}
use Rattle.prefix_model.specs.TableViews.{position_at}
use Rattle.prefix_layout.proofs.Counting.{before}
use Rattle.prefix_layout.proofs.write.+count_nodes.Given as goal

abbrev pub decreases-count_nodes : goal.decreases-count_nodes
decreases-count_nodes g l = l.levels

abbrev pub invariant-loop-bit : goal.invariant-loop-bit
invariant-loop-bit g l = l.count ≡ min (1 + length (before l.table (l.levels - 1) (position_at l.table l.at) l.bit)) (2 ^ 32)
