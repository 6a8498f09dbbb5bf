use Rattle.std.proofs.Common.{◌-◌, length}
use Rattle.prefix_model.specs.TableViews.{HoldsPositions}
use Rattle.prefix_layout.specs.Writing.{is_kept, kept_positions}
use Rattle.prefix_layout.proofs.Queue.{Runs}
use Rattle.prefix_layout.proofs.write.kept_nodes.Given as goal

abbrev pub invariant-loop-next : goal.invariant-loop-next
invariant-loop-next g l = record { holds : HoldsPositions l.table; runs : Runs l.table (is_kept l.table) (kept_positions l.table) l.nodes.items l.next }

abbrev pub decreases-loop-next : goal.decreases-loop-next
decreases-loop-next g l = length (kept_positions l.table) - l.next
