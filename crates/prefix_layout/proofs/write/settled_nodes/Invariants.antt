use Rattle.prefix_model.specs.TableViews.{HoldsPositions}
use Rattle.prefix_layout.proofs.Settling.{Settling}
use Rattle.prefix_layout.proofs.write.settled_nodes.Given as goal

abbrev pub invariant-loop-i : goal.invariant-loop-i
invariant-loop-i g l = record { holds : HoldsPositions l.table; settling : (holds : HoldsPositions l.table) → Settling l.table holds l.nodes.items l.i l.end }

abbrev pub decreases-loop-i : goal.decreases-loop-i
decreases-loop-i g l = l.i
