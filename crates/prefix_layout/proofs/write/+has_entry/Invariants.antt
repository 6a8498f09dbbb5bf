use Rattle.std.specs.FinMap as map
use Rattle.prefix_model.specs.TableViews.{position_at}
use Rattle.prefix_layout.proofs.Below.{NoneBefore}
use Rattle.prefix_layout.proofs.write.+has_entry.Given as goal

abbrev pub decreases-has_entry : goal.decreases-has_entry
decreases-has_entry g l = l.levels

abbrev pub invariant-loop-bit : goal.invariant-loop-bit
invariant-loop-bit g l = NoneBefore (map.get l.table.entries) (position_at l.table l.at) l.bit
