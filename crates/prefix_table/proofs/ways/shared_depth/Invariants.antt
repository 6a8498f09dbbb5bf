use Rattle.std.proofs.Common.{◌≡◌, ◌%◌, ◌≤◌}
use Rattle.prefix_table.proofs.ways.shared_depth.Given as goal

abbrev pub invariant-loop-last : goal.invariant-loop-last
invariant-loop-last g l = record {
  at_five : l.shared % 5 ≡ 0;
  up : l.shared ≤ l.depth;
  within : l.shared ≤ l.len;
}

abbrev pub decreases-loop-last : goal.decreases-loop-last
decreases-loop-last g l = l.shared
