use Rattle.std.proofs.Common.{◌≡◌, length}
use Rattle.prefix_map.specs.Iterators.{iter_left}
use Rattle.prefix_joint_walks.specs.Unions.{not_covered}
use Rattle.prefix_joint_walks.proofs.covering.UncoveredIterator.next.Given as goal

-- what was passed is covered
abbrev pub invariant-loop-prefix : goal.invariant-loop-prefix
invariant-loop-prefix g l =
    not_covered l.initial.self.other.now.entries (iter_left l.initial.self.entries) ≡ not_covered l.self.other.now.entries (iter_left l.self.entries)

abbrev pub decreases-loop-prefix : goal.decreases-loop-prefix
decreases-loop-prefix g l = length (iter_left l.self.entries)
