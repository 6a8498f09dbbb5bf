use Rattle.std.proofs.Common.{◌≡◌, length}
use Rattle.prefix_joint_walks.specs.Unions.{on_left_alone}
use Rattle.prefix_joint_walks.specs.JointIterators.{union_left}
use Rattle.prefix_joint_walks.proofs.difference.DifferenceIterator.next.Given as goal

-- what was passed is not on the left side alone
abbrev pub invariant-loop-item : goal.invariant-loop-item
invariant-loop-item g l = on_left_alone (union_left l.initial.self.items) ≡ on_left_alone (union_left l.self.items)

abbrev pub decreases-loop-item : goal.decreases-loop-item
decreases-loop-item g l = length (union_left l.self.items)
