use Rattle.std.proofs.Common.{◌≡◌, length}
use Rattle.prefix_joint_walks.specs.Unions.{in_both}
use Rattle.prefix_joint_walks.specs.JointIterators.{union_left}
use Rattle.prefix_joint_walks.proofs.intersection.IntersectionIterator.next.Given as goal

-- what was passed is on one side alone
abbrev pub invariant-loop-item : goal.invariant-loop-item
invariant-loop-item g l = in_both (union_left l.initial.self.items) ≡ in_both (union_left l.self.items)

abbrev pub decreases-loop-item : goal.decreases-loop-item
decreases-loop-item g l = length (union_left l.self.items)
