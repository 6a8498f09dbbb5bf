use Rattle.std.proofs.Common.{◌≡◌, drop}
use Rattle.prefix_aggregate.specs.Lists.{behind}
use Rattle.prefix_aggregate.specs.Same.{same_list}
use Rattle.prefix_aggregate.proofs.parts.same_values.Given as goal

-- what is left is the same where the lists are
abbrev pub invariant-loop-i : goal.invariant-loop-i
invariant-loop-i g l = same_list g.T.Ord.cmp (behind (drop l.i l.left)) (behind (drop l.i l.right)) ≡ same_list g.T.Ord.cmp (behind l.left) (behind l.right)
