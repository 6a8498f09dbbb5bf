use Rattle.std.proofs.Common.{◌≡◌, ◌+◌, ◌-◌, ◌≤◌, ◌++◌, length, drop}
use Rattle.std.specs.List.Sorted.{IsStrictlySortedBy}
use Rattle.prefix_model.specs.Candidates.{intersection}
use Rattle.prefix_aggregate.specs.Lists.{behind}
use Rattle.prefix_aggregate.proofs.parts.intersection.Given as goal

-- the values of both so far, and those of what is left
abbrev pub invariant-loop-i : goal.invariant-loop-i
invariant-loop-i g l = record {
  so_far : behind l.both.items ++ intersection g.T.Ord.cmp (behind (drop l.i l.left)) (behind (drop l.j l.right)) ≡ intersection g.T.Ord.cmp (behind l.left) (behind l.right);
  left_within : l.i ≤ length l.left;
  right_within : l.j ≤ length l.right;
  left : IsStrictlySortedBy g.T.Ord.cmp (behind (drop l.i l.left));
  right : IsStrictlySortedBy g.T.Ord.cmp (behind (drop l.j l.right));
}

abbrev pub decreases-loop-i : goal.decreases-loop-i
decreases-loop-i g l = (length l.left - l.i) + (length l.right - l.j)
