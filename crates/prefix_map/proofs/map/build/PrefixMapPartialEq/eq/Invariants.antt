use Rattle.std.proofs.Common.{◌≡◌, ◌&&◌, length}
use Rattle.std.specs.Ordering.{eq_by_cmp}
use Rattle.std.specs.Cmp.Lexicographic.{pointwise}
use Rattle.std.specs.FinMap.{entries}
use Rattle.prefix_model.specs.Keys.{key_cmp}
use Rattle.prefix_map.specs.Iterators.{iter_left}
use Rattle.prefix_map.proofs.map.build.PrefixMapPartialEq.eq.Given as goal

-- what is left is equal exactly where all is
abbrev pub invariant-loop-prefix : goal.invariant-loop-prefix
invariant-loop-prefix g l =
    pointwise (λ p q. eq_by_cmp key_cmp p.0 q.0 && g.T.PartialEq.eq p.1 q.1)
    (iter_left l.own) (iter_left l.others)
    ≡ pointwise (λ p q. eq_by_cmp key_cmp p.0 q.0 && g.T.PartialEq.eq p.1 q.1) (entries l.self.entries) (entries l.other.entries)

abbrev pub decreases-loop-prefix : goal.decreases-loop-prefix
decreases-loop-prefix g l = length (iter_left l.own)
