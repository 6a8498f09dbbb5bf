use Rattle.std.specs.Iterator.{items_left}
use Rattle.prefix_model.proofs.IteratorLoops.{Ran}
use Rattle.prefix_map.proofs.FromItems.{IsMade}
use Rattle.prefix_map.proofs.set.PrefixSet.from_entries.Given as goal

-- the items so far are inserted
abbrev pub invariant-loop-prefix : goal.invariant-loop-prefix
invariant-loop-prefix g l =
    (ran : Ran g.I.Iterator.can_next g.I.Iterator.remaining g.I.Iterator.next_gives l.fn.iter l.iter)
    × IsMade {A = _} {T = _} (λ item. (g.P.PrefixKey.key item, tt)) l.made ran.seen

abbrev pub decreases-loop-prefix : goal.decreases-loop-prefix
decreases-loop-prefix g l = items_left g.I.Iterator.remaining l.iter
