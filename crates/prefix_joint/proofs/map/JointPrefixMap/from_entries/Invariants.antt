use Rattle.std.proofs.Common.{◌≡◌, map}
use Rattle.std.specs.Iterator.{items_left}
use Rattle.either.specs.Either.{map_either}
use Rattle.prefix_model.proofs.IteratorLoops.{Ran}
use Rattle.prefix_joint_walks.specs.Joint.{all_inserted, nothing}
use Rattle.prefix_joint.proofs.map.JointPrefixMap.from_entries.Given as goal

-- the items so far are inserted
abbrev pub invariant-loop-item : goal.invariant-loop-item
invariant-loop-item g l =
    (ran : Ran g.I.Iterator.can_next g.I.Iterator.remaining g.I.Iterator.next_gives l.fn.iter l.iter)
    × (l.made ≡ all_inserted nothing (map (λ item. (map_either g.P.P1.PrefixKey.key g.P.P2.PrefixKey.key (g.P.JointPrefixKey.prefix item.0), item.1)) ran.seen))

abbrev pub decreases-loop-item : goal.decreases-loop-item
decreases-loop-item g l = items_left g.I.Iterator.remaining l.iter
