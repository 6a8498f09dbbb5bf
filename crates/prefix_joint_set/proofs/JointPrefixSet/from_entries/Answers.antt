use Rattle.std.proofs.Common.{[], refl}
use Rattle.either.specs.Either.{map_either}
use Rattle.prefix_model.proofs.IteratorLoops.{ran_more, fewer_left, all_given, one_more}
use Rattle.prefix_joint_walks.specs.Joint.{all_inserted, nothing, with_entry_at}
use Rattle.prefix_joint_set.proofs.JointPrefixSet.from_entries.Goals as goal

pub loop-prefix-init : goal.loop-prefix-init
loop-prefix-init g c =
    let entries = c.new-made.ensures.entries in
    let kept = c.new-made.ensures.kept in (
      record { callable = c.requires.callable; ending = c.requires.finite; seen = []; gave = refl },
      λ i. record { t1 = record { entries = entries.0 i; kept = kept.0 i }; t2 = record { entries = entries.1 i; kept = kept.1 i } },
    )

pub next-requires : goal.next-requires
next-requires g c = c.loop-prefix.invariant.0.callable

pub loop-prefix-smaller : goal.loop-prefix-smaller
loop-prefix-smaller g c = fewer_left g.I.Iterator.can_next g.I.Iterator.remaining g.I.Iterator.next_gives _ _ _ _ c.loop-prefix.invariant.0 c.next.ensures.steps c.in-Some.prefix c.in-Some.is c.next.ensures.goes

pub loop-prefix-preserved : goal.loop-prefix-preserved
loop-prefix-preserved g c =
    let ran = c.loop-prefix.invariant.0 in (
      ran_more g.I.Iterator.can_next g.I.Iterator.remaining g.I.Iterator.next_gives _ _ _ _ ran c.next.ensures.steps c.in-Some.prefix c.in-Some.is c.next.ensures.goes,
      one_more all_inserted (λ made entry. with_entry_at made entry.0 entry.1) (λ item. (map_either g.P.P1.PrefixKey.key g.P.P2.PrefixKey.key (g.P.JointPrefixKey.prefix item), tt)) (λ made. refl) (λ made entry entries. refl) nothing _ _ ran.seen c.in-Some.prefix c.loop-prefix.invariant.1 c.in_ok-store_member.ensures,
    )

pub returns : goal.returns
returns g c =
    let inv = c.loop-prefix.invariant in (
      inv.0.seen,
      all_given g.I.Iterator.can_next g.I.Iterator.remaining g.I.Iterator.next_gives _ _ _ _ inv.0 c.next.ensures.steps c.in_default.is,
      inv.1,
    )
