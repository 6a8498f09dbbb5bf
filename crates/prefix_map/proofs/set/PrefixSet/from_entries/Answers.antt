use Rattle.std.proofs.Common.{◌≤◌, [], refl, sym, ap, ◌∙◌}
use Rattle.prefix_model.specs.Positions.{position_set}
use Rattle.prefix_model.proofs.Building.{position_set-empty}
use Rattle.prefix_map.proofs.BuildLaws.{on_ok}
use Rattle.prefix_model.proofs.IteratorLoops.{ran_more, fewer_left, all_given, last_of}
use Rattle.prefix_map.proofs.FromItems.{made_more}
use Rattle.prefix_map.proofs.set.PrefixSet.from_entries.Goals as goal

pub loop-prefix-init : goal.loop-prefix-init
loop-prefix-init g c = (
  record { callable = c.requires.callable; ending = c.requires.finite; seen = []; gave = refl },
  (c.new-made.ensures.entries, c.new-made.ensures.kept ∙ position_set-empty (Unit {0}) ∙ ap position_set (sym c.new-made.ensures.entries)),
)

pub next-requires : goal.next-requires
next-requires g c = c.loop-prefix.invariant.0.callable

pub insert-requires : goal.insert-requires
insert-requires g c =
    let ran = c.loop-prefix.invariant.0 in
    let more = ran_more g.I.Iterator.can_next g.I.Iterator.remaining g.I.Iterator.next_gives _ _ _ _ ran c.next.ensures.steps c.in-Some.prefix c.in-Some.is c.next.ensures.goes in
    last_of (λ item. g.P.PrefixKey.prefix_len item ≤ g.P.R.Bits.WIDTH) ran.seen c.in-Some.prefix (c.requires.fits more.seen _ more.gave)

pub loop-prefix-smaller : goal.loop-prefix-smaller
loop-prefix-smaller g c = fewer_left g.I.Iterator.can_next g.I.Iterator.remaining g.I.Iterator.next_gives _ _ _ _ c.loop-prefix.invariant.0 c.next.ensures.steps c.in-Some.prefix c.in-Some.is c.next.ensures.goes

pub loop-prefix-preserved : goal.loop-prefix-preserved
loop-prefix-preserved g c =
    let ran = c.loop-prefix.invariant.0 in
    let stored = on_ok c.insert.result c.is_err.result c.is_err.ensures.value c.if-is_err.false c.insert.ensures.stored in (
      ran_more g.I.Iterator.can_next g.I.Iterator.remaining g.I.Iterator.next_gives _ _ _ _ ran c.next.ensures.steps c.in-Some.prefix c.in-Some.is c.next.ensures.goes,
      made_more (λ item. (g.P.PrefixKey.key item, tt)) _ _ ran.seen c.in-Some.prefix c.loop-prefix.invariant.1 stored,
    )

pub returns : goal.returns
returns g c =
    let inv = c.loop-prefix.invariant in
    record {
      entries = (inv.0.seen, all_given g.I.Iterator.can_next g.I.Iterator.remaining g.I.Iterator.next_gives _ _ _ _ inv.0 c.next.ensures.steps c.in_default.is, inv.1.0);
      kept = inv.1.1;
    }
