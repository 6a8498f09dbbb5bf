use Rattle.std.proofs.Common.{◌≤◌, [], refl, sym, ap, ◌∙◌}
use Rattle.prefix_model.specs.Positions.{position_set}
use Rattle.prefix_model.proofs.Building.{position_set-empty}
use Rattle.prefix_map.proofs.BuildLaws.{on_ok}
use Rattle.prefix_model.proofs.IteratorLoops.{ran_more, fewer_left, all_given, last_of}
use Rattle.prefix_map.proofs.FromItems.{made_more}
use Rattle.prefix_map.proofs.map.PrefixMap.from_entries.Goals as goal

pub loop-item-init : goal.loop-item-init
loop-item-init g c = (
  record { callable = c.requires.callable; ending = c.requires.finite; seen = []; gave = refl },
  (c.new-made.ensures.entries, c.new-made.ensures.kept ∙ position_set-empty g.row.T.Denot ∙ ap position_set (sym c.new-made.ensures.entries)),
)

pub next-requires : goal.next-requires
next-requires g c = c.loop-item.invariant.0.callable

pub insert-requires : goal.insert-requires
insert-requires g c =
    let ran = c.loop-item.invariant.0 in
    let more = ran_more g.I.Iterator.can_next g.I.Iterator.remaining g.I.Iterator.next_gives _ _ _ _ ran c.next.ensures.steps c.in-Some.item c.in-Some.is c.next.ensures.goes in
    last_of (λ item. g.P.PrefixKey.prefix_len item.0 ≤ g.P.R.Bits.WIDTH) ran.seen c.in-Some.item (c.requires.fits more.seen _ more.gave)

pub loop-item-smaller : goal.loop-item-smaller
loop-item-smaller g c = fewer_left g.I.Iterator.can_next g.I.Iterator.remaining g.I.Iterator.next_gives _ _ _ _ c.loop-item.invariant.0 c.next.ensures.steps c.in-Some.item c.in-Some.is c.next.ensures.goes

pub loop-item-preserved : goal.loop-item-preserved
loop-item-preserved g c =
    let ran = c.loop-item.invariant.0 in
    let stored = on_ok c.insert.result c.is_err.result c.is_err.ensures.value c.if-is_err.false c.insert.ensures.stored in (
      ran_more g.I.Iterator.can_next g.I.Iterator.remaining g.I.Iterator.next_gives _ _ _ _ ran c.next.ensures.steps c.in-Some.item c.in-Some.is c.next.ensures.goes,
      made_more (λ item. (g.P.PrefixKey.key item.0, item.1)) _ _ ran.seen c.in-Some.item c.loop-item.invariant.1 stored,
    )

pub returns : goal.returns
returns g c =
    let inv = c.loop-item.invariant in
    record {
      entries = (inv.0.seen, all_given g.I.Iterator.can_next g.I.Iterator.remaining g.I.Iterator.next_gives _ _ _ _ inv.0 c.next.ensures.steps c.in_default.is, inv.1.0);
      kept = inv.1.1;
    }
