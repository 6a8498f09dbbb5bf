use Rattle.std.proofs.Common.{◌≡◌, ◌+◌, ◌-◌, ◌*◌, ◌<◌, ◌≤◌, ◌++◌, true, length, replicate, arith, rules, refl, sym, ap, ◌∙◌, subst, length-append}
use Rattle.std.specs.Prelude.{is_some, IsSome, nat_lt, reverse, get_or}
use Rattle.std.specs.FinMap as map
use Rattle.std.proofs.lemmas.List.{get_or-replicate}
use Rattle.prefix_model.specs.Keys.{low_bits}
use Rattle.prefix_model.specs.TableViews.{position_at}
use Rattle.prefix_model.proofs.TablePositions.{node_named}
use Rattle.prefix_aggregate.specs.Parts.{as_candidates, IsPart}
use Rattle.prefix_aggregate.specs.Nodes.{part_at}
use Rattle.prefix_aggregate.specs.Stacks.{kept_lists}
use Rattle.prefix_aggregate.specs.Trees.{given}
use Rattle.prefix_aggregate.specs.Reading.{place_key, node_masks, node_lists, masks_below, lists_below}
use Rattle.prefix_aggregate.specs.Collecting.{AreParts, key_candidates}
use Rattle.prefix_aggregate.proofs.AnswerLaws.{if_ok, together}
use Rattle.prefix_aggregate.proofs.BelowLaws.{given_kept, given_part, same_given, ok_any, position_long}
use Rattle.prefix_aggregate.proofs.CollectingLaws.{key_low, low_under, high_under, half_long, measure_small, place_measure, slot_measure, inner_deep, inner_collected, slot_depth, slot_alone, slot_collected, node_candidates, masks_kept, lists_kept, masks_two, lists_two, masks_none, lists_none}
use Rattle.prefix_aggregate.proofs.ConsistentLaws.{on_ok}
use Rattle.prefix_aggregate.proofs.PartLaws.{kept_none, is_part_kept, length_kept, kept_cut, part_cut}
use Rattle.prefix_aggregate.proofs.ReadingLaws.{key_slot, slot_long, key_first, nothing_left, slot_node, slot_empty}
use Rattle.prefix_aggregate.proofs.StoringLaws.{split, bit_clear, bit_set}
use Rattle.prefix_aggregate.proofs.collecting.+collect.Goals as goal

-- ---- at a slot

pub collect_slot-collect-requires : goal.collect_slot-collect-requires
collect_slot-collect-requires g t c κs within =
    let view = c.args.table.now in
    let named = ap is_some c.in-Some.ensures in
    let position = node_named view c.in-Some.child _ c.in-Some.ensures in
    let depth : c.args.node.now.depth + 5 ≡ length (position_at view c.in-Some.child) = slot_depth (position_at view c.args.node.now.at) c.args.node.now.depth c.args.slot c.requires.depth ∙ ap length (sym position) in
    search rules

pub collect_slot-returns-in-Some-clause-candidates : goal.collect_slot-returns-in-Some-clause-candidates
collect_slot-returns-in-Some-clause-candidates g t c =
    let view = c.args.table.now in
    if_ok c.collect.result c.collect.ensures.candidates (λ part e. e ∙ ap (λ q. key_candidates g.T.Ord.cmp g.R.Bits.WIDTH view q (given c.args.work.now.values.items c.args.above)) (node_named view c.in-Some.child _ c.in-Some.ensures))

pub collect_slot-returns-in-Some-clause-masks : goal.collect_slot-returns-in-Some-clause-masks
collect_slot-returns-in-Some-clause-masks g t c =
    let view = c.args.table.now in
    let w = g.R.Bits.WIDTH in
    let q = position_at view c.args.node.now.at ++ low_bits 5 c.args.slot in
    let long = slot_depth (position_at view c.args.node.now.at) c.args.node.now.depth c.args.slot c.requires.depth in
    let fits : length (position_at view c.args.node.now.at ++ low_bits 5 c.args.slot) ≤ g.R.Bits.WIDTH = (let h = c.requires.within in omega (arith, long, h)) in
    on_ok c.collect.result c.collect.ensures.masks (λ e. e ∙ ap (λ l. c.args.stacks.now.masks.items ++ reverse l)
    (sym (slot_node w view (node_masks g.T.Ord.cmp w view) q (given c.args.work.now.values.items c.args.above) (position_at view c.in-Some.child) (sym (node_named view c.in-Some.child _ c.in-Some.ensures)) (c.requires.holds.named c.in-Some.child _ c.in-Some.ensures) fits)))

pub collect_slot-returns-in-Some-clause-lists : goal.collect_slot-returns-in-Some-clause-lists
collect_slot-returns-in-Some-clause-lists g t c =
    let view = c.args.table.now in
    let w = g.R.Bits.WIDTH in
    let q = position_at view c.args.node.now.at ++ low_bits 5 c.args.slot in
    let long = slot_depth (position_at view c.args.node.now.at) c.args.node.now.depth c.args.slot c.requires.depth in
    let fits : length (position_at view c.args.node.now.at ++ low_bits 5 c.args.slot) ≤ g.R.Bits.WIDTH = (let h = c.requires.within in omega (arith, long, h)) in
    on_ok c.collect.result c.collect.ensures.lists (λ e. e ∙ ap (λ l. l ++ kept_lists c.args.stacks.now)
    (sym (slot_node w view (node_lists g.T.Ord.cmp w view) q (given c.args.work.now.values.items c.args.above) (position_at view c.in-Some.child) (sym (node_named view c.in-Some.child _ c.in-Some.ensures)) (c.requires.holds.named c.in-Some.child _ c.in-Some.ensures) fits)))

pub collect_slot-returns-in-None-clause-kept : goal.collect_slot-returns-in-None-clause-kept
collect_slot-returns-in-None-clause-kept g t c = kept_none c.args.work.now.values.items

pub collect_slot-returns-in-None-clause-part : goal.collect_slot-returns-in-None-clause-part
collect_slot-returns-in-None-clause-part g t c = given_part g.T.Ord.cmp c.args.work.now.values.items c.args.above c.requires.above

pub collect_slot-returns-in-None-clause-candidates : goal.collect_slot-returns-in-None-clause-candidates
collect_slot-returns-in-None-clause-candidates g t c =
    let view = c.args.table.now in
    slot_alone g.met.T.Ord.total g.R.Bits.WIDTH view c.requires.holds (position_at view c.args.node.now.at) c.args.slot (position_long view c.requires.holds c.args.node.now.at c.requires.named) c.in-None.ensures c.args.work.now.values.items c.args.above c.requires.above

pub collect_slot-returns-in-None-clause-masks : goal.collect_slot-returns-in-None-clause-masks
collect_slot-returns-in-None-clause-masks g t c =
    let view = c.args.table.now in
    masks_none _ c.args.stacks.now.masks.items (slot_empty g.R.Bits.WIDTH view (node_masks g.T.Ord.cmp g.R.Bits.WIDTH view) (position_at view c.args.node.now.at ++ low_bits 5 c.args.slot) (given c.args.work.now.values.items c.args.above) c.in-None.ensures)

pub collect_slot-returns-in-None-clause-lists : goal.collect_slot-returns-in-None-clause-lists
collect_slot-returns-in-None-clause-lists g t c =
    let view = c.args.table.now in
    lists_none _ (kept_lists c.args.stacks.now) (slot_empty g.R.Bits.WIDTH view (node_lists g.T.Ord.cmp g.R.Bits.WIDTH view) (position_at view c.args.node.now.at ++ low_bits 5 c.args.slot) (given c.args.work.now.values.items c.args.above) c.in-None.ensures)

-- ---- at a place or a slot

pub collect_at-collect_slot-requires : goal.collect_at-collect_slot-requires
collect_at-collect_slot-requires g t c κs within =
    let high = c.if-place-ge31.true in
    let low = c.requires.place in
    let small : c.args.place - 31 < 32 = omega (arith, high, low) in
    let five = slot_long c.args.place high low in
    let fits = c.requires.within in
    let deep : c.args.node.now.depth + 5 ≤ g.R.Bits.WIDTH = omega (arith, five, fits) in
    let depth = c.requires.source.depth in
    let last = slot_measure c.args.place high in
    search rules

pub collect_at-returns-then-place-ge31-clause-collected : goal.collect_at-returns-then-place-ge31-clause-collected
collect_at-returns-then-place-ge31-clause-collected g t c =
    let view = c.args.table.now in
    together c.collect_slot.result c.collect_slot.ensures.kept c.collect_slot.ensures.part c.collect_slot.ensures.candidates (λ part kept good value.
    slot_collected g.T.Ord.cmp g.R.Bits.WIDTH view (position_at view c.args.node.now.at) c.args.node.now.inner c.args.place (given c.args.work.now.values.items c.args.above) c.if-place-ge31.true c.requires.place
    c.args.work.now.values.items c.collect_slot.new.work.values.items c.args.lists.now part c.told-lists kept c.requires.parts good value)

pub collect_at-returns-then-place-ge31-clause-masks : goal.collect_at-returns-then-place-ge31-clause-masks
collect_at-returns-then-place-ge31-clause-masks g t c =
    let view = c.args.table.now in
    let high = c.if-place-ge31.true in
    let none : 0 ≡ 5 - length (place_key c.args.place) = (let five = slot_long c.args.place high c.requires.place in omega (arith, five)) in
    let key = sym (key_slot c.args.place high c.requires.place) in
    on_ok c.collect_slot.result c.collect_slot.ensures.masks (λ e. e ∙ (λ i. c.args.stacks.now.masks.items ++ reverse (masks_below g.T.Ord.cmp g.R.Bits.WIDTH view (none i) (position_at view c.args.node.now.at ++ key i) (given c.args.work.now.values.items c.args.above))))

pub collect_at-returns-then-place-ge31-clause-lists : goal.collect_at-returns-then-place-ge31-clause-lists
collect_at-returns-then-place-ge31-clause-lists g t c =
    let view = c.args.table.now in
    let high = c.if-place-ge31.true in
    let none : 0 ≡ 5 - length (place_key c.args.place) = (let five = slot_long c.args.place high c.requires.place in omega (arith, five)) in
    let key = sym (key_slot c.args.place high c.requires.place) in
    on_ok c.collect_slot.result c.collect_slot.ensures.lists (λ e. e ∙ (λ i. lists_below g.T.Ord.cmp g.R.Bits.WIDTH view (none i) (position_at view c.args.node.now.at ++ key i) (given c.args.work.now.values.items c.args.above) ++ kept_lists c.args.stacks.now))

pub collect_at-collect_leaf-requires-clause-leaf : goal.collect_at-collect_leaf-requires-clause-leaf
collect_at-collect_leaf-requires-clause-leaf g t c = bit_clear c.args.node.now.inner c.args.place c.if-node-place-eq0.true

pub collect_at-returns-then-node-place-eq0-clause-masks : goal.collect_at-returns-then-node-place-eq0-clause-masks
collect_at-returns-then-node-place-eq0-clause-masks g t c =
    let view = c.args.table.now in
    let node = c.args.node.now in
    let source = c.requires.source in
    ok_any c.collect_leaf.result (masks_none _ c.args.stacks.now.masks.items (nothing_left g.R.Bits.WIDTH view (position_at view c.args.node.now.at) c.args.node.now.bits.data_bits c.args.node.now.bits.child_bits c.args.node.now.inner source.children source.inner
    (node_masks g.T.Ord.cmp g.R.Bits.WIDTH view) 31 c.args.place (omega arith) c.if-place-ge31.false (bit_clear c.args.node.now.inner c.args.place c.if-node-place-eq0.true) (position_at view c.args.node.now.at ++ place_key c.args.place) refl (given c.args.work.now.values.items c.args.above)))

pub collect_at-returns-then-node-place-eq0-clause-lists : goal.collect_at-returns-then-node-place-eq0-clause-lists
collect_at-returns-then-node-place-eq0-clause-lists g t c =
    let view = c.args.table.now in
    let source = c.requires.source in
    ok_any c.collect_leaf.result (lists_none _ (kept_lists c.args.stacks.now) (nothing_left g.R.Bits.WIDTH view (position_at view c.args.node.now.at) c.args.node.now.bits.data_bits c.args.node.now.bits.child_bits c.args.node.now.inner source.children source.inner
    (node_lists g.T.Ord.cmp g.R.Bits.WIDTH view) 31 c.args.place (omega arith) c.if-place-ge31.false (bit_clear c.args.node.now.inner c.args.place c.if-node-place-eq0.true) (position_at view c.args.node.now.at ++ place_key c.args.place) refl (given c.args.work.now.values.items c.args.above)))

pub collect_at-collect_inner-requires : goal.collect_at-collect_inner-requires
collect_at-collect_inner-requires g t c κs within =
    let low = c.if-place-ge31.false in
    let inner = bit_set c.args.node.now.inner c.args.place c.if-node-place-eq0.false in
    let first = place_measure c.args.place low in
    search rules

-- ---- at a place that has something below

pub collect_inner-collect_at-requires : goal.collect_inner-collect_at-requires
collect_inner-collect_at-requires g t c κs within =
    let view = c.args.table.now in
    let source = c.requires.source in
    let low = c.requires.place in
    let wide : 2 * c.args.place + 1 + 1 < 63 = omega (arith, low) in
    let deep = inner_deep g.met.T.Ord.total g.R.Bits.WIDTH view c.requires.holds c.requires.width (position_at view c.args.node.now.at) (position_long view c.requires.holds c.args.node.now.at c.requires.named) c.args.node.now source c.args.place low (given c.args.work.now.values.items c.args.above) c.requires.inner in
    let long = half_long c.args.place low true in
    let fits : c.args.node.now.depth + length (place_key (2 * c.args.place + 1 + 1)) ≤ g.R.Bits.WIDTH = omega (arith, deep, long) in
    let parts : AreParts g.T.Ord.cmp c.answer_of.new.work.values.items c.args.lists.now = λ b h. is_part_kept g.T.Ord.cmp c.args.work.now.values.items c.answer_of.new.work.values.items (part_at c.args.lists.now b) c.in_ok-answer.ensures.kept (c.requires.parts b h) in
    let last = measure_small (nat_lt (2 * c.args.place + 1 + 1) 31) in
    search rules

pub collect_inner-collect_at-requires-2 : goal.collect_inner-collect_at-requires-2
collect_inner-collect_at-requires-2 g t c κs within =
    let view = c.args.table.now in
    let source = c.requires.source in
    let low = c.requires.place in
    let wide : 2 * c.args.place + 1 < 63 = omega (arith, low) in
    let deep = inner_deep g.met.T.Ord.total g.R.Bits.WIDTH view c.requires.holds c.requires.width (position_at view c.args.node.now.at) (position_long view c.requires.holds c.args.node.now.at c.requires.named) c.args.node.now source c.args.place low (given c.args.work.now.values.items c.args.above) c.requires.inner in
    let long = ap length (key_low c.args.place low) ∙ length-append (place_key c.args.place) _ in
    let fits : c.args.node.now.depth + length (place_key (2 * c.args.place + 1)) ≤ g.R.Bits.WIDTH = omega (arith, deep, long) in
    let parts = c.in_ok-high.ensures.collected.parts in
    let above = given_kept c.answer_of.new.work.values.items c.collect_at.new.work.values.items c.in_ok-answer.answer c.in_ok-high.ensures.collected.kept c.in_ok-answer.ensures.part in
    let last = measure_small (nat_lt (2 * c.args.place + 1) 31) in
    search rules

pub collect_inner-joined-requires-clause-left : goal.collect_inner-joined-requires-clause-left
collect_inner-joined-requires-clause-left g t c = c.in_ok-low.ensures.collected.good

pub collect_inner-joined-requires-clause-right : goal.collect_inner-joined-requires-clause-right
collect_inner-joined-requires-clause-right g t c = is_part_kept g.T.Ord.cmp _ _ c.in_ok-high.high c.in_ok-low.ensures.collected.kept c.in_ok-high.ensures.collected.good

pub collect_inner-returns-clause-collected : goal.collect_inner-returns-clause-collected
collect_inner-returns-clause-collected g t c =
    let view = c.args.table.now in
    let first = c.answer_of.new.work.values.items in
    let mid = c.collect_at.new.work.values.items in
    inner_collected g.met.T.Ord.total g.R.Bits.WIDTH view c.requires.holds c.requires.width (position_at view c.args.node.now.at) (position_long view c.requires.holds c.args.node.now.at c.requires.named) c.args.node.now c.requires.source c.args.place c.requires.place (given c.args.work.now.values.items c.args.above)
    c.requires.inner c.args.work.now.values.items first mid c.collect_at-2.new.work.values.items c.joined.new.work.values.items c.args.lists.now c.collect_at.new.lists c.collect_at-2.new.lists
    (given first c.in_ok-answer.answer) (given mid c.in_ok-answer.answer) c.in_ok-high.high c.in_ok-low.low c.in_ok-part.part
    c.in_ok-answer.ensures.kept c.in_ok-answer.ensures.value (same_given first mid c.in_ok-answer.answer c.in_ok-high.ensures.collected.kept c.in_ok-answer.ensures.part)
    c.in_ok-high.ensures.collected c.in_ok-low.ensures.collected c.in_ok-part.ensures.kept c.in_ok-part.ensures.part c.in_ok-part.ensures.joined

pub collect_inner-returns-clause-masks : goal.collect_inner-returns-clause-masks
collect_inner-returns-clause-masks g t c =
    let view = c.args.table.now in
    let w = g.R.Bits.WIDTH in
    let p = position_at view c.args.node.now.at in
    let b = c.args.place in
    let low = c.requires.place in
    let first = c.answer_of.new.work.values.items in
    let mid = c.collect_at.new.work.values.items in
    let v = given first c.in_ok-answer.answer in
    let same = same_given first mid c.in_ok-answer.answer c.in_ok-high.ensures.collected.kept c.in_ok-answer.ensures.part in
    masks_two (masks_below g.T.Ord.cmp w view (5 - length (place_key (2 * b + 1))) (p ++ place_key (2 * b + 1)) v) (masks_below g.T.Ord.cmp w view (5 - length (place_key (2 * b + 1 + 1))) (p ++ place_key (2 * b + 1 + 1)) v)
    (masks_below g.T.Ord.cmp w view (5 - length (place_key b)) (p ++ place_key b) (given c.args.work.now.values.items c.args.above)) c.args.stacks.now.masks.items c.collect_at.new.stacks.masks.items c.collect_at-2.new.stacks.masks.items
    (split w view (node_masks g.T.Ord.cmp w view) b low (p ++ place_key b) (p ++ place_key (2 * b + 1)) (p ++ place_key (2 * b + 1 + 1)) (given c.args.work.now.values.items c.args.above) v (low_under p b low) (high_under p b low) c.in_ok-answer.ensures.value)
    c.in_ok-high.ensures.masks
    (c.in_ok-low.ensures.masks ∙ ap (λ u. c.collect_at.new.stacks.masks.items ++ reverse (masks_below g.T.Ord.cmp w view (5 - length (place_key (2 * b + 1))) (p ++ place_key (2 * b + 1)) u)) same)

pub collect_inner-returns-clause-lists : goal.collect_inner-returns-clause-lists
collect_inner-returns-clause-lists g t c =
    let view = c.args.table.now in
    let w = g.R.Bits.WIDTH in
    let p = position_at view c.args.node.now.at in
    let b = c.args.place in
    let low = c.requires.place in
    let first = c.answer_of.new.work.values.items in
    let mid = c.collect_at.new.work.values.items in
    let v = given first c.in_ok-answer.answer in
    let same = same_given first mid c.in_ok-answer.answer c.in_ok-high.ensures.collected.kept c.in_ok-answer.ensures.part in
    lists_two (lists_below g.T.Ord.cmp w view (5 - length (place_key (2 * b + 1))) (p ++ place_key (2 * b + 1)) v) (lists_below g.T.Ord.cmp w view (5 - length (place_key (2 * b + 1 + 1))) (p ++ place_key (2 * b + 1 + 1)) v)
    (lists_below g.T.Ord.cmp w view (5 - length (place_key b)) (p ++ place_key b) (given c.args.work.now.values.items c.args.above)) (kept_lists c.args.stacks.now) (kept_lists c.collect_at.new.stacks) (kept_lists c.collect_at-2.new.stacks)
    (split w view (node_lists g.T.Ord.cmp w view) b low (p ++ place_key b) (p ++ place_key (2 * b + 1)) (p ++ place_key (2 * b + 1 + 1)) (given c.args.work.now.values.items c.args.above) v (low_under p b low) (high_under p b low) c.in_ok-answer.ensures.value)
    c.in_ok-high.ensures.lists
    (c.in_ok-low.ensures.lists ∙ ap (λ u. lists_below g.T.Ord.cmp w view (5 - length (place_key (2 * b + 1))) (p ++ place_key (2 * b + 1)) u ++ kept_lists c.collect_at.new.stacks) same)

-- ---- at a node

pub collect-collect_alone-requires : goal.collect-collect_alone-requires
collect-collect_alone-requires g t c =
    let view = c.args.table.now in
    let named : IsSome (map.get c.args.table.now.places c.source_of-node.result.at) = ap (λ n. is_some (map.get view.places n)) c.source_of-node.ensures.node ∙ c.requires.named in
    search rules

pub collect-collect_whole-requires : goal.collect-collect_whole-requires
collect-collect_whole-requires g t c κs within =
    let view = c.args.table.now in
    let at = c.source_of-node.ensures.node in
    let named : IsSome (map.get c.args.table.now.places c.source_of-node.result.at) = ap (λ n. is_some (map.get view.places n)) at ∙ c.requires.named in
    let depth = c.source_of-node.ensures.source.depth in
    let long = ap (λ n. length (position_at view n)) at in
    let size = c.requires.depth in
    search rules

pub collect-returns-then-node-eq0-clause-candidates : goal.collect-returns-then-node-eq0-clause-candidates
collect-returns-then-node-eq0-clause-candidates g t c =
    let view = c.args.table.now in
    if_ok c.collect_alone.result c.collect_alone.ensures.candidates (λ part e. e ∙ ap (λ n. key_candidates g.T.Ord.cmp g.R.Bits.WIDTH view (position_at view n) (given c.args.work.now.values.items c.args.inherited)) c.source_of-node.ensures.node)

pub collect-returns-then-node-eq0-clause-masks : goal.collect-returns-then-node-eq0-clause-masks
collect-returns-then-node-eq0-clause-masks g t c =
    let view = c.args.table.now in
    on_ok c.collect_alone.result c.collect_alone.ensures.masks (λ e. e ∙ ap (λ n. c.args.stacks.now.masks.items ++ reverse (node_masks g.T.Ord.cmp g.R.Bits.WIDTH view (position_at view n) (given c.args.work.now.values.items c.args.inherited))) c.source_of-node.ensures.node)

pub collect-returns-then-node-eq0-clause-lists : goal.collect-returns-then-node-eq0-clause-lists
collect-returns-then-node-eq0-clause-lists g t c =
    let view = c.args.table.now in
    on_ok c.collect_alone.result c.collect_alone.ensures.lists (λ e. e ∙ ap (λ n. node_lists g.T.Ord.cmp g.R.Bits.WIDTH view (position_at view n) (given c.args.work.now.values.items c.args.inherited) ++ kept_lists c.args.stacks.now) c.source_of-node.ensures.node)

pub collect-returns-clause-candidates : goal.collect-returns-clause-candidates
collect-returns-clause-candidates g t c =
    let view = c.args.table.now in
    if_ok c.collect_whole.result c.collect_whole.ensures.candidates (λ part e. e ∙ ap (λ n. key_candidates g.T.Ord.cmp g.R.Bits.WIDTH view (position_at view n) (given c.args.work.now.values.items c.args.inherited)) c.source_of-node.ensures.node)

pub collect-returns-clause-masks : goal.collect-returns-clause-masks
collect-returns-clause-masks g t c =
    let view = c.args.table.now in
    on_ok c.collect_whole.result c.collect_whole.ensures.masks (λ e. e ∙ ap (λ n. c.args.stacks.now.masks.items ++ reverse (node_masks g.T.Ord.cmp g.R.Bits.WIDTH view (position_at view n) (given c.args.work.now.values.items c.args.inherited))) c.source_of-node.ensures.node)

pub collect-returns-clause-lists : goal.collect-returns-clause-lists
collect-returns-clause-lists g t c =
    let view = c.args.table.now in
    on_ok c.collect_whole.result c.collect_whole.ensures.lists (λ e. e ∙ ap (λ n. node_lists g.T.Ord.cmp g.R.Bits.WIDTH view (position_at view n) (given c.args.work.now.values.items c.args.inherited) ++ kept_lists c.args.stacks.now) c.source_of-node.ensures.node)

pub collect_whole-collect_at-requires : goal.collect_whole-collect_at-requires
collect_whole-collect_at-requires g t c κs within =
    let source = c.requires.source in
    let depth = source.depth in
    let none = ap length key_first in
    let limit = source.within in
    let fits : c.args.node.now.depth + length (place_key 0) ≤ g.R.Bits.WIDTH = omega (arith, depth, none, limit) in
    let parts : AreParts g.T.Ord.cmp c.args.work.now.values.items (replicate 31 c.args.inherited) = λ b h. subst (IsPart g.T.Ord.cmp c.args.work.now.values.items) (sym (get_or-replicate 31 b c.args.inherited _ h)) (given_part g.T.Ord.cmp c.args.work.now.values.items c.args.inherited c.requires.inherited) in
    let first = place_measure 0 (omega arith) in
    search rules

pub collect_whole-keep_lists-requires-clause-within : goal.collect_whole-keep_lists-requires-clause-within
collect_whole-keep_lists-requires-clause-within g t c = λ b h. subst (λ vs. (part_at c.collect_at.new.lists b).start + (part_at c.collect_at.new.lists b).len ≤ length vs) (sym c.deref.ensures.value) ((c.in_ok-part.ensures.collected.parts b h).within)

pub collect_whole-cut-requires-clause-start : goal.collect_whole-cut-requires-clause-start
collect_whole-cut-requires-clause-start g t c =
    let from = c.len-start.ensures ∙ c.args.work.now.values.ok.0 in
    let more = length_kept c.args.work.now.values.items c.collect_at.new.work.values.items c.in_ok-part.ensures.collected.kept in
    omega (arith, from, more)

pub collect_whole-cut-requires-clause-part : goal.collect_whole-cut-requires-clause-part
collect_whole-cut-requires-clause-part g t c = c.in_ok-part.ensures.collected.good.within

pub collect_whole-returns-clause-kept : goal.collect_whole-returns-clause-kept
collect_whole-returns-clause-kept g t c =
    on_ok c.cut.result c.cut.ensures.kept (λ k. kept_cut c.args.work.now.values.items c.collect_at.new.work.values.items c.cut.new.work.values.items c.len-start.result c.in_ok-part.ensures.collected.kept (c.len-start.ensures ∙ c.args.work.now.values.ok.0) k)

pub collect_whole-returns-clause-part : goal.collect_whole-returns-clause-part
collect_whole-returns-clause-part g t c =
    together c.cut.result c.cut.ensures.kept c.cut.ensures.within c.cut.ensures.values (λ cut _ within values. part_cut g.T.Ord.cmp c.collect_at.new.work.values.items c.cut.new.work.values.items c.in_ok-part.part cut c.in_ok-part.ensures.collected.good within values)

pub collect_whole-returns-clause-candidates : goal.collect_whole-returns-clause-candidates
collect_whole-returns-clause-candidates g t c =
    let view = c.args.table.now in
    let node = c.args.node.now in
    if_ok c.cut.result c.cut.ensures.values (λ cut e. ap as_candidates e
    ∙ node_candidates g.met.T.Ord.total g.R.Bits.WIDTH view c.requires.holds c.requires.width (position_at view node.at) (position_long view c.requires.holds node.at c.requires.named) node c.requires.source (given c.args.work.now.values.items c.args.inherited)
    c.args.work.now.values.items c.collect_at.new.work.values.items (replicate 31 c.args.inherited) c.collect_at.new.lists c.in_ok-part.part c.in_ok-part.ensures.collected)

pub collect_whole-returns-clause-masks : goal.collect_whole-returns-clause-masks
collect_whole-returns-clause-masks g t c =
    let view = c.args.table.now in
    let node = c.args.node.now in
    ok_any c.cut.result (masks_kept g.met.T.Ord.total g.R.Bits.WIDTH view c.requires.holds c.requires.width (position_at view node.at) (position_long view c.requires.holds node.at c.requires.named) node c.requires.source (given c.args.work.now.values.items c.args.inherited)
    c.args.work.now.values.items c.collect_at.new.work.values.items (replicate 31 c.args.inherited) c.collect_at.new.lists c.in_ok-part.part c.in_ok-part.ensures.collected
    c.deref.result.now c.deref.ensures.value c.args.stacks.now.masks.items c.collect_at.new.stacks.masks.items _ c.in_ok-part.ensures.masks c.in_ok-keep_lists.ensures.masks)

pub collect_whole-returns-clause-lists : goal.collect_whole-returns-clause-lists
collect_whole-returns-clause-lists g t c =
    let view = c.args.table.now in
    let node = c.args.node.now in
    ok_any c.cut.result (lists_kept g.met.T.Ord.total g.R.Bits.WIDTH view c.requires.holds c.requires.width (position_at view node.at) (position_long view c.requires.holds node.at c.requires.named) node c.requires.source (given c.args.work.now.values.items c.args.inherited)
    c.args.work.now.values.items c.collect_at.new.work.values.items (replicate 31 c.args.inherited) c.collect_at.new.lists c.in_ok-part.part c.in_ok-part.ensures.collected
    c.deref.result.now c.deref.ensures.value (kept_lists c.args.stacks.now) (kept_lists c.collect_at.new.stacks) _ c.in_ok-part.ensures.lists c.in_ok-keep_lists.ensures.lists)
