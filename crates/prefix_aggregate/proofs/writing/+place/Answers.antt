use Rattle.std.proofs.Common.{◌≡◌, ◌+◌, ◌-◌, ◌*◌, ◌%◌, ◌<◌, ◌≤◌, ◌++◌, ◌∷◌, [], false, true, length, take, drop, replicate, arith, rules, refl, sym, ap, ◌∙◌, subst}
use Rattle.std.specs.Prelude.{is_some, IsSome, nat_lt}
use Rattle.std.specs.Option.{option_copied, option_or}
use Rattle.std.specs.FinMap as map
use Rattle.prefix_model.specs.Keys.{low_bits}
use Rattle.prefix_model.specs.Building.{insert_all}
use Rattle.prefix_model.specs.LeastTable.{entry, placed, stored}
use Rattle.prefix_model.proofs.Fewest.Uniform.{placed_uniform}
use Rattle.prefix_model.specs.TableViews.{key_of, position_at}
use Rattle.prefix_model.proofs.TablePositions.{node_named, none_from, slot_length}
use Rattle.prefix_model.specs.Places.{answers_from}
use Rattle.prefix_aggregate.specs.Lists.{at}
use Rattle.prefix_aggregate.specs.Reading.{place_key, StandsAt, node_masks, node_lists, masks_below, lists_below, IsHere, IsRead}
use Rattle.prefix_model.proofs.Counting.NodeViews.{answers_none}
use Rattle.prefix_aggregate.proofs.PlacingLaws.{key_zero, rest_zero, key_one, rest_one}
use Rattle.prefix_aggregate.proofs.CollectingLaws.{measure_small, place_measure, slot_measure}
use Rattle.prefix_aggregate.proofs.ConsistentLaws.{on_ok}
use Rattle.prefix_aggregate.proofs.BelowLaws.{ok_any, position_long}
use Rattle.prefix_aggregate.proofs.ReadingLaws.{key_slot, slot_long, key_first, nothing_left, slot_node, slot_none}
use Rattle.prefix_aggregate.proofs.StoringLaws.{listed_within, listed_whole, stored_is, handed_is, deep_there, placed_there, placed_in_halves, half_here, low_stands, high_stands, both_read, bit_clear, bit_set, first_here, moved_below}
use Rattle.prefix_aggregate.proofs.writing.+place.Goals as goal

-- ---- at a slot

pub place_slot-place_node-requires : goal.place_slot-place_node-requires
place_slot-place_node-requires g t c κs within =
    let view = c.args.table.now in
    let named = ap is_some c.in-Some.ensures in
    let position = node_named view c.in-Some.child _ c.in-Some.ensures in
    let key : key_of (g.R.Bits.bits c.args.key) c.args.len ≡ position_at view c.in-Some.child = c.requires.key ∙ sym position in
    let depth : c.args.len ≡ length (position_at view c.in-Some.child) = c.requires.len ∙ ap length key in
    let kept : map.contains_key view.kept (key_of (g.R.Bits.bits c.args.key) c.args.len) ≡ true = ap (map.contains_key view.kept) c.requires.key ∙ c.requires.holds.named c.in-Some.child _ c.in-Some.ensures in
    let fits : length (key_of (g.R.Bits.bits c.args.key) c.args.len) ≤ g.R.Bits.WIDTH = (let l = c.requires.len in let h = c.requires.within in omega (arith, l, h)) in
    let masks : StandsAt c.args.sets.now.masks c.args.next.now.mask (node_masks g.T.Ord.cmp g.R.Bits.WIDTH view (position_at view c.in-Some.child) (option_copied c.args.answer)) =
    subst (StandsAt c.args.sets.now.masks c.args.next.now.mask) (slot_node g.R.Bits.WIDTH view (node_masks g.T.Ord.cmp g.R.Bits.WIDTH view) (key_of (g.R.Bits.bits c.args.key) c.args.len) (option_copied c.args.answer) _ key kept fits) c.requires.masks in
    let lists : StandsAt c.args.sets.now.lists c.args.next.now.list (node_lists g.T.Ord.cmp g.R.Bits.WIDTH view (position_at view c.in-Some.child) (option_copied c.args.answer)) =
    subst (StandsAt c.args.sets.now.lists c.args.next.now.list) (slot_node g.R.Bits.WIDTH view (node_lists g.T.Ord.cmp g.R.Bits.WIDTH view) (key_of (g.R.Bits.bits c.args.key) c.args.len) (option_copied c.args.answer) _ key kept fits) c.requires.lists in
    search rules

pub place_slot-returns-in-Some-clause-entries : goal.place_slot-returns-in-Some-clause-entries
place_slot-returns-in-Some-clause-entries g t c =
    let view = c.args.table.now in
    let position = node_named view c.in-Some.child _ c.in-Some.ensures in
    on_ok c.place_node.result c.place_node.ensures.entries (λ e. e
    ∙ ap (λ r. insert_all c.args.least.now.entries (at r (placed g.T.Ord.cmp (g.R.Bits.WIDTH - c.args.len) (answers_from view r (option_copied c.args.answer)) (option_copied c.args.above)))) (position ∙ sym c.requires.key))

pub place_slot-returns-in-Some-clause-masks : goal.place_slot-returns-in-Some-clause-masks
place_slot-returns-in-Some-clause-masks g t c =
    let view = c.args.table.now in
    let position = node_named view c.in-Some.child _ c.in-Some.ensures in
    let key : key_of (g.R.Bits.bits c.args.key) c.args.len ≡ position_at view c.in-Some.child = c.requires.key ∙ sym position in
    let kept : map.contains_key view.kept (key_of (g.R.Bits.bits c.args.key) c.args.len) ≡ true = ap (map.contains_key view.kept) c.requires.key ∙ c.requires.holds.named c.in-Some.child _ c.in-Some.ensures in
    let fits : length (key_of (g.R.Bits.bits c.args.key) c.args.len) ≤ g.R.Bits.WIDTH = (let l = c.requires.len in let h = c.requires.within in omega (arith, l, h)) in
    on_ok c.place_node.result c.place_node.ensures.masks (λ e. e
    ∙ ap (λ l. c.args.next.now.mask + length l) (sym (slot_node g.R.Bits.WIDTH view (node_masks g.T.Ord.cmp g.R.Bits.WIDTH view) (key_of (g.R.Bits.bits c.args.key) c.args.len) (option_copied c.args.answer) _ key kept fits)))

pub place_slot-returns-in-Some-clause-lists : goal.place_slot-returns-in-Some-clause-lists
place_slot-returns-in-Some-clause-lists g t c =
    let view = c.args.table.now in
    let position = node_named view c.in-Some.child _ c.in-Some.ensures in
    let key : key_of (g.R.Bits.bits c.args.key) c.args.len ≡ position_at view c.in-Some.child = c.requires.key ∙ sym position in
    let kept : map.contains_key view.kept (key_of (g.R.Bits.bits c.args.key) c.args.len) ≡ true = ap (map.contains_key view.kept) c.requires.key ∙ c.requires.holds.named c.in-Some.child _ c.in-Some.ensures in
    let fits : length (key_of (g.R.Bits.bits c.args.key) c.args.len) ≤ g.R.Bits.WIDTH = (let l = c.requires.len in let h = c.requires.within in omega (arith, l, h)) in
    on_ok c.place_node.result c.place_node.ensures.lists (λ e. e
    ∙ ap (λ l. c.args.next.now.list + length l) (sym (slot_node g.R.Bits.WIDTH view (node_lists g.T.Ord.cmp g.R.Bits.WIDTH view) (key_of (g.R.Bits.bits c.args.key) c.args.len) (option_copied c.args.answer) _ key kept fits)))

pub place_slot-returns-in-None-clause-entries : goal.place_slot-returns-in-None-clause-entries
place_slot-returns-in-None-clause-entries g t c =
    let view = c.args.table.now in
    let q = key_of (g.R.Bits.bits c.args.key) c.args.len in
    let gone : map.contains_key view.kept (key_of (g.R.Bits.bits c.args.key) c.args.len) ≡ false = ap (map.contains_key view.kept) c.requires.key ∙ c.in-None.ensures in
    let long : length (key_of (g.R.Bits.bits c.args.key) c.args.len) % 5 ≡ 0 = ap (λ k. length k % 5) c.requires.key ∙ slot_length (position_at view c.args.parent) c.args.slot (position_long view c.requires.holds c.args.parent c.requires.named) in
    on_ok c.store_value.result c.store_value.ensures.entries (λ e. e
    ∙ ap (λ es. insert_all c.args.least.now.entries (at q es))
    (sym (placed_uniform g.met.T.Ord.total (g.R.Bits.WIDTH - c.args.len) (answers_from view q (option_copied c.args.answer)) (option_copied c.args.answer) (option_copied c.args.above) (λ k _. answers_none view q (option_copied c.args.answer) (none_from view c.requires.holds q long gone) k))))

pub place_slot-returns-in-None-clause-masks : goal.place_slot-returns-in-None-clause-masks
place_slot-returns-in-None-clause-masks g t c =
    let view = c.args.table.now in
    let gone : map.contains_key view.kept (key_of (g.R.Bits.bits c.args.key) c.args.len) ≡ false = ap (map.contains_key view.kept) c.requires.key ∙ c.in-None.ensures in
    ok_any c.store_value.result (slot_none g.R.Bits.WIDTH view (node_masks g.T.Ord.cmp g.R.Bits.WIDTH view) (key_of (g.R.Bits.bits c.args.key) c.args.len) (option_copied c.args.answer) gone c.args.next.now.mask)

pub place_slot-returns-in-None-clause-lists : goal.place_slot-returns-in-None-clause-lists
place_slot-returns-in-None-clause-lists g t c =
    let view = c.args.table.now in
    let gone : map.contains_key view.kept (key_of (g.R.Bits.bits c.args.key) c.args.len) ≡ false = ap (map.contains_key view.kept) c.requires.key ∙ c.in-None.ensures in
    ok_any c.store_value.result (slot_none g.R.Bits.WIDTH view (node_lists g.T.Ord.cmp g.R.Bits.WIDTH view) (key_of (g.R.Bits.bits c.args.key) c.args.len) (option_copied c.args.answer) gone c.args.next.now.list)

-- ---- at a place or a slot

pub place_at-place_slot-requires : goal.place_at-place_slot-requires
place_at-place_slot-requires g t c κs within =
    let view = c.args.table.now in
    let here = c.requires.here in
    let high = c.if-place-ge31.true in
    let low = c.requires.place in
    let small : c.args.place - 31 < 32 = omega (arith, high, low) in
    let key : key_of (g.R.Bits.bits c.args.key) c.args.len ≡ position_at view c.args.node.now.at ++ low_bits 5 (c.args.place - 31) = here.key ∙ ap (λ k. position_at view c.args.node.now.at ++ k) (key_slot c.args.place high low) in
    let long = here.long in
    let fits = here.within in
    let none : 5 - length (place_key c.args.place) ≡ 0 = (let five = slot_long c.args.place high low in omega (arith, five)) in
    let masks : StandsAt c.args.sets.now.masks c.args.next.now.mask (masks_below g.T.Ord.cmp g.R.Bits.WIDTH view 0 (key_of (g.R.Bits.bits c.args.key) c.args.len) (option_copied c.args.answer)) =
    subst (λ n. StandsAt c.args.sets.now.masks c.args.next.now.mask (masks_below g.T.Ord.cmp g.R.Bits.WIDTH view n (key_of (g.R.Bits.bits c.args.key) c.args.len) (option_copied c.args.answer))) none c.requires.masks in
    let lists : StandsAt c.args.sets.now.lists c.args.next.now.list (lists_below g.T.Ord.cmp g.R.Bits.WIDTH view 0 (key_of (g.R.Bits.bits c.args.key) c.args.len) (option_copied c.args.answer)) =
    subst (λ n. StandsAt c.args.sets.now.lists c.args.next.now.list (lists_below g.T.Ord.cmp g.R.Bits.WIDTH view n (key_of (g.R.Bits.bits c.args.key) c.args.len) (option_copied c.args.answer))) none c.requires.lists in
    let last = slot_measure c.args.place high in
    search rules

pub place_at-returns-then-place-ge31-clause-masks : goal.place_at-returns-then-place-ge31-clause-masks
place_at-returns-then-place-ge31-clause-masks g t c =
    let none : 5 - length (place_key c.args.place) ≡ 0 = (let five = slot_long c.args.place c.if-place-ge31.true c.requires.place in omega (arith, five)) in
    on_ok c.place_slot.result c.place_slot.ensures.masks (λ e. e ∙ ap (λ n. c.args.next.now.mask + length (masks_below g.T.Ord.cmp g.R.Bits.WIDTH c.args.table.now n (key_of (g.R.Bits.bits c.args.key) c.args.len) (option_copied c.args.answer))) (sym none))

pub place_at-returns-then-place-ge31-clause-lists : goal.place_at-returns-then-place-ge31-clause-lists
place_at-returns-then-place-ge31-clause-lists g t c =
    let none : 5 - length (place_key c.args.place) ≡ 0 = (let five = slot_long c.args.place c.if-place-ge31.true c.requires.place in omega (arith, five)) in
    on_ok c.place_slot.result c.place_slot.ensures.lists (λ e. e ∙ ap (λ n. c.args.next.now.list + length (lists_below g.T.Ord.cmp g.R.Bits.WIDTH c.args.table.now n (key_of (g.R.Bits.bits c.args.key) c.args.len) (option_copied c.args.answer))) (sym none))

pub place_at-store_at-requires : goal.place_at-store_at-requires
place_at-store_at-requires g t c =
    let view = c.args.table.now in
    let wide = c.requires.place in
    let low = c.if-place-ge31.false in
    record {
      place = low;
      len = c.requires.here.within;
      within = listed_within g.met.T.Ord.total c.requires.order g.R.Bits.WIDTH view c.args.sets.now (position_at view c.args.node.now.at) c.args.node.now c.requires.read c.args.place wide (key_of (g.R.Bits.bits c.args.key) c.args.len) c.args.len (option_copied c.args.answer) (option_copied c.args.above) c.requires.here low;
      list = listed_whole g.met.T.Ord.total c.requires.order g.R.Bits.WIDTH view c.args.sets.now (position_at view c.args.node.now.at) c.args.node.now c.requires.read c.args.place wide (key_of (g.R.Bits.bits c.args.key) c.args.len) c.args.len (option_copied c.args.answer) (option_copied c.args.above) c.requires.here low;
      clones = c.requires.clones;
    }

pub place_at-returns-then-node-place-eq0-clause-entries : goal.place_at-returns-then-node-place-eq0-clause-entries
place_at-returns-then-node-place-eq0-clause-entries g t c =
    let view = c.args.table.now in
    let o = g.met.T.Ord.total in
    let exact = c.requires.order in
    let w = g.R.Bits.WIDTH in
    let sets = c.args.sets.now in
    let node = c.args.node.now in
    let p = position_at view node.at in
    let read = c.requires.read in
    let b = c.args.place in
    let low = c.if-place-ge31.false in
    let wide = c.requires.place in
    let bits = g.R.Bits.bits c.args.key in
    let len = c.args.len in
    let q = key_of bits len in
    let a = option_copied c.args.answer in
    let v = option_copied c.args.above in
    let here = c.requires.here in
    let whole = position_long view c.requires.holds node.at c.requires.named in
    let none = bit_clear node.inner b c.if-node-place-eq0.true in
    c.in_ok-store_at.ensures.entries
    ∙ ap (λ s. insert_all c.args.least.now.entries (at q (entry s))) (stored_is o exact w view sets p node read b wide q len a v here low)
    ∙ ap (λ es. insert_all c.args.least.now.entries (at q es)) (sym (placed_there o exact w view sets p node read c.requires.holds c.requires.width whole 31 b (omega arith) low none q len a v here))

pub place_at-returns-then-node-place-eq0-clause-masks : goal.place_at-returns-then-node-place-eq0-clause-masks
place_at-returns-then-node-place-eq0-clause-masks g t c =
    let view = c.args.table.now in
    let o = g.met.T.Ord.total in
    let exact = c.requires.order in
    let w = g.R.Bits.WIDTH in
    let sets = c.args.sets.now in
    let node = c.args.node.now in
    let p = position_at view node.at in
    let read = c.requires.read in
    let b = c.args.place in
    let low = c.if-place-ge31.false in
    let wide = c.requires.place in
    let bits = g.R.Bits.bits c.args.key in
    let len = c.args.len in
    let q = key_of bits len in
    let a = option_copied c.args.answer in
    let v = option_copied c.args.above in
    let here = c.requires.here in
    let none = bit_clear node.inner b c.if-node-place-eq0.true in
    let e = ap length (nothing_left w view p node.mask node.bits.child_bits node.inner read.children read.inner (node_masks g.T.Ord.cmp w view) 31 b (omega arith) low none q here.key a) in
    omega (arith, e)

pub place_at-returns-then-node-place-eq0-clause-lists : goal.place_at-returns-then-node-place-eq0-clause-lists
place_at-returns-then-node-place-eq0-clause-lists g t c =
    let view = c.args.table.now in
    let o = g.met.T.Ord.total in
    let exact = c.requires.order in
    let w = g.R.Bits.WIDTH in
    let sets = c.args.sets.now in
    let node = c.args.node.now in
    let p = position_at view node.at in
    let read = c.requires.read in
    let b = c.args.place in
    let low = c.if-place-ge31.false in
    let wide = c.requires.place in
    let bits = g.R.Bits.bits c.args.key in
    let len = c.args.len in
    let q = key_of bits len in
    let a = option_copied c.args.answer in
    let v = option_copied c.args.above in
    let here = c.requires.here in
    let none = bit_clear node.inner b c.if-node-place-eq0.true in
    let e = ap length (nothing_left w view p node.mask node.bits.child_bits node.inner read.children read.inner (node_lists g.T.Ord.cmp w view) 31 b (omega arith) low none q here.key a) in
    omega (arith, e)

pub place_at-place_inner-requires : goal.place_at-place_inner-requires
place_at-place_inner-requires g t c κs within =
    let low = c.if-place-ge31.false in
    let inner = bit_set c.args.node.now.inner c.args.place c.if-node-place-eq0.false in
    let first = place_measure c.args.place low in
    search rules

-- ---- at a place

pub place_inner-store_at-requires : goal.place_inner-store_at-requires
place_inner-store_at-requires g t c =
    let view = c.args.table.now in
    let wide = (let l = c.requires.place in let r : c.args.place < 63 = omega (arith, l) in r) in
    record {
      place = c.requires.place;
      len = c.requires.here.within;
      within = listed_within g.met.T.Ord.total c.requires.order g.R.Bits.WIDTH view c.args.sets.now (position_at view c.args.node.now.at) c.args.node.now c.requires.read c.args.place wide (key_of (g.R.Bits.bits c.args.key) c.args.len) c.args.len (option_copied c.args.answer) (option_copied c.args.above) c.requires.here c.requires.place;
      list = listed_whole g.met.T.Ord.total c.requires.order g.R.Bits.WIDTH view c.args.sets.now (position_at view c.args.node.now.at) c.args.node.now c.requires.read c.args.place wide (key_of (g.R.Bits.bits c.args.key) c.args.len) c.args.len (option_copied c.args.answer) (option_copied c.args.above) c.requires.here c.requires.place;
      clones = c.requires.clones;
    }

pub place_inner-with_bit-high-requires : goal.place_inner-with_bit-high-requires
place_inner-with_bit-high-requires g t c =
    let view = c.args.table.now in
    let o = g.met.T.Ord.total in
    let exact = c.requires.order in
    let w = g.R.Bits.WIDTH in
    let sets = c.args.sets.now in
    let node = c.args.node.now in
    let p = position_at view node.at in
    let read = c.requires.read in
    let b = c.args.place in
    let low = c.requires.place in
    let wide : c.args.place < 63 = omega (arith, low) in
    let bits = g.R.Bits.bits c.args.key in
    let len = c.args.len in
    let q = key_of bits len in
    let a = option_copied c.args.answer in
    let v = option_copied c.args.above in
    let here = c.requires.here in
    deep_there o exact w view sets p node read b wide q len a v here low c.requires.inner

pub place_inner-place_at-requires : goal.place_inner-place_at-requires
place_inner-place_at-requires g t c κs within =
    let view = c.args.table.now in
    let o = g.met.T.Ord.total in
    let exact = c.requires.order in
    let w = g.R.Bits.WIDTH in
    let sets = c.args.sets.now in
    let node = c.args.node.now in
    let p = position_at view node.at in
    let read = c.requires.read in
    let b = c.args.place in
    let low = c.requires.place in
    let wide : c.args.place < 63 = omega (arith, low) in
    let bits = g.R.Bits.bits c.args.key in
    let len = c.args.len in
    let q = key_of bits len in
    let a = option_copied c.args.answer in
    let v = option_copied c.args.above in
    let here = c.requires.here in
    let one = c.requires.inner in
    let deep : c.args.len < g.R.Bits.WIDTH = deep_there o exact w view sets p node read b wide q len a v here low one in
    let answer = c.answer_at-answer.ensures ∙ ap (λ k. option_or (map.get view.entries k) a) (sym here.key) in
    let given = c.in_ok-given.ensures.given ∙ handed_is o exact w view sets p node read b wide q len a v here low in
    let a2 = option_copied c.answer_at-answer.result in
    let v2 = option_copied c.in_ok-given.given in
    let zero = key_zero bits len w deep c.requires.rest in
    let same_low : 2 * c.args.place + 1 ≡ 2 * c.args.place + 1 + 0 = omega arith in
    let small : 2 * c.args.place + 1 < 63 = omega (arith, low) in
    let there : IsHere g.T.Ord.cmp g.R.Bits.WIDTH c.args.table.now (position_at c.args.table.now c.args.node.now.at) c.args.node.now (2 * c.args.place + 1) (key_of (g.R.Bits.bits c.args.key) (c.args.len + 1)) (c.args.len + 1) (option_copied c.answer_at-answer.result) (option_copied c.in_ok-given.given) =
    half_here o exact w view sets p node read b low q len a v here deep false (2 * b + 1) (key_of bits (len + 1)) a2 v2 same_low zero answer given in
    let rest = rest_zero bits len w deep c.requires.rest in
    let masks = low_stands w view (node_masks g.T.Ord.cmp w view) b low q (key_of bits (len + 1)) (q ++ true ∷ []) a a2 zero refl answer sets.masks c.args.next.now.mask c.requires.masks in
    let lists = low_stands w view (node_lists g.T.Ord.cmp w view) b low q (key_of bits (len + 1)) (q ++ true ∷ []) a a2 zero refl answer sets.lists c.args.next.now.list c.requires.lists in
    let last = measure_small (nat_lt (2 * c.args.place + 1) 31) in
    search rules

pub place_inner-place_at-requires-2 : goal.place_inner-place_at-requires-2
place_inner-place_at-requires-2 g t c κs within =
    let view = c.args.table.now in
    let o = g.met.T.Ord.total in
    let exact = c.requires.order in
    let w = g.R.Bits.WIDTH in
    let sets = c.args.sets.now in
    let node = c.args.node.now in
    let p = position_at view node.at in
    let read = c.requires.read in
    let b = c.args.place in
    let low = c.requires.place in
    let wide : c.args.place < 63 = omega (arith, low) in
    let bits = g.R.Bits.bits c.args.key in
    let len = c.args.len in
    let q = key_of bits len in
    let a = option_copied c.args.answer in
    let v = option_copied c.args.above in
    let here = c.requires.here in
    let one = c.requires.inner in
    let deep : c.args.len < g.R.Bits.WIDTH = deep_there o exact w view sets p node read b wide q len a v here low one in
    let answer = c.answer_at-answer.ensures ∙ ap (λ k. option_or (map.get view.entries k) a) (sym here.key) in
    let given = c.in_ok-given.ensures.given ∙ handed_is o exact w view sets p node read b wide q len a v here low in
    let a2 = option_copied c.answer_at-answer.result in
    let v2 = option_copied c.in_ok-given.given in
    let zero = key_zero bits len w deep c.requires.rest in
    let same_low : 2 * c.args.place + 1 ≡ 2 * c.args.place + 1 + 0 = omega arith in
    let bits1 = g.R.Bits.bits c.with_bit-high.result in
    let first = ap (take (len + 1)) c.with_bit-high.ensures ∙ key_one bits len w deep c.requires.rest in
    let small : 2 * c.args.place + 1 + 1 < 63 = omega (arith, low) in
    let there : IsHere g.T.Ord.cmp g.R.Bits.WIDTH c.args.table.now (position_at c.args.table.now c.args.node.now.at) c.args.node.now (2 * c.args.place + 1 + 1) (key_of (g.R.Bits.bits c.with_bit-high.result) (c.args.len + 1)) (c.args.len + 1) (option_copied c.answer_at-answer.result) (option_copied c.in_ok-given.given) =
    half_here o exact w view sets p node read b low q len a v here deep true (2 * b + 1 + 1) (key_of bits1 (len + 1)) a2 v2 refl first answer given in
    let rest : drop (c.args.len + 1) (g.R.Bits.bits c.with_bit-high.result) ≡ replicate (g.R.Bits.WIDTH - (c.args.len + 1)) false = ap (drop (len + 1)) c.with_bit-high.ensures ∙ rest_one bits len w deep c.requires.rest in
    let masks = high_stands w view (node_masks g.T.Ord.cmp w view) b low q (key_of bits (len + 1)) (key_of bits1 (len + 1)) a a2 zero first answer sets.masks c.args.next.now.mask _ c.requires.masks c.in_ok-place_at.ensures.masks in
    let lists = high_stands w view (node_lists g.T.Ord.cmp w view) b low q (key_of bits (len + 1)) (key_of bits1 (len + 1)) a a2 zero first answer sets.lists c.args.next.now.list _ c.requires.lists c.in_ok-place_at.ensures.lists in
    let last = measure_small (nat_lt (2 * c.args.place + 1 + 1) 31) in
    search rules

pub place_inner-returns-clause-entries : goal.place_inner-returns-clause-entries
place_inner-returns-clause-entries g t c =
    let view = c.args.table.now in
    let o = g.met.T.Ord.total in
    let exact = c.requires.order in
    let w = g.R.Bits.WIDTH in
    let sets = c.args.sets.now in
    let node = c.args.node.now in
    let p = position_at view node.at in
    let read = c.requires.read in
    let b = c.args.place in
    let low = c.requires.place in
    let wide : c.args.place < 63 = omega (arith, low) in
    let bits = g.R.Bits.bits c.args.key in
    let len = c.args.len in
    let q = key_of bits len in
    let a = option_copied c.args.answer in
    let v = option_copied c.args.above in
    let here = c.requires.here in
    let one = c.requires.inner in
    let deep : c.args.len < g.R.Bits.WIDTH = deep_there o exact w view sets p node read b wide q len a v here low one in
    let answer = c.answer_at-answer.ensures ∙ ap (λ k. option_or (map.get view.entries k) a) (sym here.key) in
    let given = c.in_ok-given.ensures.given ∙ handed_is o exact w view sets p node read b wide q len a v here low in
    let a2 = option_copied c.answer_at-answer.result in
    let v2 = option_copied c.in_ok-given.given in
    let zero = key_zero bits len w deep c.requires.rest in
    let same_low : 2 * c.args.place + 1 ≡ 2 * c.args.place + 1 + 0 = omega arith in
    let bits1 = g.R.Bits.bits c.with_bit-high.result in
    let first = ap (take (len + 1)) c.with_bit-high.ensures ∙ key_one bits len w deep c.requires.rest in
    let stored = c.in_ok-given.ensures.entries ∙ ap (λ s. insert_all c.args.least.now.entries (at q (entry s))) (stored_is o exact w view sets p node read b wide q len a v here low) in
    placed_in_halves g.T.Ord.cmp w view q len a v deep (key_of bits (len + 1)) (key_of bits1 (len + 1)) zero first a2 v2 answer given _ _ _ _ stored c.in_ok-place_at.ensures.entries c.in_ok-place_at-2.ensures.entries

pub place_inner-returns-clause-masks : goal.place_inner-returns-clause-masks
place_inner-returns-clause-masks g t c =
    let view = c.args.table.now in
    let o = g.met.T.Ord.total in
    let exact = c.requires.order in
    let w = g.R.Bits.WIDTH in
    let sets = c.args.sets.now in
    let node = c.args.node.now in
    let p = position_at view node.at in
    let read = c.requires.read in
    let b = c.args.place in
    let low = c.requires.place in
    let wide : c.args.place < 63 = omega (arith, low) in
    let bits = g.R.Bits.bits c.args.key in
    let len = c.args.len in
    let q = key_of bits len in
    let a = option_copied c.args.answer in
    let v = option_copied c.args.above in
    let here = c.requires.here in
    let one = c.requires.inner in
    let deep : c.args.len < g.R.Bits.WIDTH = deep_there o exact w view sets p node read b wide q len a v here low one in
    let answer = c.answer_at-answer.ensures ∙ ap (λ k. option_or (map.get view.entries k) a) (sym here.key) in
    let given = c.in_ok-given.ensures.given ∙ handed_is o exact w view sets p node read b wide q len a v here low in
    let a2 = option_copied c.answer_at-answer.result in
    let v2 = option_copied c.in_ok-given.given in
    let zero = key_zero bits len w deep c.requires.rest in
    let same_low : 2 * c.args.place + 1 ≡ 2 * c.args.place + 1 + 0 = omega arith in
    let bits1 = g.R.Bits.bits c.with_bit-high.result in
    let first = ap (take (len + 1)) c.with_bit-high.ensures ∙ key_one bits len w deep c.requires.rest in
    both_read w view (node_masks g.T.Ord.cmp w view) b low q (key_of bits (len + 1)) (key_of bits1 (len + 1)) a a2 zero first answer c.args.next.now.mask _ _ c.in_ok-place_at.ensures.masks c.in_ok-place_at-2.ensures.masks

pub place_inner-returns-clause-lists : goal.place_inner-returns-clause-lists
place_inner-returns-clause-lists g t c =
    let view = c.args.table.now in
    let o = g.met.T.Ord.total in
    let exact = c.requires.order in
    let w = g.R.Bits.WIDTH in
    let sets = c.args.sets.now in
    let node = c.args.node.now in
    let p = position_at view node.at in
    let read = c.requires.read in
    let b = c.args.place in
    let low = c.requires.place in
    let wide : c.args.place < 63 = omega (arith, low) in
    let bits = g.R.Bits.bits c.args.key in
    let len = c.args.len in
    let q = key_of bits len in
    let a = option_copied c.args.answer in
    let v = option_copied c.args.above in
    let here = c.requires.here in
    let one = c.requires.inner in
    let deep : c.args.len < g.R.Bits.WIDTH = deep_there o exact w view sets p node read b wide q len a v here low one in
    let answer = c.answer_at-answer.ensures ∙ ap (λ k. option_or (map.get view.entries k) a) (sym here.key) in
    let given = c.in_ok-given.ensures.given ∙ handed_is o exact w view sets p node read b wide q len a v here low in
    let a2 = option_copied c.answer_at-answer.result in
    let v2 = option_copied c.in_ok-given.given in
    let zero = key_zero bits len w deep c.requires.rest in
    let same_low : 2 * c.args.place + 1 ≡ 2 * c.args.place + 1 + 0 = omega arith in
    let bits1 = g.R.Bits.bits c.with_bit-high.result in
    let first = ap (take (len + 1)) c.with_bit-high.ensures ∙ key_one bits len w deep c.requires.rest in
    both_read w view (node_lists g.T.Ord.cmp w view) b low q (key_of bits (len + 1)) (key_of bits1 (len + 1)) a a2 zero first answer c.args.next.now.list _ _ c.in_ok-place_at.ensures.lists c.in_ok-place_at-2.ensures.lists

-- ---- at a node

pub place_node-place_at-requires : goal.place_node-place_at-requires
place_node-place_at-requires g t c κs within =
    let view = c.args.table.now in
    let at_node = c.read_node-node.ensures.node in
    let node = c.read_node-node.result in
    let named : IsSome (map.get c.args.table.now.places c.read_node-node.result.at) = ap (λ n. is_some (map.get view.places n)) at_node ∙ c.requires.named in
    let position : position_at view c.read_node-node.result.at ≡ position_at view c.args.from = ap (position_at view) at_node in
    let read : IsRead g.T.Ord.cmp g.R.Bits.WIDTH c.args.table.now c.args.sets.now (position_at c.args.table.now c.read_node-node.result.at) c.read_node-node.result =
    subst (λ p. IsRead g.T.Ord.cmp g.R.Bits.WIDTH view c.args.sets.now p node) (sym position) c.read_node-node.ensures.read in
    let key = c.requires.key in
    let q = key_of (g.R.Bits.bits c.args.key) c.args.depth in
    let a = option_copied c.args.inherited in
    let here : IsHere g.T.Ord.cmp g.R.Bits.WIDTH c.args.table.now (position_at c.args.table.now c.read_node-node.result.at) c.read_node-node.result 0 (key_of (g.R.Bits.bits c.args.key) c.args.depth) c.args.depth (option_copied c.args.inherited) (option_copied c.args.above) =
    first_here g.T.Ord.cmp g.R.Bits.WIDTH view c.args.sets.now (position_at view node.at) node read q c.args.depth a (option_copied c.args.above) (key ∙ sym position) (c.requires.depth ∙ ap length (sym key)) c.requires.within c.read_node-node.ensures.inherited in
    let five : 5 ≡ 5 - length (place_key 0) = (let e = ap length key_first in omega (arith, e)) in
    let masks : StandsAt c.args.sets.now.masks c.read_node-node.new.next.mask (masks_below g.T.Ord.cmp g.R.Bits.WIDTH c.args.table.now (5 - length (place_key 0)) (key_of (g.R.Bits.bits c.args.key) c.args.depth) (option_copied c.args.inherited)) =
    moved_below g.R.Bits.WIDTH view (node_masks g.T.Ord.cmp g.R.Bits.WIDTH view) _ _ _ _ a five (sym key) (StandsAt c.args.sets.now.masks c.read_node-node.new.next.mask) c.read_node-node.ensures.masks in
    let lists : StandsAt c.args.sets.now.lists c.read_node-node.new.next.list (lists_below g.T.Ord.cmp g.R.Bits.WIDTH c.args.table.now (5 - length (place_key 0)) (key_of (g.R.Bits.bits c.args.key) c.args.depth) (option_copied c.args.inherited)) =
    moved_below g.R.Bits.WIDTH view (node_lists g.T.Ord.cmp g.R.Bits.WIDTH view) _ _ _ _ a five (sym key) (StandsAt c.args.sets.now.lists c.read_node-node.new.next.list) c.read_node-node.ensures.lists in
    let first = place_measure 0 (omega arith) in
    search rules

pub place_node-returns-clause-entries : goal.place_node-returns-clause-entries
place_node-returns-clause-entries g t c =
    let view = c.args.table.now in
    on_ok c.place_at.result c.place_at.ensures.entries (λ e. e ∙ ap (λ q. insert_all c.args.least.now.entries (at q (placed g.T.Ord.cmp (g.R.Bits.WIDTH - c.args.depth) (answers_from view q (option_copied c.args.inherited)) (option_copied c.args.above)))) c.requires.key)

pub place_node-returns-clause-masks : goal.place_node-returns-clause-masks
place_node-returns-clause-masks g t c =
    let view = c.args.table.now in
    let five : 5 - length (place_key 0) ≡ 5 = (let e = ap length key_first in omega (arith, e)) in
    let same : length (masks_below g.T.Ord.cmp g.R.Bits.WIDTH view (5 - length (place_key 0)) (key_of (g.R.Bits.bits c.args.key) c.args.depth) (option_copied c.args.inherited)) ≡ length (masks_below g.T.Ord.cmp g.R.Bits.WIDTH view 5 (position_at view c.args.from) (option_copied c.args.inherited)) =
    (λ i. length (masks_below g.T.Ord.cmp g.R.Bits.WIDTH view (five i) (c.requires.key i) (option_copied c.args.inherited))) in
    on_ok c.place_at.result c.place_at.ensures.masks (λ e. e ∙ ap (λ n. c.read_node-node.new.next.mask + n) same ∙ c.read_node-node.ensures.masks_left)

pub place_node-returns-clause-lists : goal.place_node-returns-clause-lists
place_node-returns-clause-lists g t c =
    let view = c.args.table.now in
    let five : 5 - length (place_key 0) ≡ 5 = (let e = ap length key_first in omega (arith, e)) in
    let same : length (lists_below g.T.Ord.cmp g.R.Bits.WIDTH view (5 - length (place_key 0)) (key_of (g.R.Bits.bits c.args.key) c.args.depth) (option_copied c.args.inherited)) ≡ length (lists_below g.T.Ord.cmp g.R.Bits.WIDTH view 5 (position_at view c.args.from) (option_copied c.args.inherited)) =
    (λ i. length (lists_below g.T.Ord.cmp g.R.Bits.WIDTH view (five i) (c.requires.key i) (option_copied c.args.inherited))) in
    on_ok c.place_at.result c.place_at.ensures.lists (λ e. e ∙ ap (λ n. c.read_node-node.new.next.list + n) same ∙ c.read_node-node.ensures.lists_left)
