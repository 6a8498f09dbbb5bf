use Rattle.std.proofs.Common.{◌≡◌, ◌+◌, ◌-◌, ◌*◌, ◌%◌, ◌^◌, ◌<◌, ◌≤◌, ℕ, None, sym, ap, ◌∙◌, subst, arith, rules}
use Rattle.std.specs.List.{AllByRecursion}
use Rattle.std.proofs.Math.Nat.{mod-eq_of_lt}
use lib.Count.{ones}
use Rattle.prefix_model.specs.Coverage.{answered}
use Rattle.prefix_model.specs.Masks.{set_bits}
use Rattle.prefix_model.specs.TableViews.{position_at}
use Rattle.prefix_model.proofs.TablePositions.{node_named}
use Rattle.prefix_model.specs.Counts.{total}
use Rattle.prefix_model.specs.Places.{answers_from, slot_count}
use Rattle.prefix_model.proofs.Counting.NodeCounts.{no_slot_count, node_slots, node_places}
use Rattle.prefix_model.proofs.Counting.Totals.{total-none, total-cons, bits_small}
use Rattle.prefix_aggregate.proofs.coverage.+counts.Goals as goal

-- ---- a slot

pub count_slot-returns-in-Some : goal.count_slot-returns-in-Some
count_slot-returns-in-Some g t c =
    let view = c.args.table.now in
    c.count_node.ensures ∙ ap (λ s. answered c.args.left (answers_from view s None)) (node_named view c.in-Some.child _ c.in-Some.ensures)

pub count_slot-returns-in-None : goal.count_slot-returns-in-None
count_slot-returns-in-None g t c = sym (no_slot_count c.args.table.now c.requires.holds c.args.at c.requires.named c.args.slot c.args.left c.in-None.ensures)

-- ---- some slots

pub count_slots-loop-slot-init : goal.count_slots-loop-slot-init
count_slots-loop-slot-init g t c =
    let view = c.args.table.now in
    let rest : c.into_iter-slot-iterator.result ≡ set_bits c.args.slots = cc in
    record {
      can_next = tt;
      is_finite = tt;
      small = subst (AllByRecursion (λ b. b < 32)) (sym rest) (bits_small c.args.slots);
      counted = let e = ap (total (slot_count view (position_at view c.args.at) c.args.left)) rest in omega (arith, e);
    }

pub count_slots-count_slot-count-requires : goal.count_slots-count_slot-count-requires
count_slots-count_slot-count-requires g t c κs within =
    let view = c.args.table.now in
    let slot : c.in-Some.slot < 32 = (subst (AllByRecursion (λ b. b < 32)) c.in-Some.ensures.steps c.loop-slot.invariant.small).0 in
    let step = ap (total (slot_count view (position_at view c.args.at) c.args.left)) c.in-Some.ensures.steps ∙ total-cons (slot_count view (position_at view c.args.at) c.args.left) c.in-Some.slot c.next.new.self in
    let so_far = c.loop-slot.invariant.counted in
    let all = c.requires.few in
    let few : slot_count view (position_at view c.args.at) c.args.left c.in-Some.slot < 2 ^ 128 = omega (arith, step, so_far, all) in
    search rules

pub count_slots-overflow_add-count : goal.count_slots-overflow_add-count
count_slots-overflow_add-count g t c =
    let view = c.args.table.now in
    let step = ap (total (slot_count view (position_at view c.args.at) c.args.left)) c.in-Some.ensures.steps ∙ total-cons (slot_count view (position_at view c.args.at) c.args.left) c.in-Some.slot c.next.new.self in
    let so_far = c.loop-slot.invariant.counted in
    let all = c.requires.few in
    let here = c.count_slot-count.ensures in
    omega (arith, step, so_far, all, here)

pub count_slots-loop-slot-preserved : goal.count_slots-loop-slot-preserved
count_slots-loop-slot-preserved g t c =
    let view = c.args.table.now in
    let step = ap (total (slot_count view (position_at view c.args.at) c.args.left)) c.in-Some.ensures.steps ∙ total-cons (slot_count view (position_at view c.args.at) c.args.left) c.in-Some.slot c.next.new.self in
    let so_far = c.loop-slot.invariant.counted in
    let here = c.count_slot-count.ensures in
    record {
      can_next = tt;
      is_finite = tt;
      small = (subst (AllByRecursion (λ b. b < 32)) c.in-Some.ensures.steps c.loop-slot.invariant.small).1;
      counted = omega (arith, step, so_far, here);
    }

pub count_slots-returns : goal.count_slots-returns
count_slots-returns g t c =
    let view = c.args.table.now in
    let none = ap (total (slot_count view (position_at view c.args.at) c.args.left)) c.in-None.ensures.steps.0 ∙ total-none (slot_count view (position_at view c.args.at) c.args.left) in
    let so_far = c.loop-slot.invariant.counted in
    omega (arith, none, so_far)

-- ---- a node

-- a sum below 2^128 by its two parts, the first of which is shifted
rest_small : (whole ones size rest : ℕ) → whole ≡ ones * size + rest → whole < 2 ^ 128 → rest < 2 ^ 128
rest_small whole ones size rest e few = omega (arith, e, few)

shifted_sum : (whole ones count size rest counted : ℕ) → whole ≡ ones * size + rest → whole < 2 ^ 128 → count ≡ ones → counted ≡ rest → count * size % 2 ^ 128 + counted ≡ whole
shifted_sum whole ones count size rest counted e few same same_rest =
    let product : count * size ≡ ones * size = ap (λ n. n * size) same in
    let fits = mod-eq_of_lt (let l : count * size < 2 ^ 128 = omega (arith, product, e, few) in l) in
    omega (arith, fits, product, e, same_rest)

pub count_node-returns-then-left-lt-K : goal.count_node-returns-then-left-lt-K
count_node-returns-then-left-lt-K g t c =
    let view = c.args.table.now in
    c.from.ensures
    ∙ node_places view (position_at view c.args.at) c.args.left c.node-bits.result.data_bits c.member_coverage-inside.result.0 c.level_mask.result c.if-left-lt-K.true
    c.node-bits.ensures.«data» c.member_coverage-inside.ensures.bits c.level_mask.ensures

pub count_node-count_slots-requires : goal.count_node-count_slots-requires
count_node-count_slots-requires g t c κs within =
    let view = c.args.table.now in
    let whole = node_slots view c.requires.holds c.args.at c.requires.named c.args.left c.node-bits.result.data_bits c.member_coverage-inside.result.1 c.node-bits.result.child_bits c.if-left-lt-K.false
    c.node-bits.ensures.«data» c.member_coverage-inside.ensures.slots c.node-bits.ensures.children in
    let few = rest_small _ (ones c.member_coverage-inside.result.1) (2 ^ (c.args.left - 5)) _ whole c.requires.few in
    let left : c.args.left - 5 ≤ 128 = let l = c.requires.left in omega (arith, l) in
    search rules

pub count_node-overflow_add-result : goal.count_node-overflow_add-result
count_node-overflow_add-result g t c =
    let view = c.args.table.now in
    let whole = node_slots view c.requires.holds c.args.at c.requires.named c.args.left c.node-bits.result.data_bits c.member_coverage-inside.result.1 c.node-bits.result.child_bits c.if-left-lt-K.false
    c.node-bits.ensures.«data» c.member_coverage-inside.ensures.slots c.node-bits.ensures.children in
    let sum = shifted_sum _ (ones c.member_coverage-inside.result.1) c.from-2.result (2 ^ (c.args.left - 5)) _ c.count_slots.result whole c.requires.few c.from-2.ensures c.count_slots.ensures in
    let few = c.requires.few in
    omega (arith, sum, few)

pub count_node-returns : goal.count_node-returns
count_node-returns g t c =
    let view = c.args.table.now in
    let whole = node_slots view c.requires.holds c.args.at c.requires.named c.args.left c.node-bits.result.data_bits c.member_coverage-inside.result.1 c.node-bits.result.child_bits c.if-left-lt-K.false
    c.node-bits.ensures.«data» c.member_coverage-inside.ensures.slots c.node-bits.ensures.children in
    shifted_sum _ (ones c.member_coverage-inside.result.1) c.from-2.result (2 ^ (c.args.left - 5)) _ c.count_slots.result whole c.requires.few c.from-2.ensures c.count_slots.ensures
