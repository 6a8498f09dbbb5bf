use Rattle.std.proofs.Common.{◌≡◌, ◌+◌, ◌-◌, ◌^◌, ◌<◌, ◌≤◌, ◌++◌, ℕ, take, true, sym, ap, ◌∙◌, subst, arith, rules}
use Rattle.std.specs.List.{AllByRecursion}
use borrow.Author.Tests.{eqb-true}
use lib.Count.{ones}
use Rattle.prefix_model.specs.Coverage.{answered}
use Rattle.prefix_model.specs.InPlace.{is_position}
use Rattle.prefix_model.specs.Keys.{low_bits}
use Rattle.prefix_model.specs.Masks.{set_bits}
use Rattle.prefix_table.specs.Records.{node_record}
use Rattle.prefix_model.specs.Counts.{total}
use Rattle.prefix_model.proofs.Counting.Totals.{total-none, total-cons, bits_small}
use Rattle.prefix_model.proofs.KeyPieces.{taken_length}
use Rattle.prefix_archive.specs.Coverage.{answers_from}
use Rattle.prefix_archive.proofs.Cursors.{child_there, slot_place}
use Rattle.prefix_archive.proofs.Descents.{child_fits, next_node, next_key}
use Rattle.prefix_archive.proofs.Nodes.{no_child_behind}
use Rattle.prefix_archive.proofs.NodeCounts.{no_slot, slots_of, places_of, rest_small, shifted_sum}
use Rattle.prefix_archive.proofs.counting.+counts.Goals as goal

-- ---- a slot

pub count_slot-returns-then-not-is_set : goal.count_slot-returns-then-not-is_set
count_slot-returns-then-not-is_set g t c =
    let a = c.args.archive.now in
    let p = take c.args.depth (g.P.R.Bits.bits c.args.key) in
    let gone = no_child_behind g.T.ValueCodec.codec g.P.R.Bits.WIDTH a.nodes.bytes.now a.values.list.items a.table p (node_record c.args.node.now) c.requires.node c.args.slot (low_bits 5 c.args.slot)
    (slot_place c.args.slot c.requires.slot) (sym c.is_set.ensures ∙ c.if-not-is_set.true) in
    sym (no_slot a.table.entries g.P.R.Bits.WIDTH a.table.spelled.width g.met.P.R.Bits.greatest_width_law p c.requires.kept c.args.slot c.args.left gone)

pub count_slot-child_at-child-requires-clause-set : goal.count_slot-child_at-child-requires-clause-set
count_slot-child_at-child-requires-clause-set g t c = eqb-true _ _ (sym c.is_set.ensures ∙ c.if-not-is_set.false)

pub count_slot-extend_repr-child_key-requires-clause-within : goal.count_slot-extend_repr-child_key-requires-clause-within
count_slot-extend_repr-child_key-requires-clause-within g t c =
    let bits = g.P.R.Bits.bits c.args.key in
    let m = c.args.archive.now.table in
    let size = taken_length bits c.args.depth g.P.R.Bits.WIDTH (g.met.P.R.Bits.length_law c.args.key) c.requires.depth in
    let l = child_fits m.entries (take c.args.depth bits) (node_record c.args.node.now) c.requires.node g.P.R.Bits.WIDTH m.spelled.width c.args.slot c.requires.slot (eqb-true _ _ (sym c.is_set.ensures ∙ c.if-not-is_set.false)) in
    omega (arith, l, size)

pub count_slot-count_node-requires : goal.count_slot-count_node-requires
count_slot-count_node-requires g t c κs within =
    let w : ℕ = g.P.R.Bits.WIDTH in
    let bits = g.P.R.Bits.bits c.args.key in
    let m = c.args.archive.now.table in
    let p = take c.args.depth bits in
    let r = node_record c.args.node.now in
    let ys = g.P.R.Bits.bits c.extend_repr-child_key.result in
    let size = taken_length bits c.args.depth w (g.met.P.R.Bits.length_law c.args.key) c.requires.depth in
    let on = sym c.is_set.ensures ∙ c.if-not-is_set.false in
    let l = child_fits m.entries p r c.requires.node w m.spelled.width c.args.slot c.requires.slot (eqb-true _ _ on) in
    let deep : c.args.depth + 5 ≤ w = omega (arith, l, size) in
    let is = next_key m.entries p c.args.slot c.args.depth (w - (c.args.depth + 5)) ys size c.extend_repr-child_key.ensures in
    let node = next_node m.entries p c.args.slot c.args.depth (w - (c.args.depth + 5)) ys size c.extend_repr-child_key.ensures (node_record c.child_at-child.result) c.child_at-child.ensures in
    let kept : is_position m.entries (take (c.args.depth + 5) ys) ≡ true = ap (is_position m.entries) is ∙ child_there m.entries p r c.requires.node c.args.slot c.requires.slot on in
    let few : answered c.args.left (answers_from m.entries (take (c.args.depth + 5) ys)) < 2 ^ 128 = subst (λ q. answered c.args.left (answers_from m.entries q) < 2 ^ 128) (sym is) c.requires.few in
    search rules

pub count_slot-returns : goal.count_slot-returns
count_slot-returns g t c =
    let w : ℕ = g.P.R.Bits.WIDTH in
    let bits = g.P.R.Bits.bits c.args.key in
    let m = c.args.archive.now.table in
    let p = take c.args.depth bits in
    let ys = g.P.R.Bits.bits c.extend_repr-child_key.result in
    let size = taken_length bits c.args.depth w (g.met.P.R.Bits.length_law c.args.key) c.requires.depth in
    let is = next_key m.entries p c.args.slot c.args.depth (w - (c.args.depth + 5)) ys size c.extend_repr-child_key.ensures in
    c.count_node.ensures ∙ ap (λ q. answered c.args.left (answers_from m.entries q)) is

-- ---- some slots

pub count_slots-loop-slot-init : goal.count_slots-loop-slot-init
count_slots-loop-slot-init g t c =
    let p = take c.args.depth (g.P.R.Bits.bits c.args.key) in
    let m = c.args.archive.now.table.entries in
    let rest : c.into_iter-slot-iterator.result ≡ set_bits c.args.slots = cc in
    record {
      can_next = tt;
      is_finite = tt;
      small = subst (AllByRecursion (λ b. b < 32)) (sym rest) (bits_small c.args.slots);
      counted = let e = ap (total (λ x. answered c.args.left (answers_from m (p ++ low_bits 5 x)))) rest in omega (arith, e);
    }

pub count_slots-count_slot-count-requires : goal.count_slots-count_slot-count-requires
count_slots-count_slot-count-requires g t c κs within =
    let p = take c.args.depth (g.P.R.Bits.bits c.args.key) in
    let m = c.args.archive.now.table.entries in
    let slot : c.in-Some.slot < 32 = (subst (AllByRecursion (λ b. b < 32)) c.in-Some.ensures.steps c.loop-slot.invariant.small).0 in
    let step = ap (total (λ x. answered c.args.left (answers_from m (p ++ low_bits 5 x)))) c.in-Some.ensures.steps ∙ total-cons (λ x. answered c.args.left (answers_from m (p ++ low_bits 5 x))) c.in-Some.slot c.next.new.self in
    let so_far = c.loop-slot.invariant.counted in
    let all = c.requires.few in
    let few : answered c.args.left (answers_from m (p ++ low_bits 5 c.in-Some.slot)) < 2 ^ 128 = omega (arith, step, so_far, all) in
    search rules

pub count_slots-overflow_add-count : goal.count_slots-overflow_add-count
count_slots-overflow_add-count g t c =
    let p = take c.args.depth (g.P.R.Bits.bits c.args.key) in
    let m = c.args.archive.now.table.entries in
    let step = ap (total (λ x. answered c.args.left (answers_from m (p ++ low_bits 5 x)))) c.in-Some.ensures.steps ∙ total-cons (λ x. answered c.args.left (answers_from m (p ++ low_bits 5 x))) c.in-Some.slot c.next.new.self in
    let so_far = c.loop-slot.invariant.counted in
    let all = c.requires.few in
    let here = c.count_slot-count.ensures in
    omega (arith, step, so_far, all, here)

pub count_slots-loop-slot-preserved : goal.count_slots-loop-slot-preserved
count_slots-loop-slot-preserved g t c =
    let p = take c.args.depth (g.P.R.Bits.bits c.args.key) in
    let m = c.args.archive.now.table.entries in
    let step = ap (total (λ x. answered c.args.left (answers_from m (p ++ low_bits 5 x)))) c.in-Some.ensures.steps ∙ total-cons (λ x. answered c.args.left (answers_from m (p ++ low_bits 5 x))) c.in-Some.slot c.next.new.self in
    let so_far = c.loop-slot.invariant.counted in
    let here = c.count_slot-count.ensures in
    record {
      can_next = tt;
      is_finite = tt;
      small = (subst (AllByRecursion (λ b. b < 32)) c.in-Some.ensures.steps c.loop-slot.invariant.small).1;
      counted = omega (arith, step, so_far, here);
    }

pub count_slots-returns : goal.count_slots-returns
count_slots-returns g t c =
    let p = take c.args.depth (g.P.R.Bits.bits c.args.key) in
    let m = c.args.archive.now.table.entries in
    let none = ap (total (λ x. answered c.args.left (answers_from m (p ++ low_bits 5 x)))) c.in-None.ensures.steps.0 ∙ total-none (λ x. answered c.args.left (answers_from m (p ++ low_bits 5 x))) in
    let so_far = c.loop-slot.invariant.counted in
    omega (arith, none, so_far)

-- ---- a node

pub count_node-returns-then-left-lt-K : goal.count_node-returns-then-left-lt-K
count_node-returns-then-left-lt-K g t c =
    let m = c.args.archive.now.table in
    let p = take c.args.depth (g.P.R.Bits.bits c.args.key) in
    c.from.ensures
    ∙ places_of m.entries g.P.R.Bits.WIDTH m.spelled.width g.met.P.R.Bits.greatest_width_law p c.requires.kept c.args.left c.args.node.now.data_bits c.member_coverage-inside.result.0 c.level_mask.result c.if-left-lt-K.true
    c.requires.node.data_bits_are c.member_coverage-inside.ensures.bits c.level_mask.ensures

pub count_node-count_slots-requires : goal.count_node-count_slots-requires
count_node-count_slots-requires g t c κs within =
    let m = c.args.archive.now.table in
    let p = take c.args.depth (g.P.R.Bits.bits c.args.key) in
    let whole = slots_of m.entries g.P.R.Bits.WIDTH m.spelled.width g.met.P.R.Bits.greatest_width_law p c.requires.kept c.args.left c.args.node.now.data_bits c.member_coverage-inside.result.1 c.args.node.now.child_bits c.if-left-lt-K.false
    c.requires.node.data_bits_are c.member_coverage-inside.ensures.slots c.requires.node.child_bits_are in
    let few = rest_small _ (ones c.member_coverage-inside.result.1) (2 ^ (c.args.left - 5)) _ whole c.requires.few in
    let left : c.args.left - 5 ≤ 128 = let l = c.requires.left in omega (arith, l) in
    search rules

pub count_node-overflow_add-result : goal.count_node-overflow_add-result
count_node-overflow_add-result g t c =
    let m = c.args.archive.now.table in
    let p = take c.args.depth (g.P.R.Bits.bits c.args.key) in
    let whole = slots_of m.entries g.P.R.Bits.WIDTH m.spelled.width g.met.P.R.Bits.greatest_width_law p c.requires.kept c.args.left c.args.node.now.data_bits c.member_coverage-inside.result.1 c.args.node.now.child_bits c.if-left-lt-K.false
    c.requires.node.data_bits_are c.member_coverage-inside.ensures.slots c.requires.node.child_bits_are in
    let sum = shifted_sum _ (ones c.member_coverage-inside.result.1) c.from-2.result (2 ^ (c.args.left - 5)) _ c.count_slots.result whole c.requires.few c.from-2.ensures c.count_slots.ensures in
    let few = c.requires.few in
    omega (arith, sum, few)

pub count_node-returns : goal.count_node-returns
count_node-returns g t c =
    let m = c.args.archive.now.table in
    let p = take c.args.depth (g.P.R.Bits.bits c.args.key) in
    let whole = slots_of m.entries g.P.R.Bits.WIDTH m.spelled.width g.met.P.R.Bits.greatest_width_law p c.requires.kept c.args.left c.args.node.now.data_bits c.member_coverage-inside.result.1 c.args.node.now.child_bits c.if-left-lt-K.false
    c.requires.node.data_bits_are c.member_coverage-inside.ensures.slots c.requires.node.child_bits_are in
    shifted_sum _ (ones c.member_coverage-inside.result.1) c.from-2.result (2 ^ (c.args.left - 5)) _ c.count_slots.result whole c.requires.few c.from-2.ensures c.count_slots.ensures
