use Rattle.std.proofs.Common.{◌≡◌, ◌+◌, ◌-◌, ◌^◌, ◌<◌, ◌≤◌, ℕ, [], cond, None, sym, ◌∙◌, subst, arith, length, bit_and, bit_or, bit_xor}
use Rattle.std.specs.Prelude.{is_some}
use Rattle.std.specs.Int.{bit_at}
use mathlib.Core.Bool.{true≢false}
use Rattle.std.proofs.lemmas.Nat.Bits.{shr_and_one}
use Rattle.prefix_model.specs.Keys.{low_bits}
use Rattle.prefix_model.specs.Tables.{answer_under}
use Rattle.prefix_model.specs.Aggregates.{above_under}
use Rattle.prefix_model.specs.TableViews.{position_at, stored_from}
use Rattle.prefix_model.proofs.Counting.NodeCoverage.{AllBehind, covered_told, places_all, all_places, slots_all, all_slots}
use Rattle.prefix_model.proofs.Counting.NodeViews.{all_places_mask, all_slots_mask, slot_node, node_slot, no_slot, node_tells, level_each, asked_slots, slot_above, slot_covers, covers_slot}
use Rattle.prefix_aggregate.proofs.coverage.+covers.Goals as goal

pub covers_slot-returns-in-Some : goal.covers_slot-returns-in-Some
covers_slot-returns-in-Some g t c =
    let view = c.args.table.now in
    let p = position_at view c.args.at in
    let told = c.covers_behind.ensures [] (omega arith) (omega arith) all_places_mask all_slots_mask in (
      λ h. slot_node view p c.in-Some.child c.args.left c.args.slot c.in-Some.ensures (told.0 h),
      λ all. told.1 (node_slot view p c.in-Some.child c.args.left c.args.slot c.in-Some.ensures all),
    )

pub covers_slot-returns-in-None : goal.covers_slot-returns-in-None
covers_slot-returns-in-None g t c = (
  λ h. absurd (true≢false (sym h)),
  λ all. absurd (no_slot c.args.table.now c.requires.holds c.args.at c.requires.named c.args.slot c.args.left c.in-None.ensures all),
)

pub covers_slots-returns-then-not-covers_slot : goal.covers_slots-returns-then-not-covers_slot
covers_slots-returns-then-not-covers_slot g t c = (
  λ h. absurd (true≢false (sym h)),
  λ all.
      let asked = sym (shr_and_one c.args.slots c.loop-slot.slot) ∙ c.if-slots-slot-eq1.true in
      absurd (true≢false (sym (c.covers_slot.ensures.1 (all c.loop-slot.slot c.loop-slot-test.true asked)) ∙ c.if-not-covers_slot.true)),
)

pub covers_behind-returns-then-left-lt-K : goal.covers_behind-returns-then-left-lt-K
covers_behind-returns-then-left-lt-K g t c = λ r short within masked slots.
    let view = c.args.table.now in
    let p = position_at view c.args.at in
    let d = c.node-bits.result.data_bits in
    let tells = node_tells view p d c.node-bits.ensures.«data» in
    let covered : ℕ = bit_or d c.member_coverage-inside.result.0 in
    let told : (n : ℕ) → n < 2 ^ c.args.left → bit_at covered (2 ^ c.args.left - 1 + n) ≡ cond (is_some (answer_under None (stored_from view p) (low_bits c.args.left n))) 1 0 =
    λ n m. covered_told d (stored_from view p) tells c.member_coverage-inside.result.0 c.args.left n c.if-left-lt-K.true m (c.member_coverage-inside.ensures.bits (2 ^ c.args.left - 1 + n)) in
    let each = level_each covered c.args.places c.level_mask.result c.args.left r c.if-left-lt-K.true masked c.level_mask.ensures in (
      λ h. all_places d (stored_from view p) tells covered c.args.left r told (each.0 (c.has_all.ensures.0 h)),
      λ all. c.has_all.ensures.1 (each.1 (places_all d (stored_from view p) tells covered c.args.left r told all)),
    )

pub covers_behind-returns-else-left-lt-K : goal.covers_behind-returns-else-left-lt-K
covers_behind-returns-else-left-lt-K g t c = λ r short within masked slots.
    let view = c.args.table.now in
    let p = position_at view c.args.at in
    let d = c.node-bits.result.data_bits in
    let tells = node_tells view p d c.node-bits.ensures.«data» in
    let below : ℕ = c.member_coverage-inside.result.1 in
    let word : ℕ = bit_xor c.args.slots (bit_and c.args.slots below) in
    let m : ℕ = c.args.left - 5 in
    let asked = asked_slots c.args.slots below r slots in
    let deep : c.args.left ≡ 5 + (c.args.left - 5) = let l = c.if-left-lt-K.false in omega (arith, l) in
    let few : length r ≤ 5 = omega (arith, short) in
    let told : (x : ℕ) → x < 32 → bit_at below x ≡ cond (is_some (above_under None (stored_from view p) (low_bits 5 x))) 1 0 =
    λ x l. slot_above view p d below x c.node-bits.ensures.«data» l (c.member_coverage-inside.ensures.slots x) in (
      λ h. subst (λ n. AllBehind (stored_from view p) r n) (sym deep) (all_slots d (stored_from view p) tells word below r m told asked few (λ x l s. slot_covers view p m x (c.covers_slots.ensures.0 h x l s))),
      λ all. c.covers_slots.ensures.1 (λ x l s. covers_slot view p m x (slots_all d (stored_from view p) tells word below r m told asked few (subst (λ n. AllBehind (stored_from view p) r n) deep all) x l s)),
    )
