use Rattle.std.proofs.Common.{◌≡◌, ◌+◌, ◌-◌, ◌<◌, ◌≤◌, ◌++◌, ℕ, None, refl, sym, ap, ◌∙◌, subst, arith, length, take, drop, length-take, length-drop}
use Rattle.std.specs.Prelude.{◌↔◌, is_some, IsTrue}
use Rattle.std.specs.Int.{bit_at}
use Rattle.std.specs.FinMap as map
use mathlib.Core.Bool.{true≢false}
use Rattle.std.proofs.lemmas.Nat.Bits.{shr_and_one}
use Rattle.prefix_model.specs.Keys.{KeyBits, low_bits}
use Rattle.prefix_model.specs.Positions.{data_bits}
use Rattle.prefix_model.specs.TableViews.{position_at, stored_from}
use Rattle.prefix_model.proofs.TablePositions.{none_from, slot_length, node_named}
use Rattle.prefix_model.proofs.MaskBits.{clear_from}
use Rattle.prefix_model.specs.Places.{CoversBehind}
use Rattle.prefix_model.proofs.Counting.NodeCoverage.{set_of, clear_of}
use Rattle.prefix_model.proofs.Counting.NodeViews.{slot_above, node_length}
use Rattle.prefix_aggregate.proofs.NodeWays.{way_ends, way_covered, way_gone, way_on, next_node}
use Rattle.prefix_aggregate.proofs.coverage.covers_in_aggregate.Goals as goal

pub returns-then-below-slot-eq1 : goal.returns-then-below-slot-eq1
returns-then-below-slot-eq1 g c =
    let view = c.args.table.now in
    let bits = g.R.Bits.bits c.args.key in
    let way = c.loop-depth.invariant in
    let d = c.loop-depth.depth in
    let slot = c.child_bit-slot.result in
    let below : ℕ = c.member_coverage-below.result.1 in
    let whole = sym (g.met.R.Bits.length_law c.args.key) in
    let told = slot_above view (take d bits) c.node.result.data_bits below slot (c.node.ensures.«data» ∙ ap (data_bits (map.get view.entries)) way.here) c.child_bit-slot.ensures.limit (c.member_coverage-below.ensures.slots slot) in
    let one : bit_at below slot ≡ 1 = sym (shr_and_one below slot) ∙ c.if-below-slot-eq1.true in
    (λ h. way_covered view bits g.R.Bits.WIDTH d c.args.len way.above way.within c.requires whole slot c.loop-depth-test.true c.child_bit-slot.ensures.bits (set_of _ (sym told ∙ one)), λ all. refl)

pub returns-in_default : goal.returns-in_default
returns-in_default g c =
    let view = c.args.table.now in
    let bits = g.R.Bits.bits c.args.key in
    let way = c.loop-depth.invariant in
    let d = c.loop-depth.depth in
    let slot = c.child_bit-slot.result in
    let below : ℕ = c.member_coverage-below.result.1 in
    let whole = sym (g.met.R.Bits.length_law c.args.key) in
    let told = slot_above view (take d bits) c.node.result.data_bits below slot (c.node.ensures.«data» ∙ ap (data_bits (map.get view.entries)) way.here) c.child_bit-slot.ensures.limit (c.member_coverage-below.ensures.slots slot) in
    let none : bit_at below slot ≡ 0 = clear_from below slot (λ one. c.if-below-slot-eq1.false (shr_and_one below slot ∙ one)) in
    let gone = none_from view way.holds (position_at view c.loop-depth.at ++ low_bits 5 slot) (slot_length (position_at view c.loop-depth.at) slot (node_length view way.holds c.loop-depth.at way.named)) c.in_default.ensures in
    let gone_here : (q : KeyBits) → stored_from view (take d bits ++ low_bits 5 slot) q ≡ None = λ q. ap (λ s. stored_from view (s ++ low_bits 5 slot) q) (sym way.here) ∙ gone q in (
      λ h. absurd (true≢false (sym h)),
      λ all. absurd (way_gone view bits g.R.Bits.WIDTH d c.args.len way.above way.within c.requires whole slot c.loop-depth-test.true c.child_bit-slot.ensures.bits (clear_of _ (sym told ∙ none)) gone_here all),
    )

pub loop-depth-preserved : goal.loop-depth-preserved
loop-depth-preserved g c =
    let view = c.args.table.now in
    let bits = g.R.Bits.bits c.args.key in
    let way = c.loop-depth.invariant in
    let d = c.loop-depth.depth in
    let slot = c.child_bit-slot.result in
    let below : ℕ = c.member_coverage-below.result.1 in
    let whole = sym (g.met.R.Bits.length_law c.args.key) in
    let told = slot_above view (take d bits) c.node.result.data_bits below slot (c.node.ensures.«data» ∙ ap (data_bits (map.get view.entries)) way.here) c.child_bit-slot.ensures.limit (c.member_coverage-below.ensures.slots slot) in
    let none : bit_at below slot ≡ 0 = clear_from below slot (λ one. c.if-below-slot-eq1.false (shr_and_one below slot ∙ one)) in record {
      named = ap is_some c.in-Some.ensures;
      holds = way.holds;
      here = node_named view c.in-Some.child _ c.in-Some.ensures ∙ ap (λ s. s ++ low_bits 5 slot) way.here
          ∙ next_node view bits g.R.Bits.WIDTH d c.args.len way.above way.within c.requires whole slot c.loop-depth-test.true c.child_bit-slot.ensures.bits;
      within = c.loop-depth-test.true;
      above = way_on view bits g.R.Bits.WIDTH d c.args.len way.above way.within c.requires whole slot c.loop-depth-test.true c.child_bit-slot.ensures.bits (clear_of _ (sym told ∙ none));
    }

pub returns : goal.returns
returns g c =
    let view = c.args.table.now in
    let bits = g.R.Bits.bits c.args.key in
    let way = c.loop-depth.invariant in
    let d = c.loop-depth.depth in
    let whole = sym (g.met.R.Bits.length_law c.args.key) in
    let part : KeyBits = drop d (take c.args.len bits) in
    let a = length-take c.args.len bits in
    let b = length-drop d (take c.args.len bits) in
    let short : length part < 5 = let l = c.loop-depth-test.false in omega (arith, a, b, l) in
    let e = c.WIDTH.ensures in
    let inside : length part ≤ c.WIDTH.result - d = let l = c.requires in let o = way.within in omega (arith, a, b, e, l, o) in
    let told = c.covers_behind.ensures part short inside c.data_cover_mask-places.ensures c.child_cover_mask-slots.ensures in
    way_ends view bits g.R.Bits.WIDTH d c.args.len way.above way.within c.requires whole c.covers_behind.result
    (subst (λ s. IsTrue c.covers_behind.result ↔ CoversBehind view s (g.R.Bits.WIDTH - d) part) way.here
    (subst (λ w. IsTrue c.covers_behind.result ↔ CoversBehind view (position_at view c.loop-depth.at) (w - d) part) e told))
