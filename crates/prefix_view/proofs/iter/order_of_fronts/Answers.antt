use Rattle.std.proofs.Common.{◌≡◌, true, false, not, sym, ap, ◌∙◌, arith, take, Some}
use Rattle.prefix_model.proofs.KeyPlaces.{longer_front}
use Rattle.prefix_view.proofs.FromKeys.{first_difference, cmp_itself, bits_differ, bits_same}
use Rattle.prefix_view.proofs.iter.order_of_fronts.Goals as goal

pub loop-i-preserved : goal.loop-i-preserved
loop-i-preserved g c =
    longer_front (g.R.Bits.bits c.args.a) (g.R.Bits.bits c.args.b) c.loop-i.i c.bit-bit.result c.bit.result c.loop-i.invariant c.bit-bit.ensures c.bit.ensures (bits_same _ _ c.if-bit.false)

pub returns-then-bit-2 : goal.returns-then-bit-2
returns-then-bit-2 g c =
    sym (first_difference (g.R.Bits.bits c.args.a) (g.R.Bits.bits c.args.b) c.loop-i.i c.args.len true false c.loop-i-test.true c.loop-i.invariant
    (c.bit-bit.ensures ∙ ap (λ b. Some b) c.if-bit-2.true) (c.bit.ensures ∙ ap (λ b. Some b) (bits_differ _ _ c.if-bit.true ∙ ap not c.if-bit-2.true)) (λ z. cc))

pub returns-else-bit-2 : goal.returns-else-bit-2
returns-else-bit-2 g c =
    sym (first_difference (g.R.Bits.bits c.args.a) (g.R.Bits.bits c.args.b) c.loop-i.i c.args.len false true c.loop-i-test.true c.loop-i.invariant
    (c.bit-bit.ensures ∙ ap (λ b. Some b) c.if-bit-2.false) (c.bit.ensures ∙ ap (λ b. Some b) (bits_differ _ _ c.if-bit.true ∙ ap not c.if-bit-2.false)) (λ z. cc))

pub returns : goal.returns
returns g c =
    let n : c.loop-i.i ≡ c.args.len = omega arith in
    let same = ap (λ k. take k (g.R.Bits.bits c.args.a)) (sym n) ∙ c.loop-i.invariant ∙ ap (λ k. take k (g.R.Bits.bits c.args.b)) n in
    sym (cmp_itself _ _ same)
