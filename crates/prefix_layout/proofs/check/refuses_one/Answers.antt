use Rattle.std.proofs.Common.{◌≡◌, ℕ, ◌*◌, ◌-◌, ◌+◌, suc, ◌<◌, take, drop, length, sym, ap, ◌∙◌, arith}
use Rattle.std.proofs.lemmas.List.{length-drop}
use Rattle.prefix_layout.specs.Spans.{some_refused}
use Rattle.prefix_layout.proofs.Passing.{refused_next}
use Rattle.prefix_layout.proofs.check.refuses_one.Goals as goal

pub loop-i-preserved : goal.loop-i-preserved
loop-i-preserved g c =
    let codec = g.T.ValueCodec.codec in
    let size : ℕ = g.T.ValueCodec.SIZE in
    let rest = c.loop-i.rest.now in
    let n = c.args.entries in
    let i = c.loop-i.i in
    let same : c.SIZE.result ≡ codec.size = c.SIZE.ensures ∙ sym g.met.T.ValueCodec.size_is in
    let accepted = ap (λ k. codec.accepted (take k rest)) (sym same) ∙ ap codec.accepted (sym c.split_at.ensures.front) ∙ sym c.check.ensures ∙ c.if-not-check.false in
    let room = c.loop-i.invariant.room in
    let more : (n - i) * size ≡ size + (n - (i + 1)) * size = step n i size (omega arith) in
    let len = ap length c.split_at.ensures.back in
    record {
      room = omega (arith, len, length-drop c.SIZE.result rest, c.SIZE.ensures, more, room);
      same = ap (some_refused codec (n - (i + 1))) (c.split_at.ensures.back ∙ ap (λ k. drop k rest) same) ∙ sym (refused_next codec n i rest (omega arith) accepted) ∙ c.loop-i.invariant.same;
    }
  where
    step : (n i size : ℕ) → i < n → (n - i) * size ≡ size + (n - (i + 1)) * size
    step n i size h = ap (λ k. k * size) (let one : n - i ≡ suc (n - (i + 1)) = omega arith in one) ∙ (let e : suc (n - (i + 1)) * size ≡ size + (n - (i + 1)) * size = omega arith in e)
