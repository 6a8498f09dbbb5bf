use Rattle.std.proofs.Common.{◌≡◌, ◌+◌, ◌*◌, ◌-◌, take, drop, sym, ◌∙◌, arith}
use Rattle.prefix_model.specs.Keys.{number}
use Rattle.prefix_model.proofs.KeyPlaces.{number_more, part-lt, byte-digit}
use Rattle.prefix_table.proofs.keys.Bits.number_between.Goals as goal

pub loop-i-preserved : goal.loop-i-preserved
loop-i-preserved g c =
    let bits = g.Self.Bits.bits c.args.self in
    let more = number_more bits c.args.from c.loop-i.i c.bit.result c.loop-i.auto.i c.bit.ensures in
    let e : 2 * c.loop-i.spelled + c.from.result ≡ number (drop c.args.from (take (c.loop-i.i + 1) bits)) = (λ j. 2 * c.loop-i.invariant.0 j + (c.from.ensures ∙ byte-digit c.bit.result) j) ∙ sym more in
    let small = part-lt bits c.args.from (c.loop-i.i + 1) (c.loop-i.i + 1 - c.args.from) (omega arith) in
    (e, omega (arith, e, small))
