use Rattle.std.proofs.Common.{false, take, replicate, length, refl, sym, ap, ◌-◌, ◌∙◌, arith, length-take}
use Rattle.prefix_model.specs.Keys.{low_bits}
use Rattle.prefix_model.proofs.Fronts.{take_front}
use Rattle.prefix_model.proofs.KeyLists.{front_tested, longer_not_front}
use Rattle.prefix_archive.proofs.map.iter.is_below.Goals as goal

pub returns-then-len-within : goal.returns-then-len-within
returns-then-len-within g c =
    let view = c.args.view.now in
    let bits = g.P.R.Bits.bits c.args.key in
    let a = length-take c.args.len bits in
    let b = c.prefix_len-within.ensures in
    let l = c.if-len-within.true in
    longer_not_front (low_bits view.prefix_len view.place) (take c.args.len bits) (omega (arith, a, b, l))

pub returns : goal.returns
returns g c =
    let view = c.args.view.now in
    let w = g.P.R.Bits.WIDTH in
    let place = low_bits view.prefix_len view.place in
    let near = g.P.R.Bits.bits c.key.result in
    let far = g.P.R.Bits.bits c.args.key in
    let b = c.prefix_len-within.ensures in
    let l = c.if-len-within.false in
    let fits = c.requires in
    let whole = g.met.P.R.Bits.length_law c.key.result in
    let front = ap (take (length place)) c.key.ensures ∙ take_front place (replicate (w - length place) false) in
    front_tested c.same_front.result near far place (take c.args.len far) (length place) c.args.len c.prefix_len-within.result (sym front) refl b
    (omega (arith, b, l)) (omega (arith, b, l, fits, whole)) c.same_front.ensures
