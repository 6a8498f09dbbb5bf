use Rattle.std.proofs.Common.{take, refl, arith, length-take}
use Rattle.prefix_model.proofs.KeyLists.{front_tested, longer_not_front}
use Rattle.prefix_map.proofs.search.is_within.Goals as goal

pub returns-then-len-within : goal.returns-then-len-within
returns-then-len-within g c =
    let near = g.R.Bits.bits c.args.key in
    let far = g.R.Bits.bits c.args.position.now.key in
    let fits = c.requires.fits in
    let inside = c.requires.position.within in
    let within = c.requires.position.fits in
    let a = length-take c.args.len near in
    let b = length-take c.args.position.now.within far in
    let x = g.met.R.Bits.length_law c.args.key in
    let y = g.met.R.Bits.length_law c.args.position.now.key in
    longer_not_front (take c.args.position.now.within far) (take c.args.len near) (omega (arith, fits, inside, within, a, b, x, y, c.if-len-within.true))

pub returns : goal.returns
returns g c =
    let inside = c.requires.position.within in
    let within = c.requires.position.fits in
    let y = g.met.R.Bits.length_law c.args.position.now.key in
    front_tested c.same_front.result (g.R.Bits.bits c.args.position.now.key) (g.R.Bits.bits c.args.key) _ _ c.args.position.now.within c.args.len c.args.position.now.within refl refl refl
    c.if-len-within.false (omega (arith, inside, within, y)) c.same_front.ensures
