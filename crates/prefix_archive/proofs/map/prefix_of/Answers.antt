use Rattle.std.proofs.Common.{◌≡◌, ◌-◌, ◌++◌, false, replicate, length, take, sym, ap, ◌∙◌, arith, length-take}
use Rattle.prefix_archive.proofs.map.prefix_of.Goals as goal

pub returns-clause-length : goal.returns-clause-length
returns-clause-length g c =
    let bits = g.P.R.Bits.bits c.args.key in
    let all = g.met.P.R.Bits.length_law c.args.key in
    let size : length (take c.args.len bits) ≡ c.args.len = let a = length-take c.args.len bits in omega (arith, a, all) in
    c.from_repr_len.ensures.length ∙ sym (ap length c.from_repr_len.ensures.key ∙ size)

pub returns-clause-bits : goal.returns-clause-bits
returns-clause-bits g c =
    let bits = g.P.R.Bits.bits c.args.key in
    let all = g.met.P.R.Bits.length_law c.args.key in
    let size : length (take c.args.len bits) ≡ c.args.len = let a = length-take c.args.len bits in omega (arith, a, all) in
    let e = sym (ap length c.from_repr_len.ensures.key ∙ size) in
    c.from_repr_len.ensures.bits ∙ (λ i. sym c.from_repr_len.ensures.key i ++ replicate (g.P.R.Bits.WIDTH - e i) false)
