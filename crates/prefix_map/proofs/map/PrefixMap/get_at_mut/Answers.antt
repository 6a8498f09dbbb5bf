use Rattle.std.proofs.Common.{◌≤◌, length, take, arith, length-take}
use Rattle.prefix_map.proofs.ViewLaws.{fits_written}
use Rattle.prefix_map.proofs.map.PrefixMap.get_at_mut.Goals as goal

pub invariant_of-self-lent : goal.invariant_of-self-lent
invariant_of-self-lent g c = λ r.
    let key = take c.args.len (g.P.R.Bits.bits c.args.key) in
    let whole = g.met.P.R.Bits.length_law c.args.key in
    let width = g.met.P.PrefixBits.width_law in
    let short : length key ≤ g.P.PrefixKey.WIDTH = omega (arith, whole, width, length-take c.args.len (g.P.R.Bits.bits c.args.key)) in
    (λ w. fits_written g.P.PrefixKey.WIDTH c.self.inside.table key w c.self.invariant short, c.self.invariant)
