use Rattle.std.proofs.Common.{◌≤◌, length, take, arith, length-take}
use Rattle.prefix_map.proofs.ViewLaws.{fits_after}
use Rattle.prefix_map.proofs.map.PrefixMap.store_at.Goals as goal

pub invariant_of-self : goal.invariant_of-self
invariant_of-self g c =
    let key = take c.args.len (g.P.R.Bits.bits c.args.key) in
    let whole = g.met.P.R.Bits.length_law c.args.key in
    let width = g.met.P.PrefixBits.width_law in
    let short : length key ≤ g.P.PrefixKey.WIDTH = omega (arith, whole, width, length-take c.args.len (g.P.R.Bits.bits c.args.key)) in
    fits_after g.P.PrefixKey.WIDTH c.self.inside.table c.insert.new.self key c.args.value c.insert.result c.self.invariant short c.insert.ensures.stored c.insert.ensures.kept c.insert.ensures.unchanged
