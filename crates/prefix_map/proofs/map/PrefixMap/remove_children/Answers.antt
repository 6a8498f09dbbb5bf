use Rattle.std.proofs.Common.{take}
use Rattle.prefix_map.proofs.Fits.{fits_cut}
use Rattle.prefix_map.proofs.map.PrefixMap.remove_children.Goals as goal

pub invariant_of-self : goal.invariant_of-self
invariant_of-self g c =
    let key = take c.from.result (g.P.R.Bits.bits c.repr.result) in
    fits_cut g.P.PrefixKey.WIDTH c.self.inside.table c.remove_children.new.self key c.self.invariant c.remove_children.ensures.entries c.remove_children.ensures.kept
