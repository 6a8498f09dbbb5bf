use Rattle.prefix_map.proofs.ViewLaws.{fits_empty}
use Rattle.prefix_map.proofs.map.PrefixMap.clear.Goals as goal

pub invariant_of-self : goal.invariant_of-self
invariant_of-self g c = fits_empty g.P.PrefixKey.WIDTH c.clear.new.self c.clear.ensures.entries c.clear.ensures.kept
