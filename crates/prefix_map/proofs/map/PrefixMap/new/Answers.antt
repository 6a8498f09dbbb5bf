use Rattle.prefix_map.proofs.ViewLaws.{fits_empty}
use Rattle.prefix_map.proofs.map.PrefixMap.new.Goals as goal

pub invariant_of-result : goal.invariant_of-result
invariant_of-result g c = fits_empty g.P.PrefixKey.WIDTH c.new.result c.new.ensures.entries c.new.ensures.kept
