use Rattle.prefix_map.proofs.AggregateLaws.{fits_least}
use Rattle.prefix_map.proofs.map.PrefixMap.fill.Goals as goal

pub hold-requires : goal.hold-requires
hold-requires g c = fits_least g.P.PrefixKey.WIDTH g.P.R.Bits.WIDTH g.met.P.PrefixBits.width_law g.T.Ord.cmp g.met.T.Ord.total c.requires.order _ c.in_ok-filled.filled c.in_ok-filled.ensures.filled c.in_ok-filled.ensures.kept
