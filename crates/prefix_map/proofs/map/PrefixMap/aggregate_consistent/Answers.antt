use Rattle.prefix_map.proofs.AggregateLaws.{fits_part}
use Rattle.prefix_map.proofs.map.PrefixMap.aggregate_consistent.Goals as goal

pub hold-requires : goal.hold-requires
hold-requires g c = fits_part g.P.PrefixKey.WIDTH g.P.R.Bits.WIDTH g.met.P.PrefixBits.width_law _ _ c.in_ok-consistent.consistent c.self.invariant.entries c.in_ok-consistent.ensures.consistent c.in_ok-consistent.ensures.kept
