use Rattle.prefix_map.proofs.AggregateLaws.{fits_members}
use Rattle.prefix_map.proofs.map.aggregates.PrefixMap+P+unit.aggregate_members.Goals as goal

pub hold-requires : goal.hold-requires
hold-requires g c = fits_members g.P.PrefixKey.WIDTH g.P.R.Bits.WIDTH g.met.P.PrefixBits.width_law _ c.in_ok-members.members c.in_ok-members.ensures.members c.in_ok-members.ensures.kept
