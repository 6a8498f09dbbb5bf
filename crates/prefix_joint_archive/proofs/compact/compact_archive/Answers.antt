use Rattle.prefix_joint_archive.proofs.Compacted.{gives_least, gives_compacted, tells_causes, full_lacks, lacks_full, serves_pairs, counts_values, memory_accepted}
use Rattle.prefix_joint_archive.proofs.compact.compact_archive.Goals as goal

pub returns-clause-least : goal.returns-clause-least
returns-clause-least g c = gives_least g.T.ValueCodec.codec g.T.Ord.cmp g.P.P1.R.Bits.WIDTH g.P.P2.R.Bits.WIDTH c.args.bytes.now c.compact_maps.result c.compact_maps.ensures

pub returns-clause-fewest : goal.returns-clause-fewest
returns-clause-fewest g c = gives_compacted g.T.ValueCodec.codec g.met.T.Ord.total c.requires.order g.P.P1.R.Bits.WIDTH g.P.P2.R.Bits.WIDTH c.args.bytes.now c.compact_maps.result c.compact_maps.ensures

pub returns-clause-refused : goal.returns-clause-refused
returns-clause-refused g c = tells_causes g.T.ValueCodec.codec g.T.Ord.cmp g.P.P1.R.Bits.WIDTH g.P.P2.R.Bits.WIDTH c.args.bytes.now c.compact_maps.result c.compact_maps.ensures

pub returns-clause-full : goal.returns-clause-full
returns-clause-full g c = full_lacks g.T.ValueCodec.codec g.T.Ord.cmp g.P.P1.R.Bits.WIDTH g.P.P2.R.Bits.WIDTH c.args.bytes.now c.compact_maps.result c.compact_maps.ensures

pub returns-clause-lacks_room : goal.returns-clause-lacks_room
returns-clause-lacks_room g c = lacks_full g.T.ValueCodec.codec g.T.Ord.cmp g.P.P1.R.Bits.WIDTH g.P.P2.R.Bits.WIDTH c.args.bytes.now c.compact_maps.result c.compact_maps.ensures

pub returns-clause-values : goal.returns-clause-values
returns-clause-values g c = counts_values g.T.ValueCodec.codec g.T.Ord.cmp g.P.P1.R.Bits.WIDTH g.P.P2.R.Bits.WIDTH c.args.bytes.now c.compact_maps.result c.compact_maps.ensures

pub returns-clause-memory : goal.returns-clause-memory
returns-clause-memory g c = memory_accepted g.T.ValueCodec.codec g.T.Ord.cmp g.P.P1.R.Bits.WIDTH g.P.P2.R.Bits.WIDTH c.args.bytes.now c.compact_maps.result c.compact_maps.ensures

pub returns-clause-served : goal.returns-clause-served
returns-clause-served g c = serves_pairs g.T.ValueCodec.codec g.T.Ord.cmp g.P.P1.R.Bits.WIDTH g.P.P2.R.Bits.WIDTH c.args.bytes.now c.compact_maps.result c.compact_maps.ensures
