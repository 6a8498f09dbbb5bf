use Rattle.prefix_joint_archive.proofs.Compacted.{least_fits, writing_compacts}
use Rattle.prefix_joint_archive.proofs.compact.compact_maps.Goals as goal

pub write_maps-requires-clause-first : goal.write_maps-requires-clause-first
write_maps-requires-clause-first g c =
    let s = c.in_ok-archive.ensures.spelled in
    least_fits g.T.ValueCodec.codec g.met.T.Ord.total c.requires.order g.P.P1.R.Bits.WIDTH s.front c.in_ok-archive.archive.t1.table.entries c.in-Ok.first.entries s.first_spelled c.in-Ok.ensures.least

pub write_maps-requires-clause-second : goal.write_maps-requires-clause-second
write_maps-requires-clause-second g c =
    let s = c.in_ok-archive.ensures.spelled in
    least_fits g.T.ValueCodec.codec g.met.T.Ord.total c.requires.order g.P.P2.R.Bits.WIDTH s.rest c.in_ok-archive.archive.t2.table.entries c.in-Ok-least_of.second.entries s.second_spelled c.in-Ok-least_of.ensures.least

pub returns : goal.returns
returns g c =
    writing_compacts g.T.ValueCodec.codec g.T.Ord.cmp g.P.P1.R.Bits.WIDTH g.P.P2.R.Bits.WIDTH c.args.bytes.now c.in_ok-archive.archive.t1.table.entries c.in_ok-archive.archive.t2.table.entries c.in_ok-archive.ensures.spelled c.in-Ok.first.entries c.in-Ok-least_of.second.entries c.in-Ok.ensures.least c.in-Ok-least_of.ensures.least
    c.write_maps.result c.write_maps.ensures.whole c.write_maps.ensures.room c.write_maps.ensures.ends
