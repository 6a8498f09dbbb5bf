use Rattle.prefix_archive.proofs.Nodes.{root_at}
use Rattle.prefix_archive.proofs.map.ArchivedPrefixMap.root_record.Goals as goal

pub fetch-requires : goal.fetch-requires
fetch-requires g c =
    let map = c.args.self.now in
    (root_at g.T.ValueCodec.codec g.P.R.Bits.WIDTH map.nodes.bytes.now map.values.list.items map.table).within

pub returns-clause-root : goal.returns-clause-root
returns-clause-root g c =
    let map = c.args.self.now in
    (root_at g.T.ValueCodec.codec g.P.R.Bits.WIDTH map.nodes.bytes.now map.values.list.items map.table).is_of _ c.fetch.ensures.record
