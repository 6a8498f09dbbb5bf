use Rattle.std.proofs.Common.{◌∙◌}
use Rattle.prefix_archive.proofs.Opening.{nodes_counted}
use Rattle.prefix_archive.proofs.map.ArchivedPrefixMap.node_count.Goals as goal

pub returns : goal.returns
returns g c = c.len.ensures ∙ nodes_counted g.T.ValueCodec.codec g.P.R.Bits.WIDTH c.args.self.now.nodes.bytes.now c.args.self.now.values.list.items c.args.self.now.table
