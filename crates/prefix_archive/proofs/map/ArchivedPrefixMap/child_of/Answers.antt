use Rattle.std.proofs.Common.{◌+◌, ◌*◌, ◌/◌, ◌<◌, length, drop, sym, ap, ◌∙◌, subst}
use Rattle.prefix_model.specs.FirstCause.{read_record}
use Rattle.prefix_table.specs.Records.{node_record}
use Rattle.prefix_archive.proofs.Nodes.{child_behind, child_place}
use Rattle.prefix_archive.proofs.map.ArchivedPrefixMap.child_of.Goals as goal

pub fetch-requires : goal.fetch-requires
fetch-requires g c =
    let map = c.args.self.now in
    let r = node_record c.args.node.now in
    let place = child_place c.args.bit c.requires.place in
    let found = child_behind g.T.ValueCodec.codec g.P.R.Bits.WIDTH map.nodes.bytes.now map.values.list.items map.table c.requires.node.0 r c.requires.node.1 c.args.bit place.0 place.1 c.requires.set in
    subst (λ n. r.child_index + n < length map.nodes.bytes.now / 16) (sym c.bits_below-before.ensures.count) found.within

pub returns-clause-child : goal.returns-clause-child
returns-clause-child g c = λ p s h place.
    let map = c.args.self.now in
    let r = node_record c.args.node.now in
    let found = child_behind g.T.ValueCodec.codec g.P.R.Bits.WIDTH map.nodes.bytes.now map.values.list.items map.table p r h c.args.bit s place c.requires.set in
    found.is_of (node_record c.fetch.result) (c.fetch.ensures.record ∙ ap (λ n. read_record (drop (16 * (r.child_index + n)) map.nodes.bytes.now)) c.bits_below-before.ensures.count)
