use Rattle.std.proofs.Common.{◌+◌, ◌<◌, length, sym, ap, ◌∙◌, subst}
use Rattle.std.specs.Prelude.{slice_get}
use Rattle.std.proofs.lemmas.Option.{slice_get_within}
use Rattle.prefix_table.specs.Records.{node_record}
use Rattle.prefix_model.proofs.Bitmaps.NodeBits.{data_place}
use Rattle.prefix_archive.proofs.Nodes.{value_behind}
use Rattle.prefix_archive.proofs.map.ArchivedPrefixMap.value_of.Goals as goal

pub at-requires : goal.at-requires
at-requires g c =
    let map = c.args.self.now in
    let r = node_record c.args.node.now in
    let place = data_place c.args.bit c.requires.place in
    let found = value_behind g.T.ValueCodec.codec g.P.R.Bits.WIDTH map.nodes.bytes.now map.values.list.items map.table c.requires.node.0 r c.requires.node.1 c.args.bit place.0 place.1 c.requires.set in
    subst (λ n. r.data_index + n < length map.values.list.items) (sym c.bits_below-before.ensures.count) (slice_get_within map.values.list.items _ found.value found.here)

pub returns : goal.returns
returns g c = λ p s h place.
    let map = c.args.self.now in
    let r = node_record c.args.node.now in
    let found = value_behind g.T.ValueCodec.codec g.P.R.Bits.WIDTH map.nodes.bytes.now map.values.list.items map.table p r h c.args.bit s place c.requires.set in
    found.stored ∙ sym found.here ∙ ap (λ n. slice_get map.values.list.items (r.data_index + n)) (sym c.bits_below-before.ensures.count) ∙ c.at.ensures
