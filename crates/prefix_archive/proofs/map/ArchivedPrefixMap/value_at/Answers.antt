use Rattle.std.proofs.Common.{◌*◌, ◌/◌, take, drop, sym, ap, ◌∙◌, arith}
use Rattle.std.specs.FinMap.{get}
use Rattle.prefix_table.specs.Records.{node_record}
use Rattle.prefix_model.proofs.KeyPieces.{take_parts}
use Rattle.prefix_archive.proofs.Nodes.{none_behind}
use Rattle.prefix_archive.proofs.map.ArchivedPrefixMap.value_at.Goals as goal

pub value_of-requires-clause-node : goal.value_of-requires-clause-node
value_of-requires-clause-node g c = (take (c.args.len / 5 * 5) (g.P.R.Bits.bits c.args.key), c.requires.node)

pub returns-then-is_set : goal.returns-then-is_set
returns-then-is_set g c =
    let map = c.args.self.now in
    let bits = g.P.R.Bits.bits c.args.key in
    let d = c.args.len / 5 * 5 in
    sym (ap (get map.table.entries) (sym (take_parts bits d c.args.len (omega arith))) ∙ c.value_of.ensures (take d bits) (drop d (take c.args.len bits)) c.requires.node c.data_bit-bit.ensures.place)

pub returns-else-is_set : goal.returns-else-is_set
returns-else-is_set g c =
    let map = c.args.self.now in
    let bits = g.P.R.Bits.bits c.args.key in
    let d = c.args.len / 5 * 5 in
    sym (ap (get map.table.entries) (sym (take_parts bits d c.args.len (omega arith)))
    ∙ none_behind g.T.ValueCodec.codec g.P.R.Bits.WIDTH map.nodes.bytes.now map.values.list.items map.table (take d bits) (node_record c.args.node.now) c.requires.node c.data_bit-bit.result (drop d (take c.args.len bits)) c.data_bit-bit.ensures.place (sym c.is_set.ensures ∙ c.if-is_set.false))
