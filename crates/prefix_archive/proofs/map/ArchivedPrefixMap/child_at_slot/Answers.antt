use Rattle.std.proofs.Common.{sym, ◌∙◌}
use Rattle.prefix_table.specs.Records.{node_record}
use Rattle.prefix_model.specs.Keys.{low_bits}
use Rattle.prefix_archive.proofs.Nodes.{no_child_behind}
use Rattle.prefix_archive.proofs.Cursors.{slot_place}
use Rattle.prefix_archive.proofs.map.ArchivedPrefixMap.child_at_slot.Goals as goal

pub returns-then-is_set-clause-child : goal.returns-then-is_set-clause-child
returns-then-is_set-clause-child g c = λ p h.
    c.child_of.ensures.child p (low_bits 5 c.args.slot) h (slot_place c.args.slot c.requires.slot)

pub returns-else-is_set-clause-child : goal.returns-else-is_set-clause-child
returns-else-is_set-clause-child g c = λ p h.
    let map = c.args.self.now in
    no_child_behind g.T.ValueCodec.codec g.P.R.Bits.WIDTH map.nodes.bytes.now map.values.list.items map.table p (node_record c.args.node.now) h c.args.slot (low_bits 5 c.args.slot) (slot_place c.args.slot c.requires.slot) (sym c.is_set.ensures ∙ c.if-is_set.false)
