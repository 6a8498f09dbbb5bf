use Rattle.std.proofs.Common.{sym, ◌∙◌}
use Rattle.std.proofs.lemmas.Nat.Bits.{shr_and_one}
use Rattle.prefix_table.specs.NodeLists.{items_of}
use Rattle.prefix_model.proofs.Bitmaps.SlotLaws.{picked_clear}
use Rattle.prefix_table.proofs.trie.value_at.Goals as goal

pub returns-else-node-slot-eq1 : goal.returns-else-node-slot-eq1
returns-else-node-slot-eq1 g c = sym (picked_clear c.args.node.now.data_bits (items_of c.args.trie.now.values.lists c.args.node.now.data_bits c.args.node.now.values) c.args.slot (λ one. c.if-node-slot-eq1.false (shr_and_one c.args.node.now.data_bits c.args.slot ∙ one)))
