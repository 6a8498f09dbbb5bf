use Rattle.std.proofs.Common.{ap, sym, ◌∙◌, arith, is_some}
use Rattle.std.proofs.lemmas.Nat.Bits.{shr_and_one}
use Rattle.prefix_table.specs.NodeLists.{items_of}
use Rattle.prefix_table.specs.Tries.{value_of}
use Rattle.prefix_model.proofs.Bitmaps.SlotLaws.{picked_clear}
use Rattle.prefix_table.proofs.TrieReads.{same_node, stored_here, stored_nowhere}
use Rattle.prefix_table.proofs.TrieInserts.{value_found}
use Rattle.prefix_table.proofs.TrieWays.{number_tells}
use Rattle.prefix_table.proofs.trie.find_value.Goals as goal

pub returns-then-len-end-ge5 : goal.returns-then-len-end-ge5
returns-then-len-end-ge5 g c =
    let bits = g.R.Bits.bits c.args.key in
    let whole = g.met.R.Bits.length_law c.args.key in
    let way = c.way_to-end.ensures in
    stored_nowhere c.args.trie.now bits c.way_to-end.result.depth c.args.len way.at_five (omega arith) (omega (arith, whole)) (way.ends (omega arith))

pub node_of-node-requires-clause-named : goal.node_of-node-requires-clause-named
node_of-node-requires-clause-named g c = ap is_some (number_tells c.args.trie.now c.requires.trie _ c.way_to-end.result.at c.way_to-end.ensures.here).1.named

pub node_of-node-requires-clause-within : goal.node_of-node-requires-clause-within
node_of-node-requires-clause-within g c = (number_tells c.args.trie.now c.requires.trie _ c.way_to-end.result.at c.way_to-end.ensures.here).1.limit

pub returns-then-node-slot-eq1 : goal.returns-then-node-slot-eq1
returns-then-node-slot-eq1 g c =
    let bits = g.R.Bits.bits c.args.key in
    let whole = g.met.R.Bits.length_law c.args.key in
    let n = c.node_of-node.result.now in
    let set = sym (shr_and_one n.data_bits c.slot_of-slot.result) ∙ c.if-node-slot-eq1.true in
    value_found c.args.trie.now c.requires.trie bits c.args.len c.way_to-end.result.at c.way_to-end.result.depth c.slot_of-slot.result c.place_of.result n (omega (arith, whole)) c.way_to-end.ensures (omega arith) c.slot_of-slot.ensures.value c.node_of-node.ensures set c.place_of.ensures.place

pub returns-else-node-slot-eq1 : goal.returns-else-node-slot-eq1
returns-else-node-slot-eq1 g c =
    let t = c.args.trie.now in
    let n = c.node_of-node.result.now in
    let bits = g.R.Bits.bits c.args.key in
    let whole = g.met.R.Bits.length_law c.args.key in
    let way = c.way_to-end.ensures in
    let here = same_node t c.requires.trie _ c.way_to-end.result.at n way.here c.node_of-node.ensures in
    stored_here t bits c.way_to-end.result.depth c.args.len n way.at_five way.from (omega arith) (omega (arith, whole)) here
    ∙ ap (value_of t n) (sym c.slot_of-slot.ensures.value)
    ∙ picked_clear n.data_bits (items_of t.values.lists n.data_bits n.values) c.slot_of-slot.result (λ one. c.if-node-slot-eq1.false (shr_and_one n.data_bits c.slot_of-slot.result ∙ one))
