use Rattle.std.proofs.Common.{◌∙◌, sym, ap, is_some, refl, subst, arith, ◌+◌, ◌++◌, count_ones, length}
use Rattle.prefix_table.specs.Writes.{IsStored, with_node}
use Rattle.prefix_table.specs.declared.trie.Trie.{Trie}
use Rattle.prefix_table.proofs.StoreLaws.{items_by_count, grown_in}
use Rattle.prefix_model.proofs.Bitmaps.SlotLaws.{place_at_most, shifted_one, set_within}
use Rattle.prefix_table.proofs.TrieReads.{same_node}
use Rattle.prefix_table.proofs.TrieWays.{number_tells}
use Rattle.prefix_table.proofs.TrieWrites.{value_added, ones_below}
use Rattle.prefix_table.proofs.trie.add_value.Goals as goal

pub node_of-node-requires-clause-named : goal.node_of-node-requires-clause-named
node_of-node-requires-clause-named g c = ap is_some (number_tells c.args.trie.now c.requires.trie c.requires.position.0 c.args.at c.requires.position.1).1.named

pub node_of-node-requires-clause-within : goal.node_of-node-requires-clause-within
node_of-node-requires-clause-within g c = (number_tells c.args.trie.now c.requires.trie c.requires.position.0 c.args.at c.requires.position.1).1.limit

pub insert-block-requires-clause-few : goal.insert-block-requires-clause-few
insert-block-requires-clause-few g c =
    let n = c.node_of-node.result.now in
    let node = c.requires.trie.each c.requires.position.0 n (same_node c.args.trie.now c.requires.trie c.requires.position.0 c.args.at n c.requires.position.1 c.node_of-node.ensures) in
    ones_below n.data_bits c.args.slot 31 (c.requires.clear n c.node_of-node.ensures) node.data_within c.requires.slot (omega arith)

pub insert-block-requires-clause-place : goal.insert-block-requires-clause-place
insert-block-requires-clause-place g c = place_at_most c.node_of-node.result.now.data_bits c.args.slot c.place_of-place.result (count_ones c.node_of-node.result.now.data_bits) refl c.place_of-place.ensures.place

pub insert-block-requires-clause-list : goal.insert-block-requires-clause-list
insert-block-requires-clause-list g c =
    let n = c.node_of-node.result.now in
    let t = c.args.trie.now in
    let node = c.requires.trie.each c.requires.position.0 n (same_node t c.requires.trie c.requires.position.0 c.args.at n c.requires.position.1 c.node_of-node.ensures) in
    ap length (items_by_count t.values.lists n.data_bits n.values) ∙ node.values

pub overflow_add-grown : goal.overflow_add-grown
overflow_add-grown g c =
    let n = c.node_of-node.result.now in
    let node = c.requires.trie.each c.requires.position.0 n (same_node c.args.trie.now c.requires.trie c.requires.position.0 c.args.at n c.requires.position.1 c.node_of-node.ensures) in
    let power = shifted_one c.args.slot (let l = c.requires.slot in omega (arith, l)) in
    let fits = set_within n.data_bits c.args.slot 31 (c.requires.clear n c.node_of-node.ensures) node.data_within c.requires.slot in
    omega (arith, power, fits)

pub set_node-requires-clause-within : goal.set_node-requires-clause-within
set_node-requires-clause-within g c = (number_tells c.args.trie.now c.requires.trie c.requires.position.0 c.args.at c.requires.position.1).1.limit

pub returns : goal.returns
returns g c = λ p s named short is.
    let t = c.args.trie.now in
    let n = c.node_of-node.result.now in
    let here = same_node t c.requires.trie p c.args.at n named c.node_of-node.ensures in
    let power = shifted_one c.args.slot (let l = c.requires.slot in omega (arith, l)) in
    let grown = grown_in t.values.lists c.insert-block.new.self.lists n.data_bits n.values c.insert-block.result c.args.slot c.place_of-place.result c.args.value c.place_of-place.ensures.place c.insert-block.ensures.lists c.insert-block.ensures.fresh in
    let done = value_added t c.requires.trie p s c.args.at n c.args.slot c.insert-block.result c.args.value c.insert-block.new.self named here short is c.requires.slot (c.requires.clear n c.node_of-node.ensures) c.insert-block.type_inv grown in
    subst (λ (t' : Trie g.row.T.Denot). IsStored t t' (p ++ s) c.args.value) (sym (c.set_node.ensures ∙ (λ j. with_node {T = g.row.T.Denot} (record t { values = c.insert-block.new.self }) c.args.at (record n { data_bits = n.data_bits + power j; values = c.insert-block.result })))) done
