use Rattle.std.proofs.Common.{◌∙◌, sym, ap, is_some, subst, arith}
use Rattle.prefix_table.specs.Fills.{IsFilled}
use Rattle.prefix_table.specs.declared.trie.Trie.{Trie}
use Rattle.prefix_model.proofs.Bitmaps.SlotLaws.{ones_some}
use Rattle.prefix_table.proofs.StoreLaws.{ones_within}
use Rattle.prefix_table.proofs.TrieReads.{same_node}
use Rattle.prefix_table.proofs.TrieWays.{number_tells}
use Rattle.prefix_table.proofs.TrieFills.{filled, IsNewList}
use Rattle.prefix_table.proofs.filling.fill_node.Goals as goal

pub node_of-node-requires-clause-named : goal.node_of-node-requires-clause-named
node_of-node-requires-clause-named g c = ap is_some (number_tells c.args.trie.now c.requires.trie c.requires.position.0 c.args.at c.requires.position.1).1.named

pub node_of-node-requires-clause-within : goal.node_of-node-requires-clause-within
node_of-node-requires-clause-within g c = (number_tells c.args.trie.now c.requires.trie c.requires.position.0 c.args.at c.requires.position.1).1.limit

pub add-block-requires-clause-some : goal.add-block-requires-clause-some
add-block-requires-clause-some g c =
    let more = ones_some c.args.data_bits (let some = c.requires.some in λ z. omega (arith, some, z)) in
    let count = c.requires.count in
    omega (arith, more, count)

pub add-block-requires-clause-few : goal.add-block-requires-clause-few
add-block-requires-clause-few g c = let few = ones_within 31 c.args.data_bits c.requires.within in let count = c.requires.count in omega (arith, few, count)

pub set_node-requires-clause-named : goal.set_node-requires-clause-named
set_node-requires-clause-named g c = ap is_some (number_tells c.args.trie.now c.requires.trie c.requires.position.0 c.args.at c.requires.position.1).1.named

pub set_node-requires-clause-within : goal.set_node-requires-clause-within
set_node-requires-clause-within g c = (number_tells c.args.trie.now c.requires.trie c.requires.position.0 c.args.at c.requires.position.1).1.limit

pub returns-clause-filled : goal.returns-clause-filled
returns-clause-filled g c = λ p named.
    let t = c.args.trie.now in
    let n = c.node_of-node.result.now in
    let vs = c.args.values.now.items in
    let here = same_node t c.requires.trie p c.args.at n named c.node_of-node.ensures in
    let list : IsNewList t.values.lists c.add-block.new.self.lists c.args.data_bits c.add-block.result vs = record {
      lists = c.add-block.ensures.lists;
      fresh = c.add-block.ensures.fresh;
      some = (let some = c.requires.some in λ z. omega (arith, some, z));
      count = sym c.args.values.now.ok.0 ∙ c.requires.count;
    } in
    subst (λ (t' : Trie g.row.T.Denot). IsFilled t t' p c.args.data_bits vs) (sym c.set_node.ensures)
    (filled t c.requires.trie p c.args.at n c.args.data_bits c.add-block.result vs c.add-block.new.self named here c.requires.within c.add-block.type_inv list)
