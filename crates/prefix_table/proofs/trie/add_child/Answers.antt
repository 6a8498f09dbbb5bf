use Rattle.std.proofs.Common.{◌∙◌, sym, ap, is_some, refl, subst, arith, ◌≡◌, ◌+◌, ◌≤◌, ◌*◌, ℕ, ◌++◌, count_ones, length}
use Rattle.prefix_table.specs.Writes.{IsAdded, with_node}
use Rattle.prefix_table.specs.declared.trie.Trie.{Trie}
use Rattle.prefix_table.proofs.StoreLaws.{items_by_count, grown_in}
use Rattle.prefix_model.proofs.Bitmaps.SlotLaws.{place_at_most, shifted_one, set_within}
use Rattle.prefix_model.specs.Keys.{KeyBits, low_bits}
use Rattle.prefix_model.specs.Slots.{place}
use Rattle.prefix_table.proofs.TrieNew.{bare}
use Rattle.prefix_table.proofs.TrieReads.{same_node}
use Rattle.prefix_table.proofs.TrieWays.{number_tells, number_apart}
use Rattle.prefix_table.proofs.TrieWrites.{child_added, child_ready, more_children, ones_below}
use Rattle.prefix_table.proofs.TrieChanges.{still_numbered}
use Rattle.prefix_table.proofs.trie.add_child.Goals as goal

pub node_of-node-requires-clause-named : goal.node_of-node-requires-clause-named
node_of-node-requires-clause-named g c = ap is_some (number_tells c.args.trie.now c.requires.trie c.requires.position.0 c.args.at c.requires.position.1).1.named

pub node_of-node-requires-clause-within : goal.node_of-node-requires-clause-within
node_of-node-requires-clause-within g c = (number_tells c.args.trie.now c.requires.trie c.requires.position.0 c.args.at c.requires.position.1).1.limit

pub insert-block-requires-clause-few : goal.insert-block-requires-clause-few
insert-block-requires-clause-few g c =
    let n = c.node_of-node.result.now in
    let node = c.requires.trie.each c.requires.position.0 n (same_node c.args.trie.now c.requires.trie c.requires.position.0 c.args.at n c.requires.position.1 c.node_of-node.ensures) in
    ones_below n.child_bits c.args.slot 32 (c.requires.clear n c.node_of-node.ensures) node.child_within c.requires.slot (omega arith)

pub insert-block-requires-clause-place : goal.insert-block-requires-clause-place
insert-block-requires-clause-place g c = place_at_most c.node_of-node.result.now.child_bits c.args.slot c.place_of-place.result (count_ones c.node_of-node.result.now.child_bits) refl c.place_of-place.ensures.place

pub insert-block-requires-clause-list : goal.insert-block-requires-clause-list
insert-block-requires-clause-list g c =
    let n = c.node_of-node.result.now in
    let t = c.args.trie.now in
    let node = c.requires.trie.each c.requires.position.0 n (same_node t c.requires.trie c.requires.position.0 c.args.at n c.requires.position.1 c.node_of-node.ensures) in
    ap length (items_by_count t.nodes.lists n.child_bits n.children) ∙ node.children

pub overflow_add-grown : goal.overflow_add-grown
overflow_add-grown g c =
    let n = c.node_of-node.result.now in
    let node = c.requires.trie.each c.requires.position.0 n (same_node c.args.trie.now c.requires.trie c.requires.position.0 c.args.at n c.requires.position.1 c.node_of-node.ensures) in
    let power = shifted_one c.args.slot c.requires.slot in
    let fits = set_within n.child_bits c.args.slot 32 (c.requires.clear n c.node_of-node.ensures) node.child_within c.requires.slot in
    omega (arith, power, fits)

pub set_node-requires-clause-within : goal.set_node-requires-clause-within
set_node-requires-clause-within g c = (number_tells c.args.trie.now c.requires.trie c.requires.position.0 c.args.at c.requires.position.1).1.limit

pub overflow_mul-result : goal.overflow_mul-result
overflow_mul-result g c = let l = c.insert-block.type_inv in omega (arith, l)

pub overflow_add-result : goal.overflow_add-result
overflow_add-result g c = let l = c.insert-block.type_inv in let m = c.place_of-place.ensures.limit in omega (arith, l, m)

pub set_node-requires-clause-named : goal.set_node-requires-clause-named
set_node-requires-clause-named g c =
    let t = c.args.trie.now in
    let n = c.node_of-node.result.now in
    let p = c.requires.position.0 in
    let here = same_node t c.requires.trie p c.args.at n c.requires.position.1 c.node_of-node.ensures in
    let grown = grown_in t.nodes.lists c.insert-block.new.self.lists n.child_bits n.children c.insert-block.result c.args.slot c.place_of-place.result bare c.place_of-place.ensures.place c.insert-block.ensures.lists c.insert-block.ensures.fresh in
    still_numbered t (record t { nodes = c.insert-block.new.self }) c.requires.trie p c.args.at (more_children n c.args.slot c.insert-block.result) c.requires.position.1
    (child_ready t c.requires.trie p n c.args.slot c.insert-block.result c.insert-block.new.self here c.requires.slot (c.requires.clear n c.node_of-node.ensures) c.insert-block.type_inv grown)

pub returns-clause-added : goal.returns-clause-added
returns-clause-added g c = λ p named.
    let t = c.args.trie.now in
    let n = c.node_of-node.result.now in
    let here = same_node t c.requires.trie p c.args.at n named c.node_of-node.ensures in
    let power = shifted_one c.args.slot c.requires.slot in
    let one = number_apart t c.requires.trie p c.requires.position.0 c.args.at named c.requires.position.1 in
    let short : length p ≤ 120 = subst (λ (q : KeyBits). length q ≤ 120) (sym one) c.requires.position.2 in
    let grown = grown_in t.nodes.lists c.insert-block.new.self.lists n.child_bits n.children c.insert-block.result c.args.slot c.place_of-place.result bare c.place_of-place.ensures.place c.insert-block.ensures.lists c.insert-block.ensures.fresh in
    let number_is : c.insert-block.result * 32 + c.place_of-place.result + 1 ≡ c.insert-block.result * 32 + place n.child_bits c.args.slot + 1 = ap (λ (k : ℕ). c.insert-block.result * 32 + k + 1) c.place_of-place.ensures.place in
    let done = child_added t c.requires.trie p c.args.at n c.args.slot c.insert-block.result (c.insert-block.result * 32 + c.place_of-place.result + 1) c.insert-block.new.self named here short c.requires.slot (c.requires.clear n c.node_of-node.ensures) c.insert-block.type_inv number_is grown in
    subst (λ (t' : Trie g.row.T.Denot). IsAdded t t' (p ++ low_bits 5 c.args.slot) (c.insert-block.result * 32 + c.place_of-place.result + 1)) (sym (c.set_node.ensures ∙ (λ j. with_node {T = g.row.T.Denot} (record t { nodes = c.insert-block.new.self }) c.args.at (record n { child_bits = n.child_bits + power j; children = c.insert-block.result })))) done
