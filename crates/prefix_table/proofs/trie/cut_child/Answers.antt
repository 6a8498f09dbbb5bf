use Rattle.std.proofs.Common.{◌∙◌, sym, ap, is_some, refl, subst, arith, ◌≡◌, ◌^◌, ◌-◌, ◌*◌, ◌%◌, ℕ, ◌++◌, count_ones, length}
use Rattle.prefix_table.specs.NodeLists.{block}
use Rattle.prefix_table.specs.Writes.{IsCut, with_node}
use Rattle.prefix_table.specs.declared.trie.Trie.{Trie}
use Rattle.prefix_table.proofs.StoreLaws.{bit_split, split_less, shrunk_in}
use Rattle.prefix_model.proofs.Bitmaps.SlotLaws.{place_within, shifted_one}
use Rattle.prefix_table.proofs.TrieReads.{same_node}
use Rattle.prefix_table.proofs.TrieWays.{number_tells}
use Rattle.prefix_table.proofs.TrieWrites.{child_cut, child_left, less_children, child_set}
use Rattle.prefix_table.proofs.TrieWays.{items_some, bits_some, is_child}
use Rattle.prefix_table.proofs.TrieChanges.{still_numbered}
use Rattle.prefix_model.specs.Keys.{low_bits}
use Rattle.std.proofs.lemmas.Option.{same_Some}
use Rattle.std.specs.Prelude.{slice_get}
use Rattle.prefix_table.specs.Tries.{number_at}
use Rattle.prefix_table.proofs.TrieClears.{child_numbers}
use Rattle.prefix_table.proofs.trie.cut_child.Goals as goal

pub node_of-node-requires-clause-named : goal.node_of-node-requires-clause-named
node_of-node-requires-clause-named g c = ap is_some (number_tells c.args.trie.now c.requires.trie c.requires.position.0 c.args.at c.requires.position.1).1.named

pub node_of-node-requires-clause-within : goal.node_of-node-requires-clause-within
node_of-node-requires-clause-within g c = (number_tells c.args.trie.now c.requires.trie c.requires.position.0 c.args.at c.requires.position.1).1.limit

pub remove-leaf-requires-clause-place : goal.remove-leaf-requires-clause-place
remove-leaf-requires-clause-place g c =
    let n = c.node_of-node.result.now in
    place_within n.child_bits c.args.slot c.place_of.result (count_ones n.child_bits) refl (child_set c.args.trie.now n c.args.slot (c.requires.child n c.node_of-node.ensures)) c.place_of.ensures.place

pub remove-leaf-requires-clause-list : goal.remove-leaf-requires-clause-list
remove-leaf-requires-clause-list g c =
    let t = c.args.trie.now in
    let n = c.node_of-node.result.now in
    let node = c.requires.trie.each c.requires.position.0 n (same_node t c.requires.trie c.requires.position.0 c.args.at n c.requires.position.1 c.node_of-node.ensures) in
    ap length (sym (items_some t.nodes.lists n.child_bits n.children (bits_some n.child_bits c.args.slot (child_set c.args.trie.now n c.args.slot (c.requires.child n c.node_of-node.ensures))))) ∙ node.children

pub overflow_sub-left : goal.overflow_sub-left
overflow_sub-left g c =
    let n = c.node_of-node.result.now in
    let power = shifted_one c.args.slot c.requires.slot in
    let split = (bit_split n.child_bits c.args.slot (child_set c.args.trie.now n c.args.slot (c.requires.child n c.node_of-node.ensures))).1.bits_are in
    omega (arith, power, split)

pub set_node-requires-clause-within : goal.set_node-requires-clause-within
set_node-requires-clause-within g c = (number_tells c.args.trie.now c.requires.trie c.requires.position.0 c.args.at c.requires.position.1).1.limit

pub set_node-requires-clause-named : goal.set_node-requires-clause-named
set_node-requires-clause-named g c =
    let t = c.args.trie.now in
    let n = c.node_of-node.result.now in
    let p = c.requires.position.0 in
    let set = child_set t n c.args.slot (c.requires.child n c.node_of-node.ensures) in
    let here = same_node t c.requires.trie p c.args.at n c.requires.position.1 c.node_of-node.ensures in
    let split = bit_split n.child_bits c.args.slot set in
    let shrunk = shrunk_in t.nodes.lists c.remove-leaf.new.self.lists n.child_bits n.children split.0 c.args.slot c.place_of.result c.remove-leaf.result split.1 c.place_of.ensures.place c.remove-leaf.ensures.value (c.requires.trie.each p n here).children c.remove-leaf.ensures.lists in
    still_numbered t (record t { nodes = c.remove-leaf.new.self }) c.requires.trie p c.args.at (less_children n split.0) c.requires.position.1
    (child_left t c.requires.trie p n c.args.slot split.0 c.remove-leaf.result c.remove-leaf.new.self here set shrunk)

pub returns-clause-cut : goal.returns-clause-cut
returns-clause-cut g c = λ p named.
    let t = c.args.trie.now in
    let n = c.node_of-node.result.now in
    let bare = c.requires.child n c.node_of-node.ensures in
    let set = child_set t n c.args.slot bare in
    let here = same_node t c.requires.trie p c.args.at n named c.node_of-node.ensures in
    let power = shifted_one c.args.slot c.requires.slot in
    let split = bit_split n.child_bits c.args.slot set in
    let less : n.child_bits - 1 * 2 ^ c.args.slot % 2 ^ 32 ≡ split.0 = ap (λ (k : ℕ). n.child_bits - k) power ∙ split_less n.child_bits c.args.slot split.0 split.1 in
    let item = ap (slice_get (block t.nodes.lists n.children)) c.place_of.ensures.place ∙ (is_child t n c.args.slot bare.leaf bare.is_child).item in
    let leaf : c.remove-leaf.result ≡ bare.leaf = same_Some _ _ (sym c.remove-leaf.ensures.value ∙ item) in
    let shrunk = shrunk_in t.nodes.lists c.remove-leaf.new.self.lists n.child_bits n.children split.0 c.args.slot c.place_of.result bare.leaf split.1 c.place_of.ensures.place item (c.requires.trie.each p n here).children c.remove-leaf.ensures.lists in
    let done = child_cut t c.requires.trie p c.args.at n c.args.slot split.0 bare.leaf c.remove-leaf.new.self named here c.requires.slot set bare.is_child bare.no_data bare.no_children shrunk in
    subst (λ (t' : Trie g.row.T.Denot). IsCut t t' (p ++ low_bits 5 c.args.slot)) (sym (c.set_node.ensures ∙ (λ j. with_node {T = g.row.T.Denot} (record t { nodes = c.remove-leaf.new.self }) c.args.at (record n { child_bits = less j })))) done

pub returns-clause-numbers : goal.returns-clause-numbers
returns-clause-numbers g c = λ p q r named whole.
    let t = c.args.trie.now in
    let n = c.node_of-node.result.now in
    let bare = c.requires.child n c.node_of-node.ensures in
    let set = child_set t n c.args.slot bare in
    let here = same_node t c.requires.trie p c.args.at n named c.node_of-node.ensures in
    let power = shifted_one c.args.slot c.requires.slot in
    let split = bit_split n.child_bits c.args.slot set in
    let less : n.child_bits - 1 * 2 ^ c.args.slot % 2 ^ 32 ≡ split.0 = ap (λ (k : ℕ). n.child_bits - k) power ∙ split_less n.child_bits c.args.slot split.0 split.1 in
    let item = ap (slice_get (block t.nodes.lists n.children)) c.place_of.ensures.place ∙ (is_child t n c.args.slot bare.leaf bare.is_child).item in
    let shrunk = shrunk_in t.nodes.lists c.remove-leaf.new.self.lists n.child_bits n.children split.0 c.args.slot c.place_of.result bare.leaf split.1 c.place_of.ensures.place item (c.requires.trie.each p n here).children c.remove-leaf.ensures.lists in
    let done = child_numbers t c.requires.trie p c.args.at n c.args.slot split.0 bare.leaf c.remove-leaf.new.self named here c.requires.slot set bare.is_child bare.no_data bare.no_children shrunk in
    ap (λ (t' : Trie g.row.T.Denot). number_at t' q) (c.set_node.ensures ∙ (λ j. with_node {T = g.row.T.Denot} (record t { nodes = c.remove-leaf.new.self }) c.args.at (record n { child_bits = less j }))) ∙ done q r whole
