use Rattle.std.proofs.Common.{◌∙◌, sym, ap, is_some, refl, subst, arith, ◌≡◌, ◌^◌, ◌-◌, ◌*◌, ◌%◌, ℕ, ◌++◌, count_ones, length}
use Rattle.prefix_table.specs.Writes.{IsTaken, with_node}
use Rattle.prefix_table.specs.declared.trie.Trie.{Trie}
use Rattle.prefix_table.proofs.StoreLaws.{bit_split, split_less, shrunk_in}
use Rattle.prefix_model.proofs.Bitmaps.SlotLaws.{place_within, shifted_one}
use Rattle.prefix_table.proofs.TrieReads.{same_node, value_read}
use Rattle.prefix_table.proofs.TrieWays.{number_tells}
use Rattle.prefix_table.proofs.TrieWrites.{value_taken}
use Rattle.prefix_table.proofs.TrieWays.{items_some, bits_some}
use Rattle.prefix_table.specs.Tries.{number_at}
use Rattle.prefix_table.proofs.TrieClears.{value_numbers}
use Rattle.prefix_table.proofs.trie.take_value.Goals as goal

pub node_of-node-requires-clause-named : goal.node_of-node-requires-clause-named
node_of-node-requires-clause-named g c = ap is_some (number_tells c.args.trie.now c.requires.trie c.requires.position.0 c.args.at c.requires.position.1).1.named

pub node_of-node-requires-clause-within : goal.node_of-node-requires-clause-within
node_of-node-requires-clause-within g c = (number_tells c.args.trie.now c.requires.trie c.requires.position.0 c.args.at c.requires.position.1).1.limit

pub remove-value-requires-clause-place : goal.remove-value-requires-clause-place
remove-value-requires-clause-place g c =
    let n = c.node_of-node.result.now in
    place_within n.data_bits c.args.slot c.place_of.result (count_ones n.data_bits) refl (c.requires.set n c.node_of-node.ensures) c.place_of.ensures.place

pub remove-value-requires-clause-list : goal.remove-value-requires-clause-list
remove-value-requires-clause-list g c =
    let t = c.args.trie.now in
    let n = c.node_of-node.result.now in
    let node = c.requires.trie.each c.requires.position.0 n (same_node t c.requires.trie c.requires.position.0 c.args.at n c.requires.position.1 c.node_of-node.ensures) in
    ap length (sym (items_some t.values.lists n.data_bits n.values (bits_some n.data_bits c.args.slot (c.requires.set n c.node_of-node.ensures)))) ∙ node.values

pub overflow_sub-left : goal.overflow_sub-left
overflow_sub-left g c =
    let n = c.node_of-node.result.now in
    let power = shifted_one c.args.slot (let l = c.requires.slot in omega (arith, l)) in
    let split = (bit_split n.data_bits c.args.slot (c.requires.set n c.node_of-node.ensures)).1.bits_are in
    omega (arith, power, split)

pub set_node-requires-clause-within : goal.set_node-requires-clause-within
set_node-requires-clause-within g c = (number_tells c.args.trie.now c.requires.trie c.requires.position.0 c.args.at c.requires.position.1).1.limit

pub returns-clause-taken : goal.returns-clause-taken
returns-clause-taken g c = λ p s named short is.
    let t = c.args.trie.now in
    let n = c.node_of-node.result.now in
    let set = c.requires.set n c.node_of-node.ensures in
    let here = same_node t c.requires.trie p c.args.at n named c.node_of-node.ensures in
    let power = shifted_one c.args.slot (let l = c.requires.slot in omega (arith, l)) in
    let split = bit_split n.data_bits c.args.slot set in
    let less : n.data_bits - 1 * 2 ^ c.args.slot % 2 ^ 32 ≡ split.0 = ap (λ (k : ℕ). n.data_bits - k) power ∙ split_less n.data_bits c.args.slot split.0 split.1 in
    let shrunk = shrunk_in t.values.lists c.remove-value.new.self.lists n.data_bits n.values split.0 c.args.slot c.place_of.result c.remove-value.result split.1 c.place_of.ensures.place c.remove-value.ensures.value (c.requires.trie.each p n here).values c.remove-value.ensures.lists in
    let read = value_read t n c.args.slot c.place_of.result c.remove-value.result set c.place_of.ensures.place c.remove-value.ensures.value in
    let done = value_taken t c.requires.trie p s c.args.at n c.args.slot split.0 c.remove-value.result c.remove-value.new.self named here short is set read shrunk in
    subst (λ (t' : Trie g.row.T.Denot). IsTaken t t' (p ++ s) c.remove-value.result) (sym (c.set_node.ensures ∙ (λ j. with_node {T = g.row.T.Denot} (record t { values = c.remove-value.new.self }) c.args.at (record n { data_bits = less j })))) done

pub returns-clause-numbers : goal.returns-clause-numbers
returns-clause-numbers g c = λ p q r named whole.
    let t = c.args.trie.now in
    let n = c.node_of-node.result.now in
    let set = c.requires.set n c.node_of-node.ensures in
    let here = same_node t c.requires.trie p c.args.at n named c.node_of-node.ensures in
    let power = shifted_one c.args.slot (let l = c.requires.slot in omega (arith, l)) in
    let split = bit_split n.data_bits c.args.slot set in
    let less : n.data_bits - 1 * 2 ^ c.args.slot % 2 ^ 32 ≡ split.0 = ap (λ (k : ℕ). n.data_bits - k) power ∙ split_less n.data_bits c.args.slot split.0 split.1 in
    let shrunk = shrunk_in t.values.lists c.remove-value.new.self.lists n.data_bits n.values split.0 c.args.slot c.place_of.result c.remove-value.result split.1 c.place_of.ensures.place c.remove-value.ensures.value (c.requires.trie.each p n here).values c.remove-value.ensures.lists in
    let done = value_numbers t c.requires.trie p c.args.at n c.args.slot split.0 c.remove-value.result c.remove-value.new.self named here set shrunk in
    ap (λ (t' : Trie g.row.T.Denot). number_at t' q) (c.set_node.ensures ∙ (λ j. with_node {T = g.row.T.Denot} (record t { values = c.remove-value.new.self }) c.args.at (record n { data_bits = less j }))) ∙ done q r whole
