use Rattle.std.proofs.Common.{ap, sym, ◌∙◌, arith, is_some}
use Rattle.prefix_table.specs.Tries.{value_of}
use Rattle.prefix_table.proofs.TrieReads.{same_node, stored_here, stored_nowhere}
use Rattle.prefix_table.proofs.TrieWays.{number_tells}
use Rattle.prefix_table.proofs.trie.get_at.Goals as goal

pub returns-then-len-end-ge5 : goal.returns-then-len-end-ge5
returns-then-len-end-ge5 g c =
    let bits = g.R.Bits.bits c.args.key in
    let whole = g.met.R.Bits.length_law c.args.key in
    let way = c.way_to-end.ensures in
    sym (stored_nowhere c.args.trie.now bits c.way_to-end.result.depth c.args.len way.at_five (omega arith) (omega (arith, whole)) (way.ends (omega arith)))

pub node_of-requires-clause-named : goal.node_of-requires-clause-named
node_of-requires-clause-named g c = ap is_some (number_tells c.args.trie.now c.requires.trie _ c.way_to-end.result.at c.way_to-end.ensures.here).1.named

pub node_of-requires-clause-within : goal.node_of-requires-clause-within
node_of-requires-clause-within g c = (number_tells c.args.trie.now c.requires.trie _ c.way_to-end.result.at c.way_to-end.ensures.here).1.limit

pub value_at-requires-clause-count : goal.value_at-requires-clause-count
value_at-requires-clause-count g c =
    (c.requires.trie.each _ _ (same_node c.args.trie.now c.requires.trie _ c.way_to-end.result.at c.node_of.result.now c.way_to-end.ensures.here c.node_of.ensures)).values

pub returns : goal.returns
returns g c =
    let bits = g.R.Bits.bits c.args.key in
    let whole = g.met.R.Bits.length_law c.args.key in
    let way = c.way_to-end.ensures in
    let t = c.args.trie.now in
    let here = same_node t c.requires.trie _ c.way_to-end.result.at c.node_of.result.now way.here c.node_of.ensures in
    c.value_at.ensures ∙ ap (value_of t c.node_of.result.now) c.slot_of.ensures.value
    ∙ sym (stored_here t bits c.way_to-end.result.depth c.args.len c.node_of.result.now way.at_five way.from (omega arith) (omega (arith, whole)) here)
