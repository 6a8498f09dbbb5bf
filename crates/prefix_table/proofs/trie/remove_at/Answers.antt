use Rattle.std.proofs.Common.{take, arith}
use Rattle.prefix_table.proofs.TrieReads.{stored_nowhere}
use Rattle.prefix_table.proofs.TrieRemoves.{removed_none, removed_at}
use Rattle.prefix_table.proofs.trie.remove_at.Goals as goal

pub returns-then-len-end-ge5 : goal.returns-then-len-end-ge5
returns-then-len-end-ge5 g c =
    let bits = g.R.Bits.bits c.args.key in
    let whole = g.met.R.Bits.length_law c.args.key in
    let way = c.way_to-end.ensures in
    removed_none c.args.trie.now c.requires.trie (take c.args.len bits) (stored_nowhere c.args.trie.now bits c.way_to-end.result.depth c.args.len way.at_five (omega arith) (omega (arith, whole)) (way.ends (omega arith)))

pub returns : goal.returns
returns g c =
    let bits = g.R.Bits.bits c.args.key in
    let whole = g.met.R.Bits.length_law c.args.key in
    let way = c.way_to-end.ensures in
    removed_at c.args.trie.now c.take_at.new.trie bits c.args.len c.way_to-end.result.at c.way_to-end.result.depth c.slot_of.result (omega (arith, whole)) way.from way.here (omega arith) c.slot_of.ensures.value c.take_at.result c.take_at.ensures.removed
