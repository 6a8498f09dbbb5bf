use Rattle.std.proofs.Common.{arith}
use Rattle.prefix_table.proofs.TrieInserts.{entered}
use Rattle.prefix_table.proofs.trie.insert_from.Goals as goal

pub returns-else-len-end-ge5 : goal.returns-else-len-end-ge5
returns-else-len-end-ge5 g c =
    let bits = g.R.Bits.bits c.args.key in
    let whole = g.met.R.Bits.length_law c.args.key in
    entered c.args.trie.now c.put.new.trie c.requires.trie bits c.args.len c.args.end.at c.args.end.depth c.slot_of.result (omega (arith, whole)) c.requires.way (omega arith) c.slot_of.ensures.value c.args.value c.put.result c.put.ensures
