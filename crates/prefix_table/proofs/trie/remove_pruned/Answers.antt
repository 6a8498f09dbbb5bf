use Rattle.std.proofs.Common.{arith}
use Rattle.prefix_table.proofs.TrieWays.{number_zero}
use Rattle.prefix_table.proofs.TrieRemoves.{removed_all}
use Rattle.prefix_table.proofs.trie.remove_pruned.Goals as goal

pub remove_below-value-requires-clause-named : goal.remove_below-value-requires-clause-named
remove_below-value-requires-clause-named g c = number_zero c.args.trie.now

pub returns : goal.returns
returns g c =
    let whole = g.met.R.Bits.length_law c.args.key in
    let width = c.requires.width in
    removed_all c.args.trie.now c.remove_below-value.new.trie (g.R.Bits.bits c.args.key) c.args.len c.remove_below-value.result.value (omega (arith, whole, width)) c.remove_below-value.ensures.removed
