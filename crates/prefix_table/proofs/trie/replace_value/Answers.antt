use Rattle.std.proofs.Common.{sym, subst, slice_get, ◌≡◌, Some}
use Rattle.prefix_table.specs.NodeLists.{block}
use Rattle.prefix_table.proofs.TrieReads.{place_held, value_read}
use Rattle.prefix_table.proofs.trie.replace_value.Goals as goal

pub item_mut-requires : goal.item_mut-requires
item_mut-requires g c = place_held c.args.trie.now.values.lists c.args.node.data_bits c.args.node.values c.args.slot c.place_of.result c.requires.set c.requires.count c.place_of.ensures.place

pub returns-clause-before : goal.returns-clause-before
returns-clause-before g c =
    value_read c.args.trie.now c.args.node c.args.slot c.place_of.result c.replace.result c.requires.set c.place_of.ensures.place
    (subst (λ (x : g.row.T.Denot). slice_get (block c.args.trie.now.values.lists c.args.node.values) c.place_of.result ≡ Some x) (sym c.replace.ensures.value) c.item_mut.ensures.value)
