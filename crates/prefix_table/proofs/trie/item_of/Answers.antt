use Rattle.prefix_table.proofs.TrieReads.{place_held, value_read}
use Rattle.prefix_table.proofs.trie.item_of.Goals as goal

pub item-requires : goal.item-requires
item-requires g c = place_held c.args.trie.now.values.lists c.args.node.now.data_bits c.args.node.now.values c.args.slot c.place_of.result c.requires.set c.requires.count c.place_of.ensures.place

pub returns : goal.returns
returns g c = value_read c.args.trie.now c.args.node.now c.args.slot c.place_of.result c.item.result.now c.requires.set c.place_of.ensures.place c.item.ensures
