use Rattle.std.proofs.Common.{◌∙◌}
use Rattle.prefix_table.proofs.TrieWays.{numbered_later, numbered_within}
use Rattle.prefix_table.proofs.trie.node_of.Goals as goal

pub item-requires : goal.item-requires
item-requires g c = numbered_within c.args.trie.now c.args.at c.if-at-eq0.false c.requires.named

pub returns-else-at-eq0 : goal.returns-else-at-eq0
returns-else-at-eq0 g c = numbered_later c.args.trie.now c.args.at c.if-at-eq0.false ∙ c.item.ensures
