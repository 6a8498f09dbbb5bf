use Rattle.std.proofs.Common.{ap, is_some}
use Rattle.prefix_table.proofs.TrieWays.{number_tells}
use Rattle.prefix_table.proofs.trie.reserve_way.Goals as goal

pub node_of-requires-clause-named : goal.node_of-requires-clause-named
node_of-requires-clause-named g c = ap is_some (number_tells c.args.trie.now c.requires.trie c.requires.position.0 c.args.end.at c.requires.position.1).1.named

pub node_of-requires-clause-within : goal.node_of-requires-clause-within
node_of-requires-clause-within g c = (number_tells c.args.trie.now c.requires.trie c.requires.position.0 c.args.end.at c.requires.position.1).1.limit
