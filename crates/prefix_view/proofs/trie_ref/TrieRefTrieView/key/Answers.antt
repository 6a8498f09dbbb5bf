use Rattle.prefix_view.specs.LiveLaws.{live_within}
use Rattle.prefix_view.proofs.LiveReads.{live_small}
use Rattle.prefix_view.proofs.trie_ref.TrieRefTrieView.key.Goals as goal

pub key_of_number-requires-clause-within : goal.key_of_number-requires-clause-within
key_of_number-requires-clause-within g c = live_within _ c.args.self.now.table.now c.args.self.now.at c.args.self.now.place c.args.self.now.prefix_len c.args.self.now.placed

pub key_of_number-requires-clause-small : goal.key_of_number-requires-clause-small
key_of_number-requires-clause-small g c = live_small _ c.args.self.now.table.now c.args.self.now.at c.args.self.now.place c.args.self.now.prefix_len c.args.self.now.placed
