use Rattle.prefix_view.proofs.LiveReads.{live_depth}
use Rattle.prefix_view.proofs.trie_ref.TrieRefTrieView.depth.Goals as goal

pub returns : goal.returns
returns g c = live_depth c.args.self.now.place c.args.self.now.prefix_len
