use Rattle.std.proofs.Math.Logic.{∥∥₁_prop}
use Rattle.prefix_view.proofs.trie_ref.TrieRefClone.clone.Goals as goal

pub returns : goal.returns
returns g c = record { cases = λ i. record { table = c.args.self.now.table; at = c.args.self.now.at; place = c.args.self.now.place; prefix_len = c.args.self.now.prefix_len; prefix = c.args.self.now.prefix; placed = ∥∥₁_prop c.result-1.given.0 c.args.self.now.placed i } }
