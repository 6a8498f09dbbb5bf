use Rattle.std.proofs.Common.{◌++◌, ap, sym, ◌∙◌}
use Rattle.std.specs.FinMap as map
use Rattle.prefix_view.specs.LiveViews.{seen_at}
use Rattle.prefix_view.proofs.LiveReads.{live_is_named, live_position}
use Rattle.prefix_model.proofs.Viewing.ViewBits.{data_of_node}
use Rattle.prefix_view.proofs.trie_ref.TrieRefTrieView.get_data.Goals as goal

pub value-requires-clause-named : goal.value-requires-clause-named
value-requires-clause-named g c = live_is_named _ c.args.self.now.table.now c.args.self.now.at c.args.self.now.place c.args.self.now.prefix_len c.args.self.now.placed c.of_number.result c.of_number.ensures

pub value-requires-clause-set : goal.value-requires-clause-set
value-requires-clause-set g c = data_of_node (seen_at c.args.self.now.table.now c.args.self.now.place c.args.self.now.prefix_len) _ (live_position _ c.args.self.now.table.now c.args.self.now.at c.args.self.now.place c.args.self.now.prefix_len c.args.self.now.placed c.of_number.result c.of_number.ensures) c.args.data_bit c.requires

pub returns : goal.returns
returns g c = λ s e. ap (λ p. map.get c.args.self.now.table.now.entries (p ++ s)) (sym (live_position _ c.args.self.now.table.now c.args.self.now.at c.args.self.now.place c.args.self.now.prefix_len c.args.self.now.placed c.of_number.result c.of_number.ensures)) ∙ c.value.ensures s e
