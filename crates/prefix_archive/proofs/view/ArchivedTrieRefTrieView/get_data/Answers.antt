use Rattle.std.proofs.Common.{◌++◌, ap, sym, ◌∙◌}
use Rattle.std.specs.FinMap as map
use Rattle.prefix_model.specs.Keys.{low_bits}
use Rattle.prefix_model.proofs.Viewing.ViewBits.{data_limit, data_of_node}
use Rattle.prefix_archive.specs.ArchivedViews.{seen_in}
use Rattle.prefix_archive.proofs.view.ArchivedTrieRefTrieView.get_data.Goals as goal

pub value-requires-clause-place : goal.value-requires-clause-place
value-requires-clause-place g c = let self = c.args.self.now in data_limit (seen_in self.at.map.table.entries self.place self.prefix_len) c.args.data_bit c.requires

pub value-requires-clause-set : goal.value-requires-clause-set
value-requires-clause-set g c =
    let self = c.args.self.now in
    data_of_node (seen_in self.at.map.table.entries self.place self.prefix_len) (low_bits self.at.depth self.at.path) self.stands c.args.data_bit c.requires

pub returns : goal.returns
returns g c = λ s e. let self = c.args.self.now in ap (λ p. map.get self.at.map.table.entries (p ++ s)) (sym self.stands) ∙ c.value.ensures s e
