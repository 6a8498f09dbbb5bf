use Rattle.std.proofs.Common.{ap, ◌∙◌, sym, subst, []}
use Rattle.std.specs.FinMap as map
use Rattle.prefix_model.specs.TableViews.{TableView, HoldsPositions}
use Rattle.prefix_table.proofs.TrieReads.{holds}
use Rattle.prefix_table.proofs.TrieViews.{place_of_number}
use Rattle.prefix_table.proofs.TrieWays.{number_zero}
use Rattle.prefix_table.proofs.tables.Table.root.Goals as goal

pub returns-clause-named : goal.returns-clause-named
returns-clause-named g c =
    let t = c.self.inside.trie in
    ap (λ (v : TableView g.row.T.Denot). map.get v.places 0) (sym c.self.view_is) ∙ place_of_number t c.self.invariant.0 [] 0 (number_zero t)

pub returns-clause-kept : goal.returns-clause-kept
returns-clause-kept g c = subst (λ (v : TableView g.row.T.Denot). HoldsPositions v) c.self.view_is (holds c.self.inside.trie c.self.invariant.0)
