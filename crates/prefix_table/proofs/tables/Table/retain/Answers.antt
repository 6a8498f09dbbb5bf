use Rattle.std.proofs.Common.{ap, [], arith}
use Rattle.std.specs.FinMap as map
use Rattle.prefix_model.specs.TableViews.{TableView}
use Rattle.prefix_table.proofs.TrieWays.{number_zero}
use Rattle.prefix_table.proofs.Sifts.{retained_entries, retained_from, retained_kept, named_zero}
use Rattle.prefix_table.proofs.tables.Table.retain.Goals as goal

pub retain_below-requires-clause-named : goal.retain_below-requires-clause-named
retain_below-requires-clause-named g c =
    ([], number_zero c.self.inside.trie, named_zero g.R.Bits.bits g.R.Bits.WIDTH c.zeros.result c.zeros.ensures)

pub invariant_of-self : goal.invariant_of-self
invariant_of-self g c =
    let most = c.self.invariant.2 in
    let fewer = c.retain_below.ensures.fewer in
    let sifted = c.retain_below.ensures.sifted [] (number_zero c.self.inside.trie) in
    (sifted.trie, c.retain_below.ensures.len, omega (arith, most, fewer))

pub returns-clause-entries : goal.returns-clause-entries
returns-clause-entries g c =
    let sifted = c.retain_below.ensures.sifted [] (number_zero c.self.inside.trie) in
    retained_from _ _ _ _ _ (ap (λ (v : TableView g.row.T.Denot). v.entries) c.self.view_is) (retained_entries _ _ _ c.self.inside.trie c.retain_below.new.trie sifted)

pub returns-clause-kept : goal.returns-clause-kept
returns-clause-kept g c =
    let sifted = c.retain_below.ensures.sifted [] (number_zero c.self.inside.trie) in
    retained_kept _ _ _ c.self.inside.trie c.retain_below.new.trie sifted
