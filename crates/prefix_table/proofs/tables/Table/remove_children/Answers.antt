use Rattle.std.proofs.Common.{ap, sym, ◌∙◌, arith}
use Rattle.std.specs.FinMap as map
use Rattle.prefix_model.specs.Pruning.{pruned, without_below, kept_outside}
use Rattle.prefix_table.specs.Tries.{table_view}
use Rattle.prefix_model.specs.TableViews.{TableView, key_of}
use Rattle.prefix_table.proofs.TrieErases.{erased_entries, erased_pruned, erased_same}
use Rattle.prefix_table.proofs.tables.Table.remove_children.Goals as goal

pub invariant_of-self : goal.invariant_of-self
invariant_of-self g c =
    let key = key_of (g.R.Bits.bits c.args.key) c.args.len in
    let most = c.self.invariant.2 in
    let fewer = c.clear_key.ensures.fewer in
    let same = erased_same c.self.inside.trie c.clear_key.new.trie key c.clear_key.ensures.cleared in
    (c.remove_pruned-none.ensures.trie, c.clear_key.ensures.len ∙ sym (ap map.len (c.remove_pruned-none.ensures.entries ∙ same)), omega (arith, most, fewer))

pub returns-clause-entries : goal.returns-clause-entries
returns-clause-entries g c =
    let key = key_of (g.R.Bits.bits c.args.key) c.args.len in
    c.remove_pruned-none.ensures.entries ∙ erased_same c.self.inside.trie c.clear_key.new.trie key c.clear_key.ensures.cleared
    ∙ erased_entries c.self.inside.trie c.clear_key.new.trie c.self.invariant.0 key c.clear_key.ensures.cleared
    ∙ ap (λ (v : TableView g.row.T.Denot). without_below v.entries key) c.self.view_is

pub returns-clause-kept : goal.returns-clause-kept
returns-clause-kept g c =
    let key = key_of (g.R.Bits.bits c.args.key) c.args.len in
    let same = c.remove_pruned-none.ensures.entries ∙ erased_same c.self.inside.trie c.clear_key.new.trie key c.clear_key.ensures.cleared in
    c.remove_pruned-none.ensures.kept
    ∙ ap (λ m. pruned m (table_view c.clear_key.new.trie).kept key) same
    ∙ erased_pruned c.self.inside.trie c.clear_key.new.trie c.self.invariant.0 key c.clear_key.ensures.cleared
    ∙ (λ j. pruned (sym same j) (kept_outside (c.self.view_is j).kept key) key)
