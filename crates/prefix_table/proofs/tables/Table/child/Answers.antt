use Rattle.std.proofs.Common.{ap, sym, ◌∙◌, ◌++◌, is_some, ℕ, Some}
use Rattle.std.specs.FinMap as map
use Rattle.prefix_model.specs.Keys.{low_bits}
use Rattle.prefix_model.specs.TableViews.{TableView, position_at}
use Rattle.prefix_table.proofs.TrieReads.{seen, child_told, no_child_told, child_named, child_kept, node_seen}
use Rattle.prefix_table.proofs.tables.Table.child.Goals as goal

pub node_of-requires-clause-named : goal.node_of-requires-clause-named
node_of-requires-clause-named g c = ap is_some (seen c.self.inside.trie c.self.invariant.0 c.args.self.now c.at.inside.index c.args.at c.self.view_is c.at.view_is c.requires.named).named

pub node_of-requires-clause-within : goal.node_of-requires-clause-within
node_of-requires-clause-within g c = (seen c.self.inside.trie c.self.invariant.0 c.args.self.now c.at.inside.index c.args.at c.self.view_is c.at.view_is c.requires.named).limit

pub returns-in-Some : goal.returns-in-Some
returns-in-Some g c =
    let t = c.self.inside.trie in
    let v = c.args.self.now in
    let s = seen t c.self.invariant.0 v c.at.inside.index c.args.at c.self.view_is c.at.view_is c.requires.named in
    let here = node_seen t v c.at.inside.index c.node_of.result.now s c.node_of.ensures in
    let has = child_told t (position_at v c.at.inside.index) c.node_of.result.now c.args.bit c.in-Some.index (c.self.invariant.0.each _ _ here) c.in-Some.ensures in
    ap (λ (w : TableView g.row.T.Denot). map.get w.places c.in-Some.index) (sym c.self.view_is)
    ∙ child_named t c.self.invariant.0 (position_at v c.at.inside.index) c.node_of.result.now c.args.bit c.in-Some.index here c.requires.slot has
    ∙ ap (λ (i : ℕ). Some (position_at v i ++ low_bits 5 c.args.bit)) c.at.view_is

pub returns-in-None : goal.returns-in-None
returns-in-None g c =
    let t = c.self.inside.trie in
    let v = c.args.self.now in
    let s = seen t c.self.invariant.0 v c.at.inside.index c.args.at c.self.view_is c.at.view_is c.requires.named in
    let here = node_seen t v c.at.inside.index c.node_of.result.now s c.node_of.ensures in
    let none = no_child_told t c.node_of.result.now c.args.bit c.in-None.ensures in
    (λ j. map.contains_key (sym c.self.view_is j).kept (position_at v (sym c.at.view_is j) ++ low_bits 5 c.args.bit))
    ∙ child_kept t c.self.invariant.0 (position_at v c.at.inside.index) c.node_of.result.now c.args.bit here c.requires.slot
    ∙ ap is_some none
