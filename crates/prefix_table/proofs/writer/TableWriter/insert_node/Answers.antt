use Rattle.std.proofs.Common.{◌++◌, ◌∙◌, sym, ap, subst, arith}
use Rattle.std.specs.FinMap as map_of
use Rattle.prefix_table.specs.Tries.{table_view}
use Rattle.prefix_model.specs.TableViews.{TableView, IsSameTable, key_of}
use Rattle.prefix_table.proofs.FillEntries.{entries_counted}
use Rattle.prefix_table.proofs.TrieFills.{node_refused}
use Rattle.prefix_table.proofs.TrieViews.{get_entry}
use Rattle.prefix_table.proofs.WayLaws.{way_shared, way_stays}
use Rattle.prefix_table.proofs.writer.TableWriter.insert_node.Goals as goal

pub invariant_of-self : goal.invariant_of-self
invariant_of-self g c =
    let bits = g.R.Bits.bits c.args.key in
    let p = key_of bits c.args.depth in
    let old = table_view c.self.inside.trie in
    let done = c.in-Ok.ensures.entered in
    let way = way_stays c.self.inside.trie c.insert_values.new.trie bits c.args.depth c.go_down-end.new.numbers c.go_down-end.result.depth c.go_down-end.ensures.way c.go_down-end.ensures.end.from done.numbers in
    let count = entries_counted p old.entries c.args.data_bits c.args.values.now.items c.requires.within (sym c.args.values.now.ok.0 ∙ c.requires.count) (λ s l. ap (λ (v : TableView g.row.T.Denot). map_of.get v.entries (p ++ s)) c.self.view_is ∙ c.requires.free s l) in
    let len = ap map_of.len done.entries in
    let before = c.self.invariant.1 in
    let many = c.len-count.ensures in
    let ok = c.args.values.now.ok.0 in
    let fits = c.if-count-self.false in
    let most = c.self.invariant.2 in (
      done.trie,
      omega (arith, count, len, before, many, ok),
      omega (arith, fits, most),
      way,
    )

pub invariant_of-self-in-Err : goal.invariant_of-self-in-Err
invariant_of-self-in-Err g c =
    let bits = g.R.Bits.bits c.args.key in
    let refused = node_refused c.self.inside.trie c.insert_values.new.trie c.self.invariant.0 c.in-Err.ensures.same (key_of bits c.args.depth) in
    let way = way_stays c.self.inside.trie c.insert_values.new.trie bits c.args.depth c.go_down-end.new.numbers c.go_down-end.result.depth c.go_down-end.ensures.way c.go_down-end.ensures.end.from refused.numbers in (
      refused.trie,
      c.self.invariant.1 ∙ ap map_of.len (sym refused.unchanged.entries),
      c.self.invariant.2,
      way,
    )

pub shared_depth-shared-requires-clause-within : goal.shared_depth-shared-requires-clause-within
shared_depth-shared-requires-clause-within g c =
    let whole = g.met.R.Bits.length_law c.self.inside.last in
    let way = c.self.invariant.3.within in
    omega (arith, whole, way)

pub shared_depth-shared-requires-clause-at_five : goal.shared_depth-shared-requires-clause-at_five
shared_depth-shared-requires-clause-at_five g c = c.self.invariant.3.at_five

pub go_down-end-requires-clause-way : goal.go_down-end-requires-clause-way
go_down-end-requires-clause-way g c =
    let whole = g.met.R.Bits.length_law c.args.key in
    let s = c.shared_depth-shared.ensures in
    let within = s.within in
    let width = c.requires.width in
    way_shared c.self.inside.trie (g.R.Bits.bits c.self.inside.last) (g.R.Bits.bits c.args.key) c.self.inside.numbers c.self.inside.depth c.shared_depth-shared.result c.self.invariant.3 s.at_five s.up (omega (arith, whole, within, width)) s.same

pub insert_values-requires-clause-free : goal.insert_values-requires-clause-free
insert_values-requires-clause-free g c = λ s l.
    let p = key_of (g.R.Bits.bits c.args.key) c.args.depth in
    sym (get_entry c.self.inside.trie c.self.invariant.0 (p ++ s)) ∙ ap (λ (v : TableView g.row.T.Denot). map_of.get v.entries (p ++ s)) c.self.view_is ∙ c.requires.free s l

pub returns-in-Err-clause-unchanged : goal.returns-in-Err-clause-unchanged
returns-in-Err-clause-unchanged g c =
    let refused = node_refused c.self.inside.trie c.insert_values.new.trie c.self.invariant.0 c.in-Err.ensures.same (key_of (g.R.Bits.bits c.args.key) c.args.depth) in
    subst (λ (v : TableView g.row.T.Denot). IsSameTable v (table_view c.insert_values.new.trie)) c.self.view_is refused.unchanged
