use Rattle.std.proofs.Common.{arith, ap, sym, ◌∙◌}
use Rattle.std.specs.FinMap as map
use Rattle.prefix_table.specs.Tries.{table_view}
use Rattle.prefix_model.specs.TableViews.{key_of}
use Rattle.prefix_table.proofs.TableCounts.{counted_less}
use Rattle.prefix_table.proofs.TrieRemoves.{remove_absent}
use Rattle.prefix_table.proofs.tables.Table.remove.Goals as goal

pub overflow_sub-self : goal.overflow_sub-self
overflow_sub-self g c =
    let old = table_view c.self.inside.trie in
    let less = counted_less old.entries (table_view c.remove_pruned.new.trie).entries (key_of (g.R.Bits.bits c.args.key) c.args.len) c.in-Some.value c.self.inside.len (sym c.in-Some.ensures.value) c.in-Some.ensures.entries c.self.invariant.1 in
    omega (arith, less)

pub invariant_of-self : goal.invariant_of-self
invariant_of-self g c =
    let old = table_view c.self.inside.trie in
    let most = c.self.invariant.2 in
    let less = counted_less old.entries (table_view c.remove_pruned.new.trie).entries (key_of (g.R.Bits.bits c.args.key) c.args.len) c.in-Some.value c.self.inside.len (sym c.in-Some.ensures.value) c.in-Some.ensures.entries c.self.invariant.1 in
    (c.in-Some.ensures.trie, omega (arith, less), omega (arith, most))

pub invariant_of-self-in-None : goal.invariant_of-self-in-None
invariant_of-self-in-None g c =
    let old = table_view c.self.inside.trie in (
      c.in-None.ensures.trie,
      c.self.invariant.1 ∙ ap map.len (sym (c.in-None.ensures.entries ∙ remove_absent old.entries (key_of (g.R.Bits.bits c.args.key) c.args.len) (sym c.in-None.ensures.value))),
      c.self.invariant.2,
    )
