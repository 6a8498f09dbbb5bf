use Rattle.std.proofs.Common.{arith}
use Rattle.prefix_table.specs.Tries.{table_view}
use Rattle.prefix_model.specs.TableViews.{key_of}
use Rattle.prefix_table.proofs.TableCounts.{counted_new, counted_same, not_absent}
use Rattle.prefix_table.proofs.tables.Table.insert.Goals.{then-self-eq-MAX_ENTRIES+else-is_none, else-self-eq-MAX_ENTRIES}
use Rattle.prefix_table.proofs.tables.Table.insert.Goals as goal

pub invariant_of-self : goal.invariant_of-self
invariant_of-self g c =
    let key = key_of (g.R.Bits.bits c.args.key) c.args.len in
    let old = table_view c.self.inside.trie in
    let new = table_view c.insert_at.new.trie in (
      c.in-Ok-None.ensures.trie,
      counted_new old.entries new.entries key c.args.value c.in-Ok-None.field-0 c.self.inside.len c.in-Ok-None.ensures.before c.in-Ok-None.ensures.entries c.in-Ok-None.field-0-is c.self.invariant.1,
      elim c.if-self-eq-MAX_ENTRIES.branch [
        | then-self-eq-MAX_ENTRIES+else-is_none w ↦ absurd (not_absent old c.args.self.now key w.get.result c.in-Ok-None.field-0 c.self.view_is w.get.ensures w.if-is_none.ensures c.in-Ok-None.ensures.before c.in-Ok-None.field-0-is)
        | else-self-eq-MAX_ENTRIES w ↦ (let most = c.self.invariant.2 in let other = w.if-self-eq-MAX_ENTRIES.false in omega (arith, most, other))
      ],
    )

pub invariant_of-self-in-Ok-Some : goal.invariant_of-self-in-Ok-Some
invariant_of-self-in-Ok-Some g c =
    let key = key_of (g.R.Bits.bits c.args.key) c.args.len in
    let old = table_view c.self.inside.trie in
    let new = table_view c.insert_at.new.trie in (
      c.in-Ok-Some.ensures.trie,
      counted_same old.entries new.entries key c.args.value c.in-Ok-Some.field-0 _ c.self.inside.len c.in-Ok-Some.ensures.before c.in-Ok-Some.ensures.entries c.in-Ok-Some.field-0-is c.self.invariant.1,
      c.self.invariant.2,
    )
