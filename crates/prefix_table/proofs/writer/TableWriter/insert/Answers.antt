use Rattle.std.proofs.Common.{◌∙◌, sym, ap, arith}
use Rattle.std.specs.FinMap as map
use Rattle.prefix_table.specs.Tries.{table_view}
use Rattle.prefix_model.specs.TableViews.{key_of}
use Rattle.prefix_table.proofs.WayLaws.{way_shared, way_stays}
use Rattle.prefix_table.proofs.TableCounts.{counted_new, counted_same, not_absent}
use Rattle.prefix_table.proofs.writer.TableWriter.insert.Goals.{then-self-eq-MAX_ENTRIES+else-is_none, else-self-eq-MAX_ENTRIES}
use Rattle.prefix_table.proofs.writer.TableWriter.insert.Goals as goal

pub invariant_of-self : goal.invariant_of-self
invariant_of-self g c =
    let key = key_of (g.R.Bits.bits c.args.key) c.args.len in
    let old = table_view c.self.inside.trie in
    let new = table_view c.insert_from.new.trie in
    let bits = g.R.Bits.bits c.args.key in
    let way = way_stays c.self.inside.trie c.insert_from.new.trie bits c.args.len c.go_down-end.new.numbers c.go_down-end.result.depth c.go_down-end.ensures.way c.go_down-end.ensures.end.from c.in-Ok-None.ensures.numbers in (
      c.in-Ok-None.ensures.trie,
      counted_new old.entries new.entries key c.args.value c.in-Ok-None.field-0 c.self.inside.len c.in-Ok-None.ensures.before c.in-Ok-None.ensures.entries c.in-Ok-None.field-0-is c.self.invariant.1,
      elim c.if-self-eq-MAX_ENTRIES.branch [
        | then-self-eq-MAX_ENTRIES+else-is_none w ↦ absurd (not_absent old c.args.self.now key w.get.result c.in-Ok-None.field-0 c.self.view_is w.get.ensures w.if-is_none.ensures c.in-Ok-None.ensures.before c.in-Ok-None.field-0-is)
        | else-self-eq-MAX_ENTRIES w ↦ (let most = c.self.invariant.2 in let other = w.if-self-eq-MAX_ENTRIES.false in omega (arith, most, other))
      ],
      way,
    )

pub invariant_of-self-in-Ok-Some : goal.invariant_of-self-in-Ok-Some
invariant_of-self-in-Ok-Some g c =
    let key = key_of (g.R.Bits.bits c.args.key) c.args.len in
    let old = table_view c.self.inside.trie in
    let new = table_view c.insert_from.new.trie in
    let bits = g.R.Bits.bits c.args.key in
    let way = way_stays c.self.inside.trie c.insert_from.new.trie bits c.args.len c.go_down-end.new.numbers c.go_down-end.result.depth c.go_down-end.ensures.way c.go_down-end.ensures.end.from c.in-Ok-Some.ensures.numbers in (
      c.in-Ok-Some.ensures.trie,
      counted_same old.entries new.entries key c.args.value c.in-Ok-Some.field-0 _ c.self.inside.len c.in-Ok-Some.ensures.before c.in-Ok-Some.ensures.entries c.in-Ok-Some.field-0-is c.self.invariant.1,
      c.self.invariant.2,
      way,
    )

pub invariant_of-self-in-Err : goal.invariant_of-self-in-Err
invariant_of-self-in-Err g c =
    let bits = g.R.Bits.bits c.args.key in
    let way = way_stays c.self.inside.trie c.insert_from.new.trie bits c.args.len c.go_down-end.new.numbers c.go_down-end.result.depth c.go_down-end.ensures.way c.go_down-end.ensures.end.from c.in-Err.ensures.numbers in (
      c.in-Err.ensures.trie,
      c.self.invariant.1 ∙ ap map.len (sym c.in-Err.ensures.unchanged.entries),
      c.self.invariant.2,
      way,
    )

pub shared_depth-shared-requires-clause-within : goal.shared_depth-shared-requires-clause-within
shared_depth-shared-requires-clause-within g c =
    let whole = g.met.R.Bits.length_law c.self.inside.last in
    let way = c.self.invariant.3.within in
    omega (arith, whole, way)

pub shared_depth-shared-requires-clause-at_five : goal.shared_depth-shared-requires-clause-at_five
shared_depth-shared-requires-clause-at_five g c = c.self.invariant.3.at_five

pub go_down-end-requires-clause-way : goal.go_down-end-requires-clause-way
go_down-end-requires-clause-way g c =
    let whole = g.met.R.Bits.length_law c.args.key in
    let s = c.shared_depth-shared.ensures in
    let within = s.within in
    let width = c.requires in
    way_shared c.self.inside.trie (g.R.Bits.bits c.self.inside.last) (g.R.Bits.bits c.args.key) c.self.inside.numbers c.self.inside.depth c.shared_depth-shared.result c.self.invariant.3 s.at_five s.up (omega (arith, whole, within, width)) s.same
