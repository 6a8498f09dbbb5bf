use Rattle.std.proofs.Common.{◌≡◌, ◌-◌, ◌++◌, ℕ, suc, length, true, false, sym, ap, ◌∙◌, arith}
use Rattle.std.specs.Prelude.{is_some, min}
use Rattle.std.specs.FinMap as map
use Rattle.prefix_model.specs.Keys.{KeyBits, low_bits}
use Rattle.prefix_model.specs.TableViews.{position_at}
use Rattle.prefix_layout.specs.Writing.{positions_from}
use Rattle.prefix_layout.proofs.Below.{not_kept, child_length, position_is, size_is, tells_child, written_is}
use Rattle.prefix_layout.proofs.Counting.{from_none, before_kept, before_skipped, before_all}
use Rattle.prefix_layout.proofs.write.+count_nodes.Goals as goal
use Rattle.prefix_layout.proofs.write.+count_nodes.Goals.{in-Some+then-has_entry, in-Some+else-has_entry, in_default}

pub returns-then-levels-eq0 : goal.returns-then-levels-eq0
returns-then-levels-eq0 g t c =
    let none = ap length (from_none c.args.table.now c.args.levels (position_at c.args.table.now c.args.at) c.if-levels-eq0.true) in
    omega (arith, none)

pub has_entry-requires-clause-at_five : goal.has_entry-requires-clause-at_five
has_entry-requires-clause-at_five g t c =
    let size = size_is c.args.table.now c.in-Some.child (position_at c.args.table.now c.args.at) c.loop-bit.bit c.in-Some.ensures in
    omega arith

pub count_nodes-requires : goal.count_nodes-requires
count_nodes-requires g t c κs within =
    let size = size_is c.args.table.now c.in-Some.child (position_at c.args.table.now c.args.at) c.loop-bit.bit c.in-Some.ensures in
    (omega arith, (within, (ap is_some c.in-Some.ensures, (c.requires.holds, omega arith))))

pub loop-bit-preserved : goal.loop-bit-preserved
loop-bit-preserved g t c =
    let view = c.args.table.now in
    let at = position_at view c.args.at in
    let f = map.get view.entries in
    let i = c.loop-bit.bit in
    let below = at ++ low_bits 5 i in
    let size = child_length at i in
    let levels : ℕ = c.args.levels - 1 in
    let whole = written_is view below (omega arith) (omega arith) in
    let before = c.loop-bit.invariant in
    elim c.match-child.branch [
      | in-Some+then-has_entry w ↦
          let there = sym (whole true (tells_child view f w.in-Some.child below w.has_entry.result true w.in-Some.ensures w.has_entry.ensures w.if-has_entry.true)) in
          let more = before_kept view levels i at c.loop-bit-test.true there in
          let here = w.count_nodes.ensures ∙ ap (λ (p : KeyBits). min (length (positions_from view levels p)) 4294967296) (position_is view w.in-Some.child below w.in-Some.ensures) in
          let sum = w.min-count.ensures in
          let same = w.count-is in
          omega (arith, more, here, sum, same, before)
      | in-Some+else-has_entry w ↦
          let gone = sym (whole false (tells_child view f w.in-Some.child below w.has_entry.result false w.in-Some.ensures w.has_entry.ensures w.if-has_entry.false)) in
          let more = before_skipped view levels i at c.loop-bit-test.true gone in
          let same = w.count-is in
          omega (arith, more, same, before)
      | in_default w ↦
          let gone = sym (whole false (not_kept view c.requires.holds below (omega arith) w.in_default.ensures)) in
          let more = before_skipped view levels i at c.loop-bit-test.true gone in
          let same = w.count-is in
          omega (arith, more, same, before)
    ]

pub returns : goal.returns
returns g t c =
    let view = c.args.table.now in
    let at = position_at view c.args.at in
    let one : c.args.levels ≡ suc (c.args.levels - 1) = omega arith in
    let all = before_all view c.args.levels (c.args.levels - 1) c.loop-bit.bit at c.loop-bit-test.false one in
    omega (arith, all, c.loop-bit.invariant)
