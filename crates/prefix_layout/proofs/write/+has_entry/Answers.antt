use Rattle.std.proofs.Common.{◌++◌, true, false, sym, ◌∙◌, ap, arith}
use Rattle.std.specs.Prelude.{is_some}
use Rattle.std.specs.FinMap as map
use Rattle.prefix_model.specs.Keys.{low_bits}
use Rattle.prefix_model.specs.TableViews.{position_at}
use Rattle.prefix_layout.proofs.Below.{some_here, none_below, none_more, some_below, not_kept, too_deep, child_length, size_is, tells_child}
use Rattle.prefix_layout.proofs.write.+has_entry.Goals as goal
use Rattle.prefix_layout.proofs.write.+has_entry.Goals.{in-Some+else-has_entry, in_default}

pub returns-then-levels-eq0 : goal.returns-then-levels-eq0
returns-then-levels-eq0 g t c = too_deep c.args.table.now c.requires.holds (position_at c.args.table.now c.args.at) c.requires.at_five (omega arith)

pub returns-then-node-ne0 : goal.returns-then-node-ne0
returns-then-node-ne0 g t c = some_here (map.get c.args.table.now.entries) (position_at c.args.table.now c.args.at) (λ e. c.if-node-ne0.true (c.node.ensures.data ∙ e))

pub has_entry-requires : goal.has_entry-requires
has_entry-requires g t c κs within =
    let size = size_is c.args.table.now c.in-Some.child (position_at c.args.table.now c.args.at) c.loop-bit.bit c.in-Some.ensures in
    (omega arith, (within, (ap is_some c.in-Some.ensures, (c.requires.holds, (omega arith, omega arith)))))

pub returns-then-has_entry : goal.returns-then-has_entry
returns-then-has_entry g t c =
    let at = position_at c.args.table.now c.args.at in
    let f = map.get c.args.table.now.entries in
    some_below f at (low_bits 5 c.loop-bit.bit) (tells_child c.args.table.now f c.in-Some.child (at ++ low_bits 5 c.loop-bit.bit) c.has_entry.result true c.in-Some.ensures c.has_entry.ensures c.if-has_entry.true)

pub loop-bit-preserved : goal.loop-bit-preserved
loop-bit-preserved g t c =
    let view = c.args.table.now in
    let at = position_at c.args.table.now c.args.at in
    let f = map.get c.args.table.now.entries in
    let below = at ++ low_bits 5 c.loop-bit.bit in
    none_more f at c.loop-bit.bit c.loop-bit.invariant (elim c.match-child.branch [
      | in-Some+else-has_entry w ↦ tells_child view f w.in-Some.child below w.has_entry.result false w.in-Some.ensures w.has_entry.ensures w.if-has_entry.false
      | in_default w ↦ not_kept view c.requires.holds below (omega (arith, child_length at c.loop-bit.bit)) w.in_default.ensures
    ])

pub returns : goal.returns
returns g t c =
    none_below (map.get c.args.table.now.entries) (position_at c.args.table.now c.args.at) (sym c.node.ensures.data ∙ c.if-node-ne0.false) (λ k l. c.loop-bit.invariant k (omega arith))
