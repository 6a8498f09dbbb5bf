use Rattle.std.proofs.Common.{List, sym, ap, ◌∙◌, subst, arith}
use Rattle.prefix_blocks.specs.Sizes.{cells_needed}
use Rattle.prefix_blocks.specs.declared.store.Cell.{Cell}
use Rattle.prefix_blocks.specs.Cells.{CanOutgrow}
use Rattle.prefix_blocks.proofs.SizeLaws.{needed_at_none}
use Rattle.prefix_blocks.proofs.Grows.{outgrown, new_grown, kept_grown, can_outgrow, outgrown_grown}
use Rattle.prefix_blocks.proofs.store.grown.Goals as goal

pub take_block-requires-clause-room : goal.take_block-requires-clause-room
take_block-requires-clause-room g c = let need = ap cells_needed c.if-count-eq0.true ∙ needed_at_none in let room = c.requires.room in omega arith

pub returns-then-count-eq0-clause-grown : goal.returns-then-count-eq0-clause-grown
returns-then-count-eq0-clause-grown g c =
    new_grown c.args.cells.now.items c.take_block.new.cells.items c.take_block.new.free c.args.at c.take_block.result c.args.count c.if-count-eq0.true c.take_block.ensures.taken

pub returns-then-count-eq0-clause-len : goal.returns-then-count-eq0-clause-len
returns-then-count-eq0-clause-len g c = let need = ap cells_needed c.if-count-eq0.true ∙ needed_at_none in let len = c.take_block.ensures.len in omega arith

pub returns-then-order_of-order-clause-grown : goal.returns-then-order_of-order-clause-grown
returns-then-order_of-order-clause-grown g c =
    kept_grown c.args.cells.now.items c.args.free.now c.args.at c.args.count c.requires.sound (let ne = c.if-count-eq0.false in omega arith) c.requires.few c.requires.list
    (sym c.order_of.ensures ∙ c.if-order_of-order.true ∙ c.order_of-order.ensures)

pub overflow_add-order : goal.overflow_add-order
overflow_add-order g c =
    let grows = outgrown c.args.count c.order_of-order.result c.order_of.result c.order_of-order.ensures c.order_of.ensures (let ne = c.if-count-eq0.false in omega arith) c.requires.few c.if-order_of-order.false in
    let w = grows.within in omega arith

pub take_block-to-requires-clause-order : goal.take_block-to-requires-clause-order
take_block-to-requires-clause-order g c =
    (outgrown c.args.count c.order_of-order.result c.order_of.result c.order_of-order.ensures c.order_of.ensures (let ne = c.if-count-eq0.false in omega arith) c.requires.few c.if-order_of-order.false).within

pub take_block-to-requires-clause-room : goal.take_block-to-requires-clause-room
take_block-to-requires-clause-room g c =
    let grows = outgrown c.args.count c.order_of-order.result c.order_of.result c.order_of-order.ensures c.order_of.ensures (let ne = c.if-count-eq0.false in omega arith) c.requires.few c.if-order_of-order.false in
    let next = grows.next in let needed = grows.needed in let room = c.requires.room in omega arith

pub outgrow-requires : goal.outgrow-requires
outgrow-requires g c =
    subst (λ (cells : List (Cell g.row.A.Denot)). CanOutgrow cells c.take_block-to.new.free c.args.at c.take_block-to.result c.args.count c.order_of-order.result) (sym c.deref_mut.ensures.value)
    (can_outgrow c.args.cells.now.items c.take_block-to.new.cells.items c.take_block-to.new.free c.args.at c.take_block-to.result c.args.count c.order_of-order.result c.order_of.result
    (let ne = c.if-count-eq0.false in omega arith) c.requires.few c.order_of-order.ensures c.order_of.ensures c.if-order_of-order.false c.requires.list c.take_block-to.ensures.taken)

pub returns-clause-grown : goal.returns-clause-grown
returns-clause-grown g c =
    outgrown_grown c.args.cells.now.items c.take_block-to.new.cells.items c.deref_mut.result.now c.outgrow.new.cells c.take_block-to.new.free c.outgrow.new.free c.args.at c.take_block-to.result
    c.args.count _ c.take_block-to.new.cells.len c.take_block-to.ensures.taken c.deref_mut.ensures.value c.take_block-to.new.cells.ok.0 c.outgrow.ensures.len c.outgrow.ensures.grown

pub returns-clause-len : goal.returns-clause-len
returns-clause-len g c =
    let grows = outgrown c.args.count c.order_of-order.result c.order_of.result c.order_of-order.ensures c.order_of.ensures (let ne = c.if-count-eq0.false in omega arith) c.requires.few c.if-order_of-order.false in
    let next = grows.next in let needed = grows.needed in let len = c.take_block-to.ensures.len in omega arith
