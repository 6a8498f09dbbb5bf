use Rattle.std.proofs.Common.{◌+◌, [], sym, ◌∙◌, subst, arith}
use Rattle.prefix_blocks.specs.Cells.{HasRegion, Holds}
use Rattle.prefix_blocks.proofs.Grows.{outgrown}
use Rattle.prefix_blocks.proofs.store.release.Goals as goal

pub free_block-requires-then-order_of-order-clause-order : goal.free_block-requires-then-order_of-order-clause-order
free_block-requires-then-order_of-order-clause-order g c =
    let grows = outgrown c.args.left c.order_of-order.result c.order_of.result c.order_of-order.ensures c.order_of.ensures (let ne = c.if-left-eq0.false in omega arith) c.requires.few c.if-order_of-order.true in
    let w = grows.within in omega arith

pub free_block-requires-then-order_of-order-clause-region : goal.free_block-requires-then-order_of-order-clause-region
free_block-requires-then-order_of-order-clause-region g c =
    let grows = outgrown c.args.left c.order_of-order.result c.order_of.result c.order_of-order.ensures c.order_of.ensures (let ne = c.if-left-eq0.false in omega arith) c.requires.few c.if-order_of-order.true in
    subst (HasRegion c.args.cells.now c.args.free.now (c.args.at + c.args.left)) (sym grows.here)
    (c.requires.half (let ne = c.if-left-eq0.false in omega arith) (λ e. c.if-order_of-order.true (c.order_of.ensures ∙ e ∙ sym c.order_of-order.ensures))).0

pub free_block-requires-then-order_of-order-clause-empty : goal.free_block-requires-then-order_of-order-clause-empty
free_block-requires-then-order_of-order-clause-empty g c =
    let grows = outgrown c.args.left c.order_of-order.result c.order_of.result c.order_of-order.ensures c.order_of.ensures (let ne = c.if-left-eq0.false in omega arith) c.requires.few c.if-order_of-order.true in
    subst (λ z. Holds c.args.cells.now (c.args.at + c.args.left) z []) (sym grows.here)
    (c.requires.half (let ne = c.if-left-eq0.false in omega arith) (λ e. c.if-order_of-order.true (c.order_of.ensures ∙ e ∙ sym c.order_of-order.ensures))).1
