use Rattle.std.proofs.Common.{ap, refl}
use Rattle.std.specs.List.{flat_map}
use Rattle.std.specs.FinMap as map
use Rattle.std.proofs.lemmas.Result.{err_from_is_err_and}
use Rattle.prefix_model.specs.TableViews.{position_at}
use Rattle.prefix_model.specs.Positions.{positions_in}
use Rattle.prefix_layout.specs.Writing.{node_values, is_written}
use Rattle.prefix_layout.proofs.Writing.{failed, stopped, more_written, same_written, all_written}
use Rattle.prefix_layout.proofs.Queue.{queue_at, queue_end}
use Rattle.prefix_layout.proofs.write.write_values.Goals as goal

pub returns-in_err-write_node_values : goal.returns-in_err-write_node_values
returns-in_err-write_node_values g c =
    let p = err_from_is_err_and c.from_residual.result c.from_residual.ensures.1 in
    failed c.from_residual.result p.0 _ _ _ p.1 (stopped _ _ _ _ _ c.loop-node.invariant c.in_err-write_node_values.ensures)

pub loop-node-preserved : goal.loop-node-preserved
loop-node-preserved g c =
    let view = c.args.table.now in
    let values = node_values g.T.ValueCodec.codec (map.get view.entries) in
    more_written _ c.loop-node.out.items _ (values (position_at view c.node-item.result.at)) _ _ _ c.loop-node.invariant
    (ap (flat_map values) (queue_at view (is_written view) (positions_in view.entries) c.args.queue.now c.requires c.loop-node.node-index c.node-item.result c.loop-node-test.true c.node-item.is)) c.in_ok-write_node_values.ensures

pub returns : goal.returns
returns g c =
    let view = c.args.table.now in
    let values = node_values g.T.ValueCodec.codec (map.get view.entries) in
    all_written _ _ _ (same_written _ _ _ _ _ _ c.loop-node.invariant (ap (flat_map values) (queue_end view (is_written view) (positions_in view.entries) c.args.queue.now c.requires c.loop-node.node-index c.loop-node-test.false)) refl)
