use Rattle.std.proofs.Common.{refl, arith}
use Rattle.std.proofs.lemmas.Result.{err_from_is_err_and}
use Rattle.prefix_model.specs.Positions.{positions_in}
use Rattle.prefix_model.specs.Spelling.{record_bytes}
use Rattle.prefix_layout.specs.Writing.{is_written}
use Rattle.prefix_layout.proofs.Writing.{failed, stopped, none_written, more_written, same_written, all_written}
use Rattle.prefix_layout.proofs.Queue.{record_of, placed_record, queue_length, records_end, children_total, entries_total, entries_step, nodes_step, records_step}
use Rattle.prefix_layout.proofs.write.write_records.Goals as goal

pub loop-node-init : goal.loop-node-init
loop-node-init g c =
    let total = entries_total c.args.table.now.entries in
    record { written = none_written _ _; entries = omega arith; known = children_total c.args.table.now.entries }

pub returns-in_err-write_record : goal.returns-in_err-write_record
returns-in_err-write_record g c =
    let p = err_from_is_err_and c.from_residual.result c.from_residual.ensures.1 in
    failed c.from_residual.result p.0 _ _ _ p.1 (stopped _ _ _ _ _ c.loop-node.invariant.written c.in_err-write_record.ensures)

pub overflow_add-entries : goal.overflow_add-entries
overflow_add-entries g c =
    let view = c.args.table.now in
    let i = c.loop-node.node-index in
    let n = c.node-item.result in
    let r = record_of view n c.loop-node.entries c.loop-node.known in
    let is = placed_record view c.args.queue.now c.requires.queue i n c.loop-node-test.true c.node-item.is c.loop-node.entries c.loop-node.known in
    let step = entries_step view i n r _ _ is in
    let all = c.loop-node.invariant.entries in
    let few = c.requires.entries in
    omega arith

pub overflow_add-known : goal.overflow_add-known
overflow_add-known g c =
    let view = c.args.table.now in
    let i = c.loop-node.node-index in
    let n = c.node-item.result in
    let r = record_of view n c.loop-node.entries c.loop-node.known in
    let is = placed_record view c.args.queue.now c.requires.queue i n c.loop-node-test.true c.node-item.is c.loop-node.entries c.loop-node.known in
    let step = nodes_step view i n r _ _ is in
    let all = c.loop-node.invariant.known in
    let few = c.requires.nodes in
    let size = queue_length view (is_written view) (positions_in view.entries) c.args.queue.now c.requires.queue in
    omega arith

pub loop-node-preserved : goal.loop-node-preserved
loop-node-preserved g c =
    let view = c.args.table.now in
    let i = c.loop-node.node-index in
    let n = c.node-item.result in
    let r = record_of view n c.loop-node.entries c.loop-node.known in
    let is = placed_record view c.args.queue.now c.requires.queue i n c.loop-node-test.true c.node-item.is c.loop-node.entries c.loop-node.known in
    let entries = entries_step view i n r _ _ is in
    let nodes = nodes_step view i n r _ _ is in
    let inv = c.loop-node.invariant in
    record {
      written = more_written _ c.loop-node.out.items _ (record_bytes r) _ _ _ inv.written (records_step view i n r _ _ is) c.in_ok-write_record.ensures;
      entries = omega (arith, entries, inv.entries);
      known = omega (arith, nodes, inv.known);
    }

pub returns : goal.returns
returns g c =
    let view = c.args.table.now in
    all_written _ _ _ (same_written _ _ _ _ _ _ c.loop-node.invariant.written (records_end view c.args.queue.now c.requires.queue c.loop-node.entries c.loop-node.known c.loop-node.node-index c.loop-node-test.false) refl)
