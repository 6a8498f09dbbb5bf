use Rattle.std.proofs.Common.{◌≡◌, ◌+◌, length}
use Rattle.std.specs.FinMap as map
use Rattle.prefix_model.specs.Positions.{positions_in}
use Rattle.prefix_layout.proofs.Writing.{Written}
use Rattle.prefix_layout.proofs.Queue.{records_left, entries_left, nodes_left}
use Rattle.prefix_layout.proofs.write.write_records.Given as goal

abbrev pub invariant-loop-node : goal.invariant-loop-node
invariant-loop-node g l = record {
  written : Written l.initial.out.items l.out.items (records_left l.table l.entries l.known l.node-index) (records_left l.table 0 1 0);
  entries : l.entries + entries_left l.table l.node-index ≡ map.len l.table.entries;
  known : l.known + nodes_left l.table l.node-index ≡ length (positions_in l.table.entries);
}
