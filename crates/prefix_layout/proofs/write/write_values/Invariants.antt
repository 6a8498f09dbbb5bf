use Rattle.std.proofs.Common.{drop}
use Rattle.std.specs.List.{flat_map}
use Rattle.std.specs.FinMap as map
use Rattle.prefix_model.specs.Positions.{positions_in}
use Rattle.prefix_layout.specs.Writing.{node_values}
use Rattle.prefix_layout.proofs.Writing.{Written}
use Rattle.prefix_layout.proofs.write.write_values.Given as goal

abbrev pub invariant-loop-node : goal.invariant-loop-node
invariant-loop-node g l =
    let values = flat_map (node_values g.T.ValueCodec.codec (map.get l.table.entries)) in
    Written l.initial.out.items l.out.items (values (drop l.node-index (positions_in l.table.entries))) (values (positions_in l.table.entries))
