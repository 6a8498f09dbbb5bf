use Rattle.std.proofs.Common.{◌≡◌, ◌-◌, ◌%◌, ◌≤◌, take}
use Rattle.prefix_model.specs.InPlace.{IsRecordOf}
use Rattle.prefix_table.specs.Records.{node_record}
use Rattle.prefix_archive.proofs.lookup.find.Given as goal

abbrev pub invariant-loop-depth : goal.invariant-loop-depth
invariant-loop-depth g l = record {
  node : IsRecordOf l.archive.table.entries (take l.depth (g.P.R.Bits.bits l.fn.key)) (node_record l.node);
  depth : l.depth ≤ l.len;
  at_five : l.depth % 5 ≡ 0;
}

abbrev pub decreases-loop-depth : goal.decreases-loop-depth
decreases-loop-depth g l = l.len - l.depth
