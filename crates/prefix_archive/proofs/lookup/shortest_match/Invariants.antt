use Rattle.std.proofs.Common.{◌≡◌, ◌+◌, ◌-◌, ◌%◌, ◌≤◌, take}
use Rattle.std.specs.Prelude.{MatchOption, min}
use Rattle.prefix_model.specs.InPlace.{IsRecordOf}
use Rattle.prefix_table.specs.Records.{node_record}
use Rattle.prefix_model.specs.Hits.{HasNoneIn, IsFirstIn}
use Rattle.prefix_archive.proofs.lookup.shortest_match.Given as goal

abbrev pub invariant-loop-depth : goal.invariant-loop-depth
invariant-loop-depth g l = record {
  node : IsRecordOf l.archive.table.entries (take l.depth (g.P.R.Bits.bits l.fn.key)) (node_record l.node);
  depth : l.depth ≤ l.len;
  at_five : l.depth % 5 ≡ 0;
  best :
      MatchOption l.found (HasNoneIn l.archive.table.entries (g.P.R.Bits.bits l.fn.key) l.from (min (l.len + 1) (l.depth + 5)))
      (λ x. IsFirstIn l.archive.table.entries (g.P.R.Bits.bits l.fn.key) l.from (min (l.len + 1) (l.depth + 5)) x.len x.value.spelling.value);
}

abbrev pub decreases-loop-depth : goal.decreases-loop-depth
decreases-loop-depth g l = l.len - l.depth
