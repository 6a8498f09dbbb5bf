use Rattle.std.proofs.Common.{◌≡◌, ◌++◌, ◌-◌, ◌≤◌, take, None}
use Rattle.std.specs.Prelude.{IsSome}
use Rattle.std.specs.FinMap as map
use Rattle.prefix_model.specs.Keys.{KeyBits}
use Rattle.prefix_model.specs.Tables.{answer}
use Rattle.prefix_model.specs.TableViews.{HoldsPositions, position_at}
use Rattle.prefix_model.specs.Places.{answers_from}
use Rattle.prefix_aggregate.proofs.coverage.covers_in_aggregate.Given as goal

-- nothing is stored above the node at the first bits of the key
abbrev pub invariant-loop-depth : goal.invariant-loop-depth
invariant-loop-depth g l = record {
  named : IsSome (map.get l.table.places l.at);
  holds : HoldsPositions l.table;
  here : position_at l.table l.at ≡ take l.depth (g.R.Bits.bits l.key);
  within : l.depth ≤ l.len;
  above : (k : KeyBits) → answer l.table.entries (take l.depth (g.R.Bits.bits l.key) ++ k) ≡ answers_from l.table (take l.depth (g.R.Bits.bits l.key)) None k;
}

abbrev pub decreases-loop-depth : goal.decreases-loop-depth
decreases-loop-depth g l = l.len - l.depth
