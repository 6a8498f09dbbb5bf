use Rattle.std.proofs.Common.{◌≡◌, ◌+◌, ◌-◌, ◌≤◌, take, Some}
use Rattle.std.specs.Prelude.{MatchOption, min}
use Rattle.std.specs.FinMap as map
use Rattle.prefix_model.specs.Hits.{HasNoneIn, IsLastIn}
use Rattle.prefix_map.proofs.search.longest_match.Given as goal

-- the node of the first bits, and the longest front in the nodes so far
abbrev pub invariant-loop-depth : goal.invariant-loop-depth
invariant-loop-depth g l = record {
  named : map.get l.table.places l.at ≡ Some (take l.depth (g.R.Bits.bits l.fn.key));
  depth : l.depth ≤ l.len;
  best :
      MatchOption l.best (HasNoneIn l.table.entries (g.R.Bits.bits l.fn.key) 0 (min (l.len + 1) (l.depth + 5)))
      (λ x. IsLastIn l.table.entries (g.R.Bits.bits l.fn.key) 0 (min (l.len + 1) (l.depth + 5)) x.len x.value.now);
}

abbrev pub decreases-loop-depth : goal.decreases-loop-depth
decreases-loop-depth g l = l.len - l.depth
