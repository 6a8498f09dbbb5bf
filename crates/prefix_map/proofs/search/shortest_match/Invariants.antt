use Rattle.std.proofs.Common.{◌≡◌, ◌+◌, ◌-◌, ◌≤◌, take, Some}
use Rattle.std.specs.Prelude.{MatchOption, min}
use Rattle.std.specs.FinMap as map
use Rattle.prefix_model.specs.Hits.{HasNoneIn, IsFirstIn}
use Rattle.prefix_map.proofs.search.shortest_match.Given as goal

-- the node of the first bits, and the shortest front in the nodes so far
abbrev pub invariant-loop-depth : goal.invariant-loop-depth
invariant-loop-depth g l = record {
  named : map.get l.table.places l.at ≡ Some (take l.depth (g.R.Bits.bits l.fn.key));
  depth : l.depth ≤ l.to;
  best :
      MatchOption l.found (HasNoneIn l.table.entries (g.R.Bits.bits l.fn.key) l.from (min (l.to + 1) (l.depth + 5)))
      (λ x. IsFirstIn l.table.entries (g.R.Bits.bits l.fn.key) l.from (min (l.to + 1) (l.depth + 5)) x.len x.value.now);
}

abbrev pub decreases-loop-depth : goal.decreases-loop-depth
decreases-loop-depth g l = l.to - l.depth
