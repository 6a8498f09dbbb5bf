use Rattle.std.proofs.Common.{◌≡◌, ◌-◌, ◌/◌, ◌≤◌, get_or}
use Rattle.prefix_table.specs.Ways.{IsWay}
use Rattle.prefix_table.proofs.ways.go_down.Given as goal

abbrev pub invariant-loop-depth : goal.invariant-loop-depth
invariant-loop-depth g l = record {
  way : IsWay l.trie (g.R.Bits.bits l.key) l.numbers l.depth;
  within : l.depth ≤ l.len;
  last : l.at ≡ get_or l.numbers (l.depth / 5) 0;
}

abbrev pub decreases-loop-depth : goal.decreases-loop-depth
decreases-loop-depth g l = l.len - l.depth
