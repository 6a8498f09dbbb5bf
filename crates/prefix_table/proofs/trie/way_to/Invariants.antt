use Rattle.std.proofs.Common.{◌≡◌, ◌-◌, ◌≤◌, ◌%◌, take, Some}
use Rattle.prefix_table.specs.Tries.{number_at}
use Rattle.prefix_table.proofs.trie.way_to.Given as goal

abbrev pub invariant-loop-depth : goal.invariant-loop-depth
invariant-loop-depth g l = (l.depth ≤ l.len) × (l.depth % 5 ≡ 0) × (number_at l.trie (take l.depth (g.R.Bits.bits l.key)) ≡ Some l.at)

abbrev pub decreases-loop-depth : goal.decreases-loop-depth
decreases-loop-depth g l = l.len - l.depth
