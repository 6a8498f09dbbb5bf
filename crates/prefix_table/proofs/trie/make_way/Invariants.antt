use Rattle.std.proofs.Common.{◌≡◌, ◌+◌, ◌-◌, ◌/◌, ◌≤◌, ◌<◌, count_ones}
use Rattle.prefix_blocks.specs.Sizes.{cells_needed}
use Rattle.prefix_table.specs.Writes.{AtNode, IsWayMade}
use Rattle.prefix_table.proofs.trie.make_way.Given as goal

abbrev pub invariant-loop-depth : goal.invariant-loop-depth
invariant-loop-depth g l = record {
  made : IsWayMade l.initial.trie l.trie (g.R.Bits.bits l.key) l.len l.at l.depth;
  room : l.depth + 5 ≤ l.len → AtNode l.trie l.at (λ n. cells_needed (count_ones n.child_bits) + (l.len - l.depth) / 5 ≤ l.trie.nodes.room + 1);
  fresh : l.initial.depth < l.depth → AtNode l.trie l.at (λ n. n.data_bits ≡ 0);
  down : l.initial.depth ≤ l.depth;
}

abbrev pub decreases-loop-depth : goal.decreases-loop-depth
decreases-loop-depth g l = l.len - l.depth
