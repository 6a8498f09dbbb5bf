use Rattle.std.proofs.Common.{◌+◌, ◌-◌, ◌*◌, ◌/◌}
use Rattle.prefix_table.proofs.trie.+clear_below.Given as goal

abbrev pub decreases-clear_below : goal.decreases-clear_below
decreases-clear_below g l = 157 - (6 * (l.depth / 5) + l.level)
