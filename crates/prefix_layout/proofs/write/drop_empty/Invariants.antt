use Rattle.std.proofs.Common.{◌≡◌, ◌++◌, length, take, drop}
use Rattle.std.specs.List.{filter}
use Rattle.prefix_layout.specs.Writing.{is_filled}
use Rattle.prefix_layout.proofs.Settling.{Dropping}
use Rattle.prefix_layout.proofs.write.drop_empty.Given as goal

abbrev pub invariant-loop-i : goal.invariant-loop-i
invariant-loop-i l = record {
  size : length l.nodes.items ≡ length l.initial.nodes.items;
  dropping : Dropping l.nodes.items l.len l.i (take 1 l.initial.nodes.items ++ filter is_filled (drop 1 l.initial.nodes.items));
}
