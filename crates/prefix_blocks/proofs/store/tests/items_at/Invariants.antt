use Rattle.std.specs.Prelude.{◌≡◌, ◌+◌, length, drop}
use Rattle.prefix_blocks.specs.Cells.{items_front}
use Rattle.prefix_blocks.proofs.store.tests.items_at.Given as goal

abbrev pub invariant-loop-end : goal.invariant-loop-end
invariant-loop-end g l = l.end + length (items_front (drop l.end l.cells)) ≡ l.at + 1 + length (items_front (drop (l.at + 1) l.cells))
