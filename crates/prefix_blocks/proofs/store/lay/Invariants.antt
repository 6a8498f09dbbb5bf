use Rattle.std.specs.Prelude.{◌≡◌, ◌⊎◌, ℕ, ◌+◌, ◌<◌, ◌≤◌, length, take}
use Rattle.prefix_blocks.specs.Cells.{cell, laid, AreUnused}
use Rattle.prefix_blocks.proofs.store.lay.Given as goal

abbrev pub invariant-loop-i : goal.invariant-loop-i
invariant-loop-i g l =
    let all = l.initial.items.items in
    record {
      len : length l.cells ≡ length l.initial.cells;
      outside : (j : ℕ) → (j < l.start) ⊎ (l.start + length all ≤ j) → cell l.cells j ≡ cell l.initial.cells j;
      unused : AreUnused l.cells l.start l.i;
      holds : (k : ℕ) → l.i ≤ k → k < length all → cell l.cells (l.start + k) ≡ cell (laid all) k;
      left : l.items.items ≡ take l.i all;
    }
