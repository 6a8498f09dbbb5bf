use Rattle.std.specs.Prelude.{◌≡◌, ◌≤◌, ◌∷◌, [], ◌++◌, take, drop, length}
use Rattle.prefix_blocks.specs.declared.store.Cell.TheVariants.{Unused}
use Rattle.prefix_blocks.proofs.store.shift_out.Given as goal

abbrev pub invariant-loop-i : goal.invariant-loop-i
invariant-loop-i g l = record {
  from : l.place ≤ l.i;
  len : length l.cells ≡ length l.initial.cells;
  moved : take l.i l.cells ++ l.carried ∷ drop l.i l.cells ≡ l.initial.cells ++ Unused ∷ [];
}
