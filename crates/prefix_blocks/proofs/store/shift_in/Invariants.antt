use Rattle.std.specs.Prelude.{◌≡◌, ◌∷◌, ◌++◌, take, drop, length}
use Rattle.std.specs.List.{insert}
use Rattle.prefix_blocks.proofs.store.shift_in.Given as goal

abbrev pub invariant-loop-i : goal.invariant-loop-i
invariant-loop-i g l = record {
  len : length l.cells ≡ length l.initial.cells;
  moved : take l.i l.cells ++ l.carried ∷ drop l.i l.cells ≡ insert l.initial.cells l.place l.fn.content;
}
