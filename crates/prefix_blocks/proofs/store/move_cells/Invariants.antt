use Rattle.prefix_blocks.specs.Cells.{IsMoved}
use Rattle.prefix_blocks.proofs.store.move_cells.Given as goal

abbrev pub invariant-loop-i : goal.invariant-loop-i
invariant-loop-i g l = IsMoved l.initial.cells l.cells l.from l.to l.i
