use Rattle.std.specs.Prelude.{◌≡◌, ◌+◌, ◌++◌, replicate, vec_len, vec_capacity}
use Rattle.prefix_blocks.specs.declared.store.Cell.TheVariants.{Unused}
use Rattle.prefix_blocks.proofs.store.add_block.Given as goal

abbrev pub invariant-loop : goal.invariant-loop
invariant-loop g l = record {
  items : l.cells.items ≡ l.initial.cells.items ++ replicate l.counter Unused;
  len : vec_len l.cells ≡ vec_len l.initial.cells + l.counter;
  capacity : vec_capacity l.cells ≡ vec_capacity l.initial.cells;
}
