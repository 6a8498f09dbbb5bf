use Rattle.std.proofs.Common.{◌≡◌, Some, drop}
use Rattle.prefix_io.specs.Memory.{planned_take}
use Rattle.prefix_io.proofs.memory.MemorySink.planned.Given as goal

abbrev pub invariant-loop-failing : goal.invariant-loop-failing
invariant-loop-failing l = record {
  number : l.fn.self.call ≡ Some l.number;
  passed : planned_take l.failing-items (Some l.number) ≡ planned_take (drop l.failing-index l.failing-items) (Some l.number);
}
