use Rattle.std.proofs.Common.{◌≡◌, ◌++◌, drop}
use Rattle.prefix_aggregate.specs.Lists.{behind}
use Rattle.prefix_aggregate.proofs.sets.add_clones.Given as goal

-- the values so far, and those of what is left
abbrev pub invariant-loop-i : goal.invariant-loop-i
invariant-loop-i g l = l.values.items ++ behind (drop l.i l.list) ≡ l.initial.values.items ++ behind l.list
