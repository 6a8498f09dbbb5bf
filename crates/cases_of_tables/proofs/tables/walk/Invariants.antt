use Rattle.std.specs.Prelude.{IsSome}
use Rattle.std.specs.FinMap as map
use Rattle.cases_of_tables.proofs.tables.walk.Given as goal

-- the node is one of the table's
abbrev pub invariant-loop-bit : goal.invariant-loop-bit
invariant-loop-bit g l = IsSome (map.get l.table.places l.at)
