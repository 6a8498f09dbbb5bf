use Rattle.prefix_model.specs.Tables.{HasWidth}
use Rattle.cases_of_tables.proofs.tables.table_of.Given as goal

abbrev pub invariant-loop-key : goal.invariant-loop-key
invariant-loop-key g l = HasWidth 32 l.table.entries
