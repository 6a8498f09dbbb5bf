use Rattle.prefix_model.specs.Tables.{HasWidth}
use Rattle.cases_of_aggregations.proofs.aggregations.table_of.Given as goal

abbrev pub invariant-loop-key : goal.invariant-loop-key
invariant-loop-key g l = HasWidth g.R.Bits.WIDTH l.table.entries
