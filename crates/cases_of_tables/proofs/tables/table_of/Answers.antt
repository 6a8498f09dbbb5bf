use Rattle.std.proofs.Common.{sym, subst}
use Rattle.prefix_model.specs.Tables.{HasWidth}
use Rattle.prefix_model.proofs.KeyNumbers.{length-low_bits}
use Rattle.prefix_model.proofs.Widths.{width-empty, width-insert}
use Rattle.cases_of_tables.proofs.tables.table_of.Goals as goal

pub loop-key-init : goal.loop-key-init
loop-key-init g c = subst (λ m. HasWidth 32 m) (sym c.new-table.ensures.entries) (width-empty _ 32)

pub loop-key-preserved : goal.loop-key-preserved
loop-key-preserved g c = subst (λ m. HasWidth 32 m) (sym c.in_ok-insert.ensures.stored) (width-insert 32 c.loop-key.table.entries _ _ _ c.loop-key.invariant (length-low_bits 32 _))
