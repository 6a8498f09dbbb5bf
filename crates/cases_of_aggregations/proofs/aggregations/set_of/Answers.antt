use Rattle.std.proofs.Common.{sym, subst}
use Rattle.prefix_model.specs.Tables.{HasWidth}
use Rattle.prefix_model.proofs.Widths.{width-empty, width-insert}
use Rattle.cases_of_aggregations.proofs.aggregations.set_of.Goals as goal

pub loop-key-init : goal.loop-key-init
loop-key-init g c = subst (λ m. HasWidth g.R.Bits.WIDTH m) (sym c.new-set.ensures.entries) (width-empty _ g.R.Bits.WIDTH)

pub loop-key-preserved : goal.loop-key-preserved
loop-key-preserved g c = subst (λ m. HasWidth g.R.Bits.WIDTH m) (sym c.in_default.ensures.stored) (width-insert g.R.Bits.WIDTH c.loop-key.set.entries _ _ _ c.loop-key.invariant (g.met.R.Bits.length_law _))
