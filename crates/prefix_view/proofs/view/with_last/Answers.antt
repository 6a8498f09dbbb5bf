use Rattle.std.proofs.Common.{◌∙◌, ap, sym, Some}
use Rattle.prefix_model.proofs.Fronts.{take_next}
use Rattle.prefix_view.proofs.view.with_last.Goals as goal

pub returns-else-bit : goal.returns-else-bit
returns-else-bit g c = take_next (g.R.Bits.bits c.args.key) c.args.i c.args.bit (c.requires.clear ∙ ap (λ b. Some b) (sym c.if-bit.false))
