use Rattle.std.proofs.Common.{sym, ◌∙◌}
use Rattle.prefix_aggregate.proofs.PartLaws.{other_lengths, length-behind}
use Rattle.prefix_aggregate.proofs.parts.same_values.Goals as goal

pub returns-then-left-right : goal.returns-then-left-right
returns-then-left-right g c = other_lengths g.T.Ord.cmp _ _ (λ e. c.if-left-right.true (sym (length-behind c.args.left.now) ∙ e ∙ length-behind c.args.right.now))
