use Rattle.std.proofs.Common.{arith, ◌∙◌, sym, subst}
use Rattle.std.proofs.lemmas.Grind.{common_steps}
use Rattle.std.specs.Prelude.{T}
use Rattle.std.proofs.Math.Facts.{eqb_yes}
use Rattle.prefix_aggregate.proofs.Lists.{either_of, both_of}
use Rattle.prefix_aggregate.proofs.PartLaws.{left_whole, length-behind}
use Rattle.prefix_aggregate.proofs.parts.both_or_either.Goals as goal

pub returns-then-is_empty-clause-values : goal.returns-then-is_empty-clause-values
returns-then-is_empty-clause-values g c = grind (arith, common_steps, either_of)

pub returns-clause-values : goal.returns-clause-values
returns-clause-values g c = grind (arith, common_steps, both_of)

pub returns-clause-whole : goal.returns-clause-whole
returns-clause-whole g c = λ t.
    left_whole g.T.Ord.cmp _ _ _ c.in_ok-intersection.ensures (length-behind c.intersection.new.both.items ∙ sym (c.len.ensures ∙ c.intersection.new.both.ok.0) ∙ eqb_yes (subst T (sym t) tt) ∙ sym (length-behind c.args.left.now))
