use Rattle.std.proofs.Common.{◌≡◌, ℕ, List, [], ◌∷◌, arith, refl, sym, ap, ◌∙◌}
use Rattle.prefix_aggregate.specs.Stacks.{start_at}
use Rattle.prefix_aggregate.proofs.StackLaws.{start_before}
use Rattle.prefix_aggregate.proofs.sets.start_of.Goals as goal

first_start : (es : List ℕ) → 0 ≡ start_at 0 es 0
first_start [] = refl
first_start (e ∷ es) = refl

pub returns-then-number-eq0 : goal.returns-then-number-eq0
returns-then-number-eq0 c = first_start c.args.ends.now ∙ ap (start_at 0 c.args.ends.now) (sym c.if-number-eq0.true)

pub returns-else-number-eq0 : goal.returns-else-number-eq0
returns-else-number-eq0 c = start_before 0 c.args.ends.now c.args.number (omega arith) c.requires
