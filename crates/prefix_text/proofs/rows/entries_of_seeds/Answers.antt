use Rattle.std.proofs.Common.{refl}
use Rattle.prefix_text.specs.Rows.{Generates}
use Rattle.prefix_text.specs.Generator.{next}
use Rattle.prefix_text.proofs.rows.entries_of_seeds.Goals as goal

pub returns-clause-none : goal.returns-clause-none
unfolding Generates next
returns-clause-none c = refl

pub returns-clause-seed_0 : goal.returns-clause-seed_0
unfolding Generates next
returns-clause-seed_0 c = refl

pub returns-clause-seed_2 : goal.returns-clause-seed_2
unfolding Generates next
returns-clause-seed_2 c = refl
