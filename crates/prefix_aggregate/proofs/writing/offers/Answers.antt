use Rattle.std.proofs.Common.{arith}
use Rattle.std.proofs.lemmas.Grind.{common_steps}
use Rattle.prefix_model.specs.Candidates.{offers}
use Rattle.prefix_aggregate.proofs.writing.offers.Goals as goal

pub returns-in-Some : goal.returns-in-Some
unfolding offers
returns-in-Some g c = grind (arith, common_steps)

pub returns-in-None : goal.returns-in-None
unfolding offers
returns-in-None g c = grind (arith, common_steps)
