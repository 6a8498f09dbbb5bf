use Rattle.prefix_app.proofs.ExactLaws.{refuses_exactly}
use Rattle.prefix_app.proofs.laws.refusals_are_exact.Goals as goal

pub returns : goal.returns
returns c = refuses_exactly
