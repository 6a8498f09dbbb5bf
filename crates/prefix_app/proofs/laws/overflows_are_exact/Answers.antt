use Rattle.prefix_app.proofs.ExactLaws.{overflows_exactly}
use Rattle.prefix_app.proofs.laws.overflows_are_exact.Goals as goal

pub returns : goal.returns
returns c = overflows_exactly
