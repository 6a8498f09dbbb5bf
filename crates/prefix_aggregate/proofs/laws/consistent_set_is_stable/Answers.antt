use Rattle.prefix_model.proofs.Consistent.{set_is_stable}
use Rattle.prefix_aggregate.proofs.laws.consistent_set_is_stable.Goals as goal

pub returns : goal.returns
returns g c = set_is_stable
