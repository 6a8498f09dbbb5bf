use Rattle.prefix_model.proofs.SetAggregate.{unit_total, unit_exact, set_stable}
use Rattle.prefix_aggregate.proofs.laws.set_aggregate_is_stable.Goals as goal

pub returns : goal.returns
returns c = set_stable unit_total unit_exact
