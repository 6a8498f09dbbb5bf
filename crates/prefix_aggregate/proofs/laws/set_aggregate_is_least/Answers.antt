use Rattle.prefix_model.proofs.SetAggregate.{unit_total, unit_exact, least_is_set_aggregate, set_covers}
use Rattle.prefix_aggregate.proofs.laws.set_aggregate_is_least.Goals as goal

pub returns-clause-least : goal.returns-clause-least
returns-clause-least c = least_is_set_aggregate unit_total unit_exact

pub returns-clause-covers : goal.returns-clause-covers
returns-clause-covers c = set_covers unit_total unit_exact
