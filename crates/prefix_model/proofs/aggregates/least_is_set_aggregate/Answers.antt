use Rattle.prefix_model.proofs.SetAggregate.{unit_total, unit_exact, least_is_set_aggregate, set_covers, set_stable}
use Rattle.prefix_model.proofs.aggregates.least_is_set_aggregate.Goals as goal

pub returns-clause-least : goal.returns-clause-least
returns-clause-least c = least_is_set_aggregate unit_total unit_exact

pub returns-clause-covers : goal.returns-clause-covers
returns-clause-covers c = set_covers unit_total unit_exact

pub returns-clause-stable : goal.returns-clause-stable
returns-clause-stable c = set_stable unit_total unit_exact
