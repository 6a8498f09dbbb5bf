use Rattle.prefix_model.proofs.Fewest.Tables.{keeps_answers, has_fewest}
use Rattle.prefix_aggregate.proofs.laws.least_is_fewest.Goals as goal

pub returns-clause-answers : goal.returns-clause-answers
returns-clause-answers g c = keeps_answers g.met.V.Ord.total c.requires

pub returns-clause-fewest : goal.returns-clause-fewest
returns-clause-fewest g c = has_fewest g.met.V.Ord.total c.requires
