use Rattle.prefix_model.proofs.Fewest.Tables.{is_stable}
use Rattle.prefix_aggregate.proofs.laws.least_is_stable.Goals as goal

pub returns : goal.returns
returns g c = is_stable g.met.V.Ord.total c.requires
