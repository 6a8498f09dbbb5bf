use Rattle.prefix_model.proofs.Fewest.Tables.{is_canonical}
use Rattle.prefix_aggregate.proofs.laws.least_is_canonical.Goals as goal

pub returns : goal.returns
returns g c = is_canonical g.met.V.Ord.total c.requires
