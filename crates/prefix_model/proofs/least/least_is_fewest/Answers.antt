use Rattle.prefix_model.proofs.Fewest.Tables.{has_fewest}
use Rattle.prefix_model.proofs.least.least_is_fewest.Goals as goal

pub returns : goal.returns
returns g c = has_fewest (g.met.V.Ord.total) c.requires
