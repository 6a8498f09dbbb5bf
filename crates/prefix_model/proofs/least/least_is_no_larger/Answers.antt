use Rattle.prefix_model.proofs.Fewest.Tables.{is_no_larger}
use Rattle.prefix_model.proofs.least.least_is_no_larger.Goals as goal

pub returns : goal.returns
returns g c = is_no_larger (g.met.V.Ord.total) c.requires
