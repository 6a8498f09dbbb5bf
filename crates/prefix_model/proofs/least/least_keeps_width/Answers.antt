use Rattle.prefix_model.proofs.Fewest.Tables.{keeps_width}
use Rattle.prefix_model.proofs.least.least_keeps_width.Goals as goal

pub returns : goal.returns
returns g c = keeps_width (g.met.V.Ord.total) c.requires
