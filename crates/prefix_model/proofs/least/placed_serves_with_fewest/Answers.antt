use Rattle.prefix_model.proofs.Fewest.Tables.{serves_below_each}
use Rattle.prefix_model.proofs.least.placed_serves_with_fewest.Goals as goal

pub returns : goal.returns
returns g c = serves_below_each (g.met.V.Ord.total) c.requires
