use Rattle.prefix_model.proofs.Fewest.Keys.{knows_each_key}
use Rattle.prefix_model.proofs.least.least_is_known_at_each_key.Goals as goal

pub returns : goal.returns
returns g c = knows_each_key (g.met.V.Ord.total) c.requires
