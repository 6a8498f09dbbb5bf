use Rattle.prefix_model.proofs.Covered.{least_has_prefixes}
use Rattle.prefix_aggregate.proofs.laws.least_has_prefixes.Goals as goal

pub returns : goal.returns
returns g c = least_has_prefixes g.met.V.Ord.total c.requires
