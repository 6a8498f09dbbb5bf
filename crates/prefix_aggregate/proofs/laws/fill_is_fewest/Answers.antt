use Rattle.prefix_model.proofs.Filled.{fills_each}
use Rattle.prefix_aggregate.proofs.laws.fill_is_fewest.Goals as goal

pub returns : goal.returns
returns g c = fills_each g.met.V.Ord.total c.requires
