use Rattle.prefix_model.proofs.Consistent.{consistent_is_stable}
use Rattle.prefix_aggregate.proofs.laws.consistent_map_is_stable.Goals as goal

pub returns : goal.returns
returns g c = consistent_is_stable c.requires
