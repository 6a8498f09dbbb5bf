use Rattle.prefix_model.proofs.Consistent.{consistent_keeps_answers}
use Rattle.prefix_aggregate.proofs.laws.consistent_map_keeps_answers.Goals as goal

pub returns : goal.returns
returns g c = consistent_keeps_answers c.requires
