use Rattle.prefix_model.proofs.Fewest.Tables.{keeps_answers}
use Rattle.prefix_model.proofs.least.least_keeps_answers.Goals as goal

pub returns : goal.returns
returns g c = keeps_answers (g.met.V.Ord.total) c.requires
