use Rattle.prefix_model.proofs.Fewest.Ascending.{is_ascending}
use Rattle.prefix_model.proofs.least.candidates_ascend.Goals as goal

pub returns : goal.returns
returns g c = is_ascending (g.met.V.Ord.total)
