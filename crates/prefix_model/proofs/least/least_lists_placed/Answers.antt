use Rattle.prefix_model.proofs.Fewest.Ascending.{lists_placed}
use Rattle.prefix_model.proofs.least.least_lists_placed.Goals as goal

pub returns : goal.returns
returns g c = lists_placed (g.V.Ord.cmp)
