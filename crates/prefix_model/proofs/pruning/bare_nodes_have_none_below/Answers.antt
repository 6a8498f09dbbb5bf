use Rattle.prefix_model.proofs.PruningLaws.{bare_has_none_below}
use Rattle.prefix_model.proofs.pruning.bare_nodes_have_none_below.Goals as goal

pub returns : goal.returns
returns c = bare_has_none_below
