use Rattle.prefix_model.proofs.Archive.Levels.{lists_positions}
use Rattle.prefix_model.proofs.layout.positions_are_prefixes.Goals as goal

pub returns : goal.returns
returns c = lists_positions
