use Rattle.prefix_model.proofs.Archive.Levels.{positions_come_out}
use Rattle.prefix_model.proofs.layout.positions_come_out.Goals as goal

pub returns : goal.returns
returns c = positions_come_out
