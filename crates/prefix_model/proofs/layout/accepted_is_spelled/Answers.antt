use Rattle.prefix_model.proofs.Archive.Spelled.{spells_accepted}
use Rattle.prefix_model.proofs.layout.accepted_is_spelled.Goals as goal

pub returns : goal.returns
returns g c codec = spells_accepted codec
