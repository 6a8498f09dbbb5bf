use Rattle.prefix_model.proofs.Archive.Spelled.{spells_one_pair}
use Rattle.prefix_model.proofs.layout.bytes_spell_one_pair.Goals as goal

pub returns : goal.returns
returns g c codec = spells_one_pair codec
