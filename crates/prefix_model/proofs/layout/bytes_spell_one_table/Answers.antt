use Rattle.prefix_model.proofs.Archive.Spelled.{spells_one}
use Rattle.prefix_model.proofs.layout.bytes_spell_one_table.Goals as goal

pub returns : goal.returns
returns g c codec = spells_one codec
