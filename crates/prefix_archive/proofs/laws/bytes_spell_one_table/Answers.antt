use Rattle.prefix_model.proofs.Archive.Spelled.{spells_one_pair}
use Rattle.prefix_archive.proofs.Archived.{spells_one_table}
use Rattle.prefix_archive.proofs.laws.bytes_spell_one_table.Goals as goal

pub returns-clause-one : goal.returns-clause-one
returns-clause-one g c codec = spells_one_table codec

pub returns-clause-pair : goal.returns-clause-pair
returns-clause-pair g c codec = spells_one_pair codec
