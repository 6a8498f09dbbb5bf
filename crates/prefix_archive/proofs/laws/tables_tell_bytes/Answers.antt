use Rattle.prefix_archive.proofs.Archived.{tells_bytes, tells_bytes_of_pair}
use Rattle.prefix_archive.proofs.laws.tables_tell_bytes.Goals as goal

pub returns-clause-one : goal.returns-clause-one
returns-clause-one g c = λ codec. tells_bytes codec

pub returns-clause-pair : goal.returns-clause-pair
returns-clause-pair g c = λ codec. tells_bytes_of_pair codec
