use Rattle.prefix_archive.proofs.Archived.{has_one_spelling}
use Rattle.prefix_archive.proofs.laws.tables_have_one_spelling.Goals as goal

pub returns : goal.returns
returns g c codec = has_one_spelling codec
