use Rattle.prefix_model.proofs.Archive.Spelled.{reads_table}
use Rattle.prefix_model.proofs.layout.records_tell_entries.Goals as goal

pub returns : goal.returns
returns g c codec = reads_table codec
