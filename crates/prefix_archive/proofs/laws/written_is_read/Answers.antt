use Rattle.prefix_archive.proofs.Archived.{reads_written}
use Rattle.prefix_archive.proofs.laws.written_is_read.Goals as goal

pub returns : goal.returns
returns g c codec = reads_written codec
