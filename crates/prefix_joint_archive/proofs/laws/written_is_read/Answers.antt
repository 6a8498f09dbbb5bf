use Rattle.prefix_joint_archive.proofs.Written.{reads_written_pair}
use Rattle.prefix_joint_archive.proofs.laws.written_is_read.Goals as goal

pub returns : goal.returns
returns g c codec = reads_written_pair codec
