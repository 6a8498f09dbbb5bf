use Rattle.prefix_joint_archive.proofs.Room.{counts_positions}
use Rattle.prefix_joint_archive.proofs.laws.positions_are_few.Goals as goal

pub returns : goal.returns
returns g c = counts_positions _
