use Rattle.prefix_joint_archive.proofs.Overflow.{full_needs_entries}
use Rattle.prefix_joint_archive.proofs.laws.overflow_needs_entries.Goals as goal

pub returns : goal.returns
returns g c = full_needs_entries g.T.ValueCodec.codec g.met.T.Ord.total c.requires
