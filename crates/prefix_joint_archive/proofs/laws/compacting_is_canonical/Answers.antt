use Rattle.prefix_joint_archive.proofs.Compacted.{is_canonical_archive}
use Rattle.prefix_joint_archive.proofs.laws.compacting_is_canonical.Goals as goal

pub returns : goal.returns
returns g c = is_canonical_archive g.T.ValueCodec.codec g.met.T.Ord.total c.requires
