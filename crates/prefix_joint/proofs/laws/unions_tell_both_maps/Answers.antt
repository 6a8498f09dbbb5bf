use Rattle.prefix_joint.proofs.MergedEntries.{union_tells}
use Rattle.prefix_joint.proofs.laws.unions_tell_both_maps.Goals as goal

pub returns : goal.returns
returns g c = union_tells g.row.L.Denot g.row.R.Denot
