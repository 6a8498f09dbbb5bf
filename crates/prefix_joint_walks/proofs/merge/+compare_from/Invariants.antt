use Rattle.std.proofs.Common.{◌-◌}
use Rattle.prefix_joint_walks.proofs.merge.+compare_from.Given as goal

abbrev pub decreases-compare_from : goal.decreases-compare_from
decreases-compare_from g l = l.a_len - l.at
