use Rattle.std.proofs.Common.{◌∙◌}
use Rattle.prefix_joint_archive.proofs.FirstItems.{first_of, first_is_shortest}
use Rattle.prefix_joint_archive.proofs.map.ArchivedJointPrefixMap.get_spm.Goals as goal

pub returns-clause-first : goal.returns-clause-first
returns-clause-first g c = first_of _ _ _ c.next.ensures.steps.0 c.cover-entries.ensures ∙ first_is_shortest _ _ _
