use Rattle.prefix_joint_archive.proofs.map.ArchivedJointPrefixMap.get_lpm.Given as goal

abbrev pub ghosts-lpm_in : goal.ghosts-lpm_in
ghosts-lpm_in g a = record { name = a.blank.name; parts = a.blank.parts }
