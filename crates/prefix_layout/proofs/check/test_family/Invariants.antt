use Rattle.prefix_layout.proofs.check.test_family.Given as goal

abbrev pub ghosts-test_nodes : goal.ghosts-test_nodes
ghosts-test_nodes g a = record { name = a.blank.name; parts = a.blank.parts }
