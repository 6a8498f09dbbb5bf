use Rattle.prefix_layout.proofs.read.read_family.Given as goal

abbrev pub ghosts-read_nodes : goal.ghosts-read_nodes
ghosts-read_nodes g a = record { name = a.blank.name; parts = a.blank.parts }
