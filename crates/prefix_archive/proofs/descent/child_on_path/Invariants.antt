use Rattle.prefix_archive.proofs.descent.child_on_path.Given as goal

abbrev pub ghosts-child_towards_in : goal.ghosts-child_towards_in
ghosts-child_towards_in g a = record { name = a.blank.name; parts = a.blank.parts }
