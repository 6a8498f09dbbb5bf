use Rattle.prefix_archive.proofs.descent.child_at.Given as goal

abbrev pub ghosts-child_in : goal.ghosts-child_in
ghosts-child_in g a = record { name = a.blank.name; parts = a.blank.parts }
