use Rattle.prefix_archive.proofs.descent.first_entry.Given as goal

abbrev pub ghosts-first_in : goal.ghosts-first_in
ghosts-first_in g a = record { name = a.blank.name; parts = a.blank.parts }
