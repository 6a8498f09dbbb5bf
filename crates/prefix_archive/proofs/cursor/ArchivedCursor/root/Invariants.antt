use Rattle.prefix_archive.proofs.cursor.ArchivedCursor.root.Given as goal

abbrev pub ghosts-root_in : goal.ghosts-root_in
ghosts-root_in g a = record { name = a.blank.name; parts = a.blank.parts }
