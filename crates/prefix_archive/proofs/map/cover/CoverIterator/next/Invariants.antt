use Rattle.prefix_archive.proofs.map.cover.CoverIterator.next.Given as goal

abbrev pub ghosts-shortest_match : goal.ghosts-shortest_match
ghosts-shortest_match g a = record { name = a.blank.name; parts = a.blank.parts }
