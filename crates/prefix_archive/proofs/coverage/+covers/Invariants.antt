use Rattle.prefix_archive.proofs.coverage.+covers.Given as goal

-- how many bits can still be added
abbrev pub decreases-covers : goal.decreases-covers
decreases-covers g l = l.left
