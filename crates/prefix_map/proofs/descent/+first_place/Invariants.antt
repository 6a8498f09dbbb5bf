use Rattle.prefix_map.proofs.descent.+first_place.Given as goal

-- fewer and fewer bits are set
abbrev pub decreases-first_place : goal.decreases-first_place
decreases-first_place l = l.places
