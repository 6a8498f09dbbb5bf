use Rattle.std.proofs.Common.{◌-◌}
use Rattle.prefix_archive.proofs.descent.+first_from.Given as goal

-- how many bits of the key lie below the node
abbrev pub decreases-first_from : goal.decreases-first_from
decreases-first_from g l = l.len - l.depth
