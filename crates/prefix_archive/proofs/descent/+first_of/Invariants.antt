use Rattle.std.proofs.Common.{◌+◌, ◌-◌, ◌*◌}
use Rattle.prefix_archive.proofs.descent.+first_of.Given as goal

-- how many bits lie below the node, and then which of its children are left
abbrev pub decreases-first_of : goal.decreases-first_of
decreases-first_of g l = (g.P.R.Bits.WIDTH - l.depth) * 4294967296 + l.children
