use Rattle.std.proofs.Common.{◌+◌, ◌-◌, ◌*◌, length}
use Rattle.prefix_model.specs.Views.{node}
use Rattle.prefix_view.proofs.walk.+first_of.Given as goal

-- how many bits lie below the node, and then which of its children are left
abbrev pub decreases-first_of : goal.decreases-first_of
decreases-first_of g l = (g.V.P.R.Bits.WIDTH - length (node (g.V.TrieView.seen l.view))) * 4294967296 + l.children
