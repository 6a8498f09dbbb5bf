use Rattle.std.proofs.Common.{◌-◌, length}
use Rattle.prefix_model.specs.Views.{node}
use Rattle.prefix_view.proofs.walk.+first_from.Given as goal

-- how many bits of the key lie below the node
abbrev pub decreases-first_from : goal.decreases-first_from
decreases-first_from g l = l.len - length (node (g.V.TrieView.seen l.view))
