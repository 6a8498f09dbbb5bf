use Rattle.std.proofs.Common.{◌-◌, length, take}
use Rattle.prefix_model.specs.Views.{node, IsOnWay}
use Rattle.prefix_view.proofs.view.node_towards.Given as goal

-- the same table, at a place on the way to the key
abbrev pub invariant-down : goal.invariant-down
invariant-down g l = IsOnWay (g.V.TrieView.seen l.fn.view) (g.V.TrieView.seen l.at) (take l.len (g.V.P.R.Bits.bits l.key))

abbrev pub decreases-down : goal.decreases-down
decreases-down g l = l.len - length (node (g.V.TrieView.seen l.at))
