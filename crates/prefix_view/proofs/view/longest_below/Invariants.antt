use Rattle.std.proofs.Common.{◌-◌, length}
use Rattle.std.specs.Option.{option_map}
use Rattle.prefix_model.specs.Views.{node}
use Rattle.prefix_view.proofs.Longest.{Searching}
use Rattle.prefix_view.proofs.view.longest_below.Given as goal

abbrev pub invariant-down : goal.invariant-down
invariant-down g l =
    Searching (g.V.TrieView.seen l.fn.view) (g.V.P.R.Bits.bits l.key) l.len (g.V.TrieView.seen l.at) (option_map g.V.TrieView.seen l.best)

abbrev pub decreases-down : goal.decreases-down
decreases-down g l = l.len - length (node (g.V.TrieView.seen l.at))
