use Rattle.std.proofs.Common.{take, length}
use Rattle.prefix_view.specs.Iteration.{left_from}
use Rattle.prefix_view.proofs.SideBySide.{IsPairing}
use Rattle.prefix_view.proofs.equality.have_same_keys.Given as goal

-- what is left of both has the same keys exactly where the whole has
abbrev pub invariant-pairs : goal.invariant-pairs
invariant-pairs g l =
    IsPairing (g.L.TrieView.seen l.lefts.view) (g.R.TrieView.seen l.rights.view) (g.L.TrieView.seen l.fn.left) (g.R.TrieView.seen l.fn.right)
    (left_from (g.L.TrieView.seen l.lefts.view) (take l.lefts.len (g.L.P.R.Bits.bits l.lefts.key)) l.lefts.inclusive l.lefts.done)
    (left_from (g.R.TrieView.seen l.rights.view) (take l.rights.len (g.R.P.R.Bits.bits l.rights.key)) l.rights.inclusive l.rights.done)

abbrev pub decreases-pairs : goal.decreases-pairs
decreases-pairs g l = length (left_from (g.L.TrieView.seen l.lefts.view) (take l.lefts.len (g.L.P.R.Bits.bits l.lefts.key)) l.lefts.inclusive l.lefts.done)
