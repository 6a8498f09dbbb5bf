use Rattle.std.proofs.Common.{take, length}
use Rattle.prefix_view.specs.Iteration.{left_from}
use Rattle.prefix_view.proofs.Asking.{IsAsking}
use Rattle.prefix_view.proofs.equality.agree_by.Given as goal

-- what the calls to come answer is the answer of all
abbrev pub invariant-pairs : goal.invariant-pairs
invariant-pairs g l =
    goal.F-IsAlwaysCallable g l.cmp
    × IsAsking (λ f x y r h. goal.F-step g f x y r h) g.L.TrieView.value_of g.R.TrieView.value_of l.fn.cmp (g.L.TrieView.seen l.fn.left) (g.R.TrieView.seen l.fn.right)
    l.cmp (g.L.TrieView.seen l.lefts.view) (g.R.TrieView.seen l.rights.view)
    (left_from (g.L.TrieView.seen l.lefts.view) (take l.lefts.len (g.L.P.R.Bits.bits l.lefts.key)) l.lefts.inclusive l.lefts.done)
    (left_from (g.R.TrieView.seen l.rights.view) (take l.rights.len (g.R.P.R.Bits.bits l.rights.key)) l.rights.inclusive l.rights.done)

abbrev pub decreases-pairs : goal.decreases-pairs
decreases-pairs g l = length (left_from (g.L.TrieView.seen l.lefts.view) (take l.lefts.len (g.L.P.R.Bits.bits l.lefts.key)) l.lefts.inclusive l.lefts.done)
