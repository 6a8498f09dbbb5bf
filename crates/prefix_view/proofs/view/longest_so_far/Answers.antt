use Rattle.std.proofs.Common.{◌+◌, ◌∙◌, take, length, sym}
use Rattle.std.specs.Option.{option_map}
use Rattle.prefix_model.specs.Views.{node}
use Rattle.prefix_view.proofs.Longest.{taken_here, taken_above}
use Rattle.prefix_view.proofs.view.longest_so_far.Goals as goal

pub returns-then-is_some : goal.returns-then-is_some
returns-then-is_some g c = λ whole below best.
    let u = g.V.TrieView.seen c.args.view in
    taken_here whole (take c.args.len (g.V.P.R.Bits.bits c.args.key)) u below c.requires.extends (length (node u) + 5) g.V.TrieView.seen c.longest_here-here.result
    (sym c.is_some.ensures ∙ c.if-is_some.true) c.longest_here-here.ensures

pub returns-else-is_some : goal.returns-else-is_some
returns-else-is_some g c = λ whole below best.
    let u = g.V.TrieView.seen c.args.view in
    taken_above whole (take c.args.len (g.V.P.R.Bits.bits c.args.key)) u below c.requires.extends (length (node u) + 5) g.V.TrieView.seen c.longest_here-here.result
    (sym c.is_some.ensures ∙ c.if-is_some.false) c.longest_here-here.ensures (option_map g.V.TrieView.seen c.args.above) best
