use Rattle.std.proofs.Common.{◌+◌, arith, take, length-take}
use Rattle.prefix_view.proofs.Longest.{is_longest, is_same, no_match}
use Rattle.prefix_view.proofs.view.longest_match.Goals as goal

pub returns-then-not-extends_place-clause-longest : goal.returns-then-not-extends_place-clause-longest
returns-then-not-extends_place-clause-longest g c =
    no_match (g.V.TrieView.seen c.args.view) (take c.args.len (g.V.P.R.Bits.bits c.args.key)) (λ f.
    let on = c.extends_place.ensures.1 f in
    let off = c.if-not-extends_place.true in
    cc (on, off))

pub longest_below-requires-clause-extends : goal.longest_below-requires-clause-extends
longest_below-requires-clause-extends g c = c.extends_place.ensures.0 c.if-not-extends_place.false

pub returns-clause-longest : goal.returns-clause-longest
returns-clause-longest g c =
    let v = g.V.TrieView.seen c.args.view in
    let bits = g.V.P.R.Bits.bits c.args.key in
    let t = length-take c.args.len bits in
    is_longest v (take c.args.len bits) g.V.TrieView.seen (c.args.len + 1) (omega (arith, t)) c.longest_below.result c.longest_below.ensures

pub returns-clause-same : goal.returns-clause-same
returns-clause-same g c =
    is_same (g.V.TrieView.seen c.args.view) (take c.args.len (g.V.P.R.Bits.bits c.args.key)) g.V.TrieView.seen (c.args.len + 1) c.longest_below.result c.longest_below.ensures
