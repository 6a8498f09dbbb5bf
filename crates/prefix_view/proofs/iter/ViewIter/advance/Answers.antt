use Rattle.std.proofs.Common.{◌≡◌, sym, ◌∙◌, subst, arith, take, true, false, Some, None, [], refl}
use Rattle.prefix_model.specs.Walks.{begins_with}
use Rattle.prefix_view.specs.Iteration.{left_from, IsAdvanceTo}
use Rattle.prefix_model.proofs.Fronts.{take_front}
use Rattle.prefix_view.proofs.Firsts.{first_extends, advances}
use Rattle.prefix_view.proofs.NodeViews.{seen_first}
use Rattle.prefix_view.proofs.iter.ViewIter.advance.Goals as goal

pub invariant_of-self-clause-within : goal.invariant_of-self-clause-within
invariant_of-self-clause-within g c = let w = (g.met.V.TrieView.place_law c.in-Some.found).within in omega (arith, w, c.prefix_len-self.ensures)

pub invariant_of-self-clause-extends : goal.invariant_of-self-clause-extends
invariant_of-self-clause-extends g c =
    let v = g.V.TrieView.seen c.args.self.now.view in
    let u = g.V.TrieView.seen c.in-Some.found in
    let q = take c.args.self.now.len (g.V.P.R.Bits.bits c.args.self.now.key) in
    let here = (λ i. take (c.prefix_len-self.ensures i) (c.key-self.ensures i)) ∙ take_front u.place _ in
    subst (λ k. begins_with v.place k ≡ true) (sym here) (first_extends v u q c.args.self.now.inclusive (seen_first v q c.args.self.now.inclusive (Some u) c.in-Some.ensures))

pub returns-in-Some-clause-next : goal.returns-in-Some-clause-next
returns-in-Some-clause-next g c =
    let v = g.V.TrieView.seen c.args.self.now.view in
    let u = g.V.TrieView.seen c.in-Some.found in
    let q = take c.args.self.now.len (g.V.P.R.Bits.bits c.args.self.now.key) in
    let p = take c.prefix_len-self.result (g.V.P.R.Bits.bits c.key-self.result) in
    let here : p ≡ u.place = (λ i. take (c.prefix_len-self.ensures i) (c.key-self.ensures i)) ∙ take_front u.place _ in
    subst (λ d. IsAdvanceTo v (left_from v q c.args.self.now.inclusive d) (left_from v p false d) u) (sym c.if-self.false)
    (advances v u q c.args.self.now.inclusive (seen_first v q c.args.self.now.inclusive (Some u) c.in-Some.ensures) p here)

pub returns-in-None-clause-next : goal.returns-in-None-clause-next
returns-in-None-clause-next g c =
    let v = g.V.TrieView.seen c.args.self.now.view in
    let q = take c.args.self.now.len (g.V.P.R.Bits.bits c.args.self.now.key) in
    let i = c.args.self.now.inclusive in
    let none = seen_first v q i None c.in-None.ensures in
    (subst (λ d. left_from v q i d ≡ []) (sym c.if-self.false) none, refl)
