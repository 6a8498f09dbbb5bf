use Rattle.std.proofs.Common.{◌≡◌, ap, sym, ◌∙◌, subst, take, true}
use Rattle.prefix_model.specs.Walks.{begins_with, walk_from}
use Rattle.prefix_model.proofs.Fronts.{take_front, front_itself}
use Rattle.prefix_model.proofs.WalkSplits.{walk_is}
use Rattle.prefix_view.proofs.iter.ViewIter.new.Goals as goal

pub invariant_of-result-clause-extends : goal.invariant_of-result-clause-extends
invariant_of-result-clause-extends g c =
    let v = g.V.TrieView.seen c.args.view in
    let key = (λ i. take (c.prefix_len.ensures i) (c.key.ensures i)) ∙ take_front v.place _ in
    subst (λ k. begins_with v.place k ≡ true) (sym key) (front_itself v.place)

pub returns-clause-left : goal.returns-clause-left
returns-clause-left g c =
    let v = g.V.TrieView.seen c.args.view in
    let key = (λ i. take (c.prefix_len.ensures i) (c.key.ensures i)) ∙ take_front v.place _ in
    ap (λ k. walk_from v.entries v.place k true) key ∙ walk_is v.entries v.place
