use Rattle.std.proofs.Common.{◌≡◌, ◌∙◌, ap, subst, true, take}
use Rattle.prefix_model.specs.Walks.{begins_with}
use Rattle.prefix_model.specs.Views.{moved}
use Rattle.prefix_view.proofs.KeptPositions.{found, hidden}
use Rattle.prefix_view.proofs.view.TrieView.find.Goals as goal

pub returns-then-is_non_empty : goal.returns-then-is_non_empty
returns-then-is_non_empty g c =
    let v = g.Self.TrieView.seen c.args.self in
    let key = ap (λ n. take n (g.Self.P.R.Bits.bits c.repr.result)) (c.from.ensures ∙ c.prefix_len.ensures) ∙ c.repr.ensures.key in
    let there = c.in-Some.ensures.1 ∙ ap (moved v) key in
    (found v _ _ there (subst (λ k. begins_with v.place k ≡ true) key (c.in-Some.ensures.0)) (c.is_non_empty.ensures.0 c.if-is_non_empty.true), there)

pub returns-else-is_non_empty : goal.returns-else-is_non_empty
returns-else-is_non_empty g c =
    let v = g.Self.TrieView.seen c.args.self in
    let key = ap (λ n. take n (g.Self.P.R.Bits.bits c.repr.result)) (c.from.ensures ∙ c.prefix_len.ensures) ∙ c.repr.ensures.key in
    let there = c.in-Some.ensures.1 ∙ ap (moved v) key in
    hidden v _ _ there (λ s. let t = c.is_non_empty.ensures.1 s in let f = c.if-is_non_empty.false in cc (t, f))
