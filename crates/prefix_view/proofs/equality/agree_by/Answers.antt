use Rattle.std.proofs.Common.{◌≡◌, ap, ◌∙◌, subst, take, true, false}
use borrow.Author.Tests.{both_ways}
use Rattle.std.proofs.lemmas.Option.{same_Some}
use Rattle.std.specs.FinMap.{get}
use Rattle.prefix_view.specs.Iteration.{left_from}
use Rattle.prefix_view.specs.Pairs.{Asks, AsksPairs}
use Rattle.prefix_view.proofs.Asking.{both_go, answered_false, keys_differ}
use Rattle.prefix_view.proofs.equality.agree_by.Goals as goal

pub returns-then-not-same_place : goal.returns-then-not-same_place
returns-then-not-same_place g c =
    let inv = c.pairs.invariant.1 in
    let na = c.in-Some.ensures.next in
    let nb = c.in-Some-advance.ensures.next in
    let p = (g.L.TrieView.seen c.in-Some.a).place in
    let q = (g.R.TrieView.seen c.in-Some-advance.b).place in
    inv.so_far false (keys_differ (λ f x y r h. goal.F-step g f x y r h) g.L.TrieView.value_of g.R.TrieView.value_of c.pairs.cmp _ _ _ _ p q na.value nb.value na.first nb.first
    (λ s. both_ways _ c.if-not-same_place.true (c.same_place.ensures.1 s)))

pub returns-then-not-answer_at : goal.returns-then-not-answer_at
returns-then-not-answer_at g c =
    let inv = c.pairs.invariant.1 in
    let na = c.in-Some.ensures.next in
    let nb = c.in-Some-advance.ensures.next in
    let p = (g.L.TrieView.seen c.in-Some.a).place in
    let q = (g.R.TrieView.seen c.in-Some-advance.b).place in
    let s : p ≡ q = c.same_place.ensures.0 c.if-not-same_place.false in
    let told = c.answer_at.ensures.asked in
    let va = told.2 ∙ ap (λ x. get x.entries p) na.same ∙ na.stored in
    let vb = told.3 ∙ ap (λ x. get x.entries q) nb.same ∙ nb.stored in
    let asks : Asks (λ f x y r h. goal.F-step g f x y r h) g.L.TrieView.value_of g.R.TrieView.value_of c.pairs.cmp na.value nb.value false c.answer_at.new.cmp = record {
      left = told.0;
      right = told.1;
      is_left = same_Some _ _ va;
      is_right = same_Some _ _ vb;
      asked = subst (λ r. goal.F-step g c.pairs.cmp told.0 told.1 r c.answer_at.new.cmp) c.if-not-answer_at.true told.4;
    } in
    inv.so_far false (answered_false (λ f x y r h. goal.F-step g f x y r h) g.L.TrieView.value_of g.R.TrieView.value_of c.pairs.cmp _ _ _ _ p q na.value nb.value c.answer_at.new.cmp na.first nb.first s asks)

pub pairs-preserved : goal.pairs-preserved
pairs-preserved g c =
    let inv = c.pairs.invariant.1 in
    let na = c.in-Some.ensures.next in
    let nb = c.in-Some-advance.ensures.next in
    let p = (g.L.TrieView.seen c.in-Some.a).place in
    let q = (g.R.TrieView.seen c.in-Some-advance.b).place in
    let s : p ≡ q = c.same_place.ensures.0 c.if-not-same_place.false in
    let told = c.answer_at.ensures.asked in
    let va = told.2 ∙ ap (λ x. get x.entries p) na.same ∙ na.stored in
    let vb = told.3 ∙ ap (λ x. get x.entries q) nb.same ∙ nb.stored in
    let asks : Asks (λ f x y r h. goal.F-step g f x y r h) g.L.TrieView.value_of g.R.TrieView.value_of c.pairs.cmp na.value nb.value true c.answer_at.new.cmp = record {
      left = told.0;
      right = told.1;
      is_left = same_Some _ _ va;
      is_right = same_Some _ _ vb;
      asked = subst (λ r. goal.F-step g c.pairs.cmp told.0 told.1 r c.answer_at.new.cmp) c.if-not-answer_at.false told.4;
    } in (
      c.answer_at.ensures.callable,
      record {
        same_left = ap g.L.TrieView.seen c.in-Some.ensures.view ∙ inv.same_left;
        same_right = ap g.R.TrieView.seen c.in-Some-advance.ensures.view ∙ inv.same_right;
        so_far = λ r t. inv.so_far r (both_go (λ f x y r h. goal.F-step g f x y r h) g.L.TrieView.value_of g.R.TrieView.value_of c.pairs.cmp _ _ _ _ p q na.value nb.value c.answer_at.new.cmp na.first nb.first s asks r
            (subst (λ x. AsksPairs (λ f x y r h. goal.F-step g f x y r h) g.L.TrieView.value_of g.R.TrieView.value_of c.answer_at.new.cmp (left_from (g.L.TrieView.seen c.pairs.lefts.view) (take c.advance.new.self.len (g.L.P.R.Bits.bits c.advance.new.self.key)) c.advance.new.self.inclusive c.advance.new.self.done) (left_from (g.R.TrieView.seen x) (take c.advance-in-Some.new.self.len (g.R.P.R.Bits.bits c.advance-in-Some.new.self.key)) c.advance-in-Some.new.self.inclusive c.advance-in-Some.new.self.done) r) c.in-Some-advance.ensures.view
            (subst (λ x. AsksPairs (λ f x y r h. goal.F-step g f x y r h) g.L.TrieView.value_of g.R.TrieView.value_of c.answer_at.new.cmp (left_from (g.L.TrieView.seen x) (take c.advance.new.self.len (g.L.P.R.Bits.bits c.advance.new.self.key)) c.advance.new.self.inclusive c.advance.new.self.done) (left_from (g.R.TrieView.seen c.advance-in-Some.new.self.view) (take c.advance-in-Some.new.self.len (g.R.P.R.Bits.bits c.advance-in-Some.new.self.key)) c.advance-in-Some.new.self.inclusive c.advance-in-Some.new.self.done) r) c.in-Some.ensures.view t)));
      },
    )
