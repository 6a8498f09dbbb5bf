use Rattle.std.proofs.Common.{◌≡◌, ◌<◌, ◌+◌, ap, sym, ◌∙◌, subst, arith, length, true}
use Rattle.prefix_model.specs.Walks.{begins_with}
use Rattle.prefix_model.specs.Views.{node, moved}
use Rattle.prefix_model.proofs.Fronts.{front_append}
use Rattle.prefix_model.proofs.Nodes.{node_near}
use Rattle.prefix_view.proofs.Places.{stepped, stepped_child}
use Rattle.prefix_view.proofs.Shown.{step_child, step_shown, step_hidden}
use Rattle.prefix_view.proofs.view.step.Goals as goal

pub child_towards-requires-clause-extends : goal.child_towards-requires-clause-extends
child_towards-requires-clause-extends g c =
    let v = g.V.TrieView.seen c.args.view in
    subst (λ k. begins_with v.place k ≡ true) (sym (stepped_child v.place _ _ _ _ _ _ _ c.key.ensures c.prefix_len-len.ensures c.with_last-key.ensures c.if-len-depth.true c.depth.ensures)) (front_append v.place _)

pub returns-then-len-depth : goal.returns-then-len-depth
returns-then-len-depth g c =
    let v = g.V.TrieView.seen c.args.view in
    let at = g.met.V.TrieView.place_law c.args.view in
    let in_width = at.within in
    let within : length v.place < g.V.P.R.Bits.WIDTH = omega (arith, in_width) in
    let across : length v.place + 1 ≡ length (node v) + 5 = omega arith in
    step_child _ v at c.args.bit within across _
    (stepped_child v.place _ _ _ _ _ _ _ c.key.ensures c.prefix_len-len.ensures c.with_last-key.ensures c.if-len-depth.true c.depth.ensures)
    g.V.TrieView.seen c.child_towards.result c.child_towards.ensures

pub reposition-requires-clause-extends : goal.reposition-requires-clause-extends
reposition-requires-clause-extends g c =
    let v = g.V.TrieView.seen c.args.view in
    subst (λ k. begins_with v.place k ≡ true) (sym (stepped v.place _ _ _ _ _ c.key.ensures c.prefix_len-len.ensures c.with_last-key.ensures)) (front_append v.place _)

pub reposition-requires-clause-same_node : goal.reposition-requires-clause-same_node
reposition-requires-clause-same_node g c =
    let n = node_near (g.V.TrieView.seen c.args.view).place in omega (arith, n, c.if-len-depth.false)

pub returns-then-is_non_empty : goal.returns-then-is_non_empty
returns-then-is_non_empty g c =
    let v = g.V.TrieView.seen c.args.view in
    let at = g.met.V.TrieView.place_law c.args.view in
    let in_width = at.within in
    let within : length v.place < g.V.P.R.Bits.WIDTH = omega (arith, in_width) in
    let e = c.reposition.ensures ∙ ap (moved v) (stepped v.place _ _ _ _ _ c.key.ensures c.prefix_len-len.ensures c.with_last-key.ensures) in
    (step_shown _ v at c.args.bit within (λ l. c.if-len-depth.false (omega (arith, l))) _ e (c.is_non_empty.ensures.0 c.if-is_non_empty.true), e)

pub returns-else-is_non_empty : goal.returns-else-is_non_empty
returns-else-is_non_empty g c =
    let v = g.V.TrieView.seen c.args.view in
    let at = g.met.V.TrieView.place_law c.args.view in
    let in_width = at.within in
    let within : length v.place < g.V.P.R.Bits.WIDTH = omega (arith, in_width) in
    let e = c.reposition.ensures ∙ ap (moved v) (stepped v.place _ _ _ _ _ c.key.ensures c.prefix_len-len.ensures c.with_last-key.ensures) in
    step_hidden _ v at c.args.bit within (λ l. c.if-len-depth.false (omega (arith, l))) _ e (λ s. let t = c.is_non_empty.ensures.1 s in let f = c.if-is_non_empty.false in cc)
