use Rattle.std.proofs.Common.{◌++◌, ◌∙◌, sym, ap, arith, drop, ◌+◌}
use Rattle.prefix_model.specs.Candidates.{union}
use Rattle.prefix_aggregate.specs.Lists.{behind}
use Rattle.prefix_aggregate.proofs.Merging.{behind-read, behind-none, behind-pushed, behind-rest, either_end_left, either_end_right, either_end, left_sorted, right_sorted, either_less, either_greater, either_equal}
use Rattle.prefix_aggregate.proofs.parts.union.Goals as goal
use Rattle.prefix_aggregate.proofs.parts.union.Goals.{then-loop-i-test+else-j-right, else-loop-i-test}

pub loop-i-preserved-in-Less : goal.loop-i-preserved-in-Less
loop-i-preserved-in-Less g c =
    let left = behind-read c.args.left.now c.loop-i.i c.index-left-i.result c.loop-i-test.true c.index-left-i.is in
    let right = behind-read c.args.right.now c.loop-i.j c.index-right-j.result c.if-j-right.true c.index-right-j.is in
    let item = behind-read c.args.left.now c.loop-i.i c.index-left-i-in-Less.result c.loop-i-test.true c.index-left-i-in-Less.is in
    let pushed = behind-pushed c.loop-i.all.items _ c.index-left-i-in-Less.result c.index-left-i.result _ _ c.in_ok-push-in-Less.ensures.items left item in
    record {
      so_far = ap (λ out. out ++ union g.T.Ord.cmp (behind (drop (c.loop-i.i + 1) c.args.left.now)) (behind (drop c.loop-i.j c.args.right.now))) pushed
          ∙ either_less g.met.T.Ord.total _ _ _ _ _ _ left right c.loop-i.invariant.left c.loop-i.invariant.right (behind c.loop-i.all.items) (sym c.in-Less.ensures) ∙ c.loop-i.invariant.so_far;
      left_within = omega arith;
      right_within = omega arith;
      left = left_sorted g.met.T.Ord.total _ _ _ _ _ _ left right c.loop-i.invariant.left c.loop-i.invariant.right;
      right = c.loop-i.invariant.right;
    }

pub loop-i-preserved-in-Greater : goal.loop-i-preserved-in-Greater
loop-i-preserved-in-Greater g c =
    let left = behind-read c.args.left.now c.loop-i.i c.index-left-i.result c.loop-i-test.true c.index-left-i.is in
    let right = behind-read c.args.right.now c.loop-i.j c.index-right-j.result c.if-j-right.true c.index-right-j.is in
    let item = behind-read c.args.right.now c.loop-i.j c.index-right-j-in-Greater.result c.if-j-right.true c.index-right-j-in-Greater.is in
    let pushed = behind-pushed c.loop-i.all.items _ c.index-right-j-in-Greater.result c.index-right-j.result _ _ c.in_ok-push-in-Greater.ensures.items right item in
    record {
      so_far = ap (λ out. out ++ union g.T.Ord.cmp (behind (drop c.loop-i.i c.args.left.now)) (behind (drop (c.loop-i.j + 1) c.args.right.now))) pushed
          ∙ either_greater g.met.T.Ord.total _ _ _ _ _ _ left right c.loop-i.invariant.left c.loop-i.invariant.right (behind c.loop-i.all.items) (sym c.in-Greater.ensures) ∙ c.loop-i.invariant.so_far;
      left_within = omega arith;
      right_within = omega arith;
      left = c.loop-i.invariant.left;
      right = right_sorted g.met.T.Ord.total _ _ _ _ _ _ left right c.loop-i.invariant.left c.loop-i.invariant.right;
    }

pub loop-i-preserved : goal.loop-i-preserved
loop-i-preserved g c =
    let left = behind-read c.args.left.now c.loop-i.i c.index-left-i.result c.loop-i-test.true c.index-left-i.is in
    let right = behind-read c.args.right.now c.loop-i.j c.index-right-j.result c.if-j-right.true c.index-right-j.is in
    let item = behind-read c.args.right.now c.loop-i.j c.index-right-j-in-Equal.result c.if-j-right.true c.index-right-j-in-Equal.is in
    let pushed = behind-pushed c.loop-i.all.items _ c.index-right-j-in-Equal.result c.index-right-j.result _ _ c.in_ok-push-in-Equal.ensures.items right item in
    record {
      so_far = ap (λ out. out ++ union g.T.Ord.cmp (behind (drop (c.loop-i.i + 1) c.args.left.now)) (behind (drop (c.loop-i.j + 1) c.args.right.now))) pushed
          ∙ either_equal g.met.T.Ord.total _ _ _ _ _ _ left right c.loop-i.invariant.left c.loop-i.invariant.right (behind c.loop-i.all.items) (sym c.in-Equal.ensures) ∙ c.loop-i.invariant.so_far;
      left_within = omega arith;
      right_within = omega arith;
      left = left_sorted g.met.T.Ord.total _ _ _ _ _ _ left right c.loop-i.invariant.left c.loop-i.invariant.right;
      right = right_sorted g.met.T.Ord.total _ _ _ _ _ _ left right c.loop-i.invariant.left c.loop-i.invariant.right;
    }

pub returns : goal.returns
returns g c =
    let first = behind-rest c.loop-i.all.items _ c.args.left.now c.loop-i.i c.in_ok-extend_from_slice.ensures.items in
    let second = behind-rest _ _ c.args.right.now c.loop-i.j c.in_ok-extend_from_slice-2.ensures.items in
    either_end g.T.Ord.cmp _ _ _ _ _ _ first second
    (elim c.loop-i-test.branch [
      | then-loop-i-test+else-j-right w ↦ either_end_right g.met.T.Ord.total _ _ c.loop-i.invariant.left (behind-none c.args.right.now c.loop-i.j w.if-j-right.false)
      | else-loop-i-test w ↦ either_end_left g.T.Ord.cmp _ _ (behind-none c.args.left.now c.loop-i.i w.loop-i-test.false)
    ])
    c.loop-i.invariant.so_far
