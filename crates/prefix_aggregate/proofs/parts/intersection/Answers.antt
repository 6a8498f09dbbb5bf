use Rattle.std.proofs.Common.{◌++◌, ◌∙◌, sym, ap, arith, drop, ◌+◌}
use Rattle.prefix_model.specs.Candidates.{intersection}
use Rattle.prefix_aggregate.specs.Lists.{behind}
use Rattle.prefix_aggregate.proofs.Merging.{behind-read, behind-none, behind-pushed, both_end_left, both_end_right, left_sorted, right_sorted, both_less, both_greater, both_equal}
use Rattle.prefix_aggregate.proofs.parts.intersection.Goals as goal

pub loop-i-preserved-in-Less : goal.loop-i-preserved-in-Less
loop-i-preserved-in-Less g c =
    let left = behind-read c.args.left.now c.loop-i.i c.index-left-i.result c.loop-i-test.true c.index-left-i.is in
    let right = behind-read c.args.right.now c.loop-i.j c.index-right-j.result c.if-j-right.true c.index-right-j.is in
    record {
      so_far = both_less g.met.T.Ord.total _ _ _ _ _ _ left right c.loop-i.invariant.left c.loop-i.invariant.right (behind c.loop-i.both.items) (sym c.in-Less.ensures) ∙ c.loop-i.invariant.so_far;
      left_within = omega arith;
      right_within = omega arith;
      left = left_sorted g.met.T.Ord.total _ _ _ _ _ _ left right c.loop-i.invariant.left c.loop-i.invariant.right;
      right = c.loop-i.invariant.right;
    }

pub loop-i-preserved-in-Greater : goal.loop-i-preserved-in-Greater
loop-i-preserved-in-Greater g c =
    let left = behind-read c.args.left.now c.loop-i.i c.index-left-i.result c.loop-i-test.true c.index-left-i.is in
    let right = behind-read c.args.right.now c.loop-i.j c.index-right-j.result c.if-j-right.true c.index-right-j.is in
    record {
      so_far = both_greater g.met.T.Ord.total _ _ _ _ _ _ left right c.loop-i.invariant.left c.loop-i.invariant.right (behind c.loop-i.both.items) (sym c.in-Greater.ensures) ∙ c.loop-i.invariant.so_far;
      left_within = omega arith;
      right_within = omega arith;
      left = c.loop-i.invariant.left;
      right = right_sorted g.met.T.Ord.total _ _ _ _ _ _ left right c.loop-i.invariant.left c.loop-i.invariant.right;
    }

pub loop-i-preserved : goal.loop-i-preserved
loop-i-preserved g c =
    let left = behind-read c.args.left.now c.loop-i.i c.index-left-i.result c.loop-i-test.true c.index-left-i.is in
    let right = behind-read c.args.right.now c.loop-i.j c.index-right-j.result c.if-j-right.true c.index-right-j.is in
    let item = behind-read c.args.left.now c.loop-i.i c.index-left-i-in-Equal.result c.loop-i-test.true c.index-left-i-in-Equal.is in
    let pushed = behind-pushed c.loop-i.both.items _ c.index-left-i-in-Equal.result c.index-left-i.result _ _ c.in_ok-push-in-Equal.ensures.items left item in
    record {
      so_far = ap (λ out. out ++ intersection g.T.Ord.cmp (behind (drop (c.loop-i.i + 1) c.args.left.now)) (behind (drop (c.loop-i.j + 1) c.args.right.now))) pushed
          ∙ both_equal g.met.T.Ord.total _ _ _ _ _ _ left right c.loop-i.invariant.left c.loop-i.invariant.right (behind c.loop-i.both.items) (sym c.in-Equal.ensures) ∙ c.loop-i.invariant.so_far;
      left_within = omega arith;
      right_within = omega arith;
      left = left_sorted g.met.T.Ord.total _ _ _ _ _ _ left right c.loop-i.invariant.left c.loop-i.invariant.right;
      right = right_sorted g.met.T.Ord.total _ _ _ _ _ _ left right c.loop-i.invariant.left c.loop-i.invariant.right;
    }

pub returns-else-j-right : goal.returns-else-j-right
returns-else-j-right g c = both_end_right g.T.Ord.cmp _ _ _ _ (behind-none c.args.right.now c.loop-i.j c.if-j-right.false) c.loop-i.invariant.so_far

pub returns-after-loop-i : goal.returns-after-loop-i
returns-after-loop-i g c = both_end_left g.T.Ord.cmp _ _ _ _ (behind-none c.args.left.now c.loop-i.i c.loop-i-test.false) c.loop-i.invariant.so_far
