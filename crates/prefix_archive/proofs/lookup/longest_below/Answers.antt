use Rattle.std.proofs.Common.{◌≡◌, ◌+◌, ◌++◌, ◌%◌, take, sym, ap, ◌∙◌, subst, arith}
use Rattle.prefix_model.specs.InPlace.{IsRecordOf, is_position}
use Rattle.prefix_table.specs.Records.{node_record}
use Rattle.prefix_model.proofs.KeyPieces.{take_parts}
use Rattle.prefix_model.proofs.Matching.FrontMatches.{best_end, best_deeper}
use Rattle.prefix_archive.proofs.Fronts.{none_below}
use Rattle.prefix_archive.proofs.lookup.longest_below.Goals as goal

pub returns-in-None-clause-found : goal.returns-in-None-clause-found
returns-in-None-clause-found g c =
    let bits = g.P.R.Bits.bits c.args.key in
    let m = c.args.archive.now.table.entries in
    let d = c.loop-depth.depth in
    let at_five = c.loop-depth.invariant.at_five in
    let five : (d + 5) % 5 ≡ 0 = omega (arith, at_five) in
    let len = g.met.P.R.Bits.length_law c.args.key in
    let way = ap (λ s. take d bits ++ s) c.child_bit-slot.ensures.bits ∙ take_parts bits d (d + 5) (omega arith) in
    let gone = ap (is_position m) (sym way) ∙ c.in-None.ensures.child (take d bits) c.loop-depth.invariant.node in
    best_end (λ x. x.len) (λ x. x.value.spelling.value) m bits c.deeper-best.result (d + 5) (c.args.len + 1)
    (best_deeper (λ x. x.len) (λ x. x.value.spelling.value) m bits c.loop-depth.best c.last_above.result c.deeper-best.result d (d + 5) (omega arith) c.loop-depth.invariant.best c.last_above.ensures c.deeper-best.ensures)
    (omega arith)
    (none_below m bits (d + 5) (c.args.len + 1) five (omega (arith, len)) (omega (arith, len)) gone)

pub loop-depth-preserved : goal.loop-depth-preserved
loop-depth-preserved g c =
    let bits = g.P.R.Bits.bits c.args.key in
    let m = c.args.archive.now.table.entries in
    let d = c.loop-depth.depth in
    let at_five = c.loop-depth.invariant.at_five in
    let before = c.loop-depth.invariant.steps in
    let steps = c.in-Some.ensures.steps in
    let way = ap (λ s. take d bits ++ s) c.child_bit-slot.ensures.bits ∙ take_parts bits d (d + 5) (omega arith) in
    record {
      node = subst (λ k. IsRecordOf m k (node_record c.in-Some.child)) way (c.in-Some.ensures.child (take d bits) c.loop-depth.invariant.node);
      depth = omega arith;
      at_five = omega (arith, at_five);
      steps = omega (arith, before, steps, at_five);
      best = best_deeper (λ x. x.len) (λ x. x.value.spelling.value) m bits c.loop-depth.best c.last_above.result c.deeper-best.result d (d + 5) (omega arith) c.loop-depth.invariant.best c.last_above.ensures c.deeper-best.ensures;
    }
