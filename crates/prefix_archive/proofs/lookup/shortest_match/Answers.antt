use Rattle.std.proofs.Common.{◌≡◌, ◌+◌, ◌%◌, refl, sym, ◌∙◌, subst, arith}
use Rattle.std.specs.Prelude.{min}
use Rattle.prefix_model.specs.Hits.{HasNoneIn}
use Rattle.prefix_model.proofs.Matching.FrontMatches.{none_more, first_deeper, first_end, none_found, some_wider}
use Rattle.prefix_archive.proofs.Fronts.{none_below}
use Rattle.prefix_archive.proofs.lookup.shortest_match.Goals as goal

pub loop-depth-init : goal.loop-depth-init
loop-depth-init g c = record {
  node = c.root_record-node.ensures.root;
  depth = omega arith;
  at_five = refl;
  best = first_deeper (λ x. x.len) (λ x. x.value.spelling.value) c.args.archive.now.table.entries (g.P.R.Bits.bits c.args.key) c.args.from 0 _ c.first_in-found.result (λ j a b. absurd (omega arith)) c.first_in-found.ensures;
}

pub returns-then-is_some : goal.returns-then-is_some
returns-then-is_some g c =
    some_wider (λ x. x.len) (λ x. x.value.spelling.value) c.args.archive.now.table.entries (g.P.R.Bits.bits c.args.key) c.args.from (min (c.args.len + 1) (c.loop-depth.depth + 5)) (c.args.len + 1) c.loop-depth.found (sym c.is_some.ensures ∙ c.if-is_some.true) (omega arith) c.loop-depth.invariant.best

pub returns-in-None : goal.returns-in-None
returns-in-None g c =
    let bits = g.P.R.Bits.bits c.args.key in
    let m = c.args.archive.now.table.entries in
    let d = c.loop-depth.depth in
    let at_five = c.loop-depth.invariant.at_five in
    let five : (d + 5) % 5 ≡ 0 = omega (arith, at_five) in
    let len = g.met.P.R.Bits.length_law c.args.key in
    let end : min (c.args.len + 1) (d + 5) ≡ d + 5 = omega arith in
    let none = none_found (λ x. x.len) (λ x. x.value.spelling.value) m bits c.args.from (min (c.args.len + 1) (d + 5)) c.loop-depth.found (sym c.is_some.ensures ∙ c.if-is_some.false) c.loop-depth.invariant.best in
    none_more m bits c.args.from (d + 5) (c.args.len + 1) (subst (HasNoneIn m bits c.args.from) end none)
    (none_below m bits (d + 5) (c.args.len + 1) five (omega (arith, len)) (omega (arith, len)) c.in-None.ensures.child)

pub loop-depth-preserved : goal.loop-depth-preserved
loop-depth-preserved g c =
    let bits = g.P.R.Bits.bits c.args.key in
    let m = c.args.archive.now.table.entries in
    let d = c.loop-depth.depth in
    let at_five = c.loop-depth.invariant.at_five in
    let end : min (c.args.len + 1) (d + 5) ≡ d + 5 = omega arith in
    let none = none_found (λ x. x.len) (λ x. x.value.spelling.value) m bits c.args.from (min (c.args.len + 1) (d + 5)) c.loop-depth.found (sym c.is_some.ensures ∙ c.if-is_some.false) c.loop-depth.invariant.best in
    record {
      node = c.in-Some.ensures.child;
      depth = omega arith;
      at_five = omega (arith, at_five);
      best = first_deeper (λ x. x.len) (λ x. x.value.spelling.value) m bits c.args.from (d + 5) _ c.first_in-found-in-loop-depth.result (subst (HasNoneIn m bits c.args.from) end none) c.first_in-found-in-loop-depth.ensures;
    }

pub returns : goal.returns
returns g c =
    let bits = g.P.R.Bits.bits c.args.key in
    let m = c.args.archive.now.table.entries in
    first_end (λ x. x.len) (λ x. x.value.spelling.value) m bits c.args.from (min (c.args.len + 1) (c.loop-depth.depth + 5)) (c.args.len + 1) c.loop-depth.found (omega arith) c.loop-depth.invariant.best
