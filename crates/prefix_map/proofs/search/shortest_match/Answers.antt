use Rattle.std.proofs.Common.{◌≡◌, ◌+◌, sym, ◌∙◌, subst, arith}
use Rattle.std.specs.Prelude.{min}
use Rattle.prefix_model.specs.Hits.{HasNoneIn}
use Rattle.prefix_model.proofs.Matching.FrontMatches.{none_more, first_deeper, first_end, none_found, some_wider}
use Rattle.prefix_map.proofs.search.shortest_match.Goals as goal

pub loop-depth-init : goal.loop-depth-init
loop-depth-init g c = record {
  named = c.root-at.ensures.named;
  depth = omega arith;
  best = first_deeper (λ x. x.len) (λ x. x.value.now) c.args.table.now.entries (g.R.Bits.bits c.args.key) c.args.from 0 _ c.first_in-found.result (λ j a b. absurd (omega arith)) c.first_in-found.ensures;
}

pub returns-then-is_some : goal.returns-then-is_some
returns-then-is_some g c =
    some_wider (λ x. x.len) (λ x. x.value.now) c.args.table.now.entries (g.R.Bits.bits c.args.key) c.args.from (min (c.args.to + 1) (c.loop-depth.depth + 5)) (c.args.to + 1) c.loop-depth.found (sym c.is_some.ensures ∙ c.if-is_some.true) (omega arith) c.loop-depth.invariant.best

pub returns-in-None : goal.returns-in-None
returns-in-None g c =
    let bits = g.R.Bits.bits c.args.key in
    let m = c.args.table.now.entries in
    let d = c.loop-depth.depth in
    let end : min (c.args.to + 1) (d + 5) ≡ d + 5 = omega arith in
    let none = none_found (λ x. x.len) (λ x. x.value.now) m bits c.args.from (min (c.args.to + 1) (d + 5)) c.loop-depth.found (sym c.is_some.ensures ∙ c.if-is_some.false) c.loop-depth.invariant.best in
    none_more m bits c.args.from (d + 5) (c.args.to + 1) (subst (HasNoneIn m bits c.args.from) end none) (c.in-None.ensures (c.args.to + 1))

pub loop-depth-preserved : goal.loop-depth-preserved
loop-depth-preserved g c =
    let bits = g.R.Bits.bits c.args.key in
    let m = c.args.table.now.entries in
    let d = c.loop-depth.depth in
    let end : min (c.args.to + 1) (d + 5) ≡ d + 5 = omega arith in
    let none = none_found (λ x. x.len) (λ x. x.value.now) m bits c.args.from (min (c.args.to + 1) (d + 5)) c.loop-depth.found (sym c.is_some.ensures ∙ c.if-is_some.false) c.loop-depth.invariant.best in
    record {
      named = c.in-Some.ensures;
      depth = omega arith;
      best = first_deeper (λ x. x.len) (λ x. x.value.now) m bits c.args.from (d + 5) _ c.first_in-found-in-loop-depth.result (subst (HasNoneIn m bits c.args.from) end none) c.first_in-found-in-loop-depth.ensures;
    }

pub returns : goal.returns
returns g c =
    let bits = g.R.Bits.bits c.args.key in
    let m = c.args.table.now.entries in
    first_end (λ x. x.len) (λ x. x.value.now) m bits c.args.from (min (c.args.to + 1) (c.loop-depth.depth + 5)) (c.args.to + 1) c.loop-depth.found (omega arith) c.loop-depth.invariant.best
