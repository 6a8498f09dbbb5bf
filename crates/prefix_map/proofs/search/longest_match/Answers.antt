use Rattle.std.proofs.Common.{◌≡◌, ◌+◌, ℕ, refl, arith}
use Rattle.std.specs.Prelude.{min}
use Rattle.prefix_model.proofs.Matching.FrontMatches.{best_same, best_end, best_deeper}
use Rattle.prefix_map.proofs.search.longest_match.Goals as goal

pub returns-in-None : goal.returns-in-None
returns-in-None g c =
    let bits = g.R.Bits.bits c.args.key in
    let m = c.args.table.now.entries in
    let d = c.loop-depth.depth in
    let end : min (c.args.len + 1) (d + 5) ≡ d + 5 = omega arith in
    best_end (λ x. x.len) (λ x. x.value.now) m bits c.loop-depth.best (min (c.args.len + 1) (d + 5)) (c.args.len + 1) c.loop-depth.invariant.best (omega arith)
    (λ j from below. c.in-None.ensures (c.args.len + 1) j (omega (arith, from, end)) below)

pub loop-depth-preserved : goal.loop-depth-preserved
loop-depth-preserved g c =
    let bits = g.R.Bits.bits c.args.key in
    let m = c.args.table.now.entries in
    let d = c.loop-depth.depth in
    let b : ℕ = min (c.args.len + 1) (d + 5) in
    let n : ℕ = min (c.args.len + 1) (d + 5 + 5) in
    let from : d + 5 ≡ b = omega arith in
    let found = best_same (λ x. x.len) (λ x. x.value.now) c.last_in.result m m bits bits (d + 5) b n n refl refl from refl c.last_in.ensures in
    record {
      named = c.in-Some.ensures;
      depth = omega arith;
      best = best_deeper (λ x. x.len) (λ x. x.value.now) m bits c.loop-depth.best c.last_in.result c.deeper-best.result b n (omega arith) c.loop-depth.invariant.best found c.deeper-best.ensures;
    }

pub returns : goal.returns
returns g c =
    let bits = g.R.Bits.bits c.args.key in
    let m = c.args.table.now.entries in
    let end : min (c.args.len + 1) (c.loop-depth.depth + 5) ≡ c.args.len + 1 = omega arith in
    best_same (λ x. x.len) (λ x. x.value.now) c.loop-depth.best m m bits bits 0 0 (min (c.args.len + 1) (c.loop-depth.depth + 5)) (c.args.len + 1) refl refl refl end c.loop-depth.invariant.best
