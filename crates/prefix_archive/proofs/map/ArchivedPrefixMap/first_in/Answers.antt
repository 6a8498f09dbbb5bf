use Rattle.std.proofs.Common.{ℕ, ◌+◌, ◌-◌, ◌≤◌, subst, sym, ap, arith}
use Rattle.std.specs.Prelude.{min}
use lib.Pow.{pow_mono}
use Rattle.prefix_model.proofs.Bitmaps.SlotLaws.{shifted_one}
use Rattle.prefix_model.proofs.Matching.HitLaws.{none_hit_from, first_hit}
use Rattle.prefix_archive.proofs.map.ArchivedPrefixMap.first_in.Goals as goal

pub lowest_from-requires : goal.lowest_from-requires
lowest_from-requires g c =
    let k : ℕ = c.saturating_sub-level.result in
    let s = shifted_one k (omega arith) in
    let few : k ≤ 4 = omega arith in
    let p = pow_mono few in
    omega (arith, s, p)

pub match_at-requires-clause-hit : goal.match_at-requires-clause-hit
match_at-requires-clause-hit g c = c.hits.ensures.some c.in-Some.bit c.in-Some.ensures.set

pub returns-in-None : goal.returns-in-None
returns-in-None g c =
    let bits = g.P.R.Bits.bits c.args.key in
    let within = subst (λ n. c.args.len ≤ n) (sym (g.met.P.R.Bits.length_law c.args.key)) c.requires.within in
    let k : ℕ = c.saturating_sub-level.result in
    none_hit_from c.args.self.now.table.entries bits c.args.depth c.args.len c.requires.order within (min (c.args.len + 1) (c.args.depth + 5)) c.args.from k _ c.args.node.now.data_bits c.hits.result c.saturating_sub-level.ensures (ap (λ n. n - 1) (shifted_one k (omega arith))) c.hits.ensures c.in-None.ensures

pub returns-in-Some : goal.returns-in-Some
returns-in-Some g c =
    let bits = g.P.R.Bits.bits c.args.key in
    let within = subst (λ n. c.args.len ≤ n) (sym (g.met.P.R.Bits.length_law c.args.key)) c.requires.within in
    let k : ℕ = c.saturating_sub-level.result in
    first_hit c.args.self.now.table.entries bits c.args.depth c.args.len c.requires.order within (min (c.args.len + 1) (c.args.depth + 5)) c.args.from k _ c.args.node.now.data_bits c.hits.result c.in-Some.bit c.match_at.result.len c.match_at.result.value.spelling.value c.saturating_sub-level.ensures (ap (λ n. n - 1) (shifted_one k (omega arith))) c.hits.ensures c.in-Some.ensures c.match_at.ensures
