use Rattle.std.proofs.Common.{◌+◌, ◌≤◌, subst, sym, take}
use Rattle.std.specs.Prelude.{min}
use Rattle.std.specs.FinMap as map
use Rattle.prefix_model.specs.Positions.{data_bits}
use Rattle.prefix_model.proofs.Matching.HitLaws.{none_hit, last_hit}
use Rattle.prefix_map.proofs.hits.last_in.Goals as goal

pub returns-in-None : goal.returns-in-None
returns-in-None g c =
    let m = c.args.table.now.entries in
    let bits = g.R.Bits.bits c.args.key in
    let within = subst (λ n. c.args.len ≤ n) (sym (g.met.R.Bits.length_law c.args.key)) c.requires.within in
    none_hit m bits c.args.depth c.args.len c.requires.order within (min (c.args.len + 1) (c.args.depth + 5)) (data_bits (map.get m) (take c.args.depth bits)) c.hits.result c.hits.ensures c.in-None.ensures

pub match_at-requires-clause-hit : goal.match_at-requires-clause-hit
match_at-requires-clause-hit g c = c.hits.ensures.some c.in-Some.bit c.in-Some.ensures.set

pub returns-in-Some : goal.returns-in-Some
returns-in-Some g c =
    let m = c.args.table.now.entries in
    let bits = g.R.Bits.bits c.args.key in
    let within = subst (λ n. c.args.len ≤ n) (sym (g.met.R.Bits.length_law c.args.key)) c.requires.within in
    last_hit m bits c.args.depth c.args.len c.requires.order within (min (c.args.len + 1) (c.args.depth + 5)) (data_bits (map.get m) (take c.args.depth bits)) c.hits.result c.in-Some.bit c.match_at.result.len c.match_at.result.value.now c.hits.ensures c.in-Some.ensures c.match_at.ensures
