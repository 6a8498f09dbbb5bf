use Rattle.std.proofs.Common.{◌+◌, ◌≤◌, subst, sym}
use Rattle.std.specs.Prelude.{min}
use Rattle.prefix_model.proofs.Matching.HitLaws.{none_hit, last_hit}
use Rattle.prefix_archive.proofs.map.ArchivedPrefixMap.last_in.Goals as goal

pub returns-in-None : goal.returns-in-None
returns-in-None g c =
    let bits = g.P.R.Bits.bits c.args.key in
    let within = subst (λ n. c.args.len ≤ n) (sym (g.met.P.R.Bits.length_law c.args.key)) c.requires.within in
    none_hit c.args.self.now.table.entries bits c.args.depth c.args.len c.requires.order within (min (c.args.len + 1) (c.args.depth + 5)) c.args.node.now.data_bits c.hits.result c.hits.ensures c.in-None.ensures

pub match_at-requires-clause-hit : goal.match_at-requires-clause-hit
match_at-requires-clause-hit g c = c.hits.ensures.some c.in-Some.bit c.in-Some.ensures.set

pub returns-in-Some : goal.returns-in-Some
returns-in-Some g c =
    let bits = g.P.R.Bits.bits c.args.key in
    let within = subst (λ n. c.args.len ≤ n) (sym (g.met.P.R.Bits.length_law c.args.key)) c.requires.within in
    last_hit c.args.self.now.table.entries bits c.args.depth c.args.len c.requires.order within (min (c.args.len + 1) (c.args.depth + 5)) c.args.node.now.data_bits c.hits.result c.in-Some.bit c.match_at.result.len c.match_at.result.value.spelling.value c.hits.ensures c.in-Some.ensures c.match_at.ensures
