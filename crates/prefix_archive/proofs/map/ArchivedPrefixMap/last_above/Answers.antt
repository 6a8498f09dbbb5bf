use Rattle.std.proofs.Common.{◌≡◌, ◌+◌, ◌≤◌, subst, sym, arith}
use Rattle.std.specs.Prelude.{bit_and, min}
use Rattle.prefix_model.specs.Hits.{HasNoneIn, IsLastIn}
use Rattle.prefix_model.proofs.Matching.HitLaws.{none_hit, last_hit}
use Rattle.prefix_archive.proofs.Fronts.{hits_above}
use Rattle.prefix_archive.proofs.map.ArchivedPrefixMap.last_above.Goals as goal

pub returns-in-None : goal.returns-in-None
returns-in-None g c =
    let bits = g.P.R.Bits.bits c.args.key in
    let m = c.args.self.now.table.entries in
    let d = c.args.depth in
    let marks = c.args.node.now.data_bits in
    let within = subst (λ n. d + 5 ≤ n) (sym (g.met.P.R.Bits.length_law c.args.key)) c.requires.within in
    let end : min (d + 5 + 1) (d + 5) ≡ d + 5 = omega arith in
    let hits = hits_above m bits d c.args.slot marks c.slot_lpm_mask.result within c.requires.bits c.requires.node.data_bits_are c.slot_lpm_mask.ensures in
    subst (HasNoneIn m bits d) end (none_hit m bits d (d + 5) (omega arith) within (min (d + 5 + 1) (d + 5)) marks (bit_and marks c.slot_lpm_mask.result) hits c.in-None.ensures)

pub match_at-requires-clause-hit : goal.match_at-requires-clause-hit
match_at-requires-clause-hit g c =
    let bits = g.P.R.Bits.bits c.args.key in
    let m = c.args.self.now.table.entries in
    let within = subst (λ n. c.args.depth + 5 ≤ n) (sym (g.met.P.R.Bits.length_law c.args.key)) c.requires.within in
    let hits = hits_above m bits c.args.depth c.args.slot c.args.node.now.data_bits c.slot_lpm_mask.result within c.requires.bits c.requires.node.data_bits_are c.slot_lpm_mask.ensures in
    hits.some c.in-Some.bit c.in-Some.ensures.set

pub returns-in-Some : goal.returns-in-Some
returns-in-Some g c =
    let bits = g.P.R.Bits.bits c.args.key in
    let m = c.args.self.now.table.entries in
    let d = c.args.depth in
    let marks = c.args.node.now.data_bits in
    let found = c.match_at.result in
    let within = subst (λ n. d + 5 ≤ n) (sym (g.met.P.R.Bits.length_law c.args.key)) c.requires.within in
    let end : min (d + 5 + 1) (d + 5) ≡ d + 5 = omega arith in
    let hits = hits_above m bits d c.args.slot marks c.slot_lpm_mask.result within c.requires.bits c.requires.node.data_bits_are c.slot_lpm_mask.ensures in
    subst (λ n. IsLastIn m bits d n found.len found.value.spelling.value) end
    (last_hit m bits d (d + 5) (omega arith) within (min (d + 5 + 1) (d + 5)) marks (bit_and marks c.slot_lpm_mask.result) c.in-Some.bit found.len found.value.spelling.value hits c.in-Some.ensures c.match_at.ensures)
