use Rattle.std.proofs.Common.{◌+◌, [], sym, ap, ◌∙◌, refl, arith}
use Rattle.prefix_model.specs.InPlace.{is_position}
use Rattle.prefix_model.proofs.Matching.FrontMatches.{best_end}
use Rattle.prefix_archive.proofs.Fronts.{none_below}
use Rattle.prefix_archive.proofs.lookup.longest_match.Goals as goal

pub returns-in-None-clause-found : goal.returns-in-None-clause-found
returns-in-None-clause-found g c =
    let bits = g.P.R.Bits.bits c.args.key in
    let m = c.args.archive.now.table.entries in
    let len = g.met.P.R.Bits.length_law c.args.key in
    let gone = ap (is_position m) (sym c.child_bit-slot.ensures.bits) ∙ c.in-None.ensures.child [] c.root_record-root.ensures.root in
    best_end (λ x. x.len) (λ x. x.value.spelling.value) m bits c.last_above-best.result 5 (c.args.len + 1) c.last_above-best.ensures (omega arith)
    (none_below m bits 5 (c.args.len + 1) refl (omega (arith, len)) (omega (arith, len)) gone)
