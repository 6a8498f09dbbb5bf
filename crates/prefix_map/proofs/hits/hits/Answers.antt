use Rattle.std.proofs.Common.{◌∙◌, ◌≤◌, bit_and, ap, take, subst, sym, refl}
use Rattle.std.specs.FinMap as map
use Rattle.prefix_model.specs.Positions.{data_bits}
use Rattle.prefix_map.proofs.Descents.{there}
use Rattle.prefix_model.proofs.Matching.HitLaws.{are_hits}
use Rattle.prefix_map.proofs.hits.hits.Goals as goal

pub returns : goal.returns
returns g c =
    let view = c.args.table.now in
    let bits = g.R.Bits.bits c.args.key in
    let p = take c.args.depth bits in
    let within = subst (λ n. c.args.len ≤ n) (sym (g.met.R.Bits.length_law c.args.key)) c.requires.within in
    are_hits view.entries bits c.args.depth c.args.len c.requires.order within (data_bits (map.get view.entries) p) c.data_lpm_mask.result _ refl c.data_lpm_mask.ensures
    (ap (λ x. bit_and x c.data_lpm_mask.result) (c.node.ensures.«data» ∙ ap (data_bits (map.get view.entries)) (there view p c.args.at c.requires.named)))
