use Rattle.std.proofs.Common.{◌≤◌, subst, sym, refl}
use Rattle.prefix_model.proofs.Matching.HitLaws.{are_hits}
use Rattle.prefix_archive.proofs.map.ArchivedPrefixMap.hits.Goals as goal

pub returns : goal.returns
returns g c =
    let bits = g.P.R.Bits.bits c.args.key in
    let within = subst (λ n. c.args.len ≤ n) (sym (g.met.P.R.Bits.length_law c.args.key)) c.requires.within in
    are_hits c.args.self.now.table.entries bits c.args.depth c.args.len c.requires.order within c.args.node.now.data_bits c.data_lpm_mask.result _ c.requires.node.data_bits_are c.data_lpm_mask.ensures refl
