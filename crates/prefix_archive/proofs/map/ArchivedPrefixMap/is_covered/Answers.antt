use Rattle.std.proofs.Common.{take, ap, ◌∙◌, arith}
use Rattle.prefix_archive.proofs.Unders.{covered}
use Rattle.prefix_archive.proofs.map.ArchivedPrefixMap.is_covered.Goals as goal

pub returns : goal.returns
returns g c =
    let bits = g.P.R.Bits.bits c.repr-key.result in
    let len = c.from-len.ensures ∙ c.prefix_len.ensures in
    let all = g.met.P.R.Bits.length_law c.repr-key.result in
    covered c.args.self.now.table.entries bits c.from-len.result (omega (arith, all, len)) (g.P.PrefixKey.key c.args.prefix.now) (ap (λ n. take n bits) len ∙ c.repr-key.ensures.key)
    (λ x. x.len) (λ x. x.value.spelling.value) c.shortest_match.result c.is_some.result c.is_some.ensures c.shortest_match.ensures
