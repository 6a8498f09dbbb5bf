use Rattle.std.proofs.Common.{take, ap, ◌∙◌, arith}
use Rattle.std.specs.FinMap.{get}
use Rattle.prefix_archive.proofs.Unders.{longest_found, longest_absent}
use Rattle.prefix_archive.proofs.map.ArchivedPrefixMap.get_lpm_counted.Goals as goal

pub prefix_of-requires : goal.prefix_of-requires
prefix_of-requires g c = let below = c.in-Some.ensures.found.below in omega (arith, below)

pub returns-in-Some-clause-longest : goal.returns-in-Some-clause-longest
returns-in-Some-clause-longest g c =
    let bits = g.P.R.Bits.bits c.repr-key.result in
    let len = c.from-len.ensures ∙ c.prefix_len.ensures in
    let all = g.met.P.R.Bits.length_law c.repr-key.result in
    longest_found c.args.self.now.table.entries bits c.from-len.result (omega (arith, all, len)) (g.P.PrefixKey.key c.args.prefix.now) (ap (λ n. take n bits) len ∙ c.repr-key.ensures.key) c.in-Some.found.len c.in-Some.found.value.spelling.value (g.P.PrefixKey.key c.prefix_of.result) c.prefix_of.ensures.key c.in-Some.ensures.found

pub returns-in-Some-clause-value : goal.returns-in-Some-clause-value
returns-in-Some-clause-value g c = ap (get c.args.self.now.table.entries) c.prefix_of.ensures.key ∙ c.in-Some.ensures.found.stored

pub returns-in-None-clause-longest : goal.returns-in-None-clause-longest
returns-in-None-clause-longest g c =
    let bits = g.P.R.Bits.bits c.repr-key.result in
    let len = c.from-len.ensures ∙ c.prefix_len.ensures in
    let all = g.met.P.R.Bits.length_law c.repr-key.result in
    longest_absent c.args.self.now.table.entries bits c.from-len.result (omega (arith, all, len)) (g.P.PrefixKey.key c.args.prefix.now) (ap (λ n. take n bits) len ∙ c.repr-key.ensures.key) c.in-None.ensures.found
