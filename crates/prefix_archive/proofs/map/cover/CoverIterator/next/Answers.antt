use Rattle.std.proofs.Common.{take, ap, ◌∙◌, arith}
use Rattle.prefix_model.proofs.IteratorLoops.{fewer}
use Rattle.prefix_archive.proofs.Iterating.{no_cover, next_cover}
use Rattle.prefix_archive.proofs.map.cover.CoverIterator.next.Goals as goal

pub returns-in_err-found-clause-steps : goal.returns-in_err-found-clause-steps
returns-in_err-found-clause-steps g c =
    let s = c.args.self.now in
    let bits = g.P.R.Bits.bits c.repr-key.result in
    let len = c.from-len.ensures ∙ c.prefix_len.ensures in
    let all = g.met.P.R.Bits.length_law c.repr-key.result in
    let fits = s.fits in
    let none = no_cover s.map.table.entries (g.P.PrefixKey.key s.prefix) bits c.from-len.result (ap (λ n. take n bits) len ∙ c.repr-key.ensures.key) (omega (arith, all, len, fits)) s.from c.in_err-found.ensures in
    rw c.from_residual.ensures ((none, none), tt)

pub returns-clause-steps : goal.returns-clause-steps
returns-clause-steps g c =
    let s = c.args.self.now in
    let found = c.in_ok-found.found in
    let bits = g.P.R.Bits.bits c.repr-key.result in
    let len = c.from-len.ensures ∙ c.prefix_len.ensures in
    let all = g.met.P.R.Bits.length_law c.repr-key.result in
    let fits = s.fits in (
      next_cover s.map.table.entries (g.P.PrefixKey.key s.prefix) bits c.from-len.result (ap (λ n. take n bits) len ∙ c.repr-key.ensures.key) (omega (arith, all, len, fits)) s.from found.len found.value.spelling.value c.in_ok-found.ensures
          (g.P.PrefixKey.key c.prefix_of.result) c.prefix_of.ensures.key,
      (c.prefix_of.ensures.length, c.prefix_of.ensures.bits),
    )

pub returns-clause-goes : goal.returns-clause-goes
returns-clause-goes g c = let e = (returns-clause-steps g c).0 in record { on = λ _. (tt, tt, fewer _ _ _ e); keeps = tt; rests = λ _. tt }
