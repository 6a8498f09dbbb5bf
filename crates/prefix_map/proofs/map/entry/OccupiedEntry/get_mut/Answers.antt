use Rattle.std.proofs.Common.{take, refl, sym, ap, ◌∙◌}
use Rattle.std.specs.FinMap as map
use Rattle.prefix_map.specs.Entries.{contains_stored}
use Rattle.prefix_map.proofs.EntryLaws.{occupied_written, occupied_is_written}
use Rattle.prefix_map.proofs.map.entry.OccupiedEntry.get_mut.Goals as goal

pub invariant_of-self-lent : goal.invariant_of-self-lent
invariant_of-self-lent g c w =
    let o = c.args.self.now in
    let bits = g.P.R.Bits.bits c.repr-key.result in
    let same = ap (λ n. take n bits) (c.from-len.ensures ∙ c.prefix_len.ensures) ∙ c.repr-key.ensures.key in (
      o.fits,
      (ap (λ k. map.contains_key (map.insert o.map.now.entries k w) (g.P.PrefixKey.key o.prefix)) same ∙ contains_stored o.map.now.entries (g.P.PrefixKey.key o.prefix) w, tt),
    )

pub returns : goal.returns
returns g c =
    let o = c.args.self.now in
    let bits = g.P.R.Bits.bits c.repr-key.result in
    let same = ap (λ n. take n bits) (c.from-len.ensures ∙ c.prefix_len.ensures) ∙ c.repr-key.ensures.key in (
      (refl, λ w. occupied_written o _ same w _ _),
      record {
        writes_back = tt;
        value = ap (map.get o.map.now.entries) (sym same) ∙ c.at_mut.ensures.value;
        written = occupied_is_written o;
      },
    )
