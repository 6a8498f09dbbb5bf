use Rattle.std.proofs.Common.{take, ap, ◌∙◌}
use Rattle.std.specs.FinMap as map
use Rattle.prefix_map.specs.MapViews.{MapView}
use Rattle.prefix_model.proofs.StoredValues.{contains_stored}
use Rattle.prefix_map.proofs.map.entry.OccupiedEntry.insert.Goals as goal

pub invariant_of-self : goal.invariant_of-self
invariant_of-self g c =
    let key = g.P.PrefixKey.key c.args.self.prefix in
    let bits = g.P.R.Bits.bits c.repr-key.result in
    let old = c.args.self.map.now.entries in
    let same = ap (λ n. take n bits) (c.from-len.ensures ∙ c.prefix_len.ensures) ∙ c.repr-key.ensures.key in
    record {
      fits = c.args.self.fits;
      stored = ap (λ (m : MapView g.row.T.Denot). map.contains_key m.entries key) c.replace_at.ensures.stored
          ∙ ap (λ k. map.contains_key (map.insert old k c.args.value) key) same ∙ contains_stored old key c.args.value;
    }
