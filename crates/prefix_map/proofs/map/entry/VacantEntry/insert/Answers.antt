use Rattle.std.proofs.Common.{sym, ap, ◌∙◌, inl}
use Rattle.std.specs.FinMap as map
use Rattle.prefix_map.specs.MapViews.{MapView}
use Rattle.prefix_model.proofs.StoredValues.{get_stored, contains_stored, none_of}
use Rattle.prefix_map.proofs.ViewLaws.{written_twice}
use Rattle.std.proofs.lemmas.Option.{same_Some}
use Rattle.prefix_map.proofs.map.entry.VacantEntry.insert.Goals as goal

pub value_mut-requires-clause-stored : goal.value_mut-requires-clause-stored
value_mut-requires-clause-stored g c =
    let key = g.P.PrefixKey.key c.args.self.prefix in
    ap (λ (m : MapView g.row.T.Denot). map.contains_key m.entries key) c.in-Ok-None.ensures.stored ∙ contains_stored c.args.self.map.now.entries key c.args.default

pub returns-in-Ok-None : goal.returns-in-Ok-None
returns-in-Ok-None g c =
    let key = g.P.PrefixKey.key c.args.self.prefix in
    let stored = c.in-Ok-None.ensures.stored in (
      (λ i. inl (c.value_mut.result.ghost_name, λ w. written_twice c.args.self.map.now c.store.new.self key c.args.default w stored i)),
      record {
        writes_back = tt;
        value = same_Some _ _ (sym c.value_mut.ensures.value ∙ ap (λ (m : MapView g.row.T.Denot). map.get m.entries key) stored ∙ get_stored c.args.self.map.now.entries key c.args.default);
        handed_back = tt;
        full_only = λ h. absurd h;
        full = λ e. c.in-Ok-None.ensures.full e (none_of _ c.args.self.absent);
      },
    )
