use Rattle.std.proofs.Common.{sym, ap, ◌∙◌, inl, is_some}
use Rattle.std.specs.FinMap as map
use Rattle.either.specs.Either.{map_either}
use Rattle.std.proofs.lemmas.Option.{same_Some}
use Rattle.prefix_model.proofs.StoredValues.{none_of}
use Rattle.prefix_joint_walks.specs.Joint.{JointKey, JointView, family, value_at, with_entry_at}
use Rattle.prefix_joint.proofs.EntryLaws.{entry_stored, entry_twice}
use Rattle.prefix_joint.proofs.map.entry.VacantEntry.insert.Goals as goal

pub value_mut-requires-clause-stored : goal.value_mut-requires-clause-stored
value_mut-requires-clause-stored g c =
    let old = c.args.self.map.now in
    let key = map_either g.P.P1.PrefixKey.key g.P.P2.PrefixKey.key (g.P.JointPrefixKey.prefix c.args.self.prefix) in
    let same = ap (map_either g.P.P1.PrefixKey.key g.P.P2.PrefixKey.key) c.again.ensures in
    let stored = c.in-Ok-None.ensures.stored ∙ ap (λ (k : JointKey). with_entry_at old k c.args.default) same in
    ap (λ (m : JointView g.row.T.Denot). is_some (value_at m key)) stored ∙ ap is_some (entry_stored old key c.args.default)

pub returns-in-Ok-None : goal.returns-in-Ok-None
returns-in-Ok-None g c =
    let old = c.args.self.map.now in
    let key = map_either g.P.P1.PrefixKey.key g.P.P2.PrefixKey.key (g.P.JointPrefixKey.prefix c.args.self.prefix) in
    let same = ap (map_either g.P.P1.PrefixKey.key g.P.P2.PrefixKey.key) c.again.ensures in
    let stored = c.in-Ok-None.ensures.stored ∙ ap (λ (k : JointKey). with_entry_at old k c.args.default) same in (
      (λ i. inl (c.value_mut.result.ghost_name, λ w. entry_twice old c.insert.new.self key c.args.default w stored i)),
      record {
        writes_back = tt;
        value = same_Some _ _ (sym c.value_mut.ensures.value ∙ ap (λ (m : JointView g.row.T.Denot). value_at m key) stored ∙ entry_stored old key c.args.default);
        handed_back = tt;
        full_only = λ h. absurd h;
        full = λ e. c.in-Ok-None.ensures.full (ap (λ (k : JointKey). map.len (family old k).entries) same ∙ e) (ap (value_at old) same ∙ none_of _ c.args.self.absent);
      },
    )
