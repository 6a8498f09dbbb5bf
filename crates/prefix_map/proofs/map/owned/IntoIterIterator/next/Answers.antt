use Rattle.std.proofs.Common.{◌≡◌, ◌∷◌, sym, ap, ◌∙◌}
use Rattle.prefix_model.specs.Tables.{KeyMap}
use Rattle.prefix_model.specs.Walks.{walk_rest}
use Rattle.prefix_model.proofs.IteratorLoops.{fewer}
use Rattle.prefix_model.proofs.Walking.WalkRest.{rest_removed}
use Rattle.std.proofs.lemmas.Option.{same_Some}
use Rattle.prefix_map.proofs.map.owned.IntoIterIterator.next.Goals as goal

pub returns-clause-steps : goal.returns-clause-steps
returns-clause-steps g c =
    let m = c.args.self.now.map.entries in
    let key = g.P.PrefixKey.key c.in_ok-prefix.prefix in
    let walk = c.advance.new.self in
    let held = c.in_ok-prefix.ensures.held in
    let value : held.value ≡ c.take-value.result = same_Some _ _ (sym held.stored ∙ c.take-value.ensures.value) in
    let rest = rest_removed m key (g.P.PrefixKey.key walk.last) walk.within walk.inclusive held.value c.in_ok-prefix.ensures.at c.in_ok-prefix.ensures.passed in (
      held.first
          ∙ (λ i. (key, value i) ∷ rest i)
          ∙ ap (λ (n : KeyMap g.row.T.Denot). (key, c.take-value.result) ∷ walk_rest n (g.P.PrefixKey.key walk.last) walk.within walk.inclusive) (sym c.take-value.ensures.entries),
      c.in_ok-prefix.ensures.gives.2,
    )

pub returns-clause-goes : goal.returns-clause-goes
returns-clause-goes g c = let e = (returns-clause-steps g c).0 in record { on = λ _. (tt, tt, fewer _ _ _ e); keeps = tt; rests = λ _. tt }
