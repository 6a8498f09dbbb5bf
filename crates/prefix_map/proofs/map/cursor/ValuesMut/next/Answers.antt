use Rattle.std.proofs.Common.{◌∷◌, refl, sym, ap, ◌∙◌}
use Rattle.prefix_map.specs.Cursors.{walk_left}
use Rattle.std.proofs.lemmas.Option.{same_Some}
use Rattle.prefix_model.proofs.Walking.WalkRest.{rest_written}
use Rattle.prefix_map.proofs.map.cursor.ValuesMut.next.Goals as goal

pub returns : goal.returns
returns g c =
    let key = g.P.PrefixKey.key c.in_ok-prefix.prefix in
    let m = c.args.self.now.map.now.entries in
    let walk = c.advance.new.self in
    let gives = c.in_ok-prefix.ensures.gives in
    let held = c.in_ok-prefix.ensures.held in (
      (
        refl,
        (λ w. record {
          same_map = refl;
          key = key;
          value = gives.0;
          first = gives.1 ∙ ap (λ es. (key, gives.0) ∷ es) (rest_written m key (g.P.PrefixKey.key walk.last) walk.within walk.inclusive w c.in_ok-prefix.ensures.at c.in_ok-prefix.ensures.passed);
          map = refl;
        }),
        tt,
      ),
      record { writes_back = tt; value = (key, walk_left m walk, held.first ∙ ap (λ v. (key, v) ∷ walk_left m walk) (same_Some _ _ (sym held.stored ∙ c.value_mut.ensures.value))) },
    )
