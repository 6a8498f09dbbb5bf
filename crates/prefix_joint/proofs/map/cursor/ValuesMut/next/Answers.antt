use Rattle.std.proofs.Common.{◌∷◌, refl, sym, ap, ◌∙◌}
use Rattle.either.specs.Either.{map_either}
use Rattle.std.proofs.lemmas.Option.{same_Some}
use Rattle.prefix_joint.specs.JointCursors.{joint_walk_left}
use Rattle.prefix_joint.proofs.CursorLaws.{left_written}
use Rattle.prefix_joint.proofs.map.cursor.ValuesMut.next.Goals as goal

pub returns : goal.returns
returns g c =
    let key = map_either g.P.P1.PrefixKey.key g.P.P2.PrefixKey.key (g.P.JointPrefixKey.prefix c.in_ok-prefix.prefix) in
    let m = c.args.self.now.map.now in
    let walk = c.advance.new.self in
    let held = c.in_ok-prefix.ensures.held in (
      (
        refl,
        (λ w. record {
          same_map = refl;
          key = key;
          value = held.value;
          first = held.first ∙ ap (λ es. (key, held.value) ∷ es) (left_written m walk key w c.in_ok-prefix.ensures.at c.in_ok-prefix.ensures.passed);
          map = refl;
        }),
        tt,
      ),
      record { writes_back = tt; value = (key, joint_walk_left m walk, held.first ∙ ap (λ v. (key, v) ∷ joint_walk_left m walk) (same_Some _ _ (sym held.stored ∙ c.value_mut.ensures.value))) },
    )
