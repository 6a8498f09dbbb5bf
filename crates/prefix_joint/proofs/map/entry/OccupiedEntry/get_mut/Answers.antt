use Rattle.std.proofs.Common.{refl, sym, ap, ◌∙◌, is_some}
use Rattle.either.specs.Either.{map_either}
use Rattle.prefix_joint_walks.specs.Joint.{JointKey, value_at, with_value_at}
use Rattle.prefix_joint.specs.JointEntries.{stored_at}
use Rattle.prefix_joint.proofs.EntryLaws.{occupied_written, occupied_is_written}
use Rattle.prefix_joint.proofs.map.entry.OccupiedEntry.get_mut.Goals as goal

pub invariant_of-self-lent : goal.invariant_of-self-lent
invariant_of-self-lent g c w =
    let o = c.args.self.now in
    let key = map_either g.P.P1.PrefixKey.key g.P.P2.PrefixKey.key (g.P.JointPrefixKey.prefix o.prefix) in
    let same = ap (map_either g.P.P1.PrefixKey.key g.P.P2.PrefixKey.key) c.again-prefix.ensures in
    (o.fits, (ap (λ (k : JointKey). is_some (value_at (with_value_at o.map.now k w) key)) same ∙ stored_at o.map.now key w, tt))

pub returns : goal.returns
returns g c =
    let o = c.args.self.now in
    let same = ap (map_either g.P.P1.PrefixKey.key g.P.P2.PrefixKey.key) c.again-prefix.ensures in (
      (refl, λ w. occupied_written o _ same w _ _),
      record { writes_back = tt; value = ap (value_at o.map.now) (sym same) ∙ c.value_mut.ensures.value; written = occupied_is_written o },
    )
