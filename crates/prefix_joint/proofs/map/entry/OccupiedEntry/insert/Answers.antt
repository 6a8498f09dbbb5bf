use Rattle.std.proofs.Common.{ap, ◌∙◌, is_some}
use Rattle.either.specs.Either.{map_either}
use Rattle.prefix_joint_walks.specs.Joint.{JointKey, JointView, value_at, with_value_at}
use Rattle.prefix_joint.specs.JointEntries.{stored_at}
use Rattle.prefix_joint.proofs.map.entry.OccupiedEntry.insert.Goals as goal

pub invariant_of-self : goal.invariant_of-self
invariant_of-self g c =
    let old = c.args.self.map.now in
    let key = map_either g.P.P1.PrefixKey.key g.P.P2.PrefixKey.key (g.P.JointPrefixKey.prefix c.args.self.prefix) in
    let same = ap (map_either g.P.P1.PrefixKey.key g.P.P2.PrefixKey.key) c.again-prefix.ensures in
    record {
      fits = c.args.self.fits;
      stored = ap (λ (m : JointView g.row.T.Denot). is_some (value_at m key)) c.replace.ensures.stored
          ∙ ap (λ (k : JointKey). is_some (value_at (with_value_at old k c.args.value) key)) same ∙ stored_at old key c.args.value;
    }
