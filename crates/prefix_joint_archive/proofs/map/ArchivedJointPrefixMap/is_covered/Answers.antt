use Rattle.std.proofs.Common.{sym, ap, ◌∙◌}
use Rattle.std.specs.Prelude.{is_some, slice_get}
use Rattle.either.specs.Either.{map_either}
use Rattle.either.specs.declared.Either.{Either}
use Rattle.prefix_joint_walks.specs.Joint.{joint_fronts}
use Rattle.prefix_joint_archive.specs.Families.{pair_of}
use Rattle.prefix_joint_archive.proofs.FirstItems.{some_of}
use Rattle.prefix_joint_archive.proofs.map.ArchivedJointPrefixMap.is_covered.Goals as goal

pub returns-in-Left : goal.returns-in-Left
returns-in-Left g c =
    let pair = pair_of c.args.self.now.t1.table.entries c.args.self.now.t2.table.entries in
    let e = c.is_some.ensures ∙ some_of _ _ _ c.next.ensures.steps c.cover_values.ensures
    ∙ ap (λ (q : Either g.row.P-P1.Denot g.row.P-P2.Denot). is_some (slice_get (joint_fronts pair (map_either g.P.P1.PrefixKey.key g.P.P2.PrefixKey.key q)) 0)) c.in-Left.ensures in
    (λ h. sym e ∙ h, λ h. e ∙ h)

pub returns-in-Right : goal.returns-in-Right
returns-in-Right g c =
    let pair = pair_of c.args.self.now.t1.table.entries c.args.self.now.t2.table.entries in
    let e = c.is_some-in-Right.ensures ∙ some_of _ _ _ c.next-in-Right.ensures.steps c.cover_values-in-Right.ensures
    ∙ ap (λ (q : Either g.row.P-P1.Denot g.row.P-P2.Denot). is_some (slice_get (joint_fronts pair (map_either g.P.P1.PrefixKey.key g.P.P2.PrefixKey.key q)) 0)) c.in-Right.ensures in
    (λ h. sym e ∙ h, λ h. e ∙ h)
