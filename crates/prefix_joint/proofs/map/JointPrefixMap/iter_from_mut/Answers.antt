use Rattle.std.proofs.Common.{ap, ◌∙◌}
use Rattle.either.specs.Either.{map_either}
use Rattle.either.specs.declared.Either.{Either}
use Rattle.prefix_joint_walks.specs.Joint.{both, joint_walk_from}
use Rattle.prefix_joint.proofs.CursorLaws.{whole_left, from_left}
use Rattle.prefix_joint.proofs.map.JointPrefixMap.iter_from_mut.Goals as goal

pub returns-in-Left-clause-left : goal.returns-in-Left-clause-left
returns-in-Left-clause-left g c =
    let m = c.args.self.now in
    let from = from_left m.t1.entries c.new.result (g.P.P1.PrefixKey.key c.in-Left.p.now) c.args.inclusive c.new.ensures.last c.new.ensures.within c.new.ensures.inclusive in
    let all = whole_left m.t2.entries c.whole.result c.whole.ensures.last c.whole.ensures.within c.whole.ensures.inclusive in
    (λ i. both (from i) (all i))
    ∙ ap (λ (q : Either g.row.P-P1.Denot g.row.P-P2.Denot). joint_walk_from m.t1.entries m.t2.entries (map_either g.P.P1.PrefixKey.key g.P.P2.PrefixKey.key q) c.args.inclusive) c.in-Left.ensures
