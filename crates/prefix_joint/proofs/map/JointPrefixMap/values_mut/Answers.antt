use Rattle.prefix_joint_walks.specs.Joint.{both}
use Rattle.prefix_joint.proofs.CursorLaws.{whole_left}
use Rattle.prefix_joint.proofs.map.JointPrefixMap.values_mut.Goals as goal

pub returns-clause-left : goal.returns-clause-left
returns-clause-left g c =
    let m = c.args.self.now in
    let one = whole_left m.t1.entries c.whole.result c.whole.ensures.last c.whole.ensures.within c.whole.ensures.inclusive in
    let two = whole_left m.t2.entries c.whole-2.result c.whole-2.ensures.last c.whole-2.ensures.within c.whole-2.ensures.inclusive in
    λ i. both (one i) (two i)
