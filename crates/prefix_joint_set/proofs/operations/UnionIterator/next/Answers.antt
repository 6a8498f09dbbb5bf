use Rattle.prefix_joint_walks.specs.Unions.{item_sides}
use Rattle.prefix_joint_set.proofs.operations.UnionIterator.next.Goals as goal

pub returns-clause-steps : goal.returns-clause-steps
returns-clause-steps g c =
    let s = c.in_ok-item.ensures.steps in
    rw c.into_prefix.ensures (item_sides c.in_ok-item.item, s.0, s.2)
