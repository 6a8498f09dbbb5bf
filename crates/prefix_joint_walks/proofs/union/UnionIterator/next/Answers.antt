use Rattle.prefix_joint_walks.proofs.Merging.{less_second}
use Rattle.prefix_joint_walks.proofs.union.UnionIterator.next.Goals as goal

pub returns-clause-goes : goal.returns-clause-goes
returns-clause-goes g c =
    record { on = λ _. (tt, tt, less_second _ _ _ _ _ c.in_default.ensures.steps.0 c.in_default.ensures.steps.1 c.in_ok-item.ensures.steps.0); keeps = tt; rests = λ _. tt }
