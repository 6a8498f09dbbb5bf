use Rattle.prefix_joint.proofs.laws.order_agrees.Goals as goal

pub returns : goal.returns
returns g c = g.met.T.Ord.matches_eq
