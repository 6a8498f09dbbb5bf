use Rattle.prefix_joint.proofs.laws.hash_agrees.Goals as goal

pub returns : goal.returns
returns g c = g.met.T.Hash.respects_eq
