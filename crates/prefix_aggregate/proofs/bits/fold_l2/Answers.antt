use Rattle.std.proofs.Common.{arith}
use Rattle.prefix_aggregate.proofs.BitLaws.{folded, level_1}
use Rattle.prefix_aggregate.proofs.bits.fold_l2.Goals as goal

pub returns : goal.returns
returns c = folded c.args.cov c.parents.result _ 1 (omega arith) c.parents.ensures level_1
