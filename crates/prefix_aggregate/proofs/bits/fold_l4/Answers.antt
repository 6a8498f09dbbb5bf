use Rattle.std.proofs.Common.{arith}
use Rattle.prefix_aggregate.proofs.BitLaws.{folded, level_3}
use Rattle.prefix_aggregate.proofs.bits.fold_l4.Goals as goal

pub returns : goal.returns
returns c = folded c.args.cov c.parents.result _ 3 (omega arith) c.parents.ensures level_3
