use Rattle.std.proofs.Common.{arith}
use Rattle.prefix_aggregate.proofs.BitLaws.{pushed, level_1}
use Rattle.prefix_aggregate.proofs.bits.push_l0.Goals as goal

pub returns : goal.returns
returns c = pushed c.args.m c.parent_coverage.result _ 0 (omega arith) c.parent_coverage.ensures level_1
