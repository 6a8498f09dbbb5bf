use Rattle.std.proofs.Common.{arith}
use Rattle.prefix_aggregate.proofs.BitLaws.{pushed, level_4}
use Rattle.prefix_aggregate.proofs.bits.push_l3.Goals as goal

pub returns : goal.returns
returns c = pushed c.args.m c.parent_coverage.result _ 3 (omega arith) c.parent_coverage.ensures level_4
