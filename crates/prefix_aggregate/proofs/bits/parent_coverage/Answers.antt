use Rattle.prefix_aggregate.proofs.BitLaws.{halves_shown}
use Rattle.prefix_aggregate.proofs.bits.parent_coverage.Goals as goal

pub returns : goal.returns
returns c = halves_shown c.args.coverage c.doubled.result c.doubled.ensures
