use Rattle.prefix_aggregate.proofs.BitLaws.{parents_shown}
use Rattle.prefix_aggregate.proofs.bits.parents.Goals as goal

pub returns : goal.returns
returns c = parents_shown c.args.coverage c.even_bits.result c.even_bits.ensures
