use Rattle.prefix_aggregate.proofs.BitLaws.{slots_pushed}
use Rattle.prefix_aggregate.proofs.bits.push_l4.Goals as goal

pub returns : goal.returns
returns c = slots_pushed c.args.m c.doubled.result c.doubled.ensures
