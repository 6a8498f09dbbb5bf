use Rattle.prefix_aggregate.proofs.InnerLaws.{halves_shown}
use Rattle.prefix_aggregate.proofs.heap.with_half.Goals as goal

pub returns : goal.returns
returns c = halves_shown c.args.bits c.even_bits.result c.even_bits.ensures
