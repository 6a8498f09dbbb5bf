use Rattle.std.proofs.Common.{rules}
use Rattle.prefix_aggregate.proofs.BitLaws.{evens_shown}
use Rattle.prefix_aggregate.proofs.bits.even_bits.Goals as goal

pub returns : goal.returns
returns c = λ b. evens_shown c.args.word (search rules) b
