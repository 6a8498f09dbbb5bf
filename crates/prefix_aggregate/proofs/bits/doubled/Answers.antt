use Rattle.std.proofs.Common.{rules}
use Rattle.prefix_aggregate.proofs.BitLaws.{doubled_shown}
use Rattle.prefix_aggregate.proofs.bits.doubled.Goals as goal

pub returns : goal.returns
returns c = λ b. doubled_shown c.args.word (search rules) b
