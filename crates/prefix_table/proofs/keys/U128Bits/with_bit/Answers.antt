use Rattle.std.specs.Int.{w128}
use Rattle.prefix_table.specs.KeyLaws.{bit_set}
use Rattle.prefix_table.proofs.keys.U128Bits.with_bit.Goals as goal

pub returns : goal.returns
returns c = bit_set w128 c.args.self c.args.i c.requires
