use Rattle.std.specs.Int.{w8}
use Rattle.prefix_table.specs.KeyLaws.{bit_set}
use Rattle.prefix_table.proofs.keys.U8Bits.with_bit.Goals as goal

pub returns : goal.returns
returns c = bit_set w8 c.args.self c.args.i c.requires
