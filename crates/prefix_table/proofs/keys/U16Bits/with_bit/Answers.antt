use Rattle.std.specs.Int.{w16}
use Rattle.prefix_table.specs.KeyLaws.{bit_set}
use Rattle.prefix_table.proofs.keys.U16Bits.with_bit.Goals as goal

pub returns : goal.returns
returns c = bit_set w16 c.args.self c.args.i c.requires
