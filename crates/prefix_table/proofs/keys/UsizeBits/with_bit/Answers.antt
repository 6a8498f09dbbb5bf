use Rattle.std.specs.Int.{w64}
use Rattle.prefix_table.specs.KeyLaws.{bit_set}
use Rattle.prefix_table.proofs.keys.UsizeBits.with_bit.Goals as goal

pub returns : goal.returns
returns c = bit_set w64 c.args.self c.args.i c.requires
