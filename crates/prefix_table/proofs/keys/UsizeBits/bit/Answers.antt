use Rattle.prefix_table.specs.KeyLaws.{bit_tested}
use Rattle.prefix_table.proofs.keys.UsizeBits.bit.Goals as goal

pub returns : goal.returns
returns c = bit_tested 64 c.args.self c.args.i c.requires
