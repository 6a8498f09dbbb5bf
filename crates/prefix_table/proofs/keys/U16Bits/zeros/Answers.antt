use Rattle.prefix_model.proofs.KeyNumbers.{low_bits-zero}
use Rattle.prefix_table.proofs.keys.U16Bits.zeros.Goals as goal

pub returns : goal.returns
returns c = low_bits-zero 16
