use Rattle.std.proofs.Common.{arith, refl}
use Rattle.prefix_model.specs.Keys.{low_bits}
use Rattle.prefix_table.proofs.KeyShifts.{part_masked, part_none}
use Rattle.prefix_table.proofs.keys.U64Bits.number_between.Goals as goal

pub returns-then-to-eq0 : goal.returns-then-to-eq0
returns-then-to-eq0 c = part_none (low_bits 64 c.args.self) c.args.from c.args.to c.requires.order c.if-to-eq0.true

pub returns-else-to-eq0 : goal.returns-else-to-eq0
returns-else-to-eq0 c = part_masked 64 64 c.args.self _ c.args.from c.args.to (omega arith) c.requires.order c.requires.few c.requires.within refl
