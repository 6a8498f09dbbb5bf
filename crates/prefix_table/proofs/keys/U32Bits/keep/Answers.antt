use Rattle.prefix_table.specs.KeyLaws.{none_kept, first_kept}
use Rattle.prefix_table.proofs.keys.U32Bits.keep.Goals as goal

pub returns-then-len-eq0 : goal.returns-then-len-eq0
returns-then-len-eq0 c = none_kept 32 c.args.self c.args.len c.if-len-eq0.true

pub returns-else-len-eq0 : goal.returns-else-len-eq0
returns-else-len-eq0 c = first_kept 32 c.args.self c.args.len c.ranges.self.fits c.requires
