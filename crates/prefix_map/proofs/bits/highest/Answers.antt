use Rattle.std.proofs.Common.{rules}
use Rattle.prefix_model.proofs.Matching.HitLaws.{highest_bit}
use Rattle.prefix_map.proofs.bits.highest.Goals as goal

pub returns : goal.returns
returns c = highest_bit c.args.bits (search rules) c.if-bits-eq0.false
