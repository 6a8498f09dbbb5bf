use Rattle.std.proofs.Common.{rules}
use Rattle.prefix_model.proofs.Matching.HitLaws.{lowest_bit, none_from}
use Rattle.prefix_map.proofs.bits.lowest_from.Goals as goal

pub returns-then-above-eq0 : goal.returns-then-above-eq0
returns-then-above-eq0 c = none_from c.args.bits c.args.place c.if-above-eq0.true

pub returns : goal.returns
returns c = lowest_bit c.args.bits c.args.place (search rules) c.requires c.if-above-eq0.false
