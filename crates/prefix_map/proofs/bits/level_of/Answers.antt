use Rattle.prefix_model.proofs.Bitmaps.PlaceBits.{place_of_bit, level_from, level_limit}
use Rattle.prefix_map.proofs.bits.level_of.Goals as goal

pub returns-clause-place : goal.returns-clause-place
returns-clause-place c = place_of_bit c.args.data_bit c.requires

pub returns-clause-from : goal.returns-clause-from
returns-clause-from c = level_from c.args.data_bit c.requires

pub returns-clause-limit : goal.returns-clause-limit
returns-clause-limit c = level_limit c.args.data_bit c.requires
