use Rattle.std.proofs.Common.{refl}
use Rattle.prefix_model.specs.Keys.{low_bits}
use Rattle.prefix_model.specs.Candidates.{both_or_either, offers}
use Rattle.prefix_model.specs.Positions.{data_places, child_places, bits_set}
use Rattle.prefix_model.specs.Spelling.{word}
use Rattle.prefix_model.proofs.Examples.{spelled, least}
use Rattle.prefix_model.proofs.rows.four_quarters.Goals as goal

pub returns-clause-spelled : goal.returns-clause-spelled
unfolding low_bits word data_places child_places bits_set both_or_either offers
returns-clause-spelled c = spelled _ _ tt refl

pub returns-clause-least : goal.returns-clause-least
unfolding low_bits word data_places child_places bits_set both_or_either offers
returns-clause-least c = least 2 30 32 _ _ refl refl refl

pub returns-clause-least_spelled : goal.returns-clause-least_spelled
unfolding low_bits word data_places child_places bits_set both_or_either offers
returns-clause-least_spelled c = spelled _ _ tt refl
