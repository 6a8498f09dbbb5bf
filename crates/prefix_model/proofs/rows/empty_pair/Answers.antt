use Rattle.std.proofs.Common.{refl}
use Rattle.prefix_model.specs.Candidates.{both_or_either, offers}
use Rattle.prefix_model.specs.Positions.{data_places, child_places, bits_set}
use Rattle.prefix_model.specs.Spelling.{word}
use Rattle.prefix_model.specs.FirstCause.{first_word, is_too_deep}
use Rattle.prefix_model.specs.Rows.{IsAccepted}
use Rattle.prefix_model.proofs.Examples.{spelled, least}
use Rattle.prefix_model.proofs.rows.empty_pair.Goals as goal

pub returns-clause-spelled : goal.returns-clause-spelled
unfolding word data_places child_places bits_set first_word is_too_deep both_or_either offers IsAccepted
returns-clause-spelled c = spelled _ _ tt refl

pub returns-clause-bytes : goal.returns-clause-bytes
unfolding word data_places child_places bits_set first_word is_too_deep both_or_either offers IsAccepted
returns-clause-bytes c = refl

pub returns-clause-accepted : goal.returns-clause-accepted
unfolding word data_places child_places bits_set first_word is_too_deep both_or_either offers IsAccepted
returns-clause-accepted c = refl

pub returns-clause-least : goal.returns-clause-least
unfolding word data_places child_places bits_set first_word is_too_deep both_or_either offers IsAccepted
returns-clause-least c = least 0 32 32 _ _ refl refl refl

pub returns-clause-least_behind : goal.returns-clause-least_behind
unfolding word data_places child_places bits_set first_word is_too_deep both_or_either offers IsAccepted
returns-clause-least_behind c = least 0 128 128 _ _ refl refl refl
