use Rattle.std.proofs.Common.{refl, [], ◌∷◌}
use Rattle.prefix_model.specs.Keys.{low_bits}
use Rattle.prefix_model.specs.Candidates.{both_or_either, offers}
use Rattle.prefix_model.specs.Positions.{data_places, child_places, bits_set}
use Rattle.prefix_model.specs.Spelling.{word}
use Rattle.prefix_model.specs.FirstCause.{first_word, is_too_deep}
use Rattle.prefix_model.specs.Rows.{IsAccepted, key}
use Rattle.prefix_model.proofs.Examples.{spelled, least_behind}
use Rattle.prefix_model.proofs.rows.one_octet.Goals as goal

pub returns-clause-spelled : goal.returns-clause-spelled
unfolding low_bits word data_places child_places bits_set first_word is_too_deep both_or_either offers IsAccepted
returns-clause-spelled c = spelled _ _ tt refl

pub returns-clause-in_bytes : goal.returns-clause-in_bytes
unfolding low_bits word data_places child_places bits_set first_word is_too_deep both_or_either offers IsAccepted
returns-clause-in_bytes c = refl

pub returns-clause-accepted : goal.returns-clause-accepted
unfolding low_bits word data_places child_places bits_set first_word is_too_deep both_or_either offers IsAccepted
returns-clause-accepted c = refl

pub returns-clause-least : goal.returns-clause-least
unfolding low_bits word data_places child_places bits_set first_word is_too_deep both_or_either offers IsAccepted
returns-clause-least c = least_behind (key 8 0x0a) 0 24 (([], 1) ∷ []) (([], 1) ∷ []) 32 _ _ refl refl refl refl refl
