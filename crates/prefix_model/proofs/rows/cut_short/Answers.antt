use Rattle.std.proofs.Common.{refl}
use Rattle.prefix_model.specs.Positions.{data_places, bits_set}
use Rattle.prefix_model.specs.Spelling.{word}
use Rattle.prefix_model.specs.FirstCause.{first_word, is_too_deep}
use Rattle.prefix_model.specs.Rows.{IsRefusedAlone}
use Rattle.prefix_model.proofs.rows.cut_short.Goals as goal

pub returns-clause-seven_bytes : goal.returns-clause-seven_bytes
unfolding word data_places bits_set first_word is_too_deep IsRefusedAlone
returns-clause-seven_bytes c = refl

pub returns-clause-one_family : goal.returns-clause-one_family
unfolding word data_places bits_set first_word is_too_deep IsRefusedAlone
returns-clause-one_family c = refl

pub returns-clause-no_records : goal.returns-clause-no_records
unfolding word data_places bits_set first_word is_too_deep IsRefusedAlone
returns-clause-no_records c = refl
