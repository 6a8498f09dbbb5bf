use Rattle.std.proofs.Common.{refl}
use Rattle.prefix_model.specs.Positions.{data_places, bits_set}
use Rattle.prefix_model.specs.Spelling.{word}
use Rattle.prefix_model.specs.FirstCause.{first_word, is_too_deep}
use Rattle.prefix_model.specs.Rows.{IsRefusedAlone}
use Rattle.prefix_model.proofs.rows.no_root.Goals as goal

pub returns : goal.returns
unfolding word data_places bits_set first_word is_too_deep IsRefusedAlone
returns c = refl
