use Rattle.std.proofs.Common.{refl}
use Rattle.prefix_model.specs.Keys.{low_bits}
use Rattle.prefix_model.specs.Positions.{data_places, bits_set}
use Rattle.prefix_model.specs.Spelling.{word}
use Rattle.prefix_model.specs.FirstCause.{first_word, is_too_deep}
use Rattle.prefix_model.specs.Rows.{IsAccepted, IsRefused}
use Rattle.prefix_model.proofs.rows.deepest_nodes.Goals as goal

pub returns-clause-fits : goal.returns-clause-fits
unfolding low_bits word data_places bits_set first_word is_too_deep IsAccepted IsRefused
returns-clause-fits c = refl

pub returns-clause-longer_key : goal.returns-clause-longer_key
unfolding low_bits word data_places bits_set first_word is_too_deep IsAccepted IsRefused
returns-clause-longer_key c = refl

pub returns-clause-deeper_node : goal.returns-clause-deeper_node
unfolding low_bits word data_places bits_set first_word is_too_deep IsAccepted IsRefused
returns-clause-deeper_node c = refl

pub returns-clause-deeper_child : goal.returns-clause-deeper_child
unfolding low_bits word data_places bits_set first_word is_too_deep IsAccepted IsRefused
returns-clause-deeper_child c = refl
