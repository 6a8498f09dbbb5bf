use Rattle.std.proofs.Common.{refl}
use Rattle.prefix_model.specs.Positions.{data_places, bits_set}
use Rattle.prefix_model.specs.Spelling.{word}
use Rattle.prefix_model.specs.FirstCause.{first_word, is_too_deep}
use Rattle.prefix_model.specs.Rows.{IsRefused, IsRefusedOneByte}
use Rattle.prefix_model.proofs.rows.each_cause.Goals as goal

pub returns-clause-child_index : goal.returns-clause-child_index
unfolding word data_places bits_set first_word is_too_deep IsRefused IsRefusedOneByte
returns-clause-child_index c = refl

pub returns-clause-data_index : goal.returns-clause-data_index
unfolding word data_places bits_set first_word is_too_deep IsRefused IsRefusedOneByte
returns-clause-data_index c = refl

pub returns-clause-empty_node : goal.returns-clause-empty_node
unfolding word data_places bits_set first_word is_too_deep IsRefused IsRefusedOneByte
returns-clause-empty_node c = refl

pub returns-clause-missing_node : goal.returns-clause-missing_node
unfolding word data_places bits_set first_word is_too_deep IsRefused IsRefusedOneByte
returns-clause-missing_node c = refl

pub returns-clause-missing_value : goal.returns-clause-missing_value
unfolding word data_places bits_set first_word is_too_deep IsRefused IsRefusedOneByte
returns-clause-missing_value c = refl

pub returns-clause-unreferenced_value : goal.returns-clause-unreferenced_value
unfolding word data_places bits_set first_word is_too_deep IsRefused IsRefusedOneByte
returns-clause-unreferenced_value c = refl

pub returns-clause-refused_value : goal.returns-clause-refused_value
unfolding word data_places bits_set first_word is_too_deep IsRefused IsRefusedOneByte
returns-clause-refused_value c = refl
