use Rattle.std.proofs.Common.{refl}
use Rattle.prefix_model.specs.Positions.{data_places, bits_set}
use Rattle.prefix_model.specs.Spelling.{word}
use Rattle.prefix_model.specs.FirstCause.{first_word, is_too_deep}
use Rattle.prefix_model.specs.Rows.{IsRefused, IsRefusedAlone}
use Rattle.prefix_model.proofs.rows.first_of_two_causes.Goals as goal

pub returns-clause-both_indices : goal.returns-clause-both_indices
unfolding word data_places bits_set first_word is_too_deep IsRefused IsRefusedAlone
returns-clause-both_indices c = refl

pub returns-clause-depth_and_indices : goal.returns-clause-depth_and_indices
unfolding word data_places bits_set first_word is_too_deep IsRefused IsRefusedAlone
returns-clause-depth_and_indices c = refl

pub returns-clause-empty_and_indices : goal.returns-clause-empty_and_indices
unfolding word data_places bits_set first_word is_too_deep IsRefused IsRefusedAlone
returns-clause-empty_and_indices c = refl

pub returns-clause-unreferenced_and_empty : goal.returns-clause-unreferenced_and_empty
unfolding word data_places bits_set first_word is_too_deep IsRefused IsRefusedAlone
returns-clause-unreferenced_and_empty c = refl

pub returns-clause-too_many_and_cut_short : goal.returns-clause-too_many_and_cut_short
unfolding word data_places bits_set first_word is_too_deep IsRefused IsRefusedAlone
returns-clause-too_many_and_cut_short c = refl

pub returns-clause-too_few_and_cut_short : goal.returns-clause-too_few_and_cut_short
unfolding word data_places bits_set first_word is_too_deep IsRefused IsRefusedAlone
returns-clause-too_few_and_cut_short c = refl
