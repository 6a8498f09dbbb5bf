use Rattle.std.proofs.Common.{refl}
use Rattle.prefix_model.specs.Positions.{data_places, child_places}
use Rattle.prefix_model.proofs.rows.places_by_bit.Goals as goal

pub returns-clause-at_data_bits : goal.returns-clause-at_data_bits
unfolding data_places child_places
returns-clause-at_data_bits c = refl

pub returns-clause-at_child_bits : goal.returns-clause-at_child_bits
unfolding data_places child_places
returns-clause-at_child_bits c = refl

pub returns-clause-child_lengths : goal.returns-clause-child_lengths
unfolding data_places child_places
returns-clause-child_lengths c = refl
