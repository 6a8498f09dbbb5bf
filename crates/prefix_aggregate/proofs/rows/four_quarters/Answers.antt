use Rattle.std.proofs.Common.{refl}
use Rattle.prefix_model.specs.Keys.{low_bits}
use Rattle.prefix_model.specs.Candidates.{both_or_either}
use Rattle.prefix_model.specs.Positions.{data_places}
use Rattle.prefix_aggregate.proofs.ChangeExamples.{changes}
use Rattle.prefix_aggregate.proofs.rows.four_quarters.Goals as goal

pub returns : goal.returns
unfolding low_bits data_places both_or_either
returns c = changes 4 28 32 _ _ _ _ refl refl refl refl
