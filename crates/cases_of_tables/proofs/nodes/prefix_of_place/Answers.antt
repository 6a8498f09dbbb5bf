use Rattle.std.proofs.Common.{arith}
use Rattle.prefix_model.proofs.KeyPlaces.{places_short}
use Rattle.cases_of_tables.proofs.nodes.prefix_of_place.Goals as goal

pub reconstruct_prefix-requires-clause-within : goal.reconstruct_prefix-requires-clause-within
reconstruct_prefix-requires-clause-within g c = λ s e. let short = places_short c.args.bit s e in let room = c.requires.depth in omega (arith, short, room)
