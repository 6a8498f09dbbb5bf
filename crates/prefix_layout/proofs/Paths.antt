-- How many places there are.
use Rattle.std.proofs.Common.{◌≡◌, ◌≤◌, Bool, true, false, List, [], ◌∷◌, length, refl, arith}
use Rattle.prefix_model.specs.Keys.{KeyBits}
use Rattle.prefix_model.specs.Positions.{data_places, child_places, count_true}
use Rattle.prefix_model.specs.FirstCause.{marked}

pub length-data_places : length data_places ≡ 31
unfolding data_places
length-data_places = refl

pub length-child_places : length child_places ≡ 32
unfolding child_places
length-child_places = refl

pub length-marked : (ps : List KeyBits) (bs : List Bool) → length bs ≤ length ps → length (marked ps bs) ≡ count_true bs
length-marked [] [] h = refl
length-marked [] (b ∷ bs) h = absurd (omega arith)
length-marked (p ∷ ps) [] h = refl
length-marked (p ∷ ps) (true ∷ bs) h = let ih = length-marked ps bs (omega arith) in omega arith
length-marked (p ∷ ps) (false ∷ bs) h = let ih = length-marked ps bs (omega arith) in omega arith
