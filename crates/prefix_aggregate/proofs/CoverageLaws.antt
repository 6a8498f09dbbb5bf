-- Where no place stands, nothing is stored.
use Rattle.std.proofs.Common.{◌≡◌, Option, None, subst}
use Rattle.prefix_model.specs.Keys.{KeyBits}
use Rattle.prefix_model.specs.TableViews.{TableView, stored_from}
use Rattle.prefix_table.specs.Places.{StandsFor}
use Rattle.prefix_table.specs.declared.places.Place.{Place}

pub none_stored : {T : Type 0} (view : TableView T) (p : Option Place) (s : KeyBits) → p ≡ None → StandsFor view p s → (q : KeyBits) → stored_from view s q ≡ None
none_stored view p s e stands = subst (λ (q : Option Place). StandsFor view q s) e stands
