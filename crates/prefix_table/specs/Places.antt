-- Places of a table: a node, and a key that goes on from it.
use Rattle.std.specs.Prelude.{◌≡◌, ◌^◌, ◌<◌, ◌++◌, ◌%◌, length, Option, Some, None, IsSome}
use Rattle.std.specs.FinMap as map
use Rattle.prefix_model.specs.Keys.{KeyBits, low_bits}
use Rattle.prefix_model.specs.TableViews.{TableView, position_at, stored_from}
use Rattle.prefix_table.specs.declared.places.Place.{Place}

module _ {T : Type 0} where
  pub record IsPlace (view : TableView T) (place : Place) : Type 0 where
    pub named : IsSome (map.get view.places place.at)
    pub node : length (position_at view place.at) % 5 ≡ 0
    pub level : place.level < 5
    pub number : place.number < 2 ^ place.level

  abbrev pub key_at : TableView T → Place → KeyBits
  key_at view place = position_at view place.at ++ low_bits place.level place.number

  -- the place is that of the key s, or there is none and nothing is stored from s on
  abbrev pub StandsFor : TableView T → Option Place → KeyBits → Type 0
  StandsFor view None s = (q : KeyBits) → stored_from view s q ≡ None
  StandsFor view (Some place) s = key_at view place ≡ s
