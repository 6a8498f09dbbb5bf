-- What a map ends as, once a borrow of one of its values has ended.
--     map_row P T prefix      the map's type, as the logic holds it
--     lends_stored m key r      m ends with the last value written through r at the key
--     lends_value m key r      the same, and m ends as it was where r is none
use Rattle.std.specs.Prelude.{Option}
use Rattle.std.specs.Borrow.{Lends, LendsIf, Fml, RattleType, MutBor}
use Rattle.prefix_model.specs.Keys.{KeyBits}
use Rattle.prefix_table.specs.declared.prefixes.PrefixKey.{Ghosts}
use Rattle.prefix_map.specs.MapViews.{MapView, with_value}
use Rattle.prefix_map.specs.contracts.map.PrefixMap.{the_row}

module _ (P T : RattleType) (prefix : Ghosts P.Denot) where
  abbrev pub map_row : RattleType
  map_row = the_row P T prefix

  abbrev pub lends_value : MutBor (MapView T.Denot) → KeyBits → Option (MutBor T.Denot) → Fml
  lends_value m key r = LendsIf map_row T m r (with_value m.now key) m.now

  abbrev pub lends_stored : MutBor (MapView T.Denot) → KeyBits → MutBor T.Denot → Fml
  lends_stored m key r = Lends map_row T m r (with_value m.now key)
