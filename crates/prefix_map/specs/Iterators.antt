-- What is left of an iterator over a map: the entries of the items that it has not given.
use Rattle.std.specs.Prelude.{List}
use Rattle.prefix_model.specs.Keys.{KeyBits}
use Rattle.prefix_table.specs.declared.prefixes.PrefixKey.{Ghosts}
use Rattle.prefix_map.specs.Items.{rest, covers_left}
use Rattle.prefix_model.specs.Walks.{walk_rest}
use Rattle.prefix_map.specs.declared.map.iter.Iter.{Iter}
use Rattle.prefix_map.specs.declared.map.iter.Keys.{Keys}
use Rattle.prefix_map.specs.declared.map.iter.Values.{Values}
use Rattle.prefix_map.specs.declared.map.iter.Cover.{Cover}
use Rattle.prefix_map.specs.declared.map.iter.CoverKeys.{CoverKeys}
use Rattle.prefix_map.specs.declared.map.iter.CoverValues.{CoverValues}
use Rattle.prefix_map.specs.declared.map.owned.IntoIter.{IntoIter}
use Rattle.prefix_map.specs.declared.map.owned.IntoKeys.{IntoKeys}
use Rattle.prefix_map.specs.declared.map.owned.IntoValues.{IntoValues}

module _ {P T : Type 0} {g : Ghosts P} where
  abbrev pub iter_left : Iter P T g → List (KeyBits × T)
  iter_left it = rest it.map (g.key it.last) it.within it.inclusive

  abbrev pub keys_left : Keys P T g → List (KeyBits × T)
  keys_left it = iter_left it.entries

  abbrev pub values_left : Values P T g → List (KeyBits × T)
  values_left it = iter_left it.entries

  abbrev pub cover_left : Cover P T g → List (KeyBits × T)
  cover_left it = covers_left it.map (g.key it.prefix) it.from

  abbrev pub cover_keys_left : CoverKeys P T g → List (KeyBits × T)
  cover_keys_left it = cover_left it.entries

  abbrev pub cover_values_left : CoverValues P T g → List (KeyBits × T)
  cover_values_left it = cover_left it.entries

  abbrev pub into_iter_left : IntoIter P T g → List (KeyBits × T)
  into_iter_left it = walk_rest it.map.entries (g.key it.walk.last) it.walk.within it.walk.inclusive

  abbrev pub into_keys_left : IntoKeys P T g → List (KeyBits × T)
  into_keys_left it = into_iter_left it.entries

  abbrev pub into_values_left : IntoValues P T g → List (KeyBits × T)
  into_values_left it = into_iter_left it.entries
