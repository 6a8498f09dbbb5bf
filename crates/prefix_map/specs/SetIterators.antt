-- What is left of an iterator over a set: the members that it has not given.
use Rattle.std.specs.Prelude.{◌≡◌, List}
use Rattle.prefix_model.specs.Keys.{KeyBits}
use Rattle.prefix_table.specs.declared.prefixes.PrefixKey.{Ghosts}
use Rattle.prefix_map.specs.Iterators.{keys_left, into_keys_left}
use Rattle.prefix_map.specs.declared.set.iter.Iter.{Iter}
use Rattle.prefix_map.specs.declared.set.iter.IntoIter.{IntoIter}

module _ {P : Type 0} {g : Ghosts P} where
  abbrev pub set_iter_left : Iter P g → List (KeyBits × Unit {0})
  set_iter_left it = keys_left it.keys

  -- new stands where old does
  abbrev pub IsSameSetIter : Iter P g → Iter P g → Type 0
  IsSameSetIter old new = (new.keys.entries.map ≡ old.keys.entries.map) × (new.keys.entries.last ≡ old.keys.entries.last)
      × (new.keys.entries.within ≡ old.keys.entries.within) × (new.keys.entries.inclusive ≡ old.keys.entries.inclusive)

  abbrev pub set_into_iter_left : IntoIter P g → List (KeyBits × Unit {0})
  set_into_iter_left it = into_keys_left it.keys
