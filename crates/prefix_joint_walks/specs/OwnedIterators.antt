-- What is left of an iterator that takes a joint map's entries out of it: the items that it has not given.
use Rattle.std.specs.Prelude.{List}
use Rattle.prefix_table.specs.declared.prefixes.PrefixKey.{Ghosts}
use Rattle.prefix_map.specs.Iterators.{into_iter_left}
use Rattle.prefix_joint_walks.specs.Joint.{JointKey, both}
use Rattle.prefix_joint_walks.specs.declared.owned.IntoIter.{IntoIter}
use Rattle.prefix_joint_walks.specs.declared.owned.IntoKeys.{IntoKeys}
use Rattle.prefix_joint_walks.specs.declared.owned.IntoValues.{IntoValues}

module _ {P T A B C D : Type 0} {g1 : Ghosts A} {g2 : Ghosts B} where
  abbrev pub joint_into_left : IntoIter P T A B C D g1 g2 → List (JointKey × T)
  joint_into_left it = both (into_iter_left it.first) (into_iter_left it.second)

  abbrev pub joint_into_keys_left : IntoKeys P T A B C D g1 g2 → List (JointKey × T)
  joint_into_keys_left it = joint_into_left it.entries

  abbrev pub joint_into_values_left : IntoValues P T A B C D g1 g2 → List (JointKey × T)
  joint_into_values_left it = joint_into_left it.entries
