-- What is left of a cover: the entries that it has not given.
use Rattle.std.specs.Prelude.{List}
use Rattle.prefix_table.specs.declared.prefixes.PrefixKey.{Ghosts}
use Rattle.prefix_map.specs.Iterators.{cover_left}
use Rattle.prefix_joint_walks.specs.Joint.{JointKey, first_entries, second_entries}
use Rattle.prefix_joint_walks.specs.declared.cover.Cover.{Cover}
use Rattle.prefix_joint_walks.specs.declared.cover.Cover.TheVariants.{P1, P2}
use Rattle.prefix_joint_walks.specs.declared.cover.CoverKeys.{CoverKeys}
use Rattle.prefix_joint_walks.specs.declared.cover.CoverValues.{CoverValues}

module _ {P T A B C D : Type 0} {g1 : Ghosts A} {g2 : Ghosts B} where
  abbrev pub joint_cover_left : Cover P T A B C D g1 g2 → List (JointKey × T)
  joint_cover_left (P1 it) = first_entries (cover_left it)
  joint_cover_left (P2 it) = second_entries (cover_left it)

  abbrev pub joint_cover_keys_left : CoverKeys P T A B C D g1 g2 → List (JointKey × T)
  joint_cover_keys_left it = joint_cover_left it.entries

  abbrev pub joint_cover_values_left : CoverValues P T A B C D g1 g2 → List (JointKey × T)
  joint_cover_values_left it = joint_cover_left it.entries
