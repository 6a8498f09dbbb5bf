-- What is left of an iterator over joint sets: the members that it has not given.
use Rattle.std.specs.Prelude.{List}
use Rattle.prefix_table.specs.declared.prefixes.PrefixKey.{Ghosts}
use Rattle.prefix_map.specs.SetIterators.{set_into_iter_left}
use Rattle.prefix_joint_walks.specs.Joint.{JointKey, both}
use Rattle.prefix_joint_walks.specs.Unions.{Sides}
use Rattle.prefix_joint_walks.specs.JointIterators.{joint_keys_left, union_left, intersection_left, difference_left}
use Rattle.prefix_joint_walks.specs.Coverings.{covering_left}
use Rattle.prefix_joint_set.specs.declared.iter.Iter.{Iter}
use Rattle.prefix_joint_set.specs.declared.iter.IntoIter.{IntoIter}
use Rattle.prefix_joint_set.specs.declared.operations.Union.{Union}
use Rattle.prefix_joint_set.specs.declared.operations.Intersection.{Intersection}
use Rattle.prefix_joint_set.specs.declared.operations.Difference.{Difference}
use Rattle.prefix_joint_set.specs.declared.operations.CoveringDifference.{CoveringDifference}

module _ {P A B C D : Type 0} {g1 : Ghosts A} {g2 : Ghosts B} where
  abbrev pub members_left : Iter P A B C D g1 g2 → List (JointKey × Unit {0})
  members_left it = joint_keys_left it.keys

  abbrev pub members_of_either : Union P A B C D g1 g2 → List (JointKey × Sides (Unit {0}) (Unit {0}))
  members_of_either it = union_left it.items

  abbrev pub members_of_both : Intersection P A B C D g1 g2 → List (JointKey × (Unit {0} × Unit {0}))
  members_of_both it = intersection_left it.items

  abbrev pub members_of_left : Difference P A B C D g1 g2 → List (JointKey × Unit {0})
  members_of_left it = difference_left it.items

  abbrev pub members_uncovered : CoveringDifference P A B C D g1 g2 → List (JointKey × Unit {0})
  members_uncovered it = covering_left it.entries

  abbrev pub owned_members_left : IntoIter P A B C D g1 g2 → List (JointKey × Unit {0})
  owned_members_left it = both (set_into_iter_left it.first) (set_into_iter_left it.second)
