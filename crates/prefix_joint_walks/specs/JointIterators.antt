-- What is left of an iterator over joint maps: the items that it has not given.
use Rattle.std.specs.Prelude.{List, [], ◌∷◌, Option, Some, None}
use Rattle.std.specs.Borrow.{Bor}
use Rattle.prefix_model.specs.Keys.{KeyBits}
use Rattle.prefix_table.specs.declared.prefixes.PrefixKey.{Ghosts}
use Rattle.prefix_map.specs.Iterators.{iter_left}
use Rattle.prefix_map.specs.declared.map.iter.Iter as family
use Rattle.prefix_joint_walks.specs.Joint.{JointKey, both}
use Rattle.prefix_joint_walks.specs.Unions.{Sides, merged, in_both, on_left_alone}
use Rattle.prefix_joint_walks.specs.declared.iter.Iter.{Iter}
use Rattle.prefix_joint_walks.specs.declared.iter.Keys.{Keys}
use Rattle.prefix_joint_walks.specs.declared.iter.Values.{Values}
use Rattle.prefix_joint_walks.specs.declared.merge.Merge.{Merge}
use Rattle.prefix_joint_walks.specs.declared.union.Union.{Union}
use Rattle.prefix_joint_walks.specs.declared.intersection.Intersection.{Intersection}
use Rattle.prefix_joint_walks.specs.declared.difference.Difference.{Difference}

-- an entry that was taken from an iterator, and what that has left; nothing where none was taken
abbrev pub ahead : {P T : Type 0} {g : Ghosts P} → Option (P × Bor T) → family.Iter P T g → List (KeyBits × T)
ahead {g = g} None it = []
ahead {g = g} (Some item) it = (g.key item.0, item.1.now) ∷ iter_left it

-- what is left of two walks over one family, merged
abbrev pub merge_left : {P L R : Type 0} {g : Ghosts P} → Merge P L R g → List (KeyBits × Sides L R)
merge_left m = merged (ahead m.next_left m.left) (ahead m.next_right m.right)

-- the last two types are those that the families name
module _ {P T A B C D : Type 0} {g1 : Ghosts A} {g2 : Ghosts B} where
  abbrev pub joint_left : Iter P T A B C D g1 g2 → List (JointKey × T)
  joint_left it = both (iter_left it.first) (iter_left it.second)

  abbrev pub joint_keys_left : Keys P T A B C D g1 g2 → List (JointKey × T)
  joint_keys_left it = joint_left it.entries

  abbrev pub joint_values_left : Values P T A B C D g1 g2 → List (JointKey × T)
  joint_values_left it = joint_left it.entries

module _ {P L R A B C D : Type 0} {g1 : Ghosts A} {g2 : Ghosts B} where
  abbrev pub union_left : Union P L R A B C D g1 g2 → List (JointKey × Sides L R)
  union_left it = both (merge_left it.first) (merge_left it.second)

  abbrev pub intersection_left : Intersection P L R A B C D g1 g2 → List (JointKey × (L × R))
  intersection_left it = in_both (union_left it.items)

  abbrev pub difference_left : Difference P L R A B C D g1 g2 → List (JointKey × L)
  difference_left it = on_left_alone (union_left it.items)
