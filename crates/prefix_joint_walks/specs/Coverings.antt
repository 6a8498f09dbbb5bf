-- What is left of a covering difference: the items that it has not given.
use Rattle.std.specs.Prelude.{List}
use Rattle.prefix_model.specs.Keys.{KeyBits}
use Rattle.prefix_table.specs.declared.prefixes.PrefixKey.{Ghosts}
use Rattle.prefix_map.specs.Iterators.{iter_left}
use Rattle.prefix_joint_walks.specs.Joint.{JointKey, both}
use Rattle.prefix_joint_walks.specs.Unions.{not_covered}
use Rattle.prefix_joint_walks.specs.declared.covering.Uncovered.{Uncovered}
use Rattle.prefix_joint_walks.specs.declared.covering.CoveringDifference.{CoveringDifference}

abbrev pub uncovered_left : {P L R : Type 0} {g : Ghosts P} → Uncovered P L R g → List (KeyBits × L)
uncovered_left it = not_covered it.other.now.entries (iter_left it.entries)

abbrev pub covering_left : {P L R A B C D : Type 0} {g1 : Ghosts A} {g2 : Ghosts B} → CoveringDifference P L R A B C D g1 g2 → List (JointKey × L)
covering_left it = both (uncovered_left it.first) (uncovered_left it.second)
