-- What an archive of two families spells, as a contract sees a joint map.
--     family_of m      the map of these entries with exactly their positions
--     pair_of m n      the joint map of the entries of both families
use Rattle.prefix_model.specs.Tables.{KeyMap}
use Rattle.prefix_model.specs.Positions.{position_set}
use Rattle.prefix_map.specs.MapViews.{MapView}
use Rattle.prefix_joint_walks.specs.Joint.{JointView}

module _ {V : Type 0} where
  abbrev pub family_of : KeyMap V → MapView V
  family_of m = record { entries = m; kept = position_set m }

  abbrev pub pair_of : KeyMap V → KeyMap V → JointView V
  pair_of m n = record { t1 = family_of m; t2 = family_of n }
