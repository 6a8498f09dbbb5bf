-- What a joint map ends as, once a borrow of one of its values has ended.
--     joint_row      the map's type, as the logic holds it
--     lends_stored m key r      m ends with the last value written through r at the key
--     lends_value m key r      the same, and m ends as it was where r is none
use Rattle.std.specs.Prelude.{Option}
use Rattle.std.specs.Borrow.{Lends, LendsIf, Fml, RattleType, MutBor}
use Rattle.prefix_table.specs.declared.prefixes.PrefixKey.{Ghosts}
use Rattle.prefix_joint_walks.specs.declared.JointPrefixKey as joint
use Rattle.prefix_joint_walks.specs.Joint.{JointView, JointKey, with_value_at}
use Rattle.prefix_joint.specs.contracts.map.JointPrefixMap.{the_row}

module _ (P T A B : RattleType) (h : joint.Ghosts P.Denot A.Denot B.Denot) (first : Ghosts A.Denot) (second : Ghosts B.Denot) where
  abbrev pub joint_row : RattleType
  joint_row = the_row P T A B h first second

  abbrev pub lends_stored : MutBor (JointView T.Denot) → JointKey → MutBor T.Denot → Fml
  lends_stored m key r = Lends joint_row T m r (with_value_at m.now key)

  abbrev pub lends_value : MutBor (JointView T.Denot) → JointKey → Option (MutBor T.Denot) → Fml
  lends_value m key r = LendsIf joint_row T m r (with_value_at m.now key) m.now
