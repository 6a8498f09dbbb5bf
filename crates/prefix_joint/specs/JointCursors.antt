-- What a cursor over a joint map gives, and what it leaves.
--     joint_walk_key w, joint_walk_inclusive w      where a walk stands
--     joint_walk_left m w      the entries of a map that are left of it
--     JointHolds m key es fs      the first of the entries es stands at this key in the map, and fs are the others
--     joint_cursor_map c, joint_cursor_key c      the map that c goes over, and the key at which it stands
--     joint_cursor_left c, joint_values_cursor_left c      the entries that are left
--     ShowsJoint .. c r      r is the first of them, its value to write, and none where none is left
--     ShowsJointValue c r      r is the value of the first of them to write, and none where none is left
--     joint_cursor_lends c r      c ends with the last value written through r at the key at which it stands
--     joint_values_lends c r      c ends with the last value written through r at the first key that was left, and with the others left
use Rattle.std.specs.Prelude.{◌≡◌, ℕ, Bool, cond, List, [], ◌∷◌, Option, Some, MatchOption, IfSome, IfNone}
use Rattle.std.specs.Borrow.{Fml, RattleType, MutBor, Lends, LendsSo}
use mir.Syntax.{named}
use Rattle.either.specs.Either.{map_either}
use Rattle.either.specs.declared.Either.{Either}
use Rattle.either.specs.declared.Either.TheVariants.{Left, Right}
use Rattle.prefix_table.specs.declared.prefixes.PrefixKey.{Ghosts}
use Rattle.prefix_map.specs.Cursors.{walk_key, walk_inclusive, walk_left}
use Rattle.prefix_joint_walks.specs.declared.JointPrefixKey as joint
use Rattle.prefix_joint_walks.specs.Joint.{JointView, JointKey, both, value_at, with_value_at, HasZeroHostBits}
use Rattle.prefix_joint.specs.declared.map.cursor.JointWalk.{JointWalk}
use Rattle.prefix_joint.specs.declared.map.cursor.IterMut.{IterMut}
use Rattle.prefix_joint.specs.declared.map.cursor.ValuesMut.{ValuesMut}
use Rattle.prefix_joint.specs.contracts.map.cursor.IterMut as entries
use Rattle.prefix_joint.specs.contracts.map.cursor.ValuesMut as values

module _ {T : Type 0} where
  pub record JointHolds (m : JointView T) (key : JointKey) (es fs : List (JointKey × T)) : Type 0 where
    pub value : T
    pub first : es ≡ (key, value) ∷ fs
    pub stored : value_at m key ≡ Some value

module _ {P A B : Type 0} {g1 : Ghosts A} {g2 : Ghosts B} where
  abbrev pub joint_walk_key : JointWalk P A B g1 g2 → JointKey
  joint_walk_key w = cond w.in_first (Left (walk_key w.first)) (Right (walk_key w.second))

  abbrev pub joint_walk_inclusive : JointWalk P A B g1 g2 → Bool
  joint_walk_inclusive w = cond w.in_first (walk_inclusive w.first) (walk_inclusive w.second)

  abbrev pub joint_walk_left : {T : Type 0} → JointView T → JointWalk P A B g1 g2 → List (JointKey × T)
  joint_walk_left m w = both (cond w.in_first (walk_left m.t1.entries w.first) []) (cond w.has_second (walk_left m.t2.entries w.second) [])

module _ {P T A B : Type 0} {g1 : Ghosts A} {g2 : Ghosts B} where
  abbrev pub joint_cursor_map_ref : IterMut P T A B g1 g2 → MutBor (JointView T)
  joint_cursor_map_ref c = c.map

  abbrev pub joint_cursor_map : IterMut P T A B g1 g2 → JointView T
  joint_cursor_map c = c.map.now

  abbrev pub joint_cursor_key : IterMut P T A B g1 g2 → JointKey
  joint_cursor_key c = joint_walk_key c.walk

  abbrev pub joint_cursor_left : IterMut P T A B g1 g2 → List (JointKey × T)
  joint_cursor_left c = joint_walk_left c.map.now c.walk

  -- c with this value at the key at which it stands
  abbrev pub joint_cursor_written : IterMut P T A B g1 g2 → T → IterMut P T A B g1 g2
  joint_cursor_written c w = record c { map = record c.map { now = with_value_at c.map.now (joint_walk_key c.walk) w } }

  abbrev pub joint_values_map_ref : ValuesMut P T A B g1 g2 → MutBor (JointView T)
  joint_values_map_ref c = c.map

  abbrev pub joint_values_cursor_left : ValuesMut P T A B g1 g2 → List (JointKey × T)
  joint_values_cursor_left c = joint_walk_left c.map.now c.walk

  abbrev pub ShowsJointValue : ValuesMut P T A B g1 g2 → Option (MutBor T) → Type 0
  ShowsJointValue c r = MatchOption r (joint_values_cursor_left c ≡ []) (λ v. (k : JointKey) × (es : List (JointKey × T)) × (joint_values_cursor_left c ≡ (k, v.now) ∷ es))

  -- the first of the entries that are left has w as its value, and new has the others left
  pub record IsJointValueWritten (old new : ValuesMut P T A B g1 g2) (w : T) : Type 0 where
    pub same_map : new.map.ghost_name ≡ old.map.ghost_name
    pub key : JointKey
    pub value : T
    pub first : joint_values_cursor_left old ≡ (key, value) ∷ joint_values_cursor_left new
    pub map : new.map.now ≡ with_value_at old.map.now key w

  pub record IsJointValuesEnd (old new : ValuesMut P T A B g1 g2) : Type 0 where
    pub same_map : new.map.ghost_name ≡ old.map.ghost_name
    pub map : new.map.now ≡ old.map.now
    pub rest : joint_values_cursor_left new ≡ []

module _ {P T A B : Type 0} {g1 : Ghosts A} {g2 : Ghosts B} (prefix : P → Either A B) (w1 w2 : ℕ) where
  abbrev pub ShowsJoint : IterMut P T A B g1 g2 → Option (P × MutBor T) → Type 0
  ShowsJoint c r = MatchOption r (joint_cursor_left c ≡ [])
      (λ item. ((es : List (JointKey × T)) × (joint_cursor_left c ≡ (map_either g1.key g2.key (prefix item.0), item.1.now) ∷ es)) × HasZeroHostBits w1 g1 w2 g2 (prefix item.0))

module _ (P T A B : RattleType) (h : joint.Ghosts P.Denot A.Denot B.Denot) (g1 : Ghosts A.Denot) (g2 : Ghosts B.Denot) where
  abbrev pub joint_cursor_lends : MutBor (IterMut P.Denot T.Denot A.Denot B.Denot g1 g2) → MutBor T.Denot → Fml
  joint_cursor_lends c r = Lends (entries.the_row (record { mir = named 1; lft = [] }) P T A B g1 g2 h) T c r (joint_cursor_written c.now)

  abbrev pub joint_values_lends : MutBor (ValuesMut P.Denot T.Denot A.Denot B.Denot g1 g2) → Option (MutBor T.Denot) → Fml
  joint_values_lends c r = LendsSo (values.the_row (record { mir = named 1; lft = [] }) P T A B g1 g2 h) T c r (λ n w. IfSome r (λ _. IsJointValueWritten c.now n w)) (λ n. IfNone r (IsJointValuesEnd c.now n))
