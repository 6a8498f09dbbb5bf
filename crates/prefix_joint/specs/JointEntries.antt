-- What the contracts of a joint `Entry` cite. The words serve its halves too, as `entry_value (Occupied o)`.
--     without_entry_at view key      the view without a key, and its positions kept
pub use Rattle.prefix_joint.specs.declared.map.entry.Entry.TheVariants.{Occupied, Vacant}
use Rattle.std.specs.Prelude.{◌≡◌, ℕ, true, [], Option, Some, Result, is_some}
use Rattle.std.specs.Borrow.{Fml, RattleType, MutBor, Lends, follows, follows_if, name_if_ok}
use Rattle.std.specs.FinMap as finmap
use mir.Syntax.{named}
use Rattle.either.specs.Either.{map_either}
use Rattle.either.specs.declared.Either.{Either}
use Rattle.either.specs.declared.Either.TheVariants.{Left, Right}
use Rattle.prefix_table.specs.declared.prefixes.PrefixKey.{Ghosts}
use Rattle.prefix_map.specs.Entries.{contains_stored}
use Rattle.prefix_joint_walks.specs.declared.JointPrefixKey as joint
use Rattle.prefix_joint_walks.specs.Joint.{JointView, JointKey, family, value_at, with_value_at, with_entry_at}
use Rattle.prefix_joint.specs.JointLending.{joint_row}
use Rattle.prefix_joint.specs.declared.map.entry.Entry.{Entry}
use Rattle.prefix_joint.specs.declared.map.entry.OccupiedEntry.{OccupiedEntry}
use Rattle.prefix_joint.specs.contracts.map.entry.OccupiedEntry as occupied

-- a key is stored once a value stands there
pub stored_at : {V : Type 0} (m : JointView V) (key : JointKey) (v : V) → is_some (value_at (with_value_at m key v) key) ≡ true
stored_at m (Left k) v = contains_stored m.t1.entries k v
stored_at m (Right k) v = contains_stored m.t2.entries k v

-- the view without a key, and its positions kept
abbrev pub without_entry_at : {T : Type 0} → JointView T → JointKey → JointView T
without_entry_at view (Left k) = record view { t1 = record view.t1 { entries = finmap.remove view.t1.entries k } }
without_entry_at view (Right k) = record view { t2 = record view.t2 { entries = finmap.remove view.t2.entries k } }

module _ {P T A B : Type 0} {h : joint.Ghosts P A B} {g1 : Ghosts A} {g2 : Ghosts B} where
  -- the reference to the map
  abbrev pub entry_map_ref : Entry P T A B h g1 g2 → MutBor (JointView T)
  entry_map_ref (Occupied o) = o.map
  entry_map_ref (Vacant v) = v.map

  -- the map, as the entry holds it
  abbrev pub entry_map : Entry P T A B h g1 g2 → JointView T
  entry_map e = (entry_map_ref e).now

  -- the entry's prefix, on the side of its family, and its key
  abbrev pub entry_prefix : Entry P T A B h g1 g2 → Either A B
  entry_prefix (Occupied o) = h.prefix o.prefix
  entry_prefix (Vacant v) = h.prefix v.prefix

  abbrev pub entry_key : Entry P T A B h g1 g2 → JointKey
  entry_key e = map_either g1.key g2.key (entry_prefix e)

  -- A if the entry is occupied, and B if it is vacant
  abbrev pub MatchEntry : Entry P T A B h g1 g2 → Type 0 → Type 0 → Type 0
  MatchEntry (Occupied o) A B = A
  MatchEntry (Vacant v) A B = B

  -- the value that the key has
  abbrev pub entry_value : Entry P T A B h g1 g2 → Option T
  entry_value e = value_at (entry_map e) (entry_key e)

  -- how many entries the key's family has
  abbrev pub entry_len : Entry P T A B h g1 g2 → ℕ
  entry_len e = finmap.len (family (entry_map e) (entry_key e)).entries

  -- the map, once w is the key's value
  abbrev pub map_with : Entry P T A B h g1 g2 → T → JointView T
  map_with (Occupied o) w = with_value_at o.map.now (map_either g1.key g2.key (h.prefix o.prefix)) w
  map_with (Vacant v) w = with_entry_at v.map.now (map_either g1.key g2.key (h.prefix v.prefix)) w

  -- the map without the entry's key; its kept positions stay
  abbrev pub map_without : Entry P T A B h g1 g2 → JointView T
  map_without e = without_entry_at (entry_map e) (entry_key e)

  -- o, once v is its value
  abbrev pub with_entry_value : OccupiedEntry P T A B h g1 g2 → T → OccupiedEntry P T A B h g1 g2
  with_entry_value o v = record {
    map = record o.map { now = with_value_at o.map.now (map_either g1.key g2.key (h.prefix o.prefix)) v };
    prefix = o.prefix;
    fits = o.fits;
    stored = stored_at o.map.now (map_either g1.key g2.key (h.prefix o.prefix)) v;
  }

  -- d is the entry e, once v is its value
  abbrev pub IsWritten : Entry P T A B h g1 g2 → T → Entry P T A B h g1 g2 → Type 0
  IsWritten e v d = ((entry_map_ref d).ghost_name ≡ (entry_map_ref e).ghost_name) × (entry_map d ≡ map_with e v) × (entry_value d ≡ Some v)
      × (entry_prefix d ≡ entry_prefix e) × ((w : T) → map_with d w ≡ map_with e w)

module _ (P T A B : RattleType) (h : joint.Ghosts P.Denot A.Denot B.Denot) (g1 : Ghosts A.Denot) (g2 : Ghosts B.Denot) where
  -- once the borrow r ends, the entry behind o has the last value written through r
  abbrev pub occupied_lends : MutBor (OccupiedEntry P.Denot T.Denot A.Denot B.Denot h g1 g2) → MutBor T.Denot → Fml
  occupied_lends o r = Lends (occupied.the_row (record { mir = named 1; lft = [] }) P T A B h g1 g2) T o r (with_entry_value o.now)

  -- once the borrow r ends, the map has the last value written through r at the key of e
  abbrev pub entry_lends : Entry P.Denot T.Denot A.Denot B.Denot h g1 g2 → MutBor T.Denot → Fml
  entry_lends e r = follows (joint_row P T A B h g1 g2) T (entry_map_ref e).ghost_name r.ghost_name (map_with e)

  -- the same if r is a reference, and else the map stays
  abbrev pub entry_lends_ok : {E : Type 0} → Entry P.Denot T.Denot A.Denot B.Denot h g1 g2 → Result (MutBor T.Denot) E → Fml
  entry_lends_ok e r = follows_if (joint_row P T A B h g1 g2) T (entry_map_ref e).ghost_name (name_if_ok (λ x. x.ghost_name) r) (map_with e) (entry_map e)
