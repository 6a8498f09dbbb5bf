-- What the contracts of an `Entry` cite. The words serve its halves too, as `entry_value (Occupied o)`.
pub use Rattle.prefix_map.specs.declared.map.entry.Entry.TheVariants.{Occupied, Vacant}
use Rattle.std.specs.Prelude.{◌≡◌, true, cond, [], Option, Some, Result, is_some}
use Rattle.std.specs.Borrow.{Fml, RattleType, MutBor, Lends, follows, follows_if, name_if_ok}
use Rattle.std.specs.Cmp.{tied_itself}
use Rattle.std.specs.Ordering.{is_eq}
use Rattle.std.specs.FinMap as map
use Rattle.std.proofs.Common.{ap, ◌∙◌}
use mir.Syntax.{named}
use Rattle.prefix_model.specs.Keys.{KeyBits}
use Rattle.prefix_table.specs.declared.prefixes.PrefixKey.{Ghosts}
use Rattle.prefix_model.specs.Tables.{KeyMap}
use Rattle.prefix_model.proofs.Order.{key_total}
use Rattle.prefix_map.specs.MapViews.{MapView, with_value, with_entry}
use Rattle.prefix_map.specs.Lending.{map_row}
use Rattle.prefix_map.specs.declared.map.entry.Entry.{Entry}
use Rattle.prefix_map.specs.declared.map.entry.OccupiedEntry.{OccupiedEntry}
use Rattle.prefix_map.specs.contracts.map.entry.OccupiedEntry as occupied

-- a key is stored once a value stands there
pub contains_stored : {V : Type 0} (m : KeyMap V) (key : KeyBits) (v : V) → map.contains_key (map.insert m key v) key ≡ true
contains_stored m key v = ap is_some (map.get-insert key_total m key v key ∙ ap (λ r. cond (is_eq r) (Some v) (map.get m key)) (tied_itself key_total key))

module _ {P T : Type 0} {g : Ghosts P} where
  -- the reference to the map
  abbrev pub entry_map_ref : Entry P T g → MutBor (MapView T)
  entry_map_ref (Occupied o) = o.map
  entry_map_ref (Vacant v) = v.map

  -- the map, as the entry holds it
  abbrev pub entry_map : Entry P T g → MapView T
  entry_map e = (entry_map_ref e).now

  -- the entry's prefix, and its key
  abbrev pub entry_prefix : Entry P T g → P
  entry_prefix (Occupied o) = o.prefix
  entry_prefix (Vacant v) = v.prefix

  abbrev pub entry_key : Entry P T g → KeyBits
  entry_key e = g.key (entry_prefix e)

  -- A if the entry is occupied, and B if it is vacant
  abbrev pub MatchEntry : Entry P T g → Type 0 → Type 0 → Type 0
  MatchEntry (Occupied o) A B = A
  MatchEntry (Vacant v) A B = B

  -- the value that the key has
  abbrev pub entry_value : Entry P T g → Option T
  entry_value e = map.get (entry_map e).entries (entry_key e)

  -- the map, once w is the key's value
  abbrev pub map_with : Entry P T g → T → MapView T
  map_with (Occupied o) w = with_value o.map.now (g.key o.prefix) w
  map_with (Vacant v) w = with_entry v.map.now (g.key v.prefix) w

  -- the map without the entry's key; its kept positions stay
  abbrev pub map_without : Entry P T g → MapView T
  map_without e = record (entry_map e) { entries = map.remove (entry_map e).entries (entry_key e) }

  -- o, once v is its value
  abbrev pub with_entry_value : OccupiedEntry P T g → T → OccupiedEntry P T g
  with_entry_value o v = record {
    map = record o.map { now = with_value o.map.now (g.key o.prefix) v };
    prefix = o.prefix;
    fits = o.fits;
    stored = contains_stored o.map.now.entries (g.key o.prefix) v;
  }

  -- d is the entry e, once v is its value
  abbrev pub IsWritten : Entry P T g → T → Entry P T g → Type 0
  IsWritten e v d = ((entry_map_ref d).ghost_name ≡ (entry_map_ref e).ghost_name) × (entry_map d ≡ map_with e v) × (entry_value d ≡ Some v)
      × (entry_prefix d ≡ entry_prefix e) × ((w : T) → map_with d w ≡ map_with e w)

module _ (P T : RattleType) (g : Ghosts P.Denot) where
  -- once the borrow r ends, the entry behind o has the last value written through r
  abbrev pub occupied_lends : MutBor (OccupiedEntry P.Denot T.Denot g) → MutBor T.Denot → Fml
  occupied_lends o r = Lends (occupied.the_row (record { mir = named 1; lft = [] }) P T g) T o r (with_entry_value o.now)

  -- once the borrow r ends, the map has the last value written through r at the key of e
  abbrev pub entry_lends : Entry P.Denot T.Denot g → MutBor T.Denot → Fml
  entry_lends e r = follows (map_row P T g) T (entry_map_ref e).ghost_name r.ghost_name (map_with e)

  -- the same if r is a reference, and else the map stays
  abbrev pub entry_lends_ok : {E : Type 0} → Entry P.Denot T.Denot g → Result (MutBor T.Denot) E → Fml
  entry_lends_ok e r = follows_if (map_row P T g) T (entry_map_ref e).ghost_name (name_if_ok (λ x. x.ghost_name) r) (map_with e) (entry_map e)
