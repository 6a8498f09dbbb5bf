-- What a cursor over a map gives, and what it leaves.
--     walk_key w, walk_within w, walk_inclusive w      where a walk stands
--     walk_left m w      the entries of a map that are left of it
--     cursor_map c, cursor_key c      the map that c goes over, and the key at which it stands
--     cursor_left c, values_cursor_left c      the entries that are left
--     Shows w c r      r is the first of them, its value to write, and none where none is left
--     ShowsValue c r      r is the value of the first of them to write, and none where none is left
--     cursor_lends c r      c ends with the last value written through r at the key at which it stands
--     values_lends c r      c ends with the last value written through r at the first key that was left, and with the others left
use Rattle.std.specs.Prelude.{◌≡◌, ℕ, Bool, List, [], ◌∷◌, Option, MatchOption, IfSome, IfNone}
use Rattle.std.specs.Borrow.{Fml, RattleType, MutBor, Lends, LendsSo}
use mir.Syntax.{named}
use Rattle.prefix_model.specs.Keys.{KeyBits}
use Rattle.prefix_model.specs.Tables.{KeyMap}
use Rattle.prefix_table.specs.declared.prefixes.PrefixKey.{Ghosts}
use Rattle.prefix_map.specs.MapViews.{MapView, with_value}
use Rattle.prefix_map.specs.Items.{IsItem}
use Rattle.prefix_model.specs.Walks.{walk_rest}
use Rattle.prefix_map.specs.declared.map.cursor.Walk.{Walk}
use Rattle.prefix_map.specs.declared.map.cursor.IterMut.{IterMut}
use Rattle.prefix_map.specs.contracts.map.cursor.IterMut as entries
use Rattle.prefix_map.specs.contracts.map.cursor.ValuesMut as values
use Rattle.prefix_map.specs.declared.map.cursor.ValuesMut.{ValuesMut}

module _ {P : Type 0} {g : Ghosts P} where
  abbrev pub walk_key : Walk P g → KeyBits
  walk_key w = g.key w.last

  abbrev pub walk_within : Walk P g → ℕ
  walk_within w = w.within

  abbrev pub walk_inclusive : Walk P g → Bool
  walk_inclusive w = w.inclusive

  abbrev pub walk_left : {T : Type 0} → KeyMap T → Walk P g → List (KeyBits × T)
  walk_left m w = walk_rest m (walk_key w) (walk_within w) (walk_inclusive w)

module _ {P T : Type 0} {g : Ghosts P} where
  abbrev pub cursor_map_ref : IterMut P T g → MutBor (MapView T)
  cursor_map_ref c = c.map

  abbrev pub cursor_map : IterMut P T g → MapView T
  cursor_map c = c.map.now

  abbrev pub cursor_key : IterMut P T g → KeyBits
  cursor_key c = g.key c.walk.last

  abbrev pub cursor_left : IterMut P T g → List (KeyBits × T)
  cursor_left c = walk_left c.map.now.entries c.walk

  -- c with this value at the key at which it stands
  abbrev pub cursor_written : IterMut P T g → T → IterMut P T g
  cursor_written c w = record c { map = record c.map { now = with_value c.map.now (g.key c.walk.last) w } }

  abbrev pub Shows : ℕ → IterMut P T g → Option (P × MutBor T) → Type 0
  Shows w c r = MatchOption r (cursor_left c ≡ []) (λ item. ((es : List (KeyBits × T)) × (cursor_left c ≡ (g.key item.0, item.1.now) ∷ es)) × IsItem w g item.0 (g.key item.0))

module _ {P T : Type 0} {g : Ghosts P} where
  abbrev pub values_map_ref : ValuesMut P T g → MutBor (MapView T)
  values_map_ref c = c.map

  abbrev pub values_cursor_left : ValuesMut P T g → List (KeyBits × T)
  values_cursor_left c = walk_left c.map.now.entries c.walk

  abbrev pub ShowsValue : ValuesMut P T g → Option (MutBor T) → Type 0
  ShowsValue c r = MatchOption r (values_cursor_left c ≡ []) (λ v. (k : KeyBits) × (es : List (KeyBits × T)) × (values_cursor_left c ≡ (k, v.now) ∷ es))

  -- the first of the entries that are left has w as its value, and new has the others left
  pub record IsValueWritten (old new : ValuesMut P T g) (w : T) : Type 0 where
    pub same_map : new.map.ghost_name ≡ old.map.ghost_name
    pub key : KeyBits
    pub value : T
    pub first : values_cursor_left old ≡ (key, value) ∷ values_cursor_left new
    pub map : new.map.now ≡ with_value old.map.now key w

  pub record IsValuesEnd (old new : ValuesMut P T g) : Type 0 where
    pub same_map : new.map.ghost_name ≡ old.map.ghost_name
    pub map : new.map.now ≡ old.map.now
    pub rest : values_cursor_left new ≡ []

module _ (P T : RattleType) (g : Ghosts P.Denot) where
  abbrev pub cursor_lends : MutBor (IterMut P.Denot T.Denot g) → MutBor T.Denot → Fml
  cursor_lends c r = Lends (entries.the_row (record { mir = named 1; lft = [] }) P T g) T c r (cursor_written c.now)

  abbrev pub values_lends : MutBor (ValuesMut P.Denot T.Denot g) → Option (MutBor T.Denot) → Fml
  values_lends c r = LendsSo (values.the_row (record { mir = named 1; lft = [] }) P T g) T c r (λ n w. IfSome r (λ _. IsValueWritten c.now n w)) (λ n. IfNone r (IsValuesEnd c.now n))
