-- What a contract sees of a map of prefixes.
--     MapView T      the entries and the kept positions
--     map_view view      those of a table
--     FitsIn w view      no entry and no kept position is longer than w
--     with_entry view key value      the map that holds this value at the key, and else what it held
use Rattle.std.specs.Prelude.{◌≡◌, ℕ, ◌≤◌, true, length}
use Rattle.std.proofs.Common.{refl}
use Rattle.std.specs.FinMap as map
use Rattle.std.specs.Coded.{Coded, code_by, coded×}
use base.Stored.{coded_unit}
use Rattle.prefix_model.specs.Keys.{KeyBits}
use Rattle.prefix_model.specs.Tables.{KeyMap, HasWidth}
use Rattle.prefix_model.specs.Positions.{PositionSet, with_positions}
use Rattle.prefix_model.specs.TableViews.{TableView, coded_key}

pub record MapView (T : Type 0) : Type 0 where
  pub entries : KeyMap T
  pub kept : PositionSet

-- a view is stored as its two parts
abbrev pub coded_view : {T : Type 0} → Coded T → Coded (MapView T)
coded_view {T} code =
    code_by (KeyMap T × PositionSet) (coded× (map.code coded_key code) (map.code coded_key coded_unit))
    (λ v. (v.entries, v.kept)) (λ p. record { entries = p.0; kept = p.1 }) (λ _. refl)

module _ {T : Type 0} where
  abbrev pub map_view : TableView T → MapView T
  map_view view = record { entries = view.entries; kept = view.kept }

  pub record FitsIn (w : ℕ) (view : TableView T) : Type 0 where
    pub entries : HasWidth w view.entries
    pub kept : (p : KeyBits) → map.contains_key view.kept p ≡ true → length p ≤ w

  abbrev pub with_value : MapView T → KeyBits → T → MapView T
  with_value view key value = record view { entries = map.insert view.entries key value }

  -- an insertion keeps the positions of its key
  abbrev pub with_entry : MapView T → KeyBits → T → MapView T
  with_entry view key value = record { entries = map.insert view.entries key value; kept = with_positions view.kept key }
