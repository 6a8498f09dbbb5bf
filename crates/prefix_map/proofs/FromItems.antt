-- Maps made of the items of an iterator.
use Rattle.std.specs.FinMap as map_of
use Rattle.std.proofs.Common.{◌≡◌, List, [], ◌∷◌, ◌++◌, map, refl, sym, ap, ◌∙◌}
use Rattle.prefix_model.specs.Keys.{KeyBits}
use Rattle.prefix_model.specs.Tables.{KeyMap}
use Rattle.prefix_model.specs.Building.{insert_all}
use Rattle.prefix_model.specs.Positions.{position_set, with_positions}
use Rattle.prefix_model.proofs.Building.{insert_all-append, position_set-insert}
use Rattle.prefix_map.specs.MapViews.{MapView, with_entry}

module _ {A T : Type 0} (entry : A → KeyBits × T) where
  -- the map has the entries of these items, inserted in order, and keeps their positions
  abbrev pub IsMade : MapView T → List A → Type 0
  IsMade made xs = (made.entries ≡ insert_all map_of.empty (map entry xs)) × (made.kept ≡ position_set made.entries)

  map_end : (xs : List A) (x : A) → map entry (xs ++ x ∷ []) ≡ map entry xs ++ entry x ∷ []
  map_end [] x = refl
  map_end (y ∷ xs) x = ap (λ ys. entry y ∷ ys) (map_end xs x)

  pub made_more : (made new : MapView T) (xs : List A) (x : A) → IsMade made xs → new ≡ with_entry made (entry x).0 (entry x).1 → IsMade new (xs ++ x ∷ [])
  made_more made new xs x before stored = (
    ap (λ (m : MapView T). m.entries) stored ∙ ap (λ (m : KeyMap T). map_of.insert m (entry x).0 (entry x).1) before.0
        ∙ sym (ap (insert_all map_of.empty) (map_end xs x) ∙ insert_all-append map_of.empty (map entry xs) (entry x ∷ [])),
    ap (λ (m : MapView T). m.kept) stored ∙ ap (λ k. with_positions k (entry x).0) before.1 ∙ position_set-insert made.entries (entry x).0 (entry x).1
        ∙ sym (ap (λ (m : MapView T). position_set m.entries) stored),
  )
