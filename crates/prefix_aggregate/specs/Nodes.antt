-- The lists of a node in the first walk, by place.
--     list_at vs lists b      the candidates of the part at the place b
--     differs cmp vs lists b      whether that list is the first, or differs from that of the place above
--     is_kept cmp vs lists inner b      whether that list is kept: the first always, and any other whose place above is inner and that differs from the list there
--     kept_mask cmp vs lists inner, kept_of cmp vs lists inner      the mask of the node, and the lists that are kept, by ascending place
--     AreNodeLists cmp vs lists inner n f      the parts are those of a node's candidates
--     IsWithin vs lists      each part lies within the values
use Rattle.std.specs.Prelude.{◌≡◌, ℕ, ◌+◌, ◌-◌, ◌/◌, ◌<◌, ◌≤◌, ◌==◌, ◌&&◌, ◌||◌, not, Bool, List, [], map, length, get_or, slice_get, Some}
use Rattle.std.specs.List.{filter}
use Rattle.std.specs.Int.{bit_at}
use Rattle.std.specs.Borrow.{Bor}
use Rattle.std.specs.declared.cmp.Ordering.{Ordering}
use Rattle.prefix_model.specs.Candidates.{Candidates}
use Rattle.prefix_model.specs.Keys.{KeyBits}
use Rattle.prefix_model.specs.Tables.{Values}
use Rattle.prefix_model.specs.Positions.{bitmap, data_places}
use Rattle.prefix_model.specs.Rows.{count_up}
use Rattle.prefix_aggregate.specs.Parts.{told}
use Rattle.prefix_aggregate.specs.Same.{same_candidates}
use Rattle.prefix_aggregate.specs.ChangeSets.{candidates_from, shortened}
use Rattle.prefix_aggregate.specs.declared.parts.Part.{Part}

abbrev pub part_at : List Part → ℕ → Part
part_at lists b = get_or lists b (record { start = 0; len = 0 })

module _ {T : Type 0} where
  abbrev pub list_at : List (Bor T) → List Part → ℕ → Candidates T
  list_at vs lists b = told vs (part_at lists b)

  abbrev pub IsWithin : List (Bor T) → List Part → Type 0
  IsWithin vs lists = (b : ℕ) → b < 31 → (part_at lists b).start + (part_at lists b).len ≤ length vs

  abbrev pub differs : (T → T → Ordering) → List (Bor T) → List Part → ℕ → Bool
  differs cmp vs lists b = (b == 0) || not (same_candidates cmp (list_at vs lists b) (list_at vs lists ((b - 1) / 2)))

  abbrev pub is_kept : (T → T → Ordering) → List (Bor T) → List Part → ℕ → ℕ → Bool
  is_kept cmp vs lists inner b = (b == 0) || ((bit_at inner ((b - 1) / 2) == 1) && not (same_candidates cmp (list_at vs lists b) (list_at vs lists ((b - 1) / 2))))

  module _ (cmp : T → T → Ordering) (vs : List (Bor T)) (lists : List Part) (inner : ℕ) where
    -- a bit for each place, the lowest first
    unfoldable pub kept_mask : ℕ
    kept_mask = bitmap (map (is_kept cmp vs lists inner) (count_up 0 31))

    unfoldable pub kept_of : List (Candidates T)
    kept_of = map (list_at vs lists) (filter (is_kept cmp vs lists inner) (count_up 0 31))

  -- The parts at the places that are shown, the first and the halves of inner ones, have the candidates there, where n bits are to go from the node and f has the answers.
  -- At a place that is not shown the candidates are those of the place above.
  pub record AreNodeLists (cmp : T → T → Ordering) (vs : List (Bor T)) (lists : List Part) (inner n : ℕ) (f : Values T) : Type 0 where
    pub root : list_at vs lists 0 ≡ candidates_from cmp n f []
    pub above : (b : ℕ) → 0 < b → b < 31 → bit_at inner b ≡ 1 → bit_at inner ((b - 1) / 2) ≡ 1
    pub seen : (b : ℕ) (s : KeyBits) → 0 < b → slice_get data_places b ≡ Some s → bit_at inner ((b - 1) / 2) ≡ 1 → (length s ≤ n) × (list_at vs lists b ≡ candidates_from cmp n f s)
    pub hidden : (b : ℕ) (s : KeyBits) → 0 < b → slice_get data_places b ≡ Some s → bit_at inner ((b - 1) / 2) ≡ 0 → length s ≤ n → candidates_from cmp n f s ≡ candidates_from cmp n f (shortened s)
