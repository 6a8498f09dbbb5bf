-- What the iterators of an archived map have left.
--     left_of seen view q inclusive      the entries of a view that do not stand before q, and none where there is no view
--     is_inside seen view q      q begins with the place of a view, and any does where there is none
--     covers_from m p n      the entries whose keys are fronts of p and have at least n bits, shortest first
use Rattle.std.specs.Prelude.{ℕ, ◌&&◌, Bool, true, List, [], length, nat_le, Option, Some, None}
use Rattle.std.specs.List.{filter}
use Rattle.std.specs.FinMap.{entries}
use Rattle.prefix_model.specs.Keys.{KeyBits}
use Rattle.prefix_model.specs.Tables.{KeyMap}
use Rattle.prefix_model.specs.Walks.{begins_with, walk_from}
use Rattle.prefix_model.specs.Views.{Seen}

module _ {V : Type 0} where
  abbrev pub left_of : {X : Type 0} → (X → Seen V) → Option X → KeyBits → Bool → List (KeyBits × V)
  left_of seen None q inclusive = []
  left_of seen (Some v) q inclusive = walk_from (seen v).entries (seen v).place q inclusive

  abbrev pub is_inside : {X : Type 0} → (X → Seen V) → Option X → KeyBits → Bool
  is_inside seen None q = true
  is_inside seen (Some v) q = begins_with (seen v).place q

  abbrev pub covers_from : KeyMap V → KeyBits → ℕ → List (KeyBits × V)
  covers_from m p n = filter (λ e. begins_with e.0 p && nat_le n (length e.0)) (entries m)
