-- The list of a node in a store of small lists.
--     block lists at      the list in a block
--     items_of lists bits at      the list of a node: none where no bit is set
--     without lists count at      the lists without that of a block, where it has items
use Rattle.std.specs.Prelude.{ℕ, List}
use Rattle.std.specs.Ordering.{nat_cmp}
use Rattle.std.specs.FinMap.{FinMap}
use Rattle.prefix_blocks.specs.Blocks as views

abbrev pub ListsOf : Type 0 → Type 0
ListsOf A = FinMap nat_cmp (List A)

module _ {A : Type 0} where
  abbrev pub block : ListsOf A → ℕ → List A
  block lists at = views.list_named lists at

  abbrev pub items_of : ListsOf A → ℕ → ℕ → List A
  items_of lists bits at = views.held_by lists at bits

  abbrev pub without : ListsOf A → ℕ → ℕ → ListsOf A
  without lists count at = views.without lists at count
