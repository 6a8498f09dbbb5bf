-- What is told at and below a place of a table.
--     answers_from view s v      the answers there, where v is inherited
--     CoversSlot view p n c      every key of n bits behind a slot of the node at p has an answer
--     CoversBehind view p n r      every key of n bits that goes on from p with r has one
--     slot_count view p n c      at how many keys of n bits behind a slot there is one
use Rattle.std.specs.Prelude.{◌≡◌, ℕ, ◌+◌, ◌++◌, length, Option, None, IsSome}
use Rattle.prefix_model.specs.Keys.{KeyBits, low_bits}
use Rattle.prefix_model.specs.Tables.{Values, answer_under}
use Rattle.prefix_model.specs.Coverage.{AllAnswered, answered}
use Rattle.prefix_model.specs.TableViews.{TableView, stored_from}

module _ {T : Type 0} where
  -- the answers there, where v is inherited
  abbrev pub answers_from : TableView T → KeyBits → Option T → Values T
  answers_from view s v = answer_under v (stored_from view s)

  -- each address below a slot of the node at p, where a slot has n bits to go, has an answer
  abbrev pub CoversSlot : TableView T → KeyBits → ℕ → ℕ → Type 0
  CoversSlot view p n c = AllAnswered n (answers_from view (p ++ low_bits 5 c) None)

  -- each address that goes on from the node at p, which has n bits to go, with the bits r has an answer
  abbrev pub CoversBehind : TableView T → KeyBits → ℕ → KeyBits → Type 0
  CoversBehind view p n r = (k : KeyBits) → length r + length k ≡ n → IsSome (answers_from view p None (r ++ k))

  -- how many addresses below a slot of the node at p, where a slot has n bits to go, have an answer
  abbrev pub slot_count : TableView T → KeyBits → ℕ → ℕ → ℕ
  slot_count view p n c = answered n (answers_from view (p ++ low_bits 5 c) None)
