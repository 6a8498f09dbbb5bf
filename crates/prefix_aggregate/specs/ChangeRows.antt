-- The words of the worked examples of change sets. Values are numbers, keys are those of addresses of up to 32 bits.
--     answers_of es      what the table of these entries answers
--     HasChanges w ps es masks lists      the nodes at the positions ps of that table have these masks and lists
use Rattle.std.specs.Prelude.{◌≡◌, ℕ, List}
use Rattle.std.specs.Ordering.{nat_cmp}
use Rattle.prefix_model.specs.Keys.{KeyBits}
use Rattle.prefix_model.specs.Tables.{answer}
use Rattle.prefix_model.specs.Candidates.{Candidates}
use Rattle.prefix_model.specs.Rows.{table}
use Rattle.prefix_aggregate.specs.ChangeSets.{change_lists}

unfoldable pub HasChanges : ℕ → List KeyBits → List (KeyBits × ℕ) → List ℕ → List (Candidates ℕ) → Type 0
HasChanges w ps es masks lists = change_lists nat_cmp w (answer (table es)) ps ≡ record { masks = masks; lists = lists }
