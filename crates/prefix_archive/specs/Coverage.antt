-- What is told at and below a key of a table.
--     answers_from m s      the answers there, by what follows the key, where nothing is stored above
--     IsViewOf seen m view s      the view shows m at s, or there is none and nothing is stored from s on
use Rattle.std.specs.Prelude.{◌≡◌, ◌++◌, Option, Some, None}
use Rattle.std.specs.FinMap.{get}
use Rattle.prefix_model.specs.Keys.{KeyBits}
use Rattle.prefix_model.specs.Tables.{KeyMap, Values, answer_under}
use Rattle.prefix_model.specs.Views.{Seen}

module _ {V : Type 0} where
  abbrev pub answers_from : KeyMap V → KeyBits → Values V
  answers_from m s = answer_under None (λ q. get m (s ++ q))

  abbrev pub IsViewOf : {X : Type 0} → (X → Seen V) → KeyMap V → Option X → KeyBits → Type 0
  IsViewOf seen m None s = (q : KeyBits) → get m (s ++ q) ≡ None
  IsViewOf seen m (Some x) s = ((seen x).entries ≡ m) × ((seen x).place ≡ s)
