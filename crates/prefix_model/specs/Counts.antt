-- Counts of addresses.
--     Counts value n f r      r tells at how many keys of n bits f has a value, and is none where at all
--     total t bs      the sum of t b for the numbers b of a list
use Rattle.std.specs.Prelude.{◌≡◌, ℕ, ℤ, pos, List, Option, MatchOption}
use Rattle.std.specs.List.{sum_by}
use Rattle.prefix_model.specs.Tables.{Values}
use Rattle.prefix_model.specs.Coverage.{AllAnswered, answered}

abbrev pub Counts : {R V : Type 0} → (R → ℤ) → ℕ → Values V → Option R → Type 0
Counts value n f r = MatchOption r (AllAnswered n f) (λ x. (¬ AllAnswered n f) × (value x ≡ pos (answered n f)))

unfoldable pub total : (ℕ → ℕ) → List ℕ → ℕ
total t bs = sum_by t bs
