-- What a write that failed leaves in a sink: `AppendsPrefix`.
use Rattle.std.specs.Prelude.{◌≡◌, ℕ, List, ◌++◌, take, ⊤, Option, None, Some}

-- known bytes grow by a prefix of bs
abbrev pub AppendsPrefix : Option (List ℕ) → Option (List ℕ) → List ℕ → Type 0
AppendsPrefix None new bs = ⊤
AppendsPrefix (Some xs) None bs = ⊥
AppendsPrefix (Some xs) (Some ys) bs = (n : ℕ) × (ys ≡ xs ++ take n bs)
