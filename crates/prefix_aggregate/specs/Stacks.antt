-- How the lists of change sets are kept: all values one after the other, from the last list to the first, and where each list ends.
--     pieces a es vs      the values between the ends es, from a on
--     start_at a es k      where the piece of the number k starts
--     AreEnds a es n      the ends es ascend from a to n
--     kept_lists s      the lists of the stacks, the first list first
use Rattle.std.specs.Prelude.{◌≡◌, ℕ, zero, suc, ◌-◌, ◌≤◌, List, [], ◌∷◌, map, length, take, drop, reverse}
use Rattle.prefix_model.specs.Candidates.{Candidates}
use Rattle.prefix_aggregate.specs.Parts.{as_candidates}
use Rattle.prefix_aggregate.specs.ChangeSets.{ChangeLists}
use Rattle.prefix_aggregate.specs.declared.sets.Stacks.{Stacks}

abbrev pub pieces : {V : Type 0} → ℕ → List ℕ → List V → List (List V)
pieces a [] vs = []
pieces a (e ∷ es) vs = take (e - a) (drop a vs) ∷ pieces e es vs

-- where the piece of this number starts
abbrev pub start_at : ℕ → List ℕ → ℕ → ℕ
start_at a [] k = a
start_at a (e ∷ es) zero = a
start_at a (e ∷ es) (suc k) = start_at e es k

abbrev pub AreEnds : ℕ → List ℕ → ℕ → Type 0
AreEnds a [] n = a ≡ n
AreEnds a (e ∷ es) n = (a ≤ e) × AreEnds e es n

module _ {T : Type 0} where
  abbrev pub kept_lists : Stacks T → List (Candidates T)
  kept_lists s = reverse (map as_candidates (pieces 0 s.ends.items s.values.items))

  abbrev pub IsStacked : Stacks T → Type 0
  IsStacked s = AreEnds 0 s.ends.items (length s.values.items)

  abbrev pub stacked_lists : Stacks T → ChangeLists T
  stacked_lists s = record { masks = s.masks.items; lists = kept_lists s }
