-- Parts of the values in work, each a list of candidates.
--     values_of vs part, told vs part      its values;  the candidates that it stands for
--     IsPart cmp vs part      it lies within the values, and ascends
--     KeepsParts old new      what lies within the old values is the same in the new
use Rattle.std.specs.Prelude.{◌≡◌, ◌+◌, ◌≤◌, List, [], ◌∷◌, ◌++◌, length, take, drop, Some, None}
use Rattle.std.specs.Borrow.{Bor}
use Rattle.std.specs.List.Sorted.{IsStrictlySortedBy}
use Rattle.std.specs.declared.cmp.Ordering.{Ordering}
use Rattle.prefix_model.specs.Candidates.{Candidates}
use Rattle.prefix_aggregate.specs.Lists.{behind}
use Rattle.prefix_aggregate.specs.declared.parts.Part.{Part}

-- an empty list stands for a hole
abbrev pub as_candidates : {V : Type 0} → List V → Candidates V
as_candidates [] = None
as_candidates (x ∷ l) = Some (x ∷ l)

module _ {T : Type 0} where
  abbrev pub values_of : List (Bor T) → Part → List T
  values_of vs part = take part.len (drop part.start (behind vs))

  abbrev pub told : List (Bor T) → Part → Candidates T
  told vs part = as_candidates (values_of vs part)

  pub record IsPart (cmp : T → T → Ordering) (vs : List (Bor T)) (part : Part) : Type 0 where
    pub within : part.start + part.len ≤ length vs
    pub ascends : IsStrictlySortedBy cmp (values_of vs part)

  pub record IsOneValue (vs : List (Bor T)) (part : Part) (x : T) : Type 0 where
    pub within : part.start + part.len ≤ length vs
    pub single : part.len ≡ 1
    pub values : values_of vs part ≡ x ∷ []

  -- more may have been added
  pub record KeepsParts (old new : List (Bor T)) : Type 0 where
    pub added : List T
    pub values : behind new ≡ behind old ++ added
