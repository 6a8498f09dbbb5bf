-- Facts on the bytes of a source or a sink, where these are told.
--     WhereTold left P      P of the bytes that are left
--     AsTold left P      the same, and P of some bytes where these are not told
--     TakesThen old new P      P of the bytes that were taken and of those that are left
--     ReadsAll old new all      all the bytes that were left have been taken
--     AppendsThen old new P      P of the bytes that were appended
use Rattle.std.specs.Prelude.{◌≡◌, ℕ, List, [], ◌++◌, Option, None, Some}

abbrev pub WhereTold : Option (List ℕ) → (List ℕ → Type 0) → Type 0
WhereTold None P = Unit {0}
WhereTold (Some bytes) P = P bytes

abbrev pub AsTold : Option (List ℕ) → (List ℕ → Type 0) → Type 0
AsTold None P = (bytes : List ℕ) × P bytes
AsTold (Some bytes) P = P bytes

abbrev pub TakesThen : Option (List ℕ) → Option (List ℕ) → (List ℕ → List ℕ → Type 0) → Type 0
TakesThen None new P = Unit {0}
TakesThen (Some bytes) None P = ⊥
TakesThen (Some bytes) (Some rest) P = (taken : List ℕ) × (bytes ≡ taken ++ rest) × P taken rest

abbrev pub ReadsAll : Option (List ℕ) → Option (List ℕ) → List ℕ → Type 0
ReadsAll None new all = Unit {0}
ReadsAll (Some bytes) None all = ⊥
ReadsAll (Some bytes) (Some rest) all = (bytes ≡ all) × (rest ≡ [])

abbrev pub AppendsThen : Option (List ℕ) → Option (List ℕ) → (List ℕ → Type 0) → Type 0
AppendsThen None new P = Unit {0}
AppendsThen (Some before) None P = ⊥
AppendsThen (Some before) (Some after) P = (appended : List ℕ) × (after ≡ before ++ appended) × P appended
