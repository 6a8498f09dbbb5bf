-- Counts of calls: `counted` of failed calls, and `next_call` and `is_listed` of the numbers of all calls.
use Rattle.std.specs.Prelude.{ℕ, ◌+◌, ◌-◌, ◌^◌, nat_lt, nat_eq, min, Bool, false, List, if◌then◌else◌, Option, None, Some, Result, Ok, Err}
use Rattle.std.specs.List.{list_any}

-- the count of failed calls after one that answered so
abbrev pub counted : {T E : Type 0} → ℕ → Result T E → ℕ
counted before (Ok x) = before
counted before (Err e) = min (before + 1) (2 ^ 64 - 1)

-- the number of the call after this one, none past `u64::MAX`
abbrev pub next_call : Option ℕ → Option ℕ
next_call None = None
next_call (Some n) = if nat_lt (n + 1) (2 ^ 64) then Some (n + 1) else None

-- the call with this number is in the list
abbrev pub is_listed : List ℕ → Option ℕ → Bool
is_listed list None = false
is_listed list (Some n) = list_any (λ m. nat_eq m n) list
