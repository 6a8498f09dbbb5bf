-- What the commands ask of a table.
--     fill_of w m d, consistent_of m      the least table of w bits of m with d where it has no answer;  m without what the next entry above says
--     longest m k      the entry of the longest stored key that is a front of k, or none
--     covers_all w m k      whether each address of w bits that begins with k has an answer
--     addresses w m      how many addresses of w bits have an answer, or none where all have one
use Rattle.std.specs.Prelude.{ℕ, zero, suc, ◌-◌, ◌^◌, ◌==◌, nat_eq, Bool, ◌++◌, length, take, Option, Some, None, if◌then◌else◌}
use Rattle.std.specs.Ordering.{nat_cmp}
use Rattle.std.specs.Option.{option_map, option_or}
use Rattle.std.specs.FinMap.{get}
use Rattle.prefix_model.specs.Keys.{KeyBits}
use Rattle.prefix_model.specs.Tables.{KeyMap, answer}
use Rattle.prefix_model.specs.Aggregates.{fill_table, consistent_table}
use Rattle.prefix_model.specs.Coverage.{answered, covered_addresses}

unfoldable pub fill_of : ℕ → KeyMap ℕ → ℕ → KeyMap ℕ
fill_of w m d = fill_table nat_cmp w m d

unfoldable pub consistent_of : KeyMap ℕ → KeyMap ℕ
consistent_of m = consistent_table nat_eq m

-- the entry of the longest stored key among the fronts of k of at most n bits
abbrev pub longest_within : KeyMap ℕ → KeyBits → ℕ → Option (KeyBits × ℕ)
longest_within m k zero = option_map (λ v. (take zero k, v)) (get m (take zero k))
longest_within m k (suc n) = option_or (option_map (λ v. (take (suc n) k, v)) (get m (take (suc n) k))) (longest_within m k n)

abbrev pub longest : KeyMap ℕ → KeyBits → Option (KeyBits × ℕ)
longest m k = longest_within m k (length k)

-- as many of these addresses have an answer as there are
abbrev pub covers_all : ℕ → KeyMap ℕ → KeyBits → Bool
covers_all w m k = answered (w - length k) (λ s. answer m (k ++ s)) == 2 ^ (w - length k)

abbrev pub addresses : ℕ → KeyMap ℕ → Option ℕ
addresses w m = if covered_addresses w m == 2 ^ w then None else Some (covered_addresses w m)
