-- Bits of a node as a heap, and of a word one by one.
--     in_level l b      whether bit b stands for a place of l bits
--     both x b      1 where bit b of x and the next are set
--     any_set x bs      1 where one of these bits of x is set
--     ancestors b      the bits above bit b, the nearest first
use Rattle.std.specs.Prelude.{ℕ, suc, ◌+◌, ◌-◌, ◌/◌, ◌^◌, ◌&&◌, min, max, nat_lt, not, Bool, List, [], ◌∷◌, map}
use Rattle.std.specs.Int.{bit_at}
use Rattle.std.specs.List.{filter}

abbrev pub in_level : ℕ → ℕ → Bool
in_level l b = not (nat_lt (b + 1) (2 ^ l)) && nat_lt (b + 1) (2 ^ suc l)

abbrev pub both : ℕ → ℕ → ℕ
both x b = min (bit_at x b) (bit_at x (b + 1))

abbrev pub any_set : ℕ → List ℕ → ℕ
any_set x [] = 0
any_set x (b ∷ bs) = max (bit_at x b) (any_set x bs)

-- half of the bit's number from 1, again and again
abbrev pub ancestors : ℕ → List ℕ
ancestors b = map (λ k. (b + 1) / 2 ^ k - 1) (filter (λ k. not (nat_lt (b + 1) (2 ^ k))) (1 ∷ 2 ∷ 3 ∷ 4 ∷ []))
