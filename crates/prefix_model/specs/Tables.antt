-- Tables from keys to values, and what they answer.
--     KeyMap V      a table: finitely many keys, each with one value
--     Values V, after b f      what is told at each key;  what f tells of the keys that go on from bit b
--     answer m k      what the table answers at a key: the value of the longest match, or none
--     answer_under v f k      the same of any f, where v stands above
--     IsLongestMatch m k r      that r is that value, said with the fronts of k
--     SameAnswers w m n      the tables answer alike at each address of w bits
--     HasWidth w m, IsFewest w m      no key is longer than w;  no such table with the same answers has fewer keys
-- An address where the table answers none is a hole.
use Rattle.std.specs.Prelude.{◌≡◌, ℕ, ◌<◌, ◌≤◌, Bool, [], ◌∷◌, length, take, Option, Some, None, IsSome, MatchOption}
use Rattle.std.specs.Option.{option_or}
use Rattle.std.specs.FinMap.{FinMap, get, len}
use Rattle.prefix_model.specs.Keys.{KeyBits, key_cmp}

abbrev pub KeyMap : Type 0 → Type 0
KeyMap V = FinMap key_cmp V

-- what each key holds, or what is told at each
abbrev pub Values : Type 0 → Type 0
Values V = KeyBits → Option V

-- what f has for the keys that go on with bit b, by what follows that bit
abbrev pub after : {V : Type 0} → Bool → Values V → Values V
after b f k = f (b ∷ k)

-- The value of f at the longest front of k that has one, and v where none has: the value that is found last on the way down the bits of k.
abbrev pub answer_under : {V : Type 0} → Option V → Values V → Values V
answer_under v f [] = option_or (f []) v
answer_under v f (b ∷ k) = answer_under (option_or (f []) v) (after b f) k

-- longest-prefix match: the value at the longest stored key that k begins with
abbrev pub answer : {V : Type 0} → KeyMap V → Values V
answer m = answer_under None (get m)

-- the tables answer alike at each address of w bits
abbrev pub SameAnswers : {V : Type 0} → ℕ → KeyMap V → KeyMap V → Type 0
SameAnswers w m n = (k : KeyBits) → length k ≡ w → answer m k ≡ answer n k

-- no key is longer than w bits
abbrev pub HasWidth : {V : Type 0} → ℕ → KeyMap V → Type 0
HasWidth w m = (k : KeyBits) → IsSome (get m k) → length k ≤ w

-- No table of that width with the same answers has fewer keys. Nothing is said here of how such a table is found.
abbrev pub IsFewest : {V : Type 0} → ℕ → KeyMap V → Type 0
IsFewest {V} w m = (n : KeyMap V) → HasWidth w n → SameAnswers w m n → len m ≤ len n

-- r is the value at the longest stored front of k, and none where no front is stored
abbrev pub IsLongestMatch : {V : Type 0} → KeyMap V → KeyBits → Option V → Type 0
IsLongestMatch m k r =
    MatchOption r ((n : ℕ) → get m (take n k) ≡ None)
    (λ x. (n : ℕ) × (n ≤ length k) × (get m (take n k) ≡ Some x) × ((j : ℕ) → n < j → j ≤ length k → get m (take j k) ≡ None))
