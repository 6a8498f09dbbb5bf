-- Stored keys that a key begins with.
--     IsShortestFrom f k from to r      r is the entry of f at the shortest front of k that has at least `from` and at most `to` bits, and none where f has none there
--     IsLongestOf f k to r      the same of the longest front of at most `to` bits
use Rattle.std.specs.Prelude.{◌≡◌, ℕ, ◌<◌, ◌≤◌, length, take, Option, Some, None, MatchOption}
use Rattle.prefix_model.specs.Keys.{KeyBits}
use Rattle.prefix_model.specs.Tables.{Values}

module _ {V : Type 0} (f : Values V) (k : KeyBits) where
  pub record IsShortestEntry (from to : ℕ) (e : KeyBits × V) : Type 0 where
    pub front : e.0 ≡ take (length e.0) k
    pub least : from ≤ length e.0
    pub most : length e.0 ≤ to
    pub stored : f e.0 ≡ Some e.1
    pub before : (n : ℕ) → from ≤ n → n < length e.0 → f (take n k) ≡ None

  abbrev pub IsShortestFrom : ℕ → ℕ → Option (KeyBits × V) → Type 0
  IsShortestFrom from to r = MatchOption r ((n : ℕ) → from ≤ n → n ≤ to → f (take n k) ≡ None) (IsShortestEntry from to)

  pub record IsLongestEntry (to : ℕ) (e : KeyBits × V) : Type 0 where
    pub front : e.0 ≡ take (length e.0) k
    pub most : length e.0 ≤ to
    pub stored : f e.0 ≡ Some e.1
    pub behind : (n : ℕ) → length e.0 < n → n ≤ to → f (take n k) ≡ None

  abbrev pub IsLongestOf : ℕ → Option (KeyBits × V) → Type 0
  IsLongestOf to r = MatchOption r ((n : ℕ) → n ≤ to → f (take n k) ≡ None) (IsLongestEntry to)
