-- Stored fronts of the bits of a key, by how many bits they have.
--     HasNoneIn m bits a n      no front with at least a and fewer than n bits is stored
--     IsLastIn m bits a n len v, IsFirstIn m bits a n len v      the longest that is stored, with its value;  the shortest
--     place_of bits d j      the data bit of the front of j bits, in a node at depth d
--     IsHit bits d n marks b, AreHits m bits d n marks hits      a data bit of a stored front;  and the word of all of them
--     IsHighest x b, IsLowestFrom x a b      the highest bit of x that is set;  the lowest from bit a on
--     IsMatchAt m bits d n b len v      the front at a data bit, with its value
use Rattle.std.specs.Prelude.{◌≡◌, ℕ, ◌+◌, ◌-◌, ◌^◌, ◌<◌, ◌≤◌, drop, take, Some, None}
use Rattle.std.specs.Int.{bit_at}
use Rattle.std.specs.FinMap.{get}
use Rattle.prefix_model.specs.Keys.{KeyBits, number}
use Rattle.prefix_model.specs.Tables.{KeyMap}

pub record IsHighest (x b : ℕ) : Type 0 where
  pub within : b < 32
  pub set : bit_at x b ≡ 1
  pub none : (i : ℕ) → b < i → bit_at x i ≡ 0

pub record IsLowestFrom (x a b : ℕ) : Type 0 where
  pub from : a ≤ b
  pub within : b < 32
  pub set : bit_at x b ≡ 1
  pub none : (i : ℕ) → a ≤ i → i < b → bit_at x i ≡ 0

abbrev pub place_of : KeyBits → ℕ → ℕ → ℕ
place_of bits d j = 2 ^ (j - d) - 1 + number (drop d (take j bits))

module _ {V : Type 0} (m : KeyMap V) (bits : KeyBits) where
  abbrev pub HasNoneIn : ℕ → ℕ → Type 0
  HasNoneIn a n = (j : ℕ) → a ≤ j → j < n → get m (take j bits) ≡ None

  pub record IsLastIn (a n len : ℕ) (v : V) : Type 0 where
    pub from : a ≤ len
    pub below : len < n
    pub stored : get m (take len bits) ≡ Some v
    pub longest : HasNoneIn (len + 1) n

  pub record IsFirstIn (a n len : ℕ) (v : V) : Type 0 where
    pub from : a ≤ len
    pub below : len < n
    pub stored : get m (take len bits) ≡ Some v
    pub shortest : HasNoneIn a len

-- in a node at depth d, whose data bits are the marks
pub record IsHit (bits : KeyBits) (d n marks b : ℕ) : Type 0 where
  pub len : ℕ
  pub from : d ≤ len
  pub below : len < n
  pub at : b ≡ place_of bits d len
  pub is_marked : bit_at marks b ≡ 1

module _ {V : Type 0} (m : KeyMap V) (bits : KeyBits) (d n : ℕ) where
  pub record IsMatchAt (b len : ℕ) (v : V) : Type 0 where
    pub from : d ≤ len
    pub below : len < n
    pub at : b ≡ place_of bits d len
    pub stored : get m (take len bits) ≡ Some v

  pub record AreHits (marks hits : ℕ) : Type 0 where
    pub small : hits < 2 ^ 31
    pub some : (b : ℕ) → bit_at hits b ≡ 1 → IsHit bits d n marks b
    pub none : (j : ℕ) → d ≤ j → j < n → bit_at hits (place_of bits d j) ≡ 0 → get m (take j bits) ≡ None
