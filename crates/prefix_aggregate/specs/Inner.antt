-- The places of a node that have a value or a child strictly below them.
--     has_pair bits i, either bits i      whether one of the bits i and i + 1 is set;  1 where it is
--     has_below filled child b      whether the place b has a half that is filled, or a child
--     AreInner stored child inner k      of the places from k on, inner has those that have something below
use Rattle.std.specs.Prelude.{◌≡◌, ℕ, ◌+◌, ◌-◌, ◌*◌, ◌<◌, ◌≤◌, ◌==◌, ◌||◌, nat_le, max, Bool, cond}
use Rattle.std.specs.Int.{bit_at}
use Rattle.std.specs.Int.Bits.{bit_or}

abbrev pub has_pair : ℕ → ℕ → Bool
has_pair bits i = (bit_at bits i == 1) || (bit_at bits (i + 1) == 1)

abbrev pub either : ℕ → ℕ → ℕ
either bits i = max (bit_at bits i) (bit_at bits (i + 1))

abbrev pub has_below : ℕ → ℕ → ℕ → Bool
has_below filled child b = cond (nat_le 15 b) (has_pair child (2 * (b - 15))) (has_pair filled (2 * b + 1))

-- a place is filled that has a value or something below
abbrev pub AreInner : ℕ → ℕ → ℕ → ℕ → Type 0
AreInner stored child inner k = (b : ℕ) → k ≤ b → b < 31 → (bit_at inner b == 1) ≡ has_below (bit_or stored inner) child b
