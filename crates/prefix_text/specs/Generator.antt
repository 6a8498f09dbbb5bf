-- The generator of tables: a linear congruence of 64 bits.
--     next x      the state after one step
--     drawn x      what a state gives: its upper half
--     first_generated x, generated n x      the first entry from a state, and the state after it;  n entries from a state
use Rattle.std.specs.Prelude.{ℕ, zero, suc, ◌+◌, ◌*◌, ◌/◌, ◌%◌, ◌^◌, ◌==◌, List, [], ◌∷◌, if◌then◌else◌}
use Rattle.either.specs.declared.Either.TheVariants.{Left, Right}
use Rattle.prefix_text.specs.Forms.{Entry}

unfoldable pub next : ℕ → ℕ
next x = (x * 6364136223846793005 + 1442695040888963407) % 2 ^ 64

abbrev pub drawn : ℕ → ℕ
drawn x = x / 2 ^ 32

-- the state after so many steps
abbrev pub after_steps : ℕ → ℕ → ℕ
after_steps zero x = x
after_steps (suc n) x = after_steps n (next x)

-- the four draws of an address of 128 bits, the most significant first
abbrev pub wide_address : ℕ → ℕ
wide_address x = ((drawn (after_steps 1 x) * 2 ^ 32 + drawn (after_steps 2 x)) * 2 ^ 32 + drawn (after_steps 3 x)) * 2 ^ 32 + drawn (after_steps 4 x)

-- behind a draw that is even and one that is odd, whose state is x
abbrev pub narrow_entry : ℕ → Entry
narrow_entry x = (Left (drawn (after_steps 1 x), 8 + drawn x / 2 % 17), drawn (after_steps 2 x) % 8)

abbrev pub wide_entry : ℕ → Entry
wide_entry x = (Right (wide_address x, 16 + drawn x / 2 % 33), drawn (after_steps 5 x) % 8)

-- the first entry from a state, and the state after it
abbrev pub first_generated : ℕ → Entry × ℕ
first_generated x =
    if drawn (next x) % 2 == 0 then (narrow_entry (next x), after_steps 3 x) else (wide_entry (next x), after_steps 6 x)

abbrev pub generated : ℕ → ℕ → List Entry
generated zero x = []
generated (suc n) x = (first_generated x).0 ∷ generated n (first_generated x).1
