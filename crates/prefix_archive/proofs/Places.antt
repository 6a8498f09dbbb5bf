-- The places of a node, by their bits.
use Rattle.std.proofs.Common.{◌≡◌, ℕ, zero, suc, ◌+◌, ◌-◌, ◌/◌, ◌%◌, ◌<◌, ◌≤◌, cond, eqb, length, take, drop, refl, subst, arith, Some, length-take, length-drop}
use Rattle.std.specs.Prelude.{slice_get}
use Rattle.prefix_model.specs.Keys.{KeyBits, number, keys_of_length}
use Rattle.prefix_model.specs.Positions.{child_places}
use Rattle.prefix_model.specs.InPlace.{bits_below}
use Rattle.prefix_model.specs.Slots.{place}
use Rattle.prefix_model.proofs.KeyPlaces.{key_at_number}

bit_value : (r : ℕ) → r < 2 → cond (eqb r 1) 1 0 ≡ r
bit_value zero h = refl
bit_value (suc zero) h = refl
bit_value (suc (suc r)) h = absurd (omega arith)

-- the count of the bits below a place
pub below-place : (i bits : ℕ) → bits_below i bits ≡ place bits i
unfolding place
below-place zero bits = refl
below-place (suc i) bits = λ j. bit_value (bits % 2) (omega arith) j + below-place i (bits / 2) j

pub child_place_at : (s : KeyBits) → length s ≡ 5 → slice_get child_places (number s) ≡ Some s
unfolding child_places
child_place_at s e = subst (λ n. slice_get (keys_of_length n) (number s) ≡ Some s) e (key_at_number s)

-- the bits of a key from one place to another
pub piece_length : (bits : KeyBits) (d len : ℕ) → d ≤ len → len ≤ length bits → length (drop d (take len bits)) ≡ len - d
piece_length bits d len l h = let a = length-drop d (take len bits) in let b = length-take len bits in omega arith
