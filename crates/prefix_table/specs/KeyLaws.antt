-- The laws of the keys of each width, and what the operations on bits do to a key.
use Rattle.std.specs.Prelude.{◌≡◌, ◌↔◌, ℕ, ◌+◌, ◌-◌, ◌*◌, ◌/◌, ◌%◌, ◌^◌, ◌<◌, ◌≤◌, ◌==◌, ◌++◌, true, false, Some, pos, bit_and, bit_or, take, replicate, slice_get, slice_set}
use Rattle.std.specs.Int.{Width, FitsUnsignedBits}
use Rattle.std.proofs.Common.{sym, ap, ◌∙◌, subst, arith}
use Rattle.std.proofs.Math.Nat.{mod-eq_of_lt, div-mul-le_self}
use Rattle.std.proofs.lemmas.Nat.Bits.{shr_and_one, bit_at_set_same, bit_at_set_other}
use Rattle.prefix_model.specs.Keys.{number, low_bits}
use Rattle.prefix_model.proofs.KeyNumbers.{number-low_bits, slice_get-low_bits, low_bits-zero, low_bits-cleared, low_bits-set}
use mir.Val.{bits}

pub number_of_bits : (n x : ℕ) → x < 2 ^ n → pos x ≡ pos (number (low_bits n x))
number_of_bits n x l = ap pos (sym (number-low_bits n x ∙ mod-eq_of_lt l))

-- the numbers of n bits
pub number_fits : (n x : ℕ) → FitsUnsignedBits n (pos x) ↔ (x < 2 ^ n)
number_fits n x = (λ h. h, λ h. h)

-- the test `(x >> k) & 1 == 1`
pub bit_tested : (n x i : ℕ) → i < n → slice_get (low_bits n x) i ≡ Some (bit_and (x / 2 ^ (n - 1 - i)) 1 == 1)
bit_tested n x i l = slice_get-low_bits n x i l ∙ ap (λ b. Some (b == 1)) (sym (shr_and_one x (n - 1 - i)))

-- 0 has no bit
pub none_kept : (n x len : ℕ) → len ≡ 0 → low_bits n 0 ≡ take len (low_bits n x) ++ replicate (n - len) false
none_kept n x len e =
    let all : n ≡ n - 0 = omega arith in
    let P : ℕ → Type 0 = λ k. low_bits n 0 ≡ take k (low_bits n x) ++ replicate (n - k) false in
    subst P (sym e) (low_bits-zero n ∙ ap (λ k. replicate k false) all)

-- `x >> k << k`
pub first_kept : (n x len : ℕ) → x < 2 ^ n → len ≤ n → low_bits n (x / 2 ^ (n - len) * 2 ^ (n - len) % 2 ^ n) ≡ take len (low_bits n x) ++ replicate (n - len) false
first_kept n x len fits within =
    let whole : len + (n - len) ≡ n = omega arith in
    let below : x / 2 ^ (n - len) * 2 ^ (n - len) < 2 ^ n = omega (arith, div-mul-le_self x (2 ^ (n - len))) in
    let P : ℕ → Type 0 = λ k. low_bits k (x / 2 ^ (n - len) * 2 ^ (n - len)) ≡ take len (low_bits k x) ++ replicate (n - len) false in
    ap (low_bits n) (mod-eq_of_lt below) ∙ subst P whole (low_bits-cleared len (n - len) x)

-- `x | 1 << k`
pub bit_set : (w : Width) (x i : ℕ) → i < bits w → low_bits (bits w) (bit_or x (1 * 2 ^ (bits w - 1 - i) % 2 ^ bits w)) ≡ slice_set (low_bits (bits w) x) i true
bit_set w x i l =
    let within : bits w - 1 - i < bits w = omega arith in
    low_bits-set (bits w) x _ i l (bit_at_set_same w x (bits w - 1 - i) within) (λ j apart. bit_at_set_other w x (bits w - 1 - i) within j apart)
