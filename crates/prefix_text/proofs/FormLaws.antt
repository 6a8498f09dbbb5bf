-- Numbers from digits.
use Rattle.std.proofs.Common.{◌≡◌, ℕ, ◌+◌, ◌*◌, ◌^◌, ◌<◌, ◌≤◌, List, [], ◌∷◌, length, None, refl, arith, nat_lt, Bool, true, false, lit<, sym, ◌==◌, ◌||◌, if◌then◌else◌}
use Rattle.std.proofs.lemmas.Grind.{pow_more}
use Rattle.std.proofs.Math.Nat.{pow-le-pow_right}
use Rattle.std.proofs.lemmas.Bool.Decides.{nat_tests}
use Rattle.std.specs.Char.{digit_value}
use Rattle.prefix_text.specs.Forms.{at_most, decimal_in, has_leading_zero, read_digits}

-- once a number is too large, no digits behind it make it smaller
pub too_large : (most n : ℕ) (ds : List ℕ) → most < n → at_most most (read_digits 10 n ds) ≡ None
too_large most n [] h = grind (arith, nat_tests)
too_large most n (c ∷ cs) h =
    let more = too_large most (n * 10 + digit_value c) cs (omega arith) in
    by (nat_lt (digit_value c) 10) more
  where
    by : (b : Bool) → at_most most (read_digits 10 (n * 10 + digit_value c) cs) ≡ None → at_most most (if b then read_digits 10 (n * 10 + digit_value c) cs else None) ≡ None
    by true e = e
    by false e = refl

-- so a text is refused as soon as its digits so far give too much
pub is_refused : (most n : ℕ) (rest text : List ℕ) → read_digits 10 n rest ≡ read_digits 10 0 text → most < n → None ≡ decimal_in most text
is_refused most n rest text e h = by ((length text == 0) || has_leading_zero text)
  where
    none : None ≡ at_most most (read_digits 10 0 text)
    none = rw (← e) (sym (too_large most n rest h))

    by : (b : Bool) → None ≡ (if b then None else at_most most (read_digits 10 0 text))
    by true = refl
    by false = none

-- at most 32 hexadecimal digits give a number of 128 bits
pub hexadecimal_fits : (n i d : ℕ) → n < 16 ^ i → i < 32 → d < 16 → n * 16 + d < 2 ^ 128
hexadecimal_fits n i d small within digit =
    let e : 16 ^ (i + 1) ≡ 16 ^ i * 16 = pow_more 16 i in
    let most : 16 ^ (i + 1) ≤ 16 ^ 32 = pow-le-pow_right (lit< tt) {i = i + 1} {j = 32} (omega arith) in
    omega arith

pub product_fits : (n i : ℕ) → n < 16 ^ i → i < 32 → n * 16 < 2 ^ 128
product_fits n i small within = let h = hexadecimal_fits n i 0 small within (lit< tt) in omega arith
