-- What is printed is read again.
use Rattle.std.proofs.Common.{◌≡◌, ℕ, suc, zero, ◌+◌, ◌*◌, ◌/◌, ◌%◌, ◌^◌, ◌<◌, ◌≤◌, ◌==◌, ◌||◌, List, [], ◌∷◌, ◌++◌, length, refl, sym, ap, ◌∙◌, arith, false, true, Bool, nat_lt, nat_le, Option, Some, None, if◌then◌else◌, decimal, lit<, lit≤}
use Rattle.std.proofs.lemmas.Grind.{pow_more}
use Rattle.std.proofs.lemmas.Bool.Decides.{nat_tests}
use Rattle.std.proofs.lemmas.Fmt.{decimal_by_steps, first_decimal, decimal_nonempty, decimal_digit}
use Rattle.std.proofs.lemmas.List.Elements.{All-nil, All-cons}
use Rattle.std.proofs.Math.Nat.{div-div-eq-div-mul, div-eq_of_lt}
use Rattle.std.specs.Char.{digit_value}
use Rattle.std.specs.Fmt.{digit_glyph}
use Rattle.std.specs.List.{All}
use Rattle.prefix_text.specs.Forms.{read_digits, decimal_in, address_in, at_most, has_leading_zero}
use Rattle.prefix_text.specs.Texts.{hex_digits}

some_same : {i j : ℕ} → ◌≡◌ {A = Option ℕ} (Some i) (Some j) → i ≡ j
some_same e = cc

none_some : {j : ℕ} → ◌≡◌ {A = Option ℕ} None (Some j) → ⊥
none_some e = cc

-- ---- digits of either base

pub read_on : (base m : ℕ) (ds es : List ℕ) (k : ℕ) → read_digits base m ds ≡ Some k → read_digits base m (ds ++ es) ≡ read_digits base k es
read_on base m [] es k h = ap (λ n. read_digits base n es) (some_same h)
read_on base m (c ∷ cs) es k h = by (nat_lt (digit_value c) base) h (read_on base (m * base + digit_value c) cs es k)
  where
    by : (b : Bool) → (if b then read_digits base (m * base + digit_value c) cs else None) ≡ Some k
        → (read_digits base (m * base + digit_value c) cs ≡ Some k → read_digits base (m * base + digit_value c) (cs ++ es) ≡ read_digits base k es)
        → (if b then read_digits base (m * base + digit_value c) (cs ++ es) else None) ≡ read_digits base k es
    by true e f = f e
    by false e f = absurd (none_some e)

-- one digit, by its value
read_one : (base m c d : ℕ) (cs : List ℕ) → digit_value c ≡ d → d < base → read_digits base m (c ∷ cs) ≡ read_digits base (m * base + d) cs
read_one base m c d cs e l =
    let t : nat_lt (digit_value c) base ≡ true = grind (arith, nat_tests) in
    ap (λ b. if b then read_digits base (m * base + digit_value c) cs else None) t ∙ ap (λ v. read_digits base (m * base + v) cs) e

-- a byte that is no digit stands in no number
no_digit : (base m x k : ℕ) (ds : List ℕ) → base ≤ 36 → digit_value x ≡ 36 → read_digits base m ds ≡ Some k → All (λ c. (c == x) ≡ false) ds
no_digit base m x k [] l e h = All-nil (λ c. (c == x) ≡ false)
no_digit base m x k (c ∷ cs) l e h = by (nat_lt (digit_value c) base) refl h (no_digit base (m * base + digit_value c) x k cs l e)
  where
    other : nat_lt (digit_value c) base ≡ true → (c == x) ≡ false
    other t = at (c == x) refl
      where
        at : (b : Bool) → (c == x) ≡ b → b ≡ false
        at false f = refl
        at true f =
            let same : c ≡ x = grind (arith, nat_tests) in
            let value : digit_value c ≡ 36 = ap digit_value same ∙ e in
            absurd (grind (arith, nat_tests, value))

    by : (b : Bool) → nat_lt (digit_value c) base ≡ b → (if b then read_digits base (m * base + digit_value c) cs else None) ≡ Some k
        → (read_digits base (m * base + digit_value c) cs ≡ Some k → All (λ c. (c == x) ≡ false) cs) → All (λ c. (c == x) ≡ false) (c ∷ cs)
    by true t f rest = All-cons (λ c. (c == x) ≡ false) c cs (other t) (rest f)
    by false t f rest = absurd (none_some f)

-- digits end neither a word nor a line
pub record IsInWord (ds : List ℕ) : Type 0 where
  pub no_space : All (λ c. (c == 32) ≡ false) ds
  pub no_newline : All (λ c. (c == 10) ≡ false) ds

pub in_word : (base m k : ℕ) (ds : List ℕ) → base ≤ 36 → read_digits base m ds ≡ Some k → IsInWord ds
in_word base m k ds l h = record { no_space = no_digit base m 32 k ds l refl h; no_newline = no_digit base m 10 k ds l refl h }

-- ---- hexadecimal digits

glyph_value : (d : ℕ) → d < 16 → digit_value (digit_glyph false d) ≡ d
glyph_value d small = grind (arith, nat_tests)

hex_length : (n x : ℕ) → length (hex_digits n x) ≡ n
unfolding hex_digits
hex_length zero x = refl
hex_length (suc n) x = omega (arith, hex_length n x)

-- the digits behind those that give x / 16 ^ n give x
hex_read : (n x : ℕ) → read_digits 16 (x / 16 ^ n) (hex_digits n x) ≡ Some x
unfolding hex_digits
hex_read zero x = ap Some (omega arith)
hex_read (suc n) x =
    let d : x / 16 ^ n / 16 ≡ x / (16 ^ n * 16) = div-div-eq-div-mul x (16 ^ n) 16 in
    let p : 16 ^ suc n ≡ 16 ^ n * 16 = pow_suc in
    let q : x / 16 ^ suc n ≡ x / 16 ^ n / 16 = ap (λ y. x / y) p ∙ sym d in
    let e : x / 16 ^ suc n * 16 + x / 16 ^ n % 16 ≡ x / 16 ^ n = omega arith in
    read_one 16 (x / 16 ^ suc n) (digit_glyph false (x / 16 ^ n % 16)) (x / 16 ^ n % 16) (hex_digits n x) (glyph_value (x / 16 ^ n % 16) (omega arith)) (omega arith)
    ∙ (ap (λ m. read_digits 16 m (hex_digits n x)) e ∙ hex_read n x)
  where
    pow_suc : 16 ^ suc n ≡ 16 ^ n * 16
    pow_suc = let e : suc n ≡ n + 1 = omega arith in rw e (pow_more 16 n)

hex_number : (n x : ℕ) → x < 16 ^ n → read_digits 16 0 (hex_digits n x) ≡ Some x
hex_number n x l = ap (λ m. read_digits 16 m (hex_digits n x)) (sym (div-eq_of_lt l)) ∙ hex_read n x

pub address_read : (n x : ℕ) → x < 16 ^ n → address_in n (hex_digits n x) ≡ Some x
address_read n x l =
    let t : (length (hex_digits n x) == n) ≡ true = grind (arith, nat_tests, hex_length n x) in
    ap (λ b. if b then read_digits 16 0 (hex_digits n x) else None) t ∙ hex_number n x l

pub address_in_word : (n x : ℕ) → x < 16 ^ n → IsInWord (hex_digits n x)
address_in_word n x l = in_word 16 0 x (hex_digits n x) (lit≤ tt) (hex_number n x l)

-- ---- decimal digits

decimal_value : (d : ℕ) → d < 10 → digit_value (48 + d) ≡ d
decimal_value d small = grind (arith, nat_tests)

decimal_number : (n : ℕ) → n < 2 ^ 64 → read_digits 10 0 (decimal n) ≡ Some n
decimal_number = decimal_by_steps (λ n ds. read_digits 10 0 ds ≡ Some n)
    (λ n l. read_one 10 0 (48 + n) n [] (decimal_value n l) l ∙ ap Some (omega arith))
    (λ n ds l h. read_on 10 0 ds ((48 + n % 10) ∷ []) (n / 10) h
    ∙ (read_one 10 (n / 10) (48 + n % 10) (n % 10) [] (decimal_value (n % 10) (omega arith)) (omega arith) ∙ ap Some (omega arith)))

no_leading_zero : (n : ℕ) → n < 2 ^ 64 → has_leading_zero (decimal n) ≡ false
no_leading_zero zero l = rw (decimal_digit 0 (lit< tt)) refl
no_leading_zero (suc n) l =
    let first = first_decimal (suc n) (omega arith) l in
    grind (arith, nat_tests, first)

pub decimal_read : (most n : ℕ) → n ≤ most → n < 2 ^ 64 → decimal_in most (decimal n) ≡ Some n
decimal_read most n m l =
    let some = decimal_nonempty n l in
    let t : (length (decimal n) == 0) ≡ false = grind (arith, nat_tests, some) in
    let u : ((length (decimal n) == 0) || has_leading_zero (decimal n)) ≡ false = rw (t, no_leading_zero n l) refl in
    let w : nat_le n most ≡ true = grind (arith, nat_tests) in
    ap (λ b. if b then None else at_most most (read_digits 10 0 (decimal n))) u
    ∙ (ap (at_most most) (decimal_number n l) ∙ ap (λ b. if b then Some n else None) w)

pub decimal_in_word : (n : ℕ) → n < 2 ^ 64 → IsInWord (decimal n)
decimal_in_word n l = in_word 10 0 n (decimal n) (lit≤ tt) (decimal_number n l)
