-- The bits of a number as a key.
use Rattle.std.specs.Prelude.{◌≡◌, ◌≢◌, ℕ, zero, suc, ◌+◌, ◌-◌, ◌*◌, ◌/◌, ◌%◌, ◌^◌, ◌<◌, ◌==◌, true, false, List, [], ◌∷◌, ◌++◌, Some, length, replicate, take, slice_get, slice_set}
use Rattle.std.proofs.Common.{refl, sym, ap, ◌∙◌, arith}
use Rattle.std.specs.Int.{bit_at}
use Rattle.std.proofs.lemmas.Nat.{shr-shr, mod-pow-add, shl-shr}
use Rattle.std.proofs.lemmas.Nat.Bits.{bit_at-lt, bit_at-zero, bit_at_cat_low}
use Rattle.prefix_model.specs.Keys.{digit, number, low_bits}

-- as many bits as were asked for
pub length-low_bits : (n x : ℕ) → length (low_bits n x) ≡ n
unfolding low_bits
length-low_bits zero x = refl
length-low_bits (suc n) x = ap suc (length-low_bits n x)

-- numbers with the same low bits
pub low_bits-same : (n x y : ℕ) → ((i : ℕ) → i < n → bit_at x i ≡ bit_at y i) → low_bits n x ≡ low_bits n y
unfolding low_bits
low_bits-same zero x y h = refl
low_bits-same (suc n) x y h = λ j. (h n (omega arith) j == 1) ∷ low_bits-same n x y (λ i l. h i (omega arith)) j

-- the bit at an index
pub slice_get-low_bits : (n x i : ℕ) → i < n → slice_get (low_bits n x) i ≡ Some (bit_at x (n - 1 - i) == 1)
unfolding low_bits
slice_get-low_bits zero x i l = absurd (omega arith)
slice_get-low_bits (suc n) x zero l = let e : n ≡ suc n - 1 - 0 = omega arith in ap (λ k. Some (bit_at x k == 1)) e
slice_get-low_bits (suc n) x (suc i) l =
    let e : n - 1 - i ≡ suc n - 1 - suc i = omega arith in
    slice_get-low_bits n x i (omega arith) ∙ ap (λ k. Some (bit_at x k == 1)) e

-- the high bits, and then the low ones
pub low_bits-append : (a b x : ℕ) → low_bits (a + b) x ≡ low_bits a (x / 2 ^ b) ++ low_bits b x
unfolding low_bits
low_bits-append zero b x = let e : 0 + b ≡ b = omega arith in ap (λ n. low_bits n x) e
low_bits-append (suc a) b x =
    let e : suc a + b ≡ suc (a + b) = omega arith in
    let same : bit_at x (a + b) ≡ bit_at (x / 2 ^ b) a = let c : a + b ≡ b + a = omega arith in ap (bit_at x) c ∙ ap (λ y. y % 2) (sym (shr-shr x b a)) in
    ap (λ n. low_bits n x) e ∙ (λ i. (same i == 1) ∷ low_bits-append a b x i)

-- the bits of 0
pub low_bits-zero : (n : ℕ) → low_bits n 0 ≡ replicate n false
unfolding low_bits
low_bits-zero zero = refl
low_bits-zero (suc n) = λ i. (bit_at-zero n i == 1) ∷ low_bits-zero n i

-- and of a number whose low bits are 0
pub low_bits-multiple : (n q : ℕ) → low_bits n (q * 2 ^ n) ≡ replicate n false
low_bits-multiple n q =
    let e : q * 2 ^ n ≡ q * 2 ^ n + 0 = omega arith in
    low_bits-same n (q * 2 ^ n) 0 (λ i l. ap (λ x. bit_at x i) e ∙ bit_at_cat_low q n 0 i l) ∙ low_bits-zero n

take-all_of : {A : Type 0} (xs ys : List A) (n : ℕ) → length xs ≡ n → take n (xs ++ ys) ≡ xs
take-all_of [] ys n e = ap (λ k. take k ys) (sym e)
take-all_of (x ∷ xs) ys zero e = absurd (omega arith)
take-all_of (x ∷ xs) ys (suc n) e = ap (λ zs. x ∷ zs) (take-all_of xs ys n (omega arith))

-- to clear the low b bits
pub low_bits-cleared : (a b x : ℕ) → low_bits (a + b) (x / 2 ^ b * 2 ^ b) ≡ take a (low_bits (a + b) x) ++ replicate b false
low_bits-cleared a b x =
    low_bits-append a b (x / 2 ^ b * 2 ^ b)
    ∙ (λ i. low_bits a (shl-shr (x / 2 ^ b) b i) ++ low_bits-multiple b (x / 2 ^ b) i)
    ∙ ap (λ front. front ++ replicate b false) (sym (ap (take a) (low_bits-append a b x) ∙ take-all_of (low_bits a (x / 2 ^ b)) (low_bits b x) a (length-low_bits a (x / 2 ^ b))))

-- to set a bit
pub low_bits-set : (n x y i : ℕ) → i < n → bit_at y (n - 1 - i) ≡ 1 → ((j : ℕ) → j ≢ n - 1 - i → bit_at y j ≡ bit_at x j) → low_bits n y ≡ slice_set (low_bits n x) i true
unfolding low_bits
low_bits-set zero x y i l one others = absurd (omega arith)
low_bits-set (suc n) x y zero l one others =
    let e : n ≡ suc n - 1 - 0 = omega arith in
    λ j. ((ap (bit_at y) e ∙ one) j == 1) ∷ low_bits-same n y x (λ k k_below. others k (λ same. (omega (arith, same)))) j
low_bits-set (suc n) x y (suc i) l one others =
    let e : n - 1 - i ≡ suc n - 1 - suc i = omega arith in
    λ j. (others n (λ same. (omega (arith, same))) j == 1) ∷ low_bits-set n x y i (omega arith) (ap (bit_at y) e ∙ one) (λ k apart. others k (λ same. apart (same ∙ sym e))) j

digit-of_bit : (d : ℕ) → d < 2 → digit (d == 1) ≡ d
digit-of_bit zero l = refl
digit-of_bit (suc zero) l = refl
digit-of_bit (suc (suc d)) l = absurd (omega arith)

-- the number of the low bits is what is left of x
pub number-low_bits : (n x : ℕ) → number (low_bits n x) ≡ x % 2 ^ n
unfolding low_bits
number-low_bits zero x = omega arith
number-low_bits (suc n) x =
    let e : suc n ≡ 1 + n = omega arith in
    (λ i. digit-of_bit (bit_at x n) (bit_at-lt x n) i * 2 ^ length-low_bits n x i + number-low_bits n x i)
    ∙ sym (ap (λ k. x % 2 ^ k) e ∙ mod-pow-add x 1 n)
