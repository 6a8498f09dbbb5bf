-- Keys that are put together: the front of a key, the bits of a number, and zeros.
use Rattle.std.specs.Prelude.{◌≡◌, ◌≢◌, ℕ, zero, suc, ◌+◌, ◌-◌, ◌/◌, ◌^◌, ◌<◌, ◌≤◌, ◌==◌, true, false, [], ◌∷◌, ◌++◌, length, replicate, take, Option, Some, slice_set}
use Rattle.std.proofs.Common.{refl, sym, ap, ◌∙◌, arith, length-append, length-take}
use Rattle.std.specs.Int.{bit_at}
use Rattle.std.proofs.lemmas.List.{append_assoc}
use Rattle.std.proofs.lemmas.Nat.{shr-shr}
use Rattle.std.proofs.lemmas.Nat.Bits.{bit_at_lowest, bit_at-lt}
use Rattle.std.proofs.Math.Seq.{set-append_seam}
use Rattle.prefix_model.specs.Keys.{KeyBits, low_bits}
use Rattle.prefix_model.proofs.KeyNumbers.{length-low_bits, low_bits-append}

one_bit : (x : ℕ) → low_bits 1 x ≡ (bit_at x 0 == 1) ∷ []
unfolding low_bits
one_bit x = refl

-- one bit more of a number, from the front
pub bit_pushed : (n c i : ℕ) → i < c → low_bits (i + 1) (n / 2 ^ (c - (i + 1))) ≡ low_bits i (n / 2 ^ (c - i)) ++ (bit_at n (c - 1 - i) == 1) ∷ []
bit_pushed n c i l =
    let up : c - (i + 1) + 1 ≡ c - i = omega arith in
    let at : c - (i + 1) ≡ c - 1 - i = omega arith in
    low_bits-append i 1 (n / 2 ^ (c - (i + 1)))
    ∙ (λ j. low_bits i ((shr-shr n (c - (i + 1)) 1 ∙ ap (λ k. n / 2 ^ k) up) j) ++ one_bit (n / 2 ^ (c - (i + 1))) j)
    ∙ ap (λ b. low_bits i (n / 2 ^ (c - i)) ++ (b == 1) ∷ []) (bit_at_lowest (n / 2 ^ (c - (i + 1))) ∙ ap (bit_at n) at)

zeros_more : (k m : ℕ) → k ≡ suc m → replicate k false ≡ false ∷ replicate m false
zeros_more k m e = ap (λ n. replicate n false) e

-- a zero behind two parts is the next bit
pub next_clear : (front mid : KeyBits) (k m : ℕ) → k ≡ suc m → front ++ (mid ++ replicate k false) ≡ front ++ ((mid ++ false ∷ []) ++ replicate m false)
next_clear front mid k m e =
    ap (λ rest. front ++ (mid ++ rest)) (zeros_more k m e) ∙ ap (λ rest. front ++ rest) (sym (append_assoc mid (false ∷ []) (replicate m false)))

pub next_set : (front mid : KeyBits) (k m i : ℕ) → k ≡ suc m → length front + length mid ≡ i → slice_set (front ++ (mid ++ replicate k false)) i true ≡ front ++ ((mid ++ true ∷ []) ++ replicate m false)
next_set front mid k m i e at =
    let whole : i ≡ length (front ++ mid) = let a = length-append front mid in omega (arith, a, at) in
    (λ j. slice_set ((ap (λ rest. front ++ (mid ++ rest)) (zeros_more k m e) ∙ sym (append_assoc front mid (false ∷ replicate m false))) j) (whole j) true)
    ∙ set-append_seam (front ++ mid) false (replicate m false) true
    ∙ append_assoc front mid (true ∷ replicate m false)
    ∙ ap (λ rest. front ++ rest) (sym (append_assoc mid (true ∷ []) (replicate m false)))

-- i of the c bits of a number are there: none, one more, and all
pub none_pushed : (xs : KeyBits) (w d x : ℕ) → take d xs ++ replicate (w - d) false ≡ take d xs ++ (low_bits 0 x ++ replicate (w - (d + 0)) false)
unfolding low_bits
none_pushed xs w d x = let e : w - d ≡ w - (d + 0) = omega arith in ap (λ k. take d xs ++ replicate k false) e

pub pushed_clear : (xs : KeyBits) (w d n c i : ℕ) → i < c → d + c ≤ w → bit_at n (c - 1 - i) ≢ 1
    → take d xs ++ (low_bits i (n / 2 ^ (c - i)) ++ replicate (w - (d + i)) false) ≡ take d xs ++ (low_bits (i + 1) (n / 2 ^ (c - (i + 1))) ++ replicate (w - (d + (i + 1))) false)
pushed_clear xs w d n c i l within clear =
    next_clear (take d xs) (low_bits i (n / 2 ^ (c - i))) (w - (d + i)) (w - (d + (i + 1))) (omega arith)
    ∙ ap (λ mid. take d xs ++ (mid ++ replicate (w - (d + (i + 1))) false)) (ap (λ b. low_bits i (n / 2 ^ (c - i)) ++ b ∷ []) (sym (is_clear (bit_at n (c - 1 - i)) (bit_at-lt n (c - 1 - i)) clear)) ∙ sym (bit_pushed n c i l))
  where
    is_clear : (d : ℕ) → d < 2 → d ≢ 1 → (d == 1) ≡ false
    is_clear zero l h = refl
    is_clear (suc zero) l h = absurd (h refl)
    is_clear (suc (suc d)) l h = absurd (omega arith)

pub pushed_set : (xs : KeyBits) (w d n c i : ℕ) → i < c → d + c ≤ w → w ≤ length xs → bit_at n (c - 1 - i) ≡ 1
    → slice_set (take d xs ++ (low_bits i (n / 2 ^ (c - i)) ++ replicate (w - (d + i)) false)) (d + i) true ≡ take d xs ++ (low_bits (i + 1) (n / 2 ^ (c - (i + 1))) ++ replicate (w - (d + (i + 1))) false)
pushed_set xs w d n c i l within long set =
    let a = length-take d xs in
    let b = length-low_bits i (n / 2 ^ (c - i)) in
    next_set (take d xs) (low_bits i (n / 2 ^ (c - i))) (w - (d + i)) (w - (d + (i + 1))) (d + i) (omega arith) (omega (arith, a, b))
    ∙ ap (λ mid. take d xs ++ (mid ++ replicate (w - (d + (i + 1))) false)) (ap (λ b. low_bits i (n / 2 ^ (c - i)) ++ (b == 1) ∷ []) (sym set) ∙ sym (bit_pushed n c i l))

pub all_pushed : (xs : KeyBits) (w d n c i : ℕ) → i ≡ c → take d xs ++ (low_bits i (n / 2 ^ (c - i)) ++ replicate (w - (d + i)) false) ≡ take d xs ++ (low_bits c n ++ replicate (w - (d + c)) false)
all_pushed xs w d n c i e =
    let none : c - i ≡ 0 = omega arith in
    let whole : n / 2 ^ (c - i) ≡ n = ap (λ k. n / 2 ^ k) none ∙ (let f : n / 2 ^ 0 ≡ n = omega arith in f) in
    λ j. take d xs ++ (low_bits (e j) (whole j) ++ replicate (w - (d + e j)) false)

take_front : (xs ys : KeyBits) (n : ℕ) → length xs ≡ n → take n (xs ++ ys) ≡ xs
take_front [] ys n e = ap (λ k. take k ys) (sym e)
take_front (x ∷ xs) ys zero e = absurd (omega arith)
take_front (x ∷ xs) ys (suc n) e = ap (λ rest. x ∷ rest) (take_front xs ys n (omega arith))

-- the front of what was put together
pub front_of : (xs mid zeros : KeyBits) (d l : ℕ) → d ≤ length xs → length mid ≡ l → take (d + l) (take d xs ++ (mid ++ zeros)) ≡ take d xs ++ mid
front_of xs mid zeros d l within e =
    let a = length-append (take d xs) mid in
    let b = length-take d xs in
    ap (take (d + l)) (sym (append_assoc (take d xs) mid zeros)) ∙ take_front (take d xs ++ mid) zeros (d + l) (omega (arith, a, b))

-- a place has one key
pub same_place : (o : Option KeyBits) (s t : KeyBits) → o ≡ Some s → o ≡ Some t → s ≡ t
same_place o s t e f = cc
