-- Sums over the numbers of a list, and over the set bits of a word.
use Rattle.std.specs.Prelude.{◌==◌}
use Rattle.std.specs.Int.{bit_at}
use Rattle.std.specs.List.{AllByRecursion, filter, range_with_len}
use Rattle.std.proofs.Common.{◌≡◌, ℕ, zero, suc, ◌+◌, ◌*◌, ◌/◌, ◌%◌, ◌^◌, ◌<◌, ◌≤◌, Bool, true, false, cond, List, [], ◌∷◌, ◌++◌, refl, sym, ap, ◌∙◌, arith, inl, inr}
use Rattle.std.proofs.Math.Nat.{add-mul}
use Rattle.std.proofs.lemmas.List.Sums.{sum_by-cons, sum_by-append}
use Rattle.std.proofs.lemmas.Nat.Bits.{bit_at_above, bit_at_lowest, same_from_bits}
use lib.Count.{ones, ones_step}
use Rattle.prefix_model.specs.Masks.{set_bits}
use Rattle.prefix_model.specs.Counts.{total}
use Rattle.prefix_model.proofs.KeyLemmas.{all_filter}
use Rattle.prefix_model.proofs.Bitmaps.WordBits.{below_or_past, bit_at_low, bit_at_shr}
use Rattle.prefix_model.proofs.Bitmaps.SlotLaws.{ones_zero}

pub total-none : (t : ℕ → ℕ) → total t [] ≡ 0
unfolding total
total-none t = refl

pub total-cons : (t : ℕ → ℕ) (x : ℕ) (xs : List ℕ) → total t (x ∷ xs) ≡ t x + total t xs
unfolding total
total-cons t x xs = sum_by-cons t x xs

pub total-append : (t : ℕ → ℕ) (xs ys : List ℕ) → total t (xs ++ ys) ≡ total t xs + total t ys
unfolding total
total-append t xs ys = sum_by-append t xs ys

pub total-same : (t u : ℕ → ℕ) (xs : List ℕ) → AllByRecursion (λ x. t x ≡ u x) xs → total t xs ≡ total u xs
total-same t u [] h = total-none t ∙ sym (total-none u)
total-same t u (x ∷ xs) h = total-cons t x xs ∙ (λ j. h.0 j + total-same t u xs h.1 j) ∙ sym (total-cons u x xs)

total-zero : (t : ℕ → ℕ) (xs : List ℕ) → AllByRecursion (λ x. t x ≡ 0) xs → total t xs ≡ 0
total-zero t [] h = total-none t
total-zero t (x ∷ xs) h = total-cons t x xs ∙ (λ j. h.0 j + total-zero t xs h.1 j)

-- ---- ranges

pub in_range : (P : ℕ → Type 0) (a n : ℕ) → ((c : ℕ) → a ≤ c → c < a + n → P c) → AllByRecursion P (range_with_len a n)
in_range P a zero h = tt
in_range P a (suc n) h = (h a (omega arith) (omega arith), in_range P (a + 1) n (λ c l m. h c (omega arith) (omega arith)))

pub range-append : (a m n : ℕ) → range_with_len a (m + n) ≡ range_with_len a m ++ range_with_len (a + m) n
range-append a zero n =
    let e : 0 + n ≡ n = omega arith in
    let f : a ≡ a + 0 = omega arith in
    ap (range_with_len a) e ∙ ap (λ x. range_with_len x n) f
range-append a (suc m) n =
    let e : suc m + n ≡ suc (m + n) = omega arith in
    let f : a + 1 + m ≡ a + suc m = omega arith in
    ap (range_with_len a) e ∙ ap (λ xs. a ∷ xs) (range-append (a + 1) m n ∙ ap (λ x. range_with_len (a + 1) m ++ range_with_len x n) f)

pub total-shift : (t : ℕ → ℕ) (b a n : ℕ) → total (λ c. t (b + c)) (range_with_len a n) ≡ total t (range_with_len (b + a) n)
total-shift t b a zero = total-none (λ c. t (b + c)) ∙ sym (total-none t)
total-shift t b a (suc n) =
    let e : b + (a + 1) ≡ b + a + 1 = omega arith in
    total-cons (λ c. t (b + c)) a (range_with_len (a + 1) n)
    ∙ ap (λ x. t (b + a) + x) (total-shift t b (a + 1) n ∙ ap (λ x. total t (range_with_len x n)) e)
    ∙ sym (total-cons t (b + a) (range_with_len (b + a + 1) n))

-- where t is nothing before a, and from a + n on
pub total-part : (t : ℕ → ℕ) (a n r : ℕ) → ((c : ℕ) → c < a → t c ≡ 0) → ((c : ℕ) → a + n ≤ c → t c ≡ 0) → total t (range_with_len 0 (a + (n + r))) ≡ total (λ c. t (a + c)) (range_with_len 0 n)
total-part t a n r low high =
    let first = total-zero t (range_with_len 0 a) (in_range (λ c. t c ≡ 0) 0 a (λ c l m. low c (omega arith))) in
    let last = total-zero t (range_with_len (a + n) r) (in_range (λ c. t c ≡ 0) (a + n) r (λ c l m. high c l)) in
    let from : 0 + a ≡ a = omega arith in
    let here : a ≡ a + 0 = omega arith in
    let parts : total t (range_with_len 0 (a + (n + r))) ≡ total t (range_with_len 0 a) + (total t (range_with_len a n) + total t (range_with_len (a + n) r)) =
    ap (total t) (range-append 0 a (n + r)) ∙ total-append t (range_with_len 0 a) (range_with_len (0 + a) (n + r))
    ∙ ap (λ x. total t (range_with_len 0 a) + total t (range_with_len x (n + r))) from
    ∙ ap (λ x. total t (range_with_len 0 a) + x) (ap (total t) (range-append a n r) ∙ total-append t (range_with_len a n) (range_with_len (a + n) r)) in
    let middle : total t (range_with_len a n) ≡ total (λ c. t (a + c)) (range_with_len 0 n) = ap (λ x. total t (range_with_len x n)) here ∙ sym (total-shift t a 0 n) in
    omega (arith, first, last, parts, middle)

-- ---- set bits

-- a word with no bit past the 32nd
pub fits_from_bits : (x : ℕ) → ((b : ℕ) → 32 ≤ b → bit_at x b ≡ 0) → x < 2 ^ 32
fits_from_bits x h =
    let same = same_from_bits x (x % 2 ^ 32) (λ b. elim (below_or_past b 32) [
      | inl l ↦ sym (bit_at_low x 32 b l)
      | inr l ↦ h b l ∙ sym (bit_at_above (x % 2 ^ 32) 32 b (omega arith) l)
    ]) in
    omega (arith, same)

-- how many bits of a word are set
pub ones-total : (n x : ℕ) → x < 2 ^ n → ones x ≡ total (bit_at x) (range_with_len 0 n)
ones-total zero x h = ap ones (let z : x ≡ 0 = omega arith in z) ∙ ones_zero ∙ sym (total-none (bit_at x))
ones-total (suc n) x h =
    let half : x / 2 < 2 ^ n = omega (arith, h) in
    let two : x / 2 ≡ x / 2 ^ 1 = omega arith in
    let bits = in_range (λ c. bit_at (x / 2) c ≡ bit_at x (1 + c)) 0 n (λ c l m. ap (λ y. bit_at y c) two ∙ bit_at_shr x 1 c) in
    let rest : ones (x / 2) ≡ total (bit_at x) (range_with_len 1 n) =
    ones-total n (x / 2) half ∙ total-same (bit_at (x / 2)) (λ c. bit_at x (1 + c)) (range_with_len 0 n) bits ∙ total-shift (bit_at x) 1 0 n in
    ones_step x ∙ (λ j. sym (bit_at_lowest x) j + rest j) ∙ sym (total-cons (bit_at x) 0 (range_with_len 1 n))

total-either : (u : ℕ → ℕ) (b : Bool) (x : ℕ) (xs : List ℕ) → total u (cond b (x ∷ xs) xs) ≡ cond b (u x) 0 + total u xs
total-either u true x xs = total-cons u x xs
total-either u false x xs = omega arith

-- each number has a whole size where it is a bit of one word, and its own where it is one of another
pub total-split : (t u : ℕ → ℕ) (whole own size : ℕ) (xs : List ℕ) → AllByRecursion (λ c. t c ≡ bit_at whole c * size + cond (bit_at own c == 1) (u c) 0) xs
    → total t xs ≡ total (bit_at whole) xs * size + total u (filter (λ c. bit_at own c == 1) xs)
total-split t u whole own size [] h =
    let a = total-none t in
    let b : total (bit_at whole) [] * size ≡ 0 * size = ap (λ n. n * size) (total-none (bit_at whole)) in
    let c = total-none u in
    omega (arith, a, b, c)
total-split t u whole own size (x ∷ xs) h =
    let rest = total-split t u whole own size xs h.1 in
    let a = total-cons t x xs in
    let b : total (bit_at whole) (x ∷ xs) * size ≡ (bit_at whole x + total (bit_at whole) xs) * size = ap (λ n. n * size) (total-cons (bit_at whole) x xs) in
    let c = total-either u (bit_at own x == 1) x (filter (λ c. bit_at own c == 1) xs) in
    let d = add-mul (bit_at whole x) (total (bit_at whole) xs) size in
    let here = h.0 in
    omega (arith, rest, a, b, c, d, here)

pub bits_small : (x : ℕ) → AllByRecursion (λ b. b < 32) (set_bits x)
unfolding set_bits
bits_small x = all_filter (λ b. b < 32) (λ b. bit_at x b == 1) (range_with_len 0 32) (in_range (λ b. b < 32) 0 32 (λ c a l. omega arith))
