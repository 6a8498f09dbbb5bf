-- The list of the set bits of a word, from both ends.
use Rattle.std.specs.Prelude.{◌≡◌, ◌≢◌, ℕ, zero, suc, ◌+◌, ◌-◌, ◌*◌, ◌%◌, ◌^◌, ◌<◌, ◌≤◌, ◌==◌, ◌⊎◌, true, false, cond, List, [], ◌∷◌, ◌++◌, length, bit_and}
use Rattle.std.specs.Int.{bit_at, w32}
use Rattle.std.specs.List.{filter, range_with_len}
use Rattle.std.proofs.Common.{refl, sym, ap, ◌∙◌, subst, arith, inl, inr, length-append}
use Rattle.std.proofs.lemmas.Nat.{leading_top}
use Rattle.std.proofs.lemmas.Nat.Bits.{bit_at-zero, bit_at_above, bit_at_cat_high, bit_at-trailing_zeros, bit_at_clear_same, bit_at_clear_other}
use lib.Count.{count_leading_zeros, count_trailing_zeros}
use Rattle.prefix_model.specs.Masks.{set_bits}

-- the set bits among n from a on
set_from : ℕ → ℕ → ℕ → List ℕ
set_from x a n = filter (λ b. bit_at x b == 1) (range_with_len a n)

-- words with the same bits there
same_set : (x y a n : ℕ) → ((i : ℕ) → a ≤ i → i < a + n → bit_at x i ≡ bit_at y i) → filter (λ b. bit_at x b == 1) (range_with_len a n) ≡ filter (λ b. bit_at y b == 1) (range_with_len a n)
same_set x y a zero h = refl
same_set x y a (suc n) h =
    let rest = same_set x y (a + 1) n (λ i l m. h i (omega arith) (omega arith)) in
    let here = h a (omega arith) (omega arith) in
    λ j. cond (here j == 1) (a ∷ rest j) (rest j)

-- none is set there
none_set : (x a n : ℕ) → ((i : ℕ) → a ≤ i → i < a + n → bit_at x i ≡ 0) → filter (λ b. bit_at x b == 1) (range_with_len a n) ≡ []
none_set x a zero h = refl
none_set x a (suc n) h =
    let rest = none_set x (a + 1) n (λ i l m. h i (omega arith) (omega arith)) in
    let here = h a (omega arith) (omega arith) in
    λ j. cond (here j == 1) (a ∷ rest j) (rest j)

here_or_later : (a t : ℕ) → a ≤ t → (a ≡ t) ⊎ (a < t)
here_or_later a t l = decide (t - a) refl
  where
    decide : (d : ℕ) → t - a ≡ d → (a ≡ t) ⊎ (a < t)
    decide zero e = inl (omega arith)
    decide (suc d) e = inr (omega arith)

-- y is x without bit t
record Cleared (x y t e : ℕ) : Type 0 where
  set : bit_at x t ≡ 1
  clear : bit_at y t ≡ 0
  others : (i : ℕ) → i < e → i ≢ t → bit_at y i ≡ bit_at x i

-- the lowest set bit comes first
lowest : (x y t e a n : ℕ) → Cleared x y t e → a ≤ t → t < a + n → a + n ≤ e → ((i : ℕ) → i < t → bit_at x i ≡ 0)
    → filter (λ b. bit_at x b == 1) (range_with_len a n) ≡ t ∷ filter (λ b. bit_at y b == 1) (range_with_len a n)
lowest x y t e a zero c l m u none = absurd (omega arith)
lowest x y t e a (suc n) c l m u none =
    elim (here_or_later a t l) [
      | inl same ↦
          let rest = same_set x y (a + 1) n (λ i p q. sym (c.others i (omega arith) (λ f. (omega (arith, f))))) in
          let on = ap (bit_at x) same ∙ c.set in
          let off = ap (bit_at y) same ∙ c.clear in
          (λ j. cond (on j == 1) (same j ∷ rest j) (rest j)) ∙ (λ j. t ∷ cond (sym off j == 1) (a ∷ filter (λ b. bit_at y b == 1) (range_with_len (a + 1) n)) (filter (λ b. bit_at y b == 1) (range_with_len (a + 1) n)))
      | inr later ↦
          let off = none a later in
          let off_too = c.others a (omega arith) (λ f. (omega (arith, f))) ∙ off in
          let rest = lowest x y t e (a + 1) n c (omega arith) (omega arith) (omega arith) none in
          (λ j. cond (off j == 1) (a ∷ rest j) (rest j)) ∙ (λ j. t ∷ cond (sym off_too j == 1) (a ∷ filter (λ b. bit_at y b == 1) (range_with_len (a + 1) n)) (filter (λ b. bit_at y b == 1) (range_with_len (a + 1) n)))
    ]

push_front : (d : ℕ) (a t : ℕ) (xs : List ℕ) → cond (d == 1) (a ∷ (xs ++ t ∷ [])) (xs ++ t ∷ []) ≡ cond (d == 1) (a ∷ xs) xs ++ t ∷ []
push_front d a t xs = elim (d == 1) as (λ b. cond b (a ∷ (xs ++ t ∷ [])) (xs ++ t ∷ []) ≡ cond b (a ∷ xs) xs ++ t ∷ []) [ true ↦ refl | false ↦ refl ]

-- and the highest last
highest : (x y t e a n : ℕ) → Cleared x y t e → a ≤ t → t < a + n → a + n ≤ e → ((i : ℕ) → t < i → bit_at x i ≡ 0)
    → filter (λ b. bit_at x b == 1) (range_with_len a n) ≡ filter (λ b. bit_at y b == 1) (range_with_len a n) ++ t ∷ []
highest x y t e a zero c l m u none = absurd (omega arith)
highest x y t e a (suc n) c l m u none =
    elim (here_or_later a t l) [
      | inl same ↦
          let rest = none_set x (a + 1) n (λ i p q. none i (omega arith)) in
          let rest_too = none_set y (a + 1) n (λ i p q. c.others i (omega arith) (λ f. (omega (arith, f))) ∙ none i (omega arith)) in
          let on = ap (bit_at x) same ∙ c.set in
          let off = ap (bit_at y) same ∙ c.clear in
          (λ j. cond (on j == 1) (same j ∷ rest j) (rest j)) ∙ (λ j. cond (sym off j == 1) (a ∷ sym rest_too j) (sym rest_too j) ++ t ∷ [])
      | inr later ↦
          let alike = c.others a (omega arith) (λ f. (omega (arith, f))) in
          let rest = highest x y t e (a + 1) n c (omega arith) (omega arith) (omega arith) none in
          (λ j. cond (sym alike j == 1) (a ∷ rest j) (rest j)) ∙ push_front (bit_at y a) a t (filter (λ b. bit_at y b == 1) (range_with_len (a + 1) n))
    ]

pub set_bits-zero : (x : ℕ) → x ≡ 0 → set_bits x ≡ []
unfolding set_bits
set_bits-zero x e = none_set x 0 32 (λ i l m. ap (λ n. bit_at n i) e ∙ bit_at-zero i)

pub set_bits-lowest : (x y t : ℕ) → t < 32 → bit_at x t ≡ 1 → ((i : ℕ) → i < t → bit_at x i ≡ 0) → bit_at y t ≡ 0 → ((i : ℕ) → i < 32 → i ≢ t → bit_at y i ≡ bit_at x i) → set_bits x ≡ t ∷ set_bits y
unfolding set_bits
set_bits-lowest x y t l set none clear others = lowest x y t 32 0 32 record { set = set; clear = clear; others = others } (omega arith) (omega arith) (omega arith) none

pub set_bits-highest : (x y t : ℕ) → t < 32 → bit_at x t ≡ 1 → ((i : ℕ) → t < i → bit_at x i ≡ 0) → bit_at y t ≡ 0 → ((i : ℕ) → i < 32 → i ≢ t → bit_at y i ≡ bit_at x i) → set_bits x ≡ set_bits y ++ t ∷ []
unfolding set_bits
set_bits-highest x y t l set none clear others = highest x y t 32 0 32 record { set = set; clear = clear; others = others } (omega arith) (omega arith) (omega arith) none

-- the highest set bit, by the zeros before it
pub record IsTop (x t : ℕ) : Type 0 where
  pub within : t < 32
  pub set : bit_at x t ≡ 1
  pub none : (i : ℕ) → t < i → bit_at x i ≡ 0

pub top_of : (x : ℕ) → x < 2 ^ 32 → 0 < x → IsTop x (31 - count_leading_zeros 32 x)
top_of x fits some =
    let top = leading_top 32 x some fits in
    let sum = top.1 in
    let e : top.0 ≡ 31 - count_leading_zeros 32 x = omega (arith, sum) in
    let low = top.2 in
    let high = top.3 in
    let rest : x - 2 ^ top.0 < 2 ^ top.0 = omega (arith, low, high) in
    let whole : x ≡ 1 * 2 ^ top.0 + (x - 2 ^ top.0) = omega (arith, low) in
    let zero_left : top.0 - top.0 ≡ 0 = omega arith in
    subst (IsTop x) e record {
      within = omega (arith, sum);
      set = ap (λ n. bit_at n top.0) whole ∙ bit_at_cat_high 1 top.0 (x - 2 ^ top.0) top.0 rest (omega arith) ∙ ap (bit_at 1) zero_left;
      none = λ i l. bit_at_above x (suc top.0) i high (omega arith);
    }

pub above_zero : (x : ℕ) → (x ≡ 0 → ⊥) → 0 < x
above_zero zero h = absurd (h refl)
above_zero (suc x) h = omega arith

-- the lowest set bit, by the zeros behind it, and the word without it
pub lowest_taken : (x : ℕ) → x < 2 ^ 32 → (x ≡ 0 → ⊥) → set_bits x ≡ count_trailing_zeros 32 x ∷ set_bits (bit_and x (4294967295 - 1 * 2 ^ count_trailing_zeros 32 x % 4294967296))
lowest_taken x fits some =
    let t = bit_at-trailing_zeros w32 x (above_zero x some) fits in
    set_bits-lowest x _ (count_trailing_zeros 32 x) t.0 t.1 t.2
    (bit_at_clear_same w32 x (count_trailing_zeros 32 x) t.0)
    (bit_at_clear_other w32 x (count_trailing_zeros 32 x) t.0)

-- and the highest, by the zeros before it
pub highest_taken : (x : ℕ) → x < 2 ^ 32 → (x ≡ 0 → ⊥) → set_bits x ≡ set_bits (bit_and x (4294967295 - 1 * 2 ^ (31 - count_leading_zeros 32 x) % 4294967296)) ++ (31 - count_leading_zeros 32 x) ∷ []
highest_taken x fits some =
    let t = top_of x fits (above_zero x some) in
    set_bits-highest x _ (31 - count_leading_zeros 32 x) t.within t.set t.none
    (bit_at_clear_same w32 x (31 - count_leading_zeros 32 x) t.within)
    (bit_at_clear_other w32 x (31 - count_leading_zeros 32 x) t.within)

pub goes_last : (s t : List ℕ) (x : ℕ) → s ≡ t ++ x ∷ [] → length t < length s
goes_last s t x e = let l = ap length e in let a = length-append t (x ∷ []) in omega (arith, l, a)
