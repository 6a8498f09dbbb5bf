-- Addresses below a key that is halved bit by bit: which have an answer, and how many.
use Rattle.std.proofs.Common.{◌≡◌, ℕ, zero, suc, ◌+◌, ◌-◌, ◌*◌, ◌/◌, ◌%◌, ◌^◌, ◌<◌, ◌≤◌, true, false, cond, [], ◌∷◌, Option, Some, None, refl, sym, ap, ◌∙◌, subst, arith}
use Rattle.std.specs.Prelude.{is_some, IsSome, IsNone, IsSomeAnd, ℤ, pos, ◌+ℤ◌, ◌⊎◌}
use Rattle.std.specs.Int.{int_shr}
use Rattle.std.proofs.Common.{inl, inr}
use Rattle.std.proofs.lemmas.Bool.{cases_lt}
use Rattle.std.proofs.lemmas.Nat.{pow_pos, one_shl}
use lib.Pow.{pow_mono}
use Rattle.std.specs.Option.{unwrap_or, option_or}
use Rattle.num_traits.specs.Laws.{Checks}
use Rattle.prefix_model.specs.Keys.{KeyBits}
use Rattle.prefix_model.specs.Tables.{Values, after, answer_under}
use Rattle.prefix_model.specs.Coverage.{AllAnswered, answered}
use Rattle.prefix_model.specs.Counts.{Counts}
use Rattle.prefix_model.proofs.Counting.CountLaws.{all_half, all_halves, answered-zero, answered-suc, answered-all, answered-le, answered-less}
use Rattle.prefix_model.proofs.Fewest.Serving.{answers_some}

module _ {V : Type 0} where
  some_left : (x v : Option V) → is_some x ≡ true → is_some (option_or x v) ≡ true
  some_left None v e = cc
  some_left (Some x) v e = refl

  -- at and below a key with a value each key has an answer
  pub answered_from : (k : KeyBits) (v : Option V) (f : Values V) → is_some (f []) ≡ true → is_some (answer_under v f k) ≡ true
  answered_from [] v f e = some_left (f []) v e
  answered_from (b ∷ k) v f e = answers_some k (option_or (f []) v) (after b f) (some_left (f []) v e)

  -- what one half counts, where `size` is the number of its addresses
  pub half_counts : {R : Type 0} (value : R → ℤ) (n : ℕ) (f : Values V) (r : Option R) (size : R) → Counts value n f r → value size ≡ pos (2 ^ n) → value (unwrap_or r size) ≡ pos (answered n f)
  half_counts value n f None size h e = e ∙ ap pos (sym (answered-all n f h))
  half_counts value n f (Some x) size h e = h.1

  pub counts_both : {R : Type 0} (value : R → ℤ) (n : ℕ) (f : Values V) (low high r : Option R) (size : R) (top : ℕ)
      → Counts value n (after false f) low → Counts value n (after true f) high → value size ≡ pos (2 ^ n) → 2 ^ suc n ≤ top
      → (IsNone low → IsNone high → IsNone r)
      → ((IsSome low ⊎ IsSome high) → (x y : ℕ) → value (unwrap_or low size) ≡ pos x → value (unwrap_or high size) ≡ pos y → x + y < top → IsSomeAnd r (λ z. value z ≡ pos (x + y)))
      → Counts value (suc n) f r
  counts_both value n f None None r size top h k e fits none some = all value r (none refl refl)
    where
      all : {R : Type 0} (value : R → ℤ) (r : Option R) → IsNone r → Counts value (suc n) f r
      all value None z = all_halves n f h k
      all value (Some x) z = absurd (cc)
  counts_both {R} value n f (Some a) None r size top h k e fits none some =
      let less = answered-less n (after false f) h.0 in
      let y = answered-all n (after true f) k in
      told value r (λ all. h.0 (all_half n f false all)) (some (inl refl) (answered n (after false f)) (answered n (after true f)) h.1 (e ∙ ap pos (sym y)) (omega (arith, less, y, fits)))
    where
      told : {R : Type 0} (value : R → ℤ) (r : Option R) → (AllAnswered (suc n) f → ⊥) → IsSomeAnd r (λ z. value z ≡ pos (answered n (after false f) + answered n (after true f))) → Counts value (suc n) f r
      told value None not_all z = absurd z
      told value (Some b) not_all z = (not_all, z ∙ ap pos (sym (answered-suc n f)))
  counts_both {R} value n f low (Some b) r size top h k e fits none some =
      let less = answered-less n (after true f) k.0 in
      let x = answered-le n (after false f) in
      told value r (λ all. k.0 (all_half n f true all)) (some (inr refl) (answered n (after false f)) (answered n (after true f)) (half_counts value n (after false f) low size h e) k.1 (omega (arith, less, x, fits)))
    where
      told : {R : Type 0} (value : R → ℤ) (r : Option R) → (AllAnswered (suc n) f → ⊥) → IsSomeAnd r (λ z. value z ≡ pos (answered n (after false f) + answered n (after true f))) → Counts value (suc n) f r
      told value None not_all z = absurd z
      told value (Some b) not_all z = (not_all, z ∙ ap pos (sym (answered-suc n f)))

-- a sum that fits
pub summed : {R : Type 0} (value : R → ℤ) (fits : ℤ → Type 0) (r : Option R) (a b : R) (x y : ℕ) → value a ≡ pos x → value b ≡ pos y → fits (pos (x + y)) → Checks value fits (value a +ℤ value b) r → IsSomeAnd r (λ z. value z ≡ pos (x + y))
summed value fits None a b x y ea eb ok h = absurd (h (subst fits (sym (λ j. ea j +ℤ eb j)) ok))
summed value fits (Some n) a b x y ea eb ok h = h.1 ∙ (λ j. ea j +ℤ eb j)

-- a type that has 127 has more than one bit
pub wide : (n : ℕ) → 127 < 2 ^ n → 1 < n
wide zero h = absurd (omega (arith, h))
wide (suc zero) h = absurd (omega (arith, h))
wide (suc (suc n)) h = omega arith

-- half of half
pub halved : (z : ℤ) (n m : ℕ) → n ≡ suc m → z ≡ pos (2 ^ n / 2) → int_shr z 1 ≡ pos (2 ^ m / 2)
halved z n m e h =
    let f : 2 ^ n / 2 / 2 ^ 1 ≡ 2 ^ m / 2 = let p : 2 ^ n ≡ 2 * 2 ^ m = ap (λ k. 2 ^ k) e ∙ (let q : 2 ^ suc m ≡ 2 * 2 ^ m = omega arith in q) in omega (arith, p) in
    ap (λ x. int_shr x 1) h ∙ ap pos f

pub half_size : (z : ℤ) (n m : ℕ) → n ≡ suc m → z ≡ pos (2 ^ n / 2) → z ≡ pos (2 ^ m)
half_size z n m e h =
    let f : 2 ^ n / 2 ≡ 2 ^ m = let p : 2 ^ n ≡ 2 * 2 ^ m = ap (λ k. 2 ^ k) e ∙ (let q : 2 ^ suc m ≡ 2 * 2 ^ m = omega arith in q) in omega (arith, p) in
    h ∙ ap pos f

pub answered-end : {V : Type 0} (n : ℕ) (f : Values V) → n ≡ 0 → f [] ≡ None → answered n f ≡ 0
answered-end n f z e = ap (λ k. answered k f) z ∙ answered-zero f ∙ ap (λ x. cond (is_some x) 1 0) e

-- a type that has all numbers of w bits has w bits
pub width_within : (w n : ℕ) → 2 ^ w - 1 < 2 ^ n → w ≤ n
width_within w n h = elim (cases_lt n w) [
  | inl less ↦
      let p : 2 ^ suc n ≤ 2 ^ w = pow_mono less in
      let z = pow_pos n in
      absurd (omega (arith, h, p, z))
  | inr l ↦ l
]

-- 1 moved up
pub one_shifted : (k n : ℕ) → k < n → 1 * 2 ^ k % 2 ^ n ≡ 2 ^ k
one_shifted k n l = one_shl k n l

pub top_half : (w : ℕ) → 8 ≤ w → 2 ^ (w - 1) ≡ 2 ^ w / 2
top_half w l =
    let e : 2 ^ w ≡ 2 * 2 ^ (w - 1) = ap (λ k. 2 ^ k) (let f : w ≡ suc (w - 1) = omega arith in f) ∙ (let q : 2 ^ suc (w - 1) ≡ 2 * 2 ^ (w - 1) = omega arith in q) in
    omega (arith, e)

pub last_fits : (w : ℕ) → 2 ^ w - 1 < 2 ^ w
last_fits w = let z = pow_pos w in omega (arith, z)

pub one_more : (n : ℕ) → (n ≡ 0 → ⊥) → n ≡ suc (n - 1)
one_more n h = whole n (λ e. h e)
  where
    whole : (n : ℕ) → (n ≡ 0 → ⊥) → n ≡ suc (n - 1)
    whole zero h = absurd (h refl)
    whole (suc n) h = omega arith
