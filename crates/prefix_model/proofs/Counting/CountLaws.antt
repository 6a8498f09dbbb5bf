-- Whether all keys below a place have an answer, and how many have one.
use Rattle.std.specs.Prelude.{is_some}
use Rattle.std.specs.List.{sum_by}
use Rattle.std.proofs.Common.{ℕ, suc, Bool, true, false, [], ◌∷◌, ap, arith, ◌≡◌, zero, ◌+◌, ◌^◌, ◌<◌, ◌≤◌, cond, List, map, None, refl, sym, ◌∙◌, zero-add}
use Rattle.std.proofs.lemmas.List.Sums.{sum_by-append, sum_by-cons}
use Rattle.prefix_model.specs.Tables.{Values, after}
use Rattle.prefix_model.specs.Coverage.{AllAnswered, answered}
use Rattle.prefix_model.specs.Keys.{KeyBits, keys_of_length}

module _ {V : Type 0} where
  -- the keys one bit longer
  pub all_halves : (n : ℕ) (f : Values V) → AllAnswered n (after false f) → AllAnswered n (after true f) → AllAnswered (suc n) f
  all_halves n f low high [] e = absurd (omega arith)
  all_halves n f low high (false ∷ k) e = low k (omega arith)
  all_halves n f low high (true ∷ k) e = high k (omega arith)

  pub all_half : (n : ℕ) (f : Values V) (b : Bool) → AllAnswered (suc n) f → AllAnswered n (after b f)
  all_half n f b all k e = all (b ∷ k) (ap suc e)

sum_by_map : {X Y : Type 0} (g : Y → ℕ) (h : X → Y) (xs : List X) → sum_by g (map h xs) ≡ sum_by (λ x. g (h x)) xs
sum_by_map g h [] = refl
sum_by_map g h (x ∷ xs) = sum_by-cons g (h x) (map h xs) ∙ ap (λ n. g (h x) + n) (sum_by_map g h xs) ∙ sym (sum_by-cons (λ y. g (h y)) x xs)

module _ {V : Type 0} where
  pub answered-zero : (f : Values V) → answered 0 f ≡ cond (is_some (f [])) 1 0
  unfolding answered
  answered-zero f = zero-add (cond (is_some (f [])) 1 0)

  pub answered-suc : (n : ℕ) (f : Values V) → answered (suc n) f ≡ answered n (after false f) + answered n (after true f)
  unfolding answered
  answered-suc n f =
      sum_by-append (λ k. cond (is_some (f k)) 1 0) (map (λ k. false ∷ k) (keys_of_length n)) (map (λ k. true ∷ k) (keys_of_length n))
      ∙ (λ j. sum_by_map (λ k. cond (is_some (f k)) 1 0) (λ (k : KeyBits). false ∷ k) (keys_of_length n) j + sum_by_map (λ k. cond (is_some (f k)) 1 0) (λ (k : KeyBits). true ∷ k) (keys_of_length n) j)

  pub answered-none : (n : ℕ) (f : Values V) → ((k : KeyBits) → f k ≡ None) → answered n f ≡ 0
  answered-none zero f h = answered-zero f ∙ ap (λ x. cond (is_some x) 1 0) (h [])
  answered-none (suc n) f h = answered-suc n f ∙ (λ j. answered-none n (after false f) (λ k. h (false ∷ k)) j + answered-none n (after true f) (λ k. h (true ∷ k)) j)

  pub answered-all : (n : ℕ) (f : Values V) → AllAnswered n f → answered n f ≡ 2 ^ n
  answered-all zero f h = answered-zero f ∙ ap (λ t. cond t 1 0) (h [] refl)
  answered-all (suc n) f h =
      let a = answered-all n (after false f) (all_half n f false h) in
      let b = answered-all n (after true f) (all_half n f true h) in
      let s = answered-suc n f in
      omega (arith, a, b, s)

  pub answered-le : (n : ℕ) (f : Values V) → answered n f ≤ 2 ^ n
  answered-le zero f = let s = answered-zero f in bound (is_some (f [])) s
    where
      bound : (t : Bool) → answered 0 f ≡ cond t 1 0 → answered 0 f ≤ 2 ^ 0
      bound true s = omega (arith, s)
      bound false s = omega (arith, s)
  answered-le (suc n) f =
      let a = answered-le n (after false f) in
      let b = answered-le n (after true f) in
      let s = answered-suc n f in
      omega (arith, a, b, s)

  pub all-answered : (n : ℕ) (f : Values V) → answered n f ≡ 2 ^ n → AllAnswered n f
  all-answered zero f h [] e = one (is_some (f [])) (sym (answered-zero f) ∙ h)
    where
      one : (t : Bool) → cond t 1 0 ≡ 2 ^ 0 → t ≡ true
      one true e = refl
      one false e = absurd (omega (arith, e))
  all-answered zero f h (b ∷ k) e = absurd (omega arith)
  all-answered (suc n) f h k e =
      let a = answered-le n (after false f) in
      let b = answered-le n (after true f) in
      let s = answered-suc n f in
      all_halves n f (all-answered n (after false f) (omega (arith, a, b, s, h))) (all-answered n (after true f) (omega (arith, a, b, s, h))) k e

  pub answered-less : (n : ℕ) (f : Values V) → (AllAnswered n f → ⊥) → answered n f < 2 ^ n
  answered-less n f h = below (answered n f) (2 ^ n) (answered-le n f) (λ e. h (all-answered n f e))
    where
      below : (a b : ℕ) → a ≤ b → (a ≡ b → ⊥) → a < b
      below a b l h = grind arith
