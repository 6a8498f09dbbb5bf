-- How many keys a trie holds.
use Rattle.std.proofs.Common.{◌≡◌, ℕ, zero, suc, ◌+◌, ◌<◌, ◌≤◌, Bool, true, false, cond, ltb, List, [], ◌∷◌, ◌++◌, length, map, refl, sym, ap, ◌∙◌, arith, Option, Some, None}
use Rattle.std.specs.Prelude.{is_some}
use Rattle.prefix_model.specs.Keys.{KeyBits}
use Rattle.prefix_model.specs.Positions.{data_places, child_places, count_true}
use Rattle.prefix_model.proofs.Archive.Places.{Trie, sub}

-- the sum of f over a list
abbrev pub sum_of : {A : Type 0} → (A → ℕ) → List A → ℕ
sum_of f [] = 0
sum_of f (x ∷ xs) = f x + sum_of f xs

-- of two lists, one behind the other
pub sum_of-append : {A : Type 0} (f : A → ℕ) (xs ys : List A) → sum_of f (xs ++ ys) ≡ sum_of f xs + sum_of f ys
sum_of-append f [] ys = omega arith
sum_of-append f (x ∷ xs) ys = let ih = sum_of-append f xs ys in omega arith

-- no key is longer than n bits
abbrev pub Narrow : {V : Type 0} → ℕ → Trie V → Type 0
Narrow n f = (k : KeyBits) → n < length k → f k ≡ None

-- 1 where there is a value
abbrev pub mark : {V : Type 0} → Option V → ℕ
mark o = cond (is_some o) 1 0

module _ {V : Type 0} where
  -- the keys of at most n bits
  abbrev pub count : ℕ → Trie V → ℕ
  count zero f = mark (f [])
  count (suc n) f = mark (f []) + (count n (λ k. f (false ∷ k)) + count n (λ k. f (true ∷ k)))

  -- bits beyond the longest key count nothing
  pub count_wider : (n : ℕ) (f : Trie V) → Narrow n f → count (suc n) f ≡ count n f
  count_wider zero f h =
      let a = ap mark (h (false ∷ []) (omega arith)) in
      let b = ap mark (h (true ∷ []) (omega arith)) in omega (arith, a, b)
  count_wider (suc n) f h =
      let a = count_wider n (λ k. f (false ∷ k)) (λ k l. h (false ∷ k) (omega arith)) in
      let b = count_wider n (λ k. f (true ∷ k)) (λ k l. h (true ∷ k) (omega arith)) in
      λ i. mark (f []) + (a i + b i)

  count_node : (n : ℕ) (f : Trie V) → count (suc (suc (suc (suc (suc n))))) f ≡ count_true (map is_some (map f data_places)) + sum_of (count n) (map (sub f) child_places)
  unfolding data_places child_places
  count_node n f = omega arith

  -- a trie that counts no value holds none
  pub count_zero : (n : ℕ) (f : Trie V) → count n f ≡ 0 → (k : KeyBits) → length k ≤ n → f k ≡ None
  count_zero n f e [] l = none (f []) (here n e)
    where
      none : (o : Option V) → mark o ≡ 0 → o ≡ None
      none None e = refl
      none (Some x) e = absurd (omega arith)

      here : (n : ℕ) → count n f ≡ 0 → mark (f []) ≡ 0
      here zero e = e
      here (suc n) e = omega arith
  count_zero zero f e (b ∷ k) l = absurd (omega arith)
  count_zero (suc n) f e (false ∷ k) l = count_zero n (λ k. f (false ∷ k)) (omega arith) k (omega arith)
  count_zero (suc n) f e (true ∷ k) l = count_zero n (λ k. f (true ∷ k)) (omega arith) k (omega arith)

  -- the values of a trie are those of its first node and those of its children
  pub count_narrow : (w : ℕ) (f : Trie V) → Narrow w f → count w f ≡ count_true (map is_some (map f data_places)) + sum_of (count w) (map (sub f) child_places)
  count_narrow w f h =
      sym (count_wider w f h) ∙ sym (count_wider (suc w) f (λ k l. h k (omega arith))) ∙ sym (count_wider (suc (suc w)) f (λ k l. h k (omega arith))) ∙ sym (count_wider (suc (suc (suc w))) f (λ k l. h k (omega arith)))
      ∙ sym (count_wider (suc (suc (suc (suc w)))) f (λ k l. h k (omega arith))) ∙ count_node w f

  -- whether a trie of width w holds a key
  abbrev pub has : ℕ → Trie V → Bool
  has w f = ltb 0 (count w f)
