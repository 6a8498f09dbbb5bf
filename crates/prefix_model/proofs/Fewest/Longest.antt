-- The answer is the longest match.
use Rattle.std.proofs.Common.{◌≡◌, ℕ, zero, suc, ◌<◌, ◌≤◌, [], ◌∷◌, length, take, refl, sym, ◌∙◌, subst, arith, Option, Some, None, inl, inr}
use Rattle.std.specs.Prelude.{◌⊎◌}
use Rattle.std.specs.Option.{option_or}
use Rattle.std.specs.FinMap.{get}
use Rattle.prefix_model.specs.Keys.{KeyBits}
use Rattle.prefix_model.specs.Tables.{Values, KeyMap, after, answer_under, answer, IsLongestMatch}
use Rattle.prefix_model.specs.LeastLaws.{AnswersLongestMatch}

module _ {V : Type 0} where
  abbrev NoFront : Values V → KeyBits → Type 0
  NoFront f k = (n : ℕ) → f (take n k) ≡ None

  record FoundFront (f : Values V) (k : KeyBits) (r : Option V) : Type 0 where
    value : V
    count : ℕ
    within : count ≤ length k
    here : f (take count k) ≡ Some value
    last : (j : ℕ) → count < j → j ≤ length k → f (take j k) ≡ None
    is : r ≡ Some value

  abbrev Found : Option V → Values V → KeyBits → Option V → Type 0
  Found v f k r = (NoFront f k × (r ≡ v)) ⊎ FoundFront f k r

  at_end : (f : Values V) (n : ℕ) → f (take n []) ≡ f []
  at_end f zero = refl
  at_end f (suc n) = refl

  end_found : (v : Option V) (f : Values V) (x : Option V) → f [] ≡ x → Found v f [] (option_or x v)
  end_found v f None e = inl (λ n. at_end f n ∙ e, refl)
  end_found v f (Some x) e = inr (record { value = x; count = 0; within = omega arith; here = e; last = λ j a b. absurd (omega arith); is = refl })

  cons_none : (f : Values V) (b : _) (k : KeyBits) → f [] ≡ None → NoFront (after b f) k → NoFront f (b ∷ k)
  cons_none f b k e h zero = e
  cons_none f b k e h (suc n) = h n

  cons_last : (f : Values V) (b : _) (k : KeyBits) (m : ℕ) → ((j : ℕ) → m < j → j ≤ length k → after b f (take j k) ≡ None) → (j : ℕ) → suc m < j → j ≤ suc (length k) → f (take j (b ∷ k)) ≡ None
  cons_last f b k m h zero p q = absurd (omega arith)
  cons_last f b k m h (suc j) p q = h j (omega arith) (omega arith)

  only_first : (f : Values V) (b : _) (k : KeyBits) → NoFront (after b f) k → (j : ℕ) → 0 < j → f (take j (b ∷ k)) ≡ None
  only_first f b k h zero p = absurd (omega arith)
  only_first f b k h (suc j) p = h j

  cons_found : (v : Option V) (f : Values V) (b : _) (k : KeyBits) (r x : Option V) → f [] ≡ x → Found (option_or x v) (after b f) k r → Found v f (b ∷ k) r
  cons_found v f b k r None e (inl h) = inl (cons_none f b k e h.0, h.1)
  cons_found v f b k r (Some x) e (inl h) = inr (record { value = x; count = 0; within = omega arith; here = e; last = λ j p q. only_first f b k h.0 j p; is = h.1 })
  cons_found v f b k r x e (inr h) = inr (record { value = h.value; count = suc h.count; within = let w = h.within in omega arith; here = h.here; last = cons_last f b k h.count h.last; is = h.is })

  found : (k : KeyBits) (v : Option V) (f : Values V) → Found v f k (answer_under v f k)
  found [] v f = end_found v f (f []) refl
  found (b ∷ k) v f = cons_found v f b k _ (f []) refl (found k (option_or (f []) v) (after b f))

  matched : (m : KeyMap V) (k : KeyBits) (r : Option V) → Found None (get m) k r → IsLongestMatch m k r
  matched m k r (inl h) = subst (IsLongestMatch m k) (sym h.1) h.0
  matched m k r (inr h) = subst (IsLongestMatch m k) (sym h.is) (h.count, h.within, h.here, h.last)

-- an answer is the longest match
pub answers_longest_match : (V : Type 0) → AnswersLongestMatch V
answers_longest_match V m k = matched m k (answer m k) (found k None (get m))
