-- Stored fronts of a key as matches in a whole table.
use Rattle.std.proofs.Common.{◌≡◌, ℕ, ◌+◌, ◌<◌, ◌≤◌, Bool, false, [], length, take, refl, sym, ap, ◌∙◌, subst, arith, inl, inr, Option, Some, None, length-take}
use Rattle.std.specs.Prelude.{IsSome, IsTrue, ◌↔◌, is_some, MatchOption}
use Rattle.std.specs.Option.{option_map}
use Rattle.std.specs.FinMap.{get}
use Rattle.std.proofs.lemmas.Bool.{cases_lt}
use Rattle.prefix_model.specs.Keys.{KeyBits}
use Rattle.prefix_model.specs.Tables.{KeyMap}
use Rattle.prefix_model.specs.Walks.{IsMatchUnder, IsLongestUnder, IsShortestUnder}
use Rattle.prefix_model.proofs.KeyLists.{take_take}
use Rattle.prefix_model.proofs.Fronts.{front_take, front_length, taken_front}
use Rattle.prefix_model.specs.Hits.{HasNoneIn, IsLastIn, IsFirstIn}

module _ {V : Type 0} (m : KeyMap V) (bits : KeyBits) (len : ℕ) (within : len ≤ length bits) where
  size : (n : ℕ) → n ≤ len → length (take n bits) ≡ n
  size n l = let a = length-take n bits in omega (arith, a)

  -- a match is a stored front
  match_is : (q : KeyBits) → IsMatchUnder m [] (take len bits) q → (length q ≤ len) × IsSome (get m (take (length q) bits))
  match_is q h =
      let l = front_length q (take len bits) h.above in
      let s = size len (omega arith) in
      let few : length q ≤ len = omega (arith, l, s) in
      let same : take (length q) bits ≡ q = sym (take_take bits (length q) len few) ∙ front_take q (take len bits) h.above in
      (few, subst (λ k. IsSome (get m k)) (sym same) h.stored)

  no_match : (n : ℕ) → HasNoneIn m bits n (len + 1) → (q : KeyBits) → n ≤ length q → IsMatchUnder m [] (take len bits) q → ⊥
  no_match n none q from h =
      let it = match_is q h in
      let few = it.0 in
      let some = it.1 in
      let gone : is_some (get m (take (length q) bits)) ≡ false = ap is_some (none (length q) from (omega (arith, few))) in
      cc

  is_match : (n : ℕ) (v : V) → n < len + 1 → get m (take n bits) ≡ Some v → IsMatchUnder m [] (take len bits) (take n bits)
  is_match n v l s = record { stored = ap is_some s; below = refl; above = taken_front bits n len (omega arith) }

  module _ {X : Type 0} (len_of : X → ℕ) (value_of : X → V) where
    pub longest_under : (r : Option X) → MatchOption r (HasNoneIn m bits 0 (len + 1)) (λ x. IsLastIn m bits 0 (len + 1) (len_of x) (value_of x)) → IsLongestUnder m [] (take len bits) (option_map (λ x. take (len_of x) bits) r)
    longest_under None h = λ q. no_match 0 h q (omega arith)
    longest_under (Some x) h =
        let below = h.below in
        let s = size (len_of x) (omega (arith, below)) in (
          is_match (len_of x) (value_of x) h.below h.stored,
          λ j match. elim (cases_lt (length (take (len_of x) bits)) (length j)) [ inl l ↦ absurd (no_match (len_of x + 1) h.longest j (omega (arith, l, s)) match) | inr l ↦ l ],
        )

    pub shortest_under : (r : Option X) → MatchOption r (HasNoneIn m bits 0 (len + 1)) (λ x. IsFirstIn m bits 0 (len + 1) (len_of x) (value_of x)) → IsShortestUnder m [] (take len bits) (option_map (λ x. take (len_of x) bits) r)
    shortest_under None h = λ q. no_match 0 h q (omega arith)
    shortest_under (Some x) h =
        let below = h.below in
        let s = size (len_of x) (omega (arith, below)) in (
          is_match (len_of x) (value_of x) h.below h.stored,
          λ j match. elim (cases_lt (length j) (length (take (len_of x) bits))) [
            | inl l ↦
                let it = match_is j match in
                let some = it.1 in
                let gone : is_some (get m (take (length j) bits)) ≡ false = ap is_some (h.shortest (length j) (omega arith) (omega (arith, l, s))) in
                absurd (cc)
            | inr l ↦ l
          ],
        )

-- ---- of a prefix, whose key is the first bits

module _ {V : Type 0} (m : KeyMap V) (bits : KeyBits) (len : ℕ) (within : len ≤ length bits) (p : KeyBits) (is : take len bits ≡ p) where
  pub longest_found : (n : ℕ) (v : V) (key : KeyBits) → key ≡ take n bits → IsLastIn m bits 0 (len + 1) n v → IsLongestUnder m [] p (Some key)
  longest_found n v key e h = subst (λ q. IsLongestUnder m [] q (Some key)) is (subst (λ k. IsLongestUnder m [] (take len bits) (Some k)) (sym e) (longest_under m bits len within (λ (x : ℕ). x) (λ _. v) (Some n) h))

  pub longest_absent : HasNoneIn m bits 0 (len + 1) → IsLongestUnder m [] p None
  longest_absent h = subst (λ q. IsLongestUnder m [] q None) is (longest_under m bits len within (λ (x : ℕ × V). x.0) (λ x. x.1) None h)

  pub shortest_found : (n : ℕ) (v : V) (key : KeyBits) → key ≡ take n bits → IsFirstIn m bits 0 (len + 1) n v → IsShortestUnder m [] p (Some key)
  shortest_found n v key e h = subst (λ q. IsShortestUnder m [] q (Some key)) is (subst (λ k. IsShortestUnder m [] (take len bits) (Some k)) (sym e) (shortest_under m bits len within (λ (x : ℕ). x) (λ _. v) (Some n) h))

  pub shortest_absent : HasNoneIn m bits 0 (len + 1) → IsShortestUnder m [] p None
  shortest_absent h = subst (λ q. IsShortestUnder m [] q None) is (shortest_under m bits len within (λ (x : ℕ × V). x.0) (λ x. x.1) None h)

  -- some stored key is a front of the prefix exactly where one was found
  pub covered : {X : Type 0} (len_of : X → ℕ) (value_of : X → V) (r : Option X) (b : Bool) → b ≡ is_some r
      → MatchOption r (HasNoneIn m bits 0 (len + 1)) (λ x. IsFirstIn m bits 0 (len + 1) (len_of x) (value_of x)) → IsTrue b ↔ ((k : KeyBits) × IsMatchUnder m [] p k)
  covered len_of value_of None b e h = (λ t. absurd (cc), λ k. absurd (no_match m bits len within 0 h k.0 (omega arith) (subst (λ q. IsMatchUnder m [] q k.0) (sym is) k.1)))
  covered len_of value_of (Some x) b e h =
      (λ t. (take (len_of x) bits, subst (λ q. IsMatchUnder m [] q (take (len_of x) bits)) is (is_match m bits len within (len_of x) (value_of x) h.below h.stored)), λ k. e)
