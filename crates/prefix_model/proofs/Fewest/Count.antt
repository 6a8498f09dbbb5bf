-- How many entries serve: what is placed has so many, and nothing that serves has fewer.
use Rattle.std.proofs.Common.{◌≡◌, ℕ, zero, suc, ◌+◌, ◌-◌, ◌≤◌, Bool, true, false, cond, List, [], length, refl, sym, ap, ◌∙◌, arith, Option, Some, None}
use Rattle.std.specs.Prelude.{is_some}
use mathlib.Core.Bool.{true≢false}
use Rattle.std.specs.Option.{option_or, option_map}
use Rattle.std.specs.declared.cmp.Ordering.{Ordering}
use Rattle.std.specs.Cmp.{IsTotalOrder}
use Rattle.std.specs.FinMap.{IsAntisymmetric}
use Rattle.prefix_model.specs.Keys.{KeyBits}
use Rattle.prefix_model.specs.Tables.{Values, after}
use Rattle.prefix_model.specs.Candidates.{Candidates, candidates, joined, only, both_or_either, least, offers}
use Rattle.prefix_model.specs.LeastTable.{stored, inherited, placed, entry}
use Rattle.prefix_model.proofs.Entries.{held, mark, half, held-half, length-half, length-with_halves}
use Rattle.prefix_model.proofs.Fewest.Lists.{IsInhabited, gain, marks, marks_in, least_in, one_offers}
use Rattle.prefix_model.proofs.Fewest.Serving.{Serves, serves_half, hole_unserved_below, candidates_good, same_values}

module _ {V : Type 0} (cmp : V → V → Ordering) where
  -- the entry that an inherited candidate saves
  pub credit : Candidates V → Option V → ℕ
  credit None v = 0
  credit (Some s) v = mark (offers cmp s v)

  shared : Candidates V → Candidates V → ℕ
  shared None d = 0
  shared (Some a) None = 0
  shared (Some a) (Some b) = gain cmp a b

  -- nothing is saved where nothing is inherited
  pub credit-none : (c : Candidates V) → credit c None ≡ 0
  unfolding credit offers
  credit-none None = refl
  credit-none (Some s) = refl

  credit_one : (c : Candidates V) (v : Option V) → credit c v ≤ 1
  unfolding credit
  credit_one None v = omega arith
  credit_one (Some s) v = elim (offers cmp s v) as (λ b. mark b ≤ 1) [ true ↦ omega arith | false ↦ omega arith ]

  -- an entry is saved where a candidate is inherited
  pub credit_offers : (c : Candidates V) (l : List V) (v : Option V) (t : Bool) → c ≡ Some l → offers cmp l v ≡ t → credit c v ≡ mark t
  unfolding credit
  credit_offers c l v t e h = ap (λ d. credit d v) e ∙ ap mark h

-- the number of entries that the least table has, where nothing is inherited
pub weight : {V : Type 0} (cmp : V → V → Ordering) → ℕ → Values V → ℕ
weight cmp zero g = mark (is_some (g []))
weight cmp (suc n) g = (weight cmp n (after false g) + weight cmp n (after true g)) - shared cmp (candidates cmp n (after false g)) (candidates cmp n (after true g))

module _ {V : Type 0} {cmp : V → V → Ordering} (o : IsTotalOrder cmp) (exact : IsAntisymmetric cmp) where
  -- a value counts in both halves as often as the join tells
  credits : (a b : List V) (v : Option V) → credit cmp (Some a) v + credit cmp (Some b) v ≤ credit cmp (Some (both_or_either cmp a b)) v + gain cmp a b
  unfolding credit offers
  credits a b None = omega arith
  credits a b (Some x) = marks o exact a b x

  credits_in : (a b : List V) (v : Option V) → offers cmp (both_or_either cmp a b) v ≡ true → credit cmp (Some a) v + credit cmp (Some b) v ≡ 1 + gain cmp a b
  unfolding credit offers
  credits_in a b None e = absurd (true≢false (sym e))
  credits_in a b (Some x) e = marks_in o exact a b x e

  least_counts : (s : List V) → IsInhabited cmp s → offers cmp s (least s) ≡ true
  unfolding offers
  least_counts s h = let l = least_in o exact s h in ap (offers cmp s) l.1 ∙ l.2

  is_some-least : (s : List V) → IsInhabited cmp s → is_some (least s) ≡ true
  is_some-least s h = let l = least_in o exact s h in ap is_some l.1

  -- ---- what is placed

  picked : (a b : List V) (v : Option V) (i j l m : ℕ) (t : Bool) → IsInhabited cmp (both_or_either cmp a b) →
      offers cmp (both_or_either cmp a b) v ≡ t →
      i + credit cmp (Some a) (cond t v (least (both_or_either cmp a b))) ≡ l →
      j + credit cmp (Some b) (cond t v (least (both_or_either cmp a b))) ≡ m →
      mark (is_some (cond t None (least (both_or_either cmp a b)))) + (i + j) + mark t ≡ (l + m) - gain cmp a b
  picked a b v i j l m true h e p q = omega (arith, credits_in a b v e)
  picked a b v i j l m false h e p q =
      let s = both_or_either cmp a b in
      rw (is_some-least s h) (omega (arith, credits_in a b (least s) (least_counts s h)))

  placed_step : (c d : Candidates V) (v : Option V) (i j l m : ℕ) →
      ((s : List V) → joined cmp c d ≡ Some s → IsInhabited cmp s) →
      i + credit cmp c (inherited cmp (joined cmp c d) v) ≡ l →
      j + credit cmp d (inherited cmp (joined cmp c d) v) ≡ m →
      mark (is_some (stored cmp (joined cmp c d) v)) + (i + j) + credit cmp (joined cmp c d) v ≡ (l + m) - shared cmp c d
  unfolding credit shared
  placed_step None d v i j l m h p q = let z = credit-none cmp d in omega arith
  placed_step (Some a) None v i j l m h p q = let z = credit-none cmp (Some a) in omega arith
  placed_step (Some a) (Some b) v i j l m h p q = picked a b v i j l m (offers cmp (both_or_either cmp a b) v) (h (both_or_either cmp a b) refl) refl p q

  address_count : (x v : Option V) → length (entry (stored cmp (option_map (only) x) v)) + credit cmp (option_map (only) x) v ≡ mark (is_some x)
  unfolding credit
  address_count None v = omega arith
  address_count (Some x) v =
      elim (offers cmp (only x) v) as (λ t. length (entry (cond t None (least (only x)))) + mark t ≡ 1) [
        | true ↦ omega arith
        | false ↦ omega arith
      ]

  -- what is placed has the weight less the credit
  pub placed_count : (n : ℕ) (v : Option V) (g : Values V) → length (placed cmp n g v) + credit cmp (candidates cmp n g) v ≡ weight cmp n g
  unfolding weight
  placed_count zero v g = address_count (g []) v
  placed_count (suc n) v g =
      let c = candidates cmp n (after false g) in
      let d = candidates cmp n (after true g) in
      let u = inherited cmp (joined cmp c d) v in
      let es = placed cmp n (after false g) u in
      let fs = placed cmp n (after true g) u in
      ap (λ k. k + credit cmp (joined cmp c d) v) (length-with_halves (stored cmp (joined cmp c d) v) es fs)
      ∙ placed_step c d v (length es) (length fs) _ _ (candidates_good o exact (suc n) g) (placed_count n u (after false g)) (placed_count n u (after true g))

  -- ---- what serves

  none_of : (u : Option V) → (is_some u ≡ true → ⊥) → u ≡ None
  none_of None h = refl
  none_of (Some x) h = absurd (h refl)

  credit_none : (c : Candidates V) (u : Option V) → u ≡ None → credit cmp c u ≡ 0
  credit_none c u e = ap (credit cmp c) e ∙ credit-none cmp c

  bound_step : (c d : Candidates V) (x v : Option V) (i j l m t : ℕ) →
      mark (is_some x) + (i + j) ≤ t → l ≤ i + credit cmp c (option_or x v) → m ≤ j + credit cmp d (option_or x v) →
      (joined cmp c d ≡ None → option_or x v ≡ None) → (l + m) - shared cmp c d ≤ t + credit cmp (joined cmp c d) v
  unfolding shared
  bound_step None d x v i j l m t k p q z =
      omega (arith, credit_none None (option_or x v) (z refl), credit_none d (option_or x v) (z refl))
  bound_step (Some a) None x v i j l m t k p q z =
      omega (arith, credit_none (Some a) (option_or x v) (z refl), credit_none None (option_or x v) (z refl))
  bound_step (Some a) (Some b) None v i j l m t k p q z = omega (arith, credits a b v)
  bound_step (Some a) (Some b) (Some y) v i j l m t k p q z = omega (arith, credits a b (Some y), credit_one cmp (Some (both_or_either cmp a b)) (Some y))

  address_bound : (y x v : Option V) (n : ℕ) → option_or x v ≡ y → mark (is_some x) + 0 ≤ n → mark (is_some y) ≤ n + credit cmp (option_map (only) y) v
  unfolding credit
  address_bound None x v n e h = omega arith
  address_bound (Some y) (Some x) v n e h = omega arith
  address_bound (Some y) None v n e h = rw e (rw (one_offers o exact y) (omega arith))

  at_least : (a b n : ℕ) → a + b ≤ n → a + 0 ≤ n
  at_least a b n h = omega arith

  -- and what serves has no fewer
  pub bound : (n : ℕ) (v : Option V) (g : Values V) (es : List (KeyBits × V)) → Serves n v (held es) g → weight cmp n g ≤ length es + credit cmp (candidates cmp n g) v
  unfolding weight
  bound zero v g es s = address_bound (g []) (held es []) v (length es) (s [] refl) (at_least _ _ _ (length-half es))
  bound (suc n) v g es s =
      let u = option_or (held es []) v in
      bound_step (candidates cmp n (after false g)) (candidates cmp n (after true g)) (held es []) v
      (length (half false es)) (length (half true es)) (weight cmp n (after false g)) (weight cmp n (after true g)) (length es)
      (length-half es)
      (bound n u (after false g) (half false es) (λ k e. same_values (held (half false es)) (after false (held es)) (held-half false es) u k ∙ serves_half n v (held es) g false s k e))
      (bound n u (after true g) (half true es) (λ k e. same_values (held (half true es)) (after true (held es)) (held-half true es) u k ∙ serves_half n v (held es) g true s k e))
      (λ z. none_of u (λ i. hole_unserved_below cmp n u (held es) g z i (λ b. serves_half n v (held es) g b s)))
