-- Walks from a key that need not extend the place.
use Rattle.std.specs.Prelude.{◌≡◌, ℕ, zero, suc, ◌<◌, ◌≤◌, ◌&&◌, Bool, true, false, [], ◌∷◌, ◌++◌, length, take, not, Some, slice_get}
use Rattle.std.proofs.Common.{refl, sym, ap, ◌∙◌, subst, arith, length-append}
use Rattle.std.proofs.lemmas.List.{take_all}
use Rattle.std.specs.declared.cmp.Ordering.{Ordering}
use Rattle.std.specs.declared.cmp.Ordering.TheVariants.{Less, Equal, Greater}
use Rattle.std.specs.Ordering.{match_ordering, ordering_reverse, ordering_then, bool_cmp}
use mathlib.Core.Bool.{beq}
use Rattle.prefix_model.proofs.Order.{itself, key_total, key_exact}
use Rattle.std.specs.FinMap.{entries}
use Rattle.prefix_model.specs.Keys.{KeyBits, key_cmp}
use Rattle.prefix_model.specs.Tables.{KeyMap}
use Rattle.prefix_model.specs.Walks.{begins_with, walk, walk_from, stands_from}
use Rattle.prefix_model.proofs.Fronts.{follows, append_none, front_from}
use Rattle.prefix_model.proofs.Fronts.{cmp_front}
use Rattle.prefix_model.proofs.WalkSplits.{those_same, those_none, as_those, from}

-- where two keys differ in their first bits, these decide
cmp_fronts : (a b : KeyBits) (n : ℕ) → n ≤ length a → n ≤ length b → (o : Ordering) → (o ≡ Equal → ⊥) → key_cmp (take n a) (take n b) ≡ o → key_cmp a b ≡ o
cmp_fronts a b zero la lb o n e = absurd (n (sym e))
cmp_fronts [] b (suc k) la lb o n e = absurd (omega (arith, la))
cmp_fronts (x ∷ a) [] (suc k) la lb o n e = absurd (omega (arith, lb))
cmp_fronts (true ∷ a) (true ∷ b) (suc k) la lb o n e = cmp_fronts a b k (omega (arith, la)) (omega (arith, lb)) o n e
cmp_fronts (false ∷ a) (false ∷ b) (suc k) la lb o n e = cmp_fronts a b k (omega (arith, la)) (omega (arith, lb)) o n e
cmp_fronts (true ∷ a) (false ∷ b) (suc k) la lb o n e = e
cmp_fronts (false ∷ a) (true ∷ b) (suc k) la lb o n e = e

take_within : (p s : KeyBits) (n : ℕ) → n ≤ length p → take n (p ++ s) ≡ take n p
take_within p s zero l = refl
take_within [] s (suc n) l = absurd (omega (arith, l))
take_within (b ∷ p) s (suc n) l = ap (λ r. b ∷ r) (take_within p s n (omega (arith, l)))

not_before : (i : Bool) (q k : KeyBits) → key_cmp k q ≡ Less → stands_from i q k ≡ false
not_before i q k e = ap (λ o. match_ordering o true i false) (key_total.antisymm q k ∙ ap ordering_reverse e)

stands_behind : (i : Bool) (q k : KeyBits) → key_cmp k q ≡ Greater → stands_from i q k ≡ true
stands_behind i q k e = ap (λ o. match_ordering o true i false) (key_total.antisymm q k ∙ ap ordering_reverse e)

module _ {V : Type 0} (m : KeyMap V) (p q : KeyBits) (i : Bool) where
  everything : ((k : KeyBits) → begins_with p k ≡ true → stands_from i q k ≡ true) → walk_from m p q i ≡ walk m p
  everything h =
      as_those m p q i ∙ those_same (from p q i) (begins_with p) (λ k.
      elim (begins_with p k) as (λ b. begins_with p k ≡ b → (b && stands_from i q k) ≡ b) [ true ↦ λ e. h k e | false ↦ λ e. refl ] refl) (entries m)

  nothing : ((k : KeyBits) → begins_with p k ≡ true → stands_from i q k ≡ false) → walk_from m p q i ≡ []
  nothing h =
      as_those m p q i ∙ those_same (from p q i) (λ k. false) (λ k.
      elim (begins_with p k) as (λ b. begins_with p k ≡ b → (b && stands_from i q k) ≡ false) [ true ↦ λ e. h k e | false ↦ λ e. refl ] refl) (entries m) ∙ those_none (entries m)

  compared : (n : ℕ) → n ≤ length p → n ≤ length q → (o : Ordering) → (o ≡ Equal → ⊥) → key_cmp (take n p) (take n q) ≡ o → (k : KeyBits) → begins_with p k ≡ true → key_cmp k q ≡ o
  compared n lp lq o d e k f =
      let g = follows p k f in
      let a = length-append p g.rest in
      let w = ap length g.whole in
      cmp_fronts k q n (omega (arith, lp, a, w)) lq o d (ap (λ x. key_cmp (take n x) (take n q)) g.whole ∙ ap (λ x. key_cmp x (take n q)) (take_within p g.rest n lp) ∙ e)

  -- the place stands before the key: so does all below it
  pub all_before : (n : ℕ) → n ≤ length p → n ≤ length q → key_cmp (take n p) (take n q) ≡ Less → walk_from m p q i ≡ []
  all_before n lp lq e = nothing (λ k f. not_before i q k (compared n lp lq Less (λ z. cc) e k f))

  -- the place stands behind the key: so does all below it
  pub all_behind : (n : ℕ) → n ≤ length p → n ≤ length q → key_cmp (take n p) (take n q) ≡ Greater → walk_from m p q i ≡ walk m p
  all_behind n lp lq e = everything (λ k f. stands_behind i q k (compared n lp lq Greater (λ z. cc) e k f))

  -- the place properly extends the key
  pub all_below : begins_with q p ≡ true → length q < length p → walk_from m p q i ≡ walk m p
  all_below front longer = everything (λ k f.
      let a = follows q p front in
      let b = follows p k f in
      let la = ap length a.whole ∙ length-append q a.rest in
      after a.rest b.rest k (b.whole ∙ ap (λ x. x ++ b.rest) a.whole) (omega (arith, la, longer)))
    where
      after : (r s k : KeyBits) → k ≡ (q ++ r) ++ s → 0 < length r → stands_from i q k ≡ true
      after [] s k e l = absurd (omega (arith, l))
      after (b ∷ r) s k e l =
          let w : k ≡ q ++ (b ∷ (r ++ s)) = e ∙ assoc q r s b in
          ap (stands_from i q) w ∙ ap (λ o. match_ordering o true i false) (ap (λ x. key_cmp x (q ++ b ∷ (r ++ s))) (sym (append_none q)) ∙ cmp_front q [] (b ∷ (r ++ s)))
        where
          assoc : (q r s : KeyBits) (b : Bool) → (q ++ b ∷ r) ++ s ≡ q ++ (b ∷ (r ++ s))
          assoc [] r s b = refl
          assoc (x ∷ q) r s b = ap (λ z. x ∷ z) (assoc q r s b)

pub same_fronts : (p q : KeyBits) → key_cmp p (take (length p) q) ≡ Equal → begins_with p q ≡ true
same_fronts p q e = front_from p q (sym (key_exact p (take (length p) q) e))

pub short_front : (p q : KeyBits) → key_cmp (take (length q) p) q ≡ Equal → begins_with q p ≡ true
short_front p q e = front_from q p (key_exact (take (length q) p) q e)

-- ---- what comparing bit by bit tells

pub bits_same : (a b : Bool) → not (beq a b) ≡ false → a ≡ b
bits_same true true e = refl
bits_same true false e = cc
bits_same false true e = cc
bits_same false false e = refl

pub bits_differ : (a b : Bool) → not (beq a b) ≡ true → b ≡ not a
bits_differ true true e = cc
bits_differ true false e = refl
bits_differ false true e = refl
bits_differ false false e = cc

pub cmp_itself : (a b : KeyBits) → a ≡ b → key_cmp a b ≡ Equal
cmp_itself a b e = subst (λ x. key_cmp a x ≡ Equal) e (itself a)

decided : (a b : Bool) (o : Ordering) → (a ≡ b → ⊥) → ordering_then (bool_cmp a b) o ≡ bool_cmp a b
decided true true o d = absurd (d refl)
decided true false o d = refl
decided false true o d = refl
decided false false o d = absurd (d refl)

-- keys that agree up to bit i, where they differ, are ordered by that bit
pub first_difference : (xs ys : KeyBits) (i n : ℕ) (a b : Bool) → i < n → take i xs ≡ take i ys → slice_get xs i ≡ Some a → slice_get ys i ≡ Some b
    → (a ≡ b → ⊥) → key_cmp (take n xs) (take n ys) ≡ bool_cmp a b
first_difference [] ys i n a b l e f g d = cc
first_difference (x ∷ xs) [] i n a b l e f g d = cc
first_difference (x ∷ xs) (y ∷ ys) zero zero a b l e f g d = absurd (omega (arith, l))
first_difference (x ∷ xs) (y ∷ ys) zero (suc n) a b l e f g d =
    let p : x ≡ a = cc in let q : y ≡ b = cc in
    (λ j. ordering_then (bool_cmp (p j) (q j)) (key_cmp (take n xs) (take n ys))) ∙ decided a b _ d
first_difference (x ∷ xs) (y ∷ ys) (suc i) zero a b l e f g d = absurd (omega (arith, l))
first_difference (true ∷ xs) (true ∷ ys) (suc i) (suc n) a b l e f g d = let r : take i xs ≡ take i ys = cc in first_difference xs ys i n a b (omega (arith, l)) r f g d
first_difference (false ∷ xs) (false ∷ ys) (suc i) (suc n) a b l e f g d = let r : take i xs ≡ take i ys = cc in first_difference xs ys i n a b (omega (arith, l)) r f g d
first_difference (true ∷ xs) (false ∷ ys) (suc i) (suc n) a b l e f g d = cc
first_difference (false ∷ xs) (true ∷ ys) (suc i) (suc n) a b l e f g d = cc

-- what the code compares, of a place and a key
pub compared_fronts : (p rest vbits bits : KeyBits) (n pl len : ℕ) (o r : Ordering) → vbits ≡ p ++ rest → pl ≡ length p → n ≤ pl → n ≤ len → r ≡ key_cmp (take n vbits) (take n bits) → r ≡ o → key_cmp (take n p) (take n (take len bits)) ≡ o
compared_fronts p rest vbits bits n pl len o r v l m w e is =
    (λ j. key_cmp (sym (ap (take n) v ∙ take_within p rest n (omega (arith, l, m))) j) (take_twice n len bits w j)) ∙ sym e ∙ is
  where
    take_twice : (n len : ℕ) (bits : KeyBits) → n ≤ len → take n (take len bits) ≡ take n bits
    take_twice zero len bits l = refl
    take_twice (suc n) zero bits l = absurd (omega (arith, l))
    take_twice (suc n) (suc len) [] l = refl
    take_twice (suc n) (suc len) (b ∷ bits) l = ap (λ r. b ∷ r) (take_twice n len bits (omega (arith, l)))

module _ {V : Type 0} (m : KeyMap V) (p q : KeyBits) (i : Bool) where
  -- a shorter key that the place does not stand before
  pub not_before_short : (n : ℕ) → n ≡ length q → length q < length p → (o : Ordering) → key_cmp (take n p) (take n q) ≡ o → (o ≡ Less → ⊥) → walk_from m p q i ≡ walk m p
  not_before_short n e l Less c d = absurd (d refl)
  not_before_short n e l Greater c d = all_behind m p q i n (omega (arith, e, l)) (omega (arith, e)) c
  not_before_short n e l Equal c d =
      all_below m p q i (short_front p q (ap (λ k. key_cmp (take k p) q) (sym e) ∙ ap (key_cmp (take n p)) (sym (take_all n q (omega (arith, e)))) ∙ c)) l
