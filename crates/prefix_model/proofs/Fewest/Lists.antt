-- The lists of candidates: what they have in common, and their least values.
use Rattle.std.specs.Prelude.{◌&&◌, ◌||◌}
use Rattle.std.specs.declared.cmp.Ordering.{Ordering}
use Rattle.std.specs.declared.cmp.Ordering.TheVariants.{Less, Equal, Greater}
use Rattle.std.specs.Ordering.{eq_by_cmp, is_eq, match_ordering}
use Rattle.std.specs.Cmp.{IsTotalOrder, tied_itself, Equal-is}
use Rattle.std.specs.FinMap.{IsAntisymmetric}
use Rattle.std.proofs.Common.{◌≡◌, ℕ, ◌+◌, ◌≤◌, Bool, true, false, cond, List, [], ◌∷◌, refl, sym, ap, ◌∙◌, arith, Option, Some, None}
use mathlib.Core.Bool.{true≢false}
use Rattle.prefix_model.specs.Candidates.{has, intersection, added, union, unless_empty, both_or_either, least, offers}
use Rattle.prefix_model.proofs.Entries.{mark}
use Rattle.prefix_model.proofs.KeyLemmas.{or_swap, or_assoc, or_false, and_false}

abbrev is_nil : {V : Type 0} → List V → Bool
is_nil [] = true
is_nil (x ∷ l) = false

-- where the join keeps what both have, a value is counted twice
pub gain : {V : Type 0} → (V → V → Ordering) → List V → List V → ℕ
gain cmp a b = cond (is_nil (intersection cmp a b)) 0 1

counts : (t a b c : Bool) → (t ≡ true → (a && b) ≡ false) → c ≡ cond t (a || b) (a && b) → mark a + mark b ≤ mark c + cond t 0 1
counts true true true c none is = absurd (true≢false (none refl))
counts true true false c none is = rw is (omega arith)
counts true false true c none is = rw is (omega arith)
counts true false false c none is = rw is (omega arith)
counts false true true c none is = rw is (omega arith)
counts false true false c none is = rw is (omega arith)
counts false false true c none is = rw is (omega arith)
counts false false false c none is = rw is (omega arith)

counts_in : (t a b c : Bool) → (t ≡ true → (a && b) ≡ false) → c ≡ cond t (a || b) (a && b) → c ≡ true → mark a + mark b ≡ 1 + cond t 0 1
counts_in true true true c none is p = absurd (true≢false (none refl))
counts_in true true false c none is p = omega arith
counts_in true false true c none is p = omega arith
counts_in true false false c none is p = absurd (true≢false (sym p ∙ is))
counts_in false true true c none is p = omega arith
counts_in false true false c none is p = absurd (true≢false (sym p ∙ is))
counts_in false false true c none is p = absurd (true≢false (sym p ∙ is))
counts_in false false false c none is p = absurd (true≢false (sym p ∙ is))

-- some value is in the list
abbrev pub IsInhabited : {V : Type 0} → (V → V → Ordering) → List V → Type 0
IsInhabited {V} cmp l = (x : V) × (has cmp l x ≡ true)

module _ {V : Type 0} {cmp : V → V → Ordering} (o : IsTotalOrder cmp) (exact : IsAntisymmetric cmp) where
  itself : (x : V) (b : Bool) → (eq_by_cmp cmp x x || b) ≡ true
  itself x b = ap (λ r. is_eq r || b) (tied_itself o x)

  has-added : (x : V) (l : List V) (q : V) → has cmp (added cmp x l) q ≡ (eq_by_cmp cmp q x || has cmp l q)
  has-added x [] q = refl
  has-added x (y ∷ l) q =
      elim (cmp x y) as (λ r. cmp x y ≡ r → has cmp (match_ordering r (x ∷ y ∷ l) (y ∷ l) (y ∷ added cmp x l)) q ≡ (eq_by_cmp cmp q x || (eq_by_cmp cmp q y || has cmp l q))) [
        | Less ↦ λ e. refl
        | Equal ↦ λ e. twice (eq_by_cmp cmp q y) (has cmp l q) ∙ ap (λ z. eq_by_cmp cmp q z || (eq_by_cmp cmp q y || has cmp l q)) (sym (exact x y e))
        | Greater ↦ λ e. ap (λ b. eq_by_cmp cmp q y || b) (has-added x l q) ∙ or_swap (eq_by_cmp cmp q y) (eq_by_cmp cmp q x) (has cmp l q)
      ] refl
    where
      twice : (a b : Bool) → (a || b) ≡ (a || (a || b))
      twice true b = refl
      twice false b = refl

  has-union : (a b : List V) (q : V) → has cmp (union cmp a b) q ≡ (has cmp a q || has cmp b q)
  has-union [] b q = refl
  has-union (x ∷ a) b q = has-added x (union cmp a b) q ∙ ap (λ t. eq_by_cmp cmp q x || t) (has-union a b q) ∙ or_assoc (eq_by_cmp cmp q x) (has cmp a q) (has cmp b q)

  has-filter : (a b : List V) (q : V) → has cmp (intersection cmp a b) q ≡ (has cmp a q && has cmp b q)
  has-filter [] b q = refl
  has-filter (x ∷ a) b q =
      elim (eq_by_cmp cmp q x) as (λ t. eq_by_cmp cmp q x ≡ t → has cmp (cond (has cmp b x) (x ∷ intersection cmp a b) (intersection cmp a b)) q ≡ ((t || has cmp a q) && has cmp b q)) [
        | true ↦ λ e.
            let same : x ≡ q = sym (exact q x ((Equal-is (cmp q x)).0 e)) in
            elim (has cmp b x) as (λ s. has cmp b x ≡ s → has cmp (cond s (x ∷ intersection cmp a b) (intersection cmp a b)) q ≡ has cmp b q) [
              | true ↦ λ h. ap (λ t. t || has cmp (intersection cmp a b) q) e ∙ sym h ∙ ap (has cmp b) same
              | false ↦ λ h.
                  let not_in : has cmp b q ≡ false = sym (ap (has cmp b) same) ∙ h in
                  has-filter a b q ∙ ap (λ t. has cmp a q && t) not_in ∙ and_false (has cmp a q) ∙ sym not_in
            ] refl
        | false ↦ λ e.
            elim (has cmp b x) as (λ s. has cmp (cond s (x ∷ intersection cmp a b) (intersection cmp a b)) q ≡ (has cmp a q && has cmp b q)) [
              | true ↦ ap (λ t. t || has cmp (intersection cmp a b) q) e ∙ has-filter a b q
              | false ↦ has-filter a b q
            ]
      ] refl

  -- the least of a list is one of it
  pub least_in : (l : List V) → IsInhabited cmp l → (y : V) × (least l ≡ Some y) × (has cmp l y ≡ true)
  least_in [] h = absurd (true≢false (sym h.1))
  least_in (y ∷ l) h = (y, refl, itself y (has cmp l y))

  -- a list of one value offers no other
  pub offers-one : (x : V) (v : Option V) → offers cmp (x ∷ []) v ≡ true → v ≡ Some x
  unfolding offers
  offers-one x None e = absurd (true≢false (sym e))
  offers-one x (Some y) e = ap Some (exact y x ((Equal-is (cmp y x)).0 (sym (or_false (eq_by_cmp cmp y x)) ∙ e)))

  -- and offers that one
  pub one_offers : (x : V) → offers cmp (x ∷ []) (Some x) ≡ true
  unfolding offers
  one_offers x = itself x false

  module _ (a b : List V) (x : V) where
    none_shared : is_nil (intersection cmp a b) ≡ true → (has cmp a x && has cmp b x) ≡ false
    none_shared e = sym (has-filter a b x) ∙ go (intersection cmp a b) e
      where
        go : (l : List V) → is_nil l ≡ true → has cmp l x ≡ false
        go [] e = refl
        go (y ∷ l) e = absurd (true≢false (sym e))

    has-both_or_either : has cmp (both_or_either cmp a b) x ≡ cond (is_nil (intersection cmp a b)) (has cmp a x || has cmp b x) (has cmp a x && has cmp b x)
    unfolding both_or_either
    has-both_or_either = go (intersection cmp a b) (has-filter a b x)
      where
        go : (l : List V) → has cmp l x ≡ (has cmp a x && has cmp b x) → has cmp (unless_empty l (union cmp a b)) x ≡ cond (is_nil l) (has cmp a x || has cmp b x) (has cmp a x && has cmp b x)
        go [] e = has-union a b x
        go (y ∷ l) e = e

    -- how often a value is in the halves, by whether it is in what they make
    pub marks : mark (has cmp a x) + mark (has cmp b x) ≤ mark (has cmp (both_or_either cmp a b) x) + gain cmp a b
    unfolding gain
    marks = counts (is_nil (intersection cmp a b)) (has cmp a x) (has cmp b x) (has cmp (both_or_either cmp a b) x) none_shared has-both_or_either

    -- and exactly, where it is
    pub marks_in : has cmp (both_or_either cmp a b) x ≡ true → mark (has cmp a x) + mark (has cmp b x) ≡ 1 + gain cmp a b
    unfolding gain
    marks_in = counts_in (is_nil (intersection cmp a b)) (has cmp a x) (has cmp b x) (has cmp (both_or_either cmp a b) x) none_shared has-both_or_either

  -- what the halves make is not empty
  pub inhabited : (a b : List V) → IsInhabited cmp a → IsInhabited cmp (both_or_either cmp a b)
  unfolding both_or_either
  inhabited a b h = go (intersection cmp a b)
    where
      go : (l : List V) → IsInhabited cmp (unless_empty l (union cmp a b))
      go [] = (h.0, has-union a b h.0 ∙ ap (λ t. t || has cmp b h.0) h.1)
      go (y ∷ l) = (y, itself y (has cmp l y))
