-- The order of the places and children of a node, and of the keys below them.
use Rattle.std.specs.Prelude.{◌≡◌, ◌≢◌, ℕ, zero, suc, ◌<◌, ◌&&◌, Bool, true, false, List, [], ◌∷◌, ◌++◌, length, Some, slice_get, ◌⊎◌}
use Rattle.std.proofs.Common.{refl, ap, ◌∙◌, subst, arith, inl, inr}
use Rattle.std.specs.declared.cmp.Ordering.TheVariants.{Less, Equal, Greater}
use Rattle.std.specs.Ordering.{match_ordering, ordering_reverse}
use Rattle.prefix_model.specs.Keys.{KeyBits, key_cmp}
use Rattle.prefix_model.specs.Positions.{child_places}
use Rattle.prefix_model.specs.Masks.{is_past}
use Rattle.prefix_model.specs.Walks.{stands_from}
use Rattle.prefix_model.proofs.Order.{key_total, key_exact}
use Rattle.prefix_model.proofs.KeyLemmas.{both_true}

-- ---- the tests of order

pub less_stands : (i : Bool) (a b : KeyBits) → key_cmp a b ≡ Less → stands_from i a b ≡ true
less_stands i a b e = ap (λ o. match_ordering o true i false) e

pub from_behind : (q k : KeyBits) → stands_from true q k ≡ true → q ≢ k → stands_from false q k ≡ true
from_behind q k e n =
    elim (key_cmp q k) as (λ o. key_cmp q k ≡ o → match_ordering o true true false ≡ true → match_ordering o true false false ≡ true) [
      | Less ↦ λ c t. refl
      | Equal ↦ λ c t. absurd (n (key_exact q k c))
      | Greater ↦ λ c t. cc
    ] refl e

pub not_from : (q k : KeyBits) → stands_from true q k ≡ false → key_cmp k q ≡ Less
not_from q k e =
    elim (key_cmp q k) as (λ o. key_cmp q k ≡ o → match_ordering o true true false ≡ false → key_cmp k q ≡ Less) [
      | Less ↦ λ c n. cc
      | Equal ↦ λ c n. cc
      | Greater ↦ λ c n. key_total.antisymm k q ∙ ap ordering_reverse c
    ] refl e

-- what stands from a key on stands so too where the key counts
pub stands_also : (i : Bool) (q k : KeyBits) → stands_from i q k ≡ true → stands_from true q k ≡ true
stands_also i q k e =
    elim (key_cmp q k) as (λ o. match_ordering o true i false ≡ true → match_ordering o true true false ≡ true) [
      | Less ↦ λ n. refl
      | Equal ↦ λ n. refl
      | Greater ↦ λ n. cc
    ] e

pub not_behind_itself : (k : KeyBits) → stands_from false k k ≡ true → ⊥
not_behind_itself k e =
    elim (key_cmp k k) as (λ o. key_cmp k k ≡ o → match_ordering o true false false ≡ true → ⊥) [
      | Less ↦ λ c n. let r = key_total.antisymm k k in let s : ordering_reverse (key_cmp k k) ≡ Greater = ap ordering_reverse c in cc
      | Equal ↦ λ c n. cc
      | Greater ↦ λ c n. cc
    ] refl e

-- what stands before a key stands before all that stand from it on
pub less_from : (a b c : KeyBits) → key_cmp a b ≡ Less → stands_from true b c ≡ true → stands_from true a c ≡ true
less_from a b c l e =
    elim (key_cmp b c) as (λ o. key_cmp b c ≡ o → match_ordering o true true false ≡ true → stands_from true a c ≡ true) [
      | Less ↦ λ d n. less_stands true a c (key_total.trans a b c l d)
      | Equal ↦ λ d n. less_stands true a c (subst (λ x. key_cmp a x ≡ Less) (key_exact b c d) l)
      | Greater ↦ λ d n. cc
    ] refl e

-- ---- places and children

-- a key behind the whole range of c, and all keys below it, are behind all keys below c
pub past_less : (c s x y : KeyBits) → is_past c s ≡ true → key_cmp (c ++ x) (s ++ y) ≡ Less
past_less [] [] x y e = cc
past_less [] (b ∷ s) x y e = cc
past_less (a ∷ c) [] x y e = cc
past_less (false ∷ c) (true ∷ s) x y e = refl
past_less (true ∷ c) (false ∷ s) x y e = cc
past_less (false ∷ c) (false ∷ s) x y e = past_less c s x y e
past_less (true ∷ c) (true ∷ s) x y e = past_less c s x y e

-- a shorter key that is not behind the range of c stands before it
pub not_past_less : (c t x : KeyBits) → length t < length c → is_past c t ≡ false → key_cmp t (c ++ x) ≡ Less
not_past_less [] t x l e = absurd (omega (arith, l))
not_past_less (b ∷ c) [] x l e = refl
not_past_less (false ∷ c) (true ∷ t) x l e = cc
not_past_less (true ∷ c) (false ∷ t) x l e = refl
not_past_less (false ∷ c) (false ∷ t) x l e = not_past_less c t x (omega (arith, l)) e
not_past_less (true ∷ c) (true ∷ t) x l e = not_past_less c t x (omega (arith, l)) e

-- a longer key from r on, and all keys below it
pub from_less : (r c x : KeyBits) → length r < length c → stands_from true r c ≡ true → key_cmp r (c ++ x) ≡ Less
from_less r [] x l e = absurd (omega (arith, l))
from_less [] (b ∷ c) x l e = refl
from_less (false ∷ r) (true ∷ c) x l e = refl
from_less (true ∷ r) (false ∷ c) x l e = cc
from_less (false ∷ r) (false ∷ c) x l e = from_less r c x (omega (arith, l)) e
from_less (true ∷ r) (true ∷ c) x l e = from_less r c x (omega (arith, l)) e

pub stands_child : (i : Bool) (r c x : KeyBits) → length r < length c → stands_from i r (c ++ x) ≡ true → stands_from true r c ≡ true
stands_child i r [] x l e = absurd (omega (arith, l))
stands_child i [] (b ∷ c) x l e = refl
stands_child i (false ∷ r) (true ∷ c) x l e = refl
stands_child i (true ∷ r) (false ∷ c) x l e = cc
stands_child i (false ∷ r) (false ∷ c) x l e = stands_child i r c x (omega (arith, l)) e
stands_child i (true ∷ r) (true ∷ c) x l e = stands_child i r c x (omega (arith, l)) e

-- what stands from a key below c on, at a shorter key or below another of its length, is behind the range of c
pub stands_past_place : (i : Bool) (c x s : KeyBits) → length s < length c → stands_from i (c ++ x) s ≡ true → is_past c s ≡ true
stands_past_place i [] x s l e = absurd (omega (arith, l))
stands_past_place i (b ∷ c) x [] l e = cc
stands_past_place i (false ∷ c) x (true ∷ s) l e = refl
stands_past_place i (true ∷ c) x (false ∷ s) l e = cc
stands_past_place i (false ∷ c) x (false ∷ s) l e = stands_past_place i c x s (omega (arith, l)) e
stands_past_place i (true ∷ c) x (true ∷ s) l e = stands_past_place i c x s (omega (arith, l)) e

pub stands_past_child : (i : Bool) (c x s y : KeyBits) → length s ≡ length c → stands_from i (c ++ x) (s ++ y) ≡ true → (c ≡ s) ⊎ (is_past c s ≡ true)
stands_past_child i [] x [] y l e = inl refl
stands_past_child i [] x (b ∷ s) y l e = absurd (omega (arith, l))
stands_past_child i (b ∷ c) x [] y l e = absurd (omega (arith, l))
stands_past_child i (false ∷ c) x (true ∷ s) y l e = inr refl
stands_past_child i (true ∷ c) x (false ∷ s) y l e = cc
stands_past_child i (false ∷ c) x (false ∷ s) y l e = elim (stands_past_child i c x s y (omega (arith, l)) e) [ inl z ↦ inl (ap (λ k. false ∷ k) z) | inr p ↦ inr p ]
stands_past_child i (true ∷ c) x (true ∷ s) y l e = elim (stands_past_child i c x s y (omega (arith, l)) e) [ inl z ↦ inl (ap (λ k. true ∷ k) z) | inr p ↦ inr p ]

-- ---- children by number

-- each key of the list is behind the ranges of those before it
all_past : KeyBits → List KeyBits → Bool
all_past c [] = true
all_past c (s ∷ ss) = is_past c s && all_past c ss

in_order : List KeyBits → Bool
in_order [] = true
in_order (s ∷ ss) = all_past s ss && in_order ss

all_past_at : (c : KeyBits) (ss : List KeyBits) (j : ℕ) (s : KeyBits) → all_past c ss ≡ true → slice_get ss j ≡ Some s → is_past c s ≡ true
unfolding all_past
all_past_at c [] j s a e = cc
all_past_at c (t ∷ ss) zero s a e = let h : t ≡ s = cc in subst (λ x. is_past c x ≡ true) h (both_true _ _ a).0
all_past_at c (t ∷ ss) (suc j) s a e = all_past_at c ss j s (both_true _ _ a).1 e

in_order_at : (ss : List KeyBits) (i j : ℕ) (c s : KeyBits) → in_order ss ≡ true → i < j → slice_get ss i ≡ Some c → slice_get ss j ≡ Some s → is_past c s ≡ true
unfolding in_order
in_order_at [] i j c s o l e f = cc
in_order_at (t ∷ ss) i zero c s o l e f = absurd (omega (arith, l))
in_order_at (t ∷ ss) zero (suc j) c s o l e f = let h : t ≡ c = cc in all_past_at c ss j s (subst (λ x. all_past x ss ≡ true) h (both_true _ _ o).0) f
in_order_at (t ∷ ss) (suc i) (suc j) c s o l e f = in_order_at ss i j c s (both_true _ _ o).1 (omega (arith, l)) e f

-- a later child is behind the range of an earlier one
pub later_child : (i j : ℕ) (c s : KeyBits) → i < j → slice_get child_places i ≡ Some c → slice_get child_places j ≡ Some s → is_past c s ≡ true
unfolding child_places in_order all_past
later_child i j c s l e f = in_order_at child_places i j c s refl l e f
