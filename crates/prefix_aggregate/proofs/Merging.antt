-- Merging ascending lists: what each step takes from the two fronts.
use Rattle.std.proofs.Common.{◌≡◌, ℕ, zero, suc, ◌+◌, ◌-◌, ◌<◌, ◌≤◌, false, cond, List, [], ◌∷◌, ◌++◌, length, take, drop, get_or, refl, sym, ap, ◌∙◌, subst, arith, append_assoc, append-nil, length-drop}
use Rattle.std.proofs.lemmas.List.{map-append, take_all}
use Rattle.std.specs.Borrow.{Bor}
use Rattle.std.specs.Prelude.{◌||◌}
use Rattle.std.specs.declared.cmp.Ordering.{Ordering}
use Rattle.std.specs.declared.cmp.Ordering.TheVariants.{Less, Equal, Greater}
use Rattle.std.specs.Ordering.{match_ordering, ordering_reverse, is_eq}
use Rattle.std.specs.Cmp.{IsTotalOrder}
use Rattle.std.specs.List.{AllByRecursion}
use Rattle.std.specs.List.Sorted.{IsStrictlySortedBy}
use Rattle.prefix_model.specs.Candidates.{has, intersection, added, union}
use Rattle.prefix_aggregate.specs.Lists.{behind}

pub behind-drop : {V : Type 0} (l : List (Bor V)) (i : ℕ) (d : Bor V) → i < length l → behind (drop i l) ≡ (get_or l i d).now ∷ behind (drop (i + 1) l)
behind-drop [] i d w = absurd (omega arith)
behind-drop (x ∷ l) zero d w = refl
behind-drop (x ∷ l) (suc i) d w = behind-drop l i d (omega arith) ∙ ap (λ k. (get_or l i d).now ∷ behind (drop k (x ∷ l))) (let e : suc (i + 1) ≡ suc i + 1 = omega arith in e)

-- what is read at index i stands first in what is left
pub behind-read : {V : Type 0} (l : List (Bor V)) (i : ℕ) (x : Bor V) → i < length l → x ≡ get_or l i x → behind (drop i l) ≡ x.now ∷ behind (drop (i + 1) l)
behind-read l i x w e = behind-drop l i x w ∙ ap (λ (r : Bor _). r.now ∷ behind (drop (i + 1) l)) (sym e)

pub behind-none : {V : Type 0} (l : List (Bor V)) (i : ℕ) → length l ≤ i → behind (drop i l) ≡ []
behind-none [] zero w = refl
behind-none [] (suc i) w = refl
behind-none (x ∷ l) zero w = absurd (omega arith)
behind-none (x ∷ l) (suc i) w = behind-none l i (omega arith)

pub behind-pushed : {V : Type 0} (items new : List (Bor V)) (z x : Bor V) (l m : List V) → new ≡ items ++ z ∷ [] → l ≡ x.now ∷ m → l ≡ z.now ∷ m → behind new ≡ behind items ++ x.now ∷ []
behind-pushed items new z x l m e f h =
    let same : z.now ≡ x.now = cc in
    ap behind e ∙ map-append (λ (r : Bor _). r.now) items (z ∷ []) ∙ ap (λ v. behind items ++ v ∷ []) same

pub behind-rest : {V : Type 0} (items new l : List (Bor V)) (i : ℕ) → new ≡ items ++ take (length l - i) (drop i l) → behind new ≡ behind items ++ behind (drop i l)
behind-rest items new l i e =
    let size = length-drop i l in
    ap behind e ∙ ap (λ t. behind (items ++ t)) (take_all (length l - i) (drop i l) (omega (arith, size))) ∙ map-append (λ (r : Bor _). r.now) items (drop i l)

module _ {V : Type 0} (cmp : V → V → Ordering) where
  both_none : (a : List V) → intersection cmp a [] ≡ []
  both_none [] = refl
  both_none (x ∷ a) = both_none a

  pub both_end_left : (out A B want : List V) → A ≡ [] → out ++ intersection cmp A B ≡ want → out ≡ want
  both_end_left out A B want e h = sym (append-nil out) ∙ ap (λ l. out ++ intersection cmp l B) (sym e) ∙ h

  pub both_end_right : (out A B want : List V) → B ≡ [] → out ++ intersection cmp A B ≡ want → out ≡ want
  both_end_right out A B want e h = sym (append-nil out) ∙ ap (λ l. out ++ l) (sym (both_none A)) ∙ ap (λ l. out ++ intersection cmp A l) (sym e) ∙ h

  pub either_end_left : (A B : List V) → A ≡ [] → A ++ B ≡ union cmp A B
  either_end_left A B e = ap (λ l. l ++ B) e ∙ ap (λ l. union cmp l B) (sym e)

  pub either_end : (out A B want l m : List V) → l ≡ out ++ A → m ≡ l ++ B → A ++ B ≡ union cmp A B → out ++ union cmp A B ≡ want → m ≡ want
  either_end out A B want l m e f g h = f ∙ ap (λ k. k ++ B) e ∙ append_assoc out A B ∙ ap (λ k. out ++ k) g ∙ h

module _ {V : Type 0} {cmp : V → V → Ordering} (o : IsTotalOrder cmp) where
  Above : V → List V → Type 0
  Above x l = AllByRecursion (λ y. cmp x y ≡ Less) l

  above_more : (x y : V) (l : List V) → cmp x y ≡ Less → Above y l → Above x l
  unfolding Above
  above_more x y [] e h = tt
  above_more x y (z ∷ l) e h = (o.trans x y z e h.0, above_more x y l e h.1)

  turned : (x y : V) (r : Ordering) → cmp x y ≡ r → cmp y x ≡ ordering_reverse r
  turned x y r e = o.antisymm y x ∙ ap ordering_reverse e

  above_tied : (x y : V) (l : List V) → cmp y x ≡ Equal → Above x l → Above y l
  unfolding Above
  above_tied x y [] e h = tt
  above_tied x y (z ∷ l) e h = (o.congr y x z e ∙ h.0, above_tied x y l e h.1)

  -- a value below all of a list is not in it
  not_had : (x : V) (l : List V) → Above x l → has cmp l x ≡ false
  unfolding Above
  not_had x [] h = refl
  not_had x (y ∷ l) h = (λ i. is_eq (h.0 i) || has cmp l x) ∙ not_had x l h.1

  -- ---- what both have

  both_left : (x : V) (a b : List V) → Above x b → intersection cmp (x ∷ a) b ≡ intersection cmp a b
  both_left x a b h = ap (λ t. cond t (x ∷ intersection cmp a b) (intersection cmp a b)) (not_had x b h)

  both_right : (y : V) (a b : List V) → Above y a → intersection cmp a (y ∷ b) ≡ intersection cmp a b
  unfolding Above
  both_right y [] b h = refl
  both_right y (z ∷ a) b h =
      (λ i. cond (is_eq (turned y z Less h.0 i) || has cmp b z) (z ∷ both_right y a b h.1 i) (both_right y a b h.1 i))

  both_front : (x y : V) (a b : List V) → cmp x y ≡ Equal → Above x a → intersection cmp (x ∷ a) (y ∷ b) ≡ x ∷ intersection cmp a b
  both_front x y a b e h =
      ap (λ r. cond (is_eq r || has cmp b x) (x ∷ intersection cmp a (y ∷ b)) (intersection cmp a (y ∷ b))) e
      ∙ ap (λ l. x ∷ l) (both_right y a b (above_tied x y a (turned x y Equal e) h))

  -- ---- what either has

  added_front : (x : V) (l : List V) → Above x l → added cmp x l ≡ x ∷ l
  unfolding Above
  added_front x [] h = refl
  added_front x (y ∷ l) h = ap (λ r. match_ordering r (x ∷ y ∷ l) (y ∷ l) (y ∷ added cmp x l)) h.0

  above_added : (x z : V) (l : List V) → cmp x z ≡ Less → Above x l → Above x (added cmp z l)
  unfolding Above
  above_added x z [] e h = (e, tt)
  above_added x z (y ∷ l) e h =
      elim (cmp z y) as (λ r. Above x (match_ordering r (z ∷ y ∷ l) (y ∷ l) (y ∷ added cmp z l))) [ Less ↦ (e, h) | Equal ↦ h | Greater ↦ (h.0, above_added x z l e h.1) ]

  above_union : (x : V) (a b : List V) → Above x a → Above x b → Above x (union cmp a b)
  unfolding Above
  above_union x [] b h k = k
  above_union x (z ∷ a) b h k = above_added x z (union cmp a b) h.0 (above_union x a b h.1 k)

  either_left : (x : V) (a b : List V) → Above x a → Above x b → union cmp (x ∷ a) b ≡ x ∷ union cmp a b
  either_left x a b h k = added_front x (union cmp a b) (above_union x a b h k)

  either_right : (y : V) (a b : List V) → Above y a → union cmp a (y ∷ b) ≡ y ∷ union cmp a b
  unfolding Above
  either_right y [] b h = refl
  either_right y (z ∷ a) b h =
      ap (added cmp z) (either_right y a b h.1)
      ∙ ap (λ r. match_ordering r (z ∷ y ∷ union cmp a b) (y ∷ union cmp a b) (y ∷ added cmp z (union cmp a b))) (turned y z Less h.0)

  either_front : (x y : V) (a b : List V) → cmp x y ≡ Equal → Above x a → union cmp (x ∷ a) (y ∷ b) ≡ y ∷ union cmp a b
  either_front x y a b e h =
      ap (added cmp x) (either_right y a b (above_tied x y a (turned x y Equal e) h))
      ∙ ap (λ r. match_ordering r (x ∷ y ∷ union cmp a b) (y ∷ union cmp a b) (y ∷ added cmp x (union cmp a b))) e

  either_rest : (a : List V) → IsStrictlySortedBy cmp a → union cmp a [] ≡ a
  unfolding IsStrictlySortedBy Above
  either_rest [] h = refl
  either_rest (x ∷ a) h = ap (added cmp x) (either_rest a h.1) ∙ added_front x a h.0

  pub either_end_right : (A B : List V) → IsStrictlySortedBy cmp A → B ≡ [] → A ++ B ≡ union cmp A B
  either_end_right A B sorted e = ap (λ l. A ++ l) e ∙ append-nil A ∙ sym (either_rest A sorted) ∙ ap (union cmp A) (sym e)

  -- ---- the steps of the loops, where the two lists begin with x and y

  module _ (A B a b : List V) (x y : V) (ea : A ≡ x ∷ a) (eb : B ≡ y ∷ b) (sa : IsStrictlySortedBy cmp A) (sb : IsStrictlySortedBy cmp B) where
    front_left : Above x a × IsStrictlySortedBy cmp a
    unfolding IsStrictlySortedBy Above
    front_left = subst (IsStrictlySortedBy cmp) ea sa

    front_right : Above y b × IsStrictlySortedBy cmp b
    unfolding IsStrictlySortedBy Above
    front_right = subst (IsStrictlySortedBy cmp) eb sb

    pub left_sorted : IsStrictlySortedBy cmp a
    left_sorted = front_left.1

    pub right_sorted : IsStrictlySortedBy cmp b
    right_sorted = front_right.1

    below_right : cmp x y ≡ Less → Above x B
    unfolding Above
    below_right e = subst (Above x) (sym eb) (e, above_more x y b e front_right.0)

    below_left : cmp x y ≡ Greater → Above y A
    unfolding Above
    below_left e = subst (Above y) (sym ea) (turned x y Greater e, above_more y x a (turned x y Greater e) front_left.0)

    pub both_less : (out : List V) → cmp x y ≡ Less → out ++ intersection cmp a B ≡ out ++ intersection cmp A B
    both_less out e = ap (λ l. out ++ l) (sym ((λ i. intersection cmp (ea i) B) ∙ both_left x a B (below_right e)))

    pub both_greater : (out : List V) → cmp x y ≡ Greater → out ++ intersection cmp A b ≡ out ++ intersection cmp A B
    both_greater out e = ap (λ l. out ++ l) (sym ((λ i. intersection cmp A (eb i)) ∙ both_right y A b (below_left e)))

    pub both_equal : (out : List V) → cmp x y ≡ Equal → (out ++ x ∷ []) ++ intersection cmp a b ≡ out ++ intersection cmp A B
    both_equal out e = append_assoc out (x ∷ []) (intersection cmp a b) ∙ ap (λ l. out ++ l) (sym ((λ i. intersection cmp (ea i) (eb i)) ∙ both_front x y a b e front_left.0))

    pub either_less : (out : List V) → cmp x y ≡ Less → (out ++ x ∷ []) ++ union cmp a B ≡ out ++ union cmp A B
    either_less out e = append_assoc out (x ∷ []) (union cmp a B) ∙ ap (λ l. out ++ l) (sym ((λ i. union cmp (ea i) B) ∙ either_left x a B front_left.0 (below_right e)))

    pub either_greater : (out : List V) → cmp x y ≡ Greater → (out ++ y ∷ []) ++ union cmp A b ≡ out ++ union cmp A B
    either_greater out e = append_assoc out (y ∷ []) (union cmp A b) ∙ ap (λ l. out ++ l) (sym ((λ i. union cmp A (eb i)) ∙ either_right y A b (below_left e)))

    pub either_equal : (out : List V) → cmp x y ≡ Equal → (out ++ y ∷ []) ++ union cmp a b ≡ out ++ union cmp A B
    either_equal out e = append_assoc out (y ∷ []) (union cmp a b) ∙ ap (λ l. out ++ l) (sym ((λ i. union cmp (ea i) (eb i)) ∙ either_front x y a b e front_left.0))
