-- What joins ascending lists ascends.
use Rattle.std.proofs.Common.{◌≡◌, Bool, true, false, cond, List, [], ◌∷◌, refl, ap, ◌∙◌}
use Rattle.std.specs.declared.cmp.Ordering.{Ordering}
use Rattle.std.specs.declared.cmp.Ordering.TheVariants.{Less, Equal, Greater}
use Rattle.std.specs.Ordering.{match_ordering, ordering_reverse}
use Rattle.std.specs.Cmp.{IsTotalOrder}
use Rattle.std.specs.List.{AllByRecursion, filter}
use Rattle.std.specs.List.Sorted.{IsStrictlySortedBy}
use Rattle.prefix_model.specs.Candidates.{has, intersection, added, union, unless_empty, both_or_either}
use Rattle.prefix_model.proofs.KeyLemmas.{all_filter}

module _ {V : Type 0} {cmp : V → V → Ordering} (o : IsTotalOrder cmp) where
  all_added : (P : V → Type 0) (x : V) (l : List V) → P x → AllByRecursion P l → AllByRecursion P (added cmp x l)
  all_added P x [] p h = (p, tt)
  all_added P x (y ∷ l) p h =
      elim (cmp x y) as (λ r. AllByRecursion P (match_ordering r (x ∷ y ∷ l) (y ∷ l) (y ∷ added cmp x l))) [ Less ↦ (p, h) | Equal ↦ h | Greater ↦ (h.0, all_added P x l p h.1) ]

  below_later : (x y : V) (l : List V) → cmp x y ≡ Less → AllByRecursion (λ z. cmp y z ≡ Less) l → AllByRecursion (λ z. cmp x z ≡ Less) l
  below_later x y [] e h = tt
  below_later x y (z ∷ l) e h = (o.trans x y z e h.0, below_later x y l e h.1)

  sorted_added : (x : V) (l : List V) → IsStrictlySortedBy cmp l → IsStrictlySortedBy cmp (added cmp x l)
  unfolding IsStrictlySortedBy
  sorted_added x [] h = (tt, tt)
  sorted_added x (y ∷ l) h =
      elim (cmp x y) as (λ r. cmp x y ≡ r → IsStrictlySortedBy cmp (match_ordering r (x ∷ y ∷ l) (y ∷ l) (y ∷ added cmp x l))) [
        | Less ↦ λ e. ((e, below_later x y l e h.0), h)
        | Equal ↦ λ e. h
        | Greater ↦ λ e. (all_added (λ z. cmp y z ≡ Less) x l (o.antisymm y x ∙ ap ordering_reverse e) h.0, sorted_added x l h.1)
      ] refl

  sorted_union : (a b : List V) → IsStrictlySortedBy cmp b → IsStrictlySortedBy cmp (union cmp a b)
  sorted_union [] b h = h
  sorted_union (x ∷ a) b h = sorted_added x (union cmp a b) (sorted_union a b h)

  sorted_filter : (p : V → Bool) (l : List V) → IsStrictlySortedBy cmp l → IsStrictlySortedBy cmp (filter p l)
  unfolding IsStrictlySortedBy
  sorted_filter p [] h = tt
  sorted_filter p (x ∷ l) h =
      elim (p x) as (λ t. IsStrictlySortedBy cmp (cond t (x ∷ filter p l) (filter p l))) [ true ↦ (all_filter (λ z. cmp x z ≡ Less) p l h.0, sorted_filter p l h.1) | false ↦ sorted_filter p l h.1 ]

  pub sorted_both_or_either : (a b : List V) → IsStrictlySortedBy cmp a → IsStrictlySortedBy cmp b → IsStrictlySortedBy cmp (both_or_either cmp a b)
  unfolding both_or_either
  sorted_both_or_either a b h k = go (intersection cmp a b) (sorted_filter (has cmp b) a h)
    where
      go : (l : List V) → IsStrictlySortedBy cmp l → IsStrictlySortedBy cmp (unless_empty l (union cmp a b))
      go [] s = sorted_union a b k
      go (x ∷ l) s = s
