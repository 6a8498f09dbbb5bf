-- What holds of each value of a table holds of each value of its least table.
use Rattle.std.proofs.Common.{◌≡◌, ℕ, zero, suc, ◌-◌, Bool, true, false, cond, List, [], ◌∷◌, ◌++◌, length, sym, ap, ◌∙◌, subst, Option, Some, None, refl}
use Rattle.std.specs.Prelude.{is_some, IfSome}
use Rattle.std.specs.Option.{option_map, option_or}
use Rattle.std.specs.List.{AllByRecursion, filter}
use Rattle.std.specs.declared.cmp.Ordering.{Ordering}
use Rattle.std.specs.declared.cmp.Ordering.TheVariants.{Less, Equal, Greater}
use Rattle.std.specs.Ordering.{match_ordering}
use Rattle.std.specs.Cmp.{IsTotalOrder}
use Rattle.std.specs.FinMap as map
use Rattle.std.specs.FinMap.{IsAntisymmetric}
use Rattle.prefix_model.specs.Keys.{KeyBits}
use Rattle.prefix_model.specs.Tables.{KeyMap, Values, after, answer_under, answer}
use Rattle.prefix_model.specs.Candidates.{Candidates, candidates, joined, only, least, intersection, union, added, both_or_either, unless_empty, offers, has}
use Rattle.prefix_model.specs.LeastTable.{stored, candidates_at, inherited_at, least_table}
use Rattle.prefix_model.proofs.Fewest.Keys.{knows_each_key}
use Rattle.prefix_model.proofs.Fewest.Tables.{keeps_width}

module _ {V : Type 0} (P : V → Type 0) where
  all_filter : (p : V → Bool) (l : List V) → AllByRecursion P l → AllByRecursion P (filter p l)
  all_filter p [] h = tt
  all_filter p (x ∷ l) (a, h) = elim (p x) as (λ t. AllByRecursion P (cond t (x ∷ filter p l) (filter p l))) [ true ↦ (a, all_filter p l h) | false ↦ all_filter p l h ]

  some_or : (x y : Option V) → IfSome x P → IfSome y P → IfSome (option_or x y) P
  some_or None y a b = b
  some_or (Some x) y a b = a

  answered : (k : KeyBits) (v : Option V) (f : Values V) → IfSome v P → ((q : KeyBits) → IfSome (f q) P) → IfSome (answer_under v f k) P
  answered [] v f a h = some_or (f []) v (h []) a
  answered (b ∷ k) v f a h = answered k (option_or (f []) v) (after b f) (some_or (f []) v (h []) a) (λ q. h (b ∷ q))

  module _ (cmp : V → V → Ordering) where
    all_added : (x : V) (l : List V) → P x → AllByRecursion P l → AllByRecursion P (added cmp x l)
    all_added x [] a h = (a, tt)
    all_added x (y ∷ l) a (b, h) =
        elim (cmp x y) as (λ t. AllByRecursion P (match_ordering t (x ∷ y ∷ l) (y ∷ l) (y ∷ added cmp x l))) [ Less ↦ (a, (b, h)) | Equal ↦ (b, h) | Greater ↦ (b, all_added x l a h) ]

    all_union : (a b : List V) → AllByRecursion P a → AllByRecursion P b → AllByRecursion P (union cmp a b)
    all_union [] b h k = k
    all_union (x ∷ a) b (p, h) k = all_added x (union cmp a b) p (all_union a b h k)

    all_unless : (a b : List V) → AllByRecursion P a → AllByRecursion P b → AllByRecursion P (unless_empty a b)
    all_unless [] b h k = k
    all_unless (x ∷ a) b h k = h

    all_both : (a b : List V) → AllByRecursion P a → AllByRecursion P b → AllByRecursion P (both_or_either cmp a b)
    unfolding both_or_either
    all_both a b h k = all_unless (intersection cmp a b) (union cmp a b) (all_filter (has cmp b) a h) (all_union a b h k)

    all_joined : (c d : Candidates V) → IfSome c (AllByRecursion P) → IfSome d (AllByRecursion P) → IfSome (joined cmp c d) (AllByRecursion P)
    all_joined None d h k = tt
    all_joined (Some a) None h k = tt
    all_joined (Some a) (Some b) h k = all_both a b h k

    all_only : (x : Option V) → IfSome x P → IfSome (option_map only x) (AllByRecursion P)
    all_only None h = tt
    all_only (Some x) h = (h, tt)

    all_candidates : (n : ℕ) (f : Values V) → ((q : KeyBits) → IfSome (f q) P) → IfSome (candidates cmp n f) (AllByRecursion P)
    all_candidates zero f h = all_only (f []) (h [])
    all_candidates (suc n) f h = all_joined (candidates cmp n (after false f)) (candidates cmp n (after true f)) (all_candidates n (after false f) (λ q. h (false ∷ q))) (all_candidates n (after true f) (λ q. h (true ∷ q)))

    of_least : (l : List V) → AllByRecursion P l → IfSome (least l) P
    of_least [] h = tt
    of_least (x ∷ l) (a, h) = a

    of_stored : (c : Candidates V) (v : Option V) → IfSome c (AllByRecursion P) → IfSome (stored cmp c v) P
    of_stored None v h = tt
    of_stored (Some l) v h = elim (offers cmp l v) as (λ t. IfSome (cond t None (least l)) P) [ true ↦ tt | false ↦ of_least l h ]

  module _ {cmp : V → V → Ordering} (o : IsTotalOrder cmp) (exact : IsAntisymmetric cmp) (w : ℕ) (m : KeyMap V) (each : (k : KeyBits) → IfSome (map.get m k) P) where
    value_at : (k : KeyBits) (x : Option V) → map.get (least_table cmp w m) k ≡ x → IfSome x P
    value_at k None e = tt
    value_at k (Some y) e =
        subst (λ t. IfSome t P) (sym (knows_each_key o exact w m k (keeps_width o exact w m k (ap is_some e))).1.stored_there ∙ e)
        (of_stored cmp (candidates_at cmp w m k) (inherited_at cmp w m k) (all_candidates cmp (w - length k) (λ q. answer m (k ++ q)) (λ q. answered (k ++ q) None (map.get m) tt each)))

    pub least_values : (k : KeyBits) → IfSome (map.get (least_table cmp w m) k) P
    least_values k = value_at k (map.get (least_table cmp w m) k) refl
