-- Steps of the lists of candidates.
use Rattle.std.proofs.Common.{◌≡◌, ◌≢◌, List, [], ◌∷◌, length, refl, ap, ◌∙◌, arith}
use Rattle.std.specs.declared.cmp.Ordering.{Ordering}
use Rattle.prefix_model.specs.Candidates.{intersection, union, both_or_either, unless_empty}

module _ {V : Type 0} (cmp : V → V → Ordering) where
  pub either_of : (a b : List V) (both either : List V) → both ≡ intersection cmp a b → length both ≡ 0 → either ≡ union cmp a b → either ≡ both_or_either cmp a b
  unfolding both_or_either
  either_of a b [] either e l f = f ∙ ap (λ l. unless_empty l (union cmp a b)) e
  either_of a b (x ∷ l) either e z f = absurd (omega arith)

  pub both_of : (a b : List V) (both : List V) → both ≡ intersection cmp a b → length both ≢ 0 → both ≡ both_or_either cmp a b
  unfolding both_or_either
  both_of a b [] e l = absurd (l refl)
  both_of a b (x ∷ l) e z = ap (λ l. unless_empty l (union cmp a b)) e
