-- The first entry of a walk, from the first entry of the table that does not stand before its place.
use Rattle.std.specs.Prelude.{◌≡◌, ◌&&◌, Bool, true, false, [], Option, Some, None, IsSome}
use Rattle.std.proofs.Common.{T, refl, sym, ap, ◌∙◌, subst}
use Rattle.std.specs.Ordering.{match_ordering, ordering_reverse}
use Rattle.std.specs.declared.cmp.Ordering.TheVariants.{Less, Greater}
use Rattle.prefix_model.specs.Keys.{KeyBits, key_cmp}
use Rattle.prefix_model.specs.Tables.{Values}
use Rattle.prefix_model.specs.Walks.{begins_with, stands_from}
use Rattle.prefix_model.proofs.KeyLemmas.{both_true, lt_to_less}
use Rattle.prefix_model.proofs.Order.{key_total}
use Rattle.prefix_model.specs.Searches.{comes_from, IsFirst, in_walk}
use Rattle.prefix_model.specs.NodeSearches.{IsFirstOf, StandsBelow}
use Rattle.prefix_model.proofs.Walking.SortedWalks.{stands_comes}
use Rattle.prefix_model.proofs.Walking.FromNode.{between}

not_some : {A : Type 0} (o : Option A) → (IsSome o → ⊥) → o ≡ None
not_some None h = refl
not_some (Some x) h = absurd (h refl)

not_from_behind : (u k : KeyBits) → key_cmp k u ≡ Less → stands_from true u k ≡ true → ⊥
not_from_behind u k l s =
    let g : key_cmp u k ≡ Greater = key_total.antisymm u k ∙ ap ordering_reverse l in
    let f : stands_from true u k ≡ false = ap (λ o. match_ordering o true true false) g in cc

module _ {V : Type 0} (f : Values V) (w q : KeyBits) (i : Bool) where
  -- what passes the test of the walk stands from its place on
  passing : (k : KeyBits) → in_walk w q i k ≡ true → (begins_with w k ≡ true) × (stands_from i q k ≡ true)
  passing k p = let both = both_true (begins_with w k) (comes_from q i k) p in (both.0, stands_comes q i k ∙ both.1)

  pub first_within : (e : KeyBits × V) → begins_with w e.0 ≡ true → IsFirstOf f (StandsBelow [] q i) (Some e) → IsFirst f (in_walk w q i) (Some e)
  first_within e front h = record {
    passes = let from = sym (stands_comes q i e.0) ∙ h.chosen.1 in λ j. front j && from j;
    stored = h.stored;
    before = λ k p b. not_some (f k) (λ s. not_from_behind e.0 k (lt_to_less _ (subst T (sym b) tt)) (h.first k s (refl, (passing k p).1)));
  }

  pub none_within : (e : KeyBits × V) → begins_with w q ≡ true → begins_with w e.0 ≡ false → IsFirstOf f (StandsBelow [] q i) (Some e) → IsFirst f (in_walk w q i) None
  none_within e way other h = record {
    none = λ k p. not_some (f k) (λ s.
        let pass = passing k p in
        let front = between w q e.0 k i way pass.0 h.chosen.1 (h.first k s (refl, pass.1)) in cc);
  }

  pub none_from : IsFirstOf f (StandsBelow [] q i) None → IsFirst f (in_walk w q i) None
  none_from h = record { none = λ k p. not_some (f k) (λ s. h k s (refl, (passing k p).1)) }
