-- Where each address has the same answer, or none has one.
use Rattle.std.proofs.Common.{◌≡◌, ℕ, zero, suc, Bool, true, false, cond, [], ◌∷◌, length, refl, ap, ◌∙◌, append-nil, Option, Some, None}
use Rattle.std.specs.Prelude.{◌||◌}
use Rattle.std.specs.Option.{option_map}
use Rattle.std.specs.declared.cmp.Ordering.{Ordering}
use Rattle.std.specs.Ordering.{is_eq}
use Rattle.std.specs.Cmp.{IsTotalOrder, tied_itself}
use Rattle.prefix_model.specs.Keys.{KeyBits}
use Rattle.prefix_model.specs.Tables.{Values, after}
use Rattle.prefix_model.specs.Candidates.{candidates, joined, only, has, offers, both_or_either, unless_empty, union}
use Rattle.prefix_model.specs.LeastTable.{entry, with_halves, placed, stored, inherited}

module _ {V : Type 0} {cmp : V → V → Ordering} (o : IsTotalOrder cmp) where
  -- the list of one value has it
  pub one_has : (x : V) → has cmp (only x) x ≡ true
  one_has x = ap (λ r. is_eq r || false) (tied_itself o x)

  joined_same : (a : Option V) → joined cmp (option_map only a) (option_map only a) ≡ option_map only a
  unfolding both_or_either
  joined_same None = refl
  joined_same (Some x) = ap (λ b. Some (unless_empty (cond b (x ∷ []) []) (union cmp (only x) (only x)))) (one_has x)

  -- the candidates of a key whose addresses all have the answer a
  pub candidates_uniform : (n : ℕ) (f : Values V) (a : Option V) → ((k : KeyBits) → length k ≡ n → f k ≡ a) → candidates cmp n f ≡ option_map only a
  candidates_uniform zero f a same = ap (option_map only) (same [] refl)
  candidates_uniform (suc n) f a same =
      (λ i. joined cmp (candidates_uniform n (after false f) a (λ k e. same (false ∷ k) (ap suc e)) i) (candidates_uniform n (after true f) a (λ k e. same (true ∷ k) (ap suc e)) i))
      ∙ joined_same a

  -- nothing is stored below a key with one candidate
  stored_once : (a v : Option V) → stored cmp (option_map only a) (inherited cmp (option_map only a) v) ≡ None
  unfolding offers
  stored_once None v = refl
  stored_once (Some x) None = ap (λ b. cond b None (Some x)) (one_has x)
  stored_once (Some x) (Some y) = go (has cmp (only x) y) refl
    where
      go : (b : Bool) → has cmp (only x) y ≡ b → stored cmp (Some (only x)) (cond b (Some y) (Some x)) ≡ None
      go true e = ap (λ b. cond b None (Some x)) e
      go false e = ap (λ b. cond b None (Some x)) (one_has x)

  -- what is placed there: at the key alone, and where a is not inherited already
  pub placed_uniform : (n : ℕ) (f : Values V) (a v : Option V) → ((k : KeyBits) → length k ≡ n → f k ≡ a) → placed cmp n f v ≡ entry (stored cmp (option_map only a) v)
  placed_uniform zero f a v same = ap (λ c. entry (stored cmp c v)) (candidates_uniform zero f a same)
  placed_uniform (suc n) f a v same =
      let u : Option V = inherited cmp (option_map only a) v in
      let none : entry (stored cmp (option_map only a) u) ≡ [] = ap entry (stored_once a v) in
      ap (λ c. with_halves (stored cmp c v) (placed cmp n (after false f) (inherited cmp c v)) (placed cmp n (after true f) (inherited cmp c v))) (candidates_uniform (suc n) f a same)
      ∙ (λ i. with_halves (stored cmp (option_map only a) v)
      ((placed_uniform n (after false f) a u (λ k e. same (false ∷ k) (ap suc e)) ∙ none) i) ((placed_uniform n (after true f) a u (λ k e. same (true ∷ k) (ap suc e)) ∙ none) i))
      ∙ append-nil (entry (stored cmp (option_map only a) v))
