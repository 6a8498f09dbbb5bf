-- The candidates of a place by those of its halves, and where all addresses below have one answer.
use Rattle.std.proofs.Common.{◌≡◌, ℕ, suc, ◌+◌, ◌-◌, ◌<◌, Bool, true, false, [], ◌∷◌, ◌++◌, length, sym, ap, ◌∙◌, arith, append_assoc, length-append, Option}
use Rattle.std.specs.Option.{option_map}
use Rattle.std.specs.declared.cmp.Ordering.{Ordering}
use Rattle.std.specs.Cmp.{IsTotalOrder}
use Rattle.prefix_model.specs.Keys.{KeyBits}
use Rattle.prefix_model.specs.Tables.{Values}
use Rattle.prefix_model.specs.Candidates.{candidates, joined, only}
use Rattle.prefix_model.proofs.Fewest.Uniform.{candidates_uniform}
use Rattle.prefix_aggregate.specs.ChangeSets.{candidates_from}
use Rattle.prefix_aggregate.specs.Trees.{from}

module _ {V : Type 0} (cmp : V → V → Ordering) (n : ℕ) (f : Values V) where
  half_there : (s : KeyBits) (b : Bool) → candidates cmp (n - length (s ++ b ∷ [])) (λ k. f (s ++ (b ∷ k))) ≡ candidates_from cmp n f (s ++ b ∷ [])
  half_there s b = λ i. candidates cmp (n - length (s ++ b ∷ [])) (λ k. f (sym (append_assoc s (b ∷ []) k) i))

  pub joined_there : (s : KeyBits) → length s < n → candidates_from cmp n f s ≡ joined cmp (candidates_from cmp n f (s ++ false ∷ [])) (candidates_from cmp n f (s ++ true ∷ []))
  joined_there s deep =
      let low = length-append s (false ∷ []) in
      let high = length-append s (true ∷ []) in
      let m : n - length s ≡ suc (n - length s - 1) = omega (arith, deep) in
      let a : n - length s - 1 ≡ n - length (s ++ false ∷ []) = omega (arith, low) in
      let b : n - length s - 1 ≡ n - length (s ++ true ∷ []) = omega (arith, high) in
      ap (λ m. candidates cmp m (λ k. f (s ++ k))) m
      ∙ (λ i. joined cmp ((ap (λ m. candidates cmp m (λ k. f (s ++ (false ∷ k)))) a ∙ half_there s false) i) ((ap (λ m. candidates cmp m (λ k. f (s ++ (true ∷ k)))) b ∙ half_there s true) i))

  -- the candidates of a child
  pub child_there : (c : KeyBits) (m : ℕ) → n - length c ≡ m → candidates_from cmp n f c ≡ candidates cmp m (from c f)
  child_there c m e = ap (λ m. candidates cmp m (from c f)) e

module _ {V : Type 0} {cmp : V → V → Ordering} (o : IsTotalOrder cmp) (n : ℕ) (f : Values V) (s : KeyBits) (a : Option V) (same : (k : KeyBits) → f (s ++ k) ≡ a) where
  -- where all that goes on from a place has one answer, it is the candidate there, and at the halves
  pub uniform_there : candidates_from cmp n f s ≡ option_map only a
  uniform_there = candidates_uniform o (n - length s) (λ k. f (s ++ k)) a (λ k _. same k)

  pub uniform_half : (b : Bool) → candidates_from cmp n f (s ++ b ∷ []) ≡ option_map only a
  uniform_half b = candidates_uniform o (n - length (s ++ b ∷ [])) (λ k. f ((s ++ b ∷ []) ++ k)) a (λ k _. ap f (append_assoc s (b ∷ []) k) ∙ same (b ∷ k))

  pub hidden_half : (b : Bool) → candidates_from cmp n f (s ++ b ∷ []) ≡ candidates_from cmp n f s
  hidden_half b = uniform_half b ∙ sym uniform_there
