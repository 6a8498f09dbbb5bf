-- A closure that is asked pair by pair.
use Rattle.std.specs.Prelude.{◌≡◌, Bool, true, false, List, [], ◌∷◌}
use Rattle.std.proofs.Common.{refl, sym, ap, ◌∙◌, subst, inl, inr}
use Rattle.prefix_model.specs.Keys.{KeyBits, same_key}
use Rattle.prefix_model.specs.Walks.{walk}
use Rattle.prefix_model.proofs.KeyLemmas.{same_key-same, same_key-itself}
use Rattle.prefix_model.specs.Views.{Seen}
use Rattle.prefix_view.specs.Pairs.{Asks, AsksPairs}

module _ {F X Y A B : Type 0} (step : F → X → Y → Bool → F → Type 0) (value : X → A) (other : Y → B) where
  -- what the calls to come answer is the answer of all
  pub record IsAsking (start : F) (left : Seen A) (right : Seen B) (f : F) (u : Seen A) (v : Seen B) (es : List (KeyBits × A)) (fs : List (KeyBits × B)) : Type 0 where
    pub same_left : u ≡ left
    pub same_right : v ≡ right
    pub so_far : (r : Bool) → AsksPairs step value other f es fs r → AsksPairs step value other start (walk left.entries left.place) (walk right.entries right.place) r

  module _ (f : F) (es es' : List (KeyBits × A)) (fs fs' : List (KeyBits × B)) where
    at : (d : KeyBits × A) (k : KeyBits × B) → es ≡ d ∷ es' → fs ≡ k ∷ fs' → (r : Bool) → AsksPairs step value other f (d ∷ es') (k ∷ fs') r → AsksPairs step value other f es fs r
    at d k e h r t = subst (λ x. AsksPairs step value other f x fs r) (sym e) (subst (λ x. AsksPairs step value other f (d ∷ es') x r) (sym h) t)

    pub both_go : (p q : KeyBits) (a : A) (b : B) (g : F) → es ≡ (p, a) ∷ es' → fs ≡ (q, b) ∷ fs' → p ≡ q → Asks step value other f a b true g → (r : Bool) → AsksPairs step value other g es' fs' r → AsksPairs step value other f es fs r
    both_go p q a b g e h s k r t =
        let same : same_key p q ≡ true = ap (same_key p) (sym s) ∙ same_key-itself p in
        at (p, a) (q, b) e h r (inr (same, (g, true, k, inr (refl, t))))

    pub answered_false : (p q : KeyBits) (a : A) (b : B) (g : F) → es ≡ (p, a) ∷ es' → fs ≡ (q, b) ∷ fs' → p ≡ q → Asks step value other f a b false g → AsksPairs step value other f es fs false
    answered_false p q a b g e h s k =
        let same : same_key p q ≡ true = ap (same_key p) (sym s) ∙ same_key-itself p in
        at (p, a) (q, b) e h false (inr (same, (g, false, k, inl (refl, refl))))

    pub keys_differ : (p q : KeyBits) (a : A) (b : B) → es ≡ (p, a) ∷ es' → fs ≡ (q, b) ∷ fs' → (p ≡ q → ⊥) → AsksPairs step value other f es fs false
    keys_differ p q a b e h n =
        elim (same_key p q) as (λ z. same_key p q ≡ z → AsksPairs step value other f es fs false) [
          | true ↦ λ z. absurd (n (same_key-same p q z))
          | false ↦ λ z. at (p, a) (q, b) e h false (inl (z, refl))
        ] refl

    pub right_ends : (d : KeyBits × A) → es ≡ d ∷ es' → fs ≡ [] → AsksPairs step value other f es fs false
    right_ends d e h = subst (λ x. AsksPairs step value other f x fs false) (sym e) (subst (λ x. AsksPairs step value other f (d ∷ es') x false) (sym h) refl)

    pub left_ends : (k : KeyBits × B) → es ≡ [] → fs ≡ k ∷ fs' → AsksPairs step value other f es fs false
    left_ends k e h = subst (λ x. AsksPairs step value other f x fs false) (sym e) (subst (λ x. AsksPairs step value other f [] x false) (sym h) refl)

  pub both_end : (f : F) (es : List (KeyBits × A)) (fs : List (KeyBits × B)) → es ≡ [] → fs ≡ [] → AsksPairs step value other f es fs true
  both_end f es fs e h = subst (λ x. AsksPairs step value other f x fs true) (sym e) (subst (λ x. AsksPairs step value other f [] x true) (sym h) refl)
