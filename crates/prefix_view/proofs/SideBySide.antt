-- Two walks side by side.
use Rattle.std.specs.Prelude.{◌≡◌, ◌↔◌, List, [], ◌∷◌, map}
use Rattle.std.proofs.Common.{sym, ap, ◌∙◌}
use Rattle.prefix_model.specs.Keys.{KeyBits}
use Rattle.prefix_model.specs.Walks.{walk}
use Rattle.prefix_model.specs.Views.{Seen}

abbrev pub keys_in : {A : Type 0} → List (KeyBits × A) → List KeyBits
keys_in es = map (λ e. e.0) es

module _ {A B : Type 0} where
  -- what is left has the same keys exactly where the whole has
  abbrev pub IsSameSoFar : List (KeyBits × A) → List (KeyBits × B) → List (KeyBits × A) → List (KeyBits × B) → Type 0
  IsSameSoFar es fs whole other = (keys_in es ≡ keys_in fs) ↔ (keys_in whole ≡ keys_in other)

  -- both walks are those of the two views, and what is left of them has the same keys exactly where they have
  pub record IsPairing (u : Seen A) (v : Seen B) (left : Seen A) (right : Seen B) (es : List (KeyBits × A)) (fs : List (KeyBits × B)) : Type 0 where
    pub same_left : u ≡ left
    pub same_right : v ≡ right
    pub so_far : IsSameSoFar es fs (walk left.entries left.place) (walk right.entries right.place)

  module _ (es es' whole : List (KeyBits × A)) (fs fs' other : List (KeyBits × B)) (so_far : IsSameSoFar es fs whole other) where
    pub goes_on : (p q : KeyBits) (x : A) (y : B) → es ≡ (p, x) ∷ es' → fs ≡ (q, y) ∷ fs' → p ≡ q → IsSameSoFar es' fs' whole other
    goes_on p q x y e f s = (
      λ h. so_far.0 (ap keys_in e ∙ (λ i. s i ∷ h i) ∙ sym (ap keys_in f)),
      λ h. let k : p ∷ keys_in es' ≡ q ∷ keys_in fs' = sym (ap keys_in e) ∙ so_far.1 h ∙ ap keys_in f in cc,
    )

    pub differs : (p q : KeyBits) (x : A) (y : B) → es ≡ (p, x) ∷ es' → fs ≡ (q, y) ∷ fs' → (p ≡ q → ⊥) → keys_in whole ≡ keys_in other → ⊥
    differs p q x y e f n h =
        let k : p ∷ keys_in es' ≡ q ∷ keys_in fs' = sym (ap keys_in e) ∙ so_far.1 h ∙ ap keys_in f in
        n (cc)

    pub right_ends : (p : KeyBits) (x : A) → es ≡ (p, x) ∷ es' → fs ≡ [] → keys_in whole ≡ keys_in other → ⊥
    right_ends p x e f h = let k : p ∷ keys_in es' ≡ [] = sym (ap keys_in e) ∙ so_far.1 h ∙ ap keys_in f in cc

    pub left_ends : (q : KeyBits) (y : B) → es ≡ [] → fs ≡ (q, y) ∷ fs' → keys_in whole ≡ keys_in other → ⊥
    left_ends q y e f h = let k : [] ≡ q ∷ keys_in fs' = sym (ap keys_in e) ∙ so_far.1 h ∙ ap keys_in f in cc

    pub both_end : es ≡ [] → fs ≡ [] → keys_in whole ≡ keys_in other
    both_end e f = so_far.0 (ap keys_in e ∙ sym (ap keys_in f))
