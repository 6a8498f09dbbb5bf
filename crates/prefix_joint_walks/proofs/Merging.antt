-- What an iterator over two families, or over two maps, has left.
use Rattle.std.proofs.Common.{◌≡◌, suc, ◌<◌, List, [], ◌∷◌, length, sym, ◌∙◌, arith}
use Rattle.std.specs.declared.cmp.Ordering.{Ordering}
use Rattle.std.specs.declared.cmp.Ordering.TheVariants.{Less, Equal, Greater}
use Rattle.std.specs.Ordering.{match_ordering}
use Rattle.prefix_model.specs.Keys.{KeyBits, key_cmp}
use Rattle.prefix_joint_walks.specs.Joint.{both}
use Rattle.prefix_joint_walks.specs.Unions.{merged, on_left, on_right, on_both}

-- where the first family has ended, an item of the second leaves fewer
pub less_second : {A : Type 0} (es1 fs1 es2 fs2 : List (KeyBits × A)) (x : KeyBits × A) → es1 ≡ [] → fs1 ≡ [] → es2 ≡ x ∷ fs2 → length (both fs1 fs2) < length (both es1 es2)
less_second es1 fs1 es2 fs2 x a b c =
    let e : length (both es1 es2) ≡ suc (length (both fs1 fs2)) = (λ i. length (both (a i) (c i))) ∙ (λ i. suc (length (both (sym b i) fs2))) in
    omega (arith, e)

-- the first item of two merged lists, and the others
module _ {L R : Type 0} (es : List (KeyBits × L)) (fs : List (KeyBits × R)) where
  pub left_only : (k : KeyBits) (l : L) (ls : List (KeyBits × L)) → es ≡ (k, l) ∷ ls → fs ≡ [] → merged es fs ≡ (k, on_left l) ∷ merged ls fs
  left_only k l ls e f = (λ i. merged (e i) (f i)) ∙ (λ i. (k, on_left l) ∷ merged ls (sym f i))

  pub right_only : (j : KeyBits) (r : R) (rs : List (KeyBits × R)) → es ≡ [] → fs ≡ (j, r) ∷ rs → merged es fs ≡ (j, on_right r) ∷ merged es rs
  right_only j r rs e f = (λ i. merged (e i) (f i)) ∙ (λ i. (j, on_right r) ∷ merged (sym e i) rs)

  module _ (k : KeyBits) (l : L) (ls : List (KeyBits × L)) (j : KeyBits) (r : R) (rs : List (KeyBits × R)) (e : es ≡ (k, l) ∷ ls) (f : fs ≡ (j, r) ∷ rs) where
    by_order : (o : Ordering) → o ≡ key_cmp k j → merged es fs ≡ match_ordering o ((k, on_left l) ∷ merged ls ((j, r) ∷ rs)) ((k, on_both l r) ∷ merged ls rs) ((j, on_right r) ∷ merged ((k, l) ∷ ls) rs)
    by_order o c = (λ i. merged (e i) (f i)) ∙ (λ i. match_ordering (sym c i) ((k, on_left l) ∷ merged ls ((j, r) ∷ rs)) ((k, on_both l r) ∷ merged ls rs) ((j, on_right r) ∷ merged ((k, l) ∷ ls) rs))

    pub left_first : Less ≡ key_cmp k j → merged es fs ≡ (k, on_left l) ∷ merged ls fs
    left_first c = by_order Less c ∙ (λ i. (k, on_left l) ∷ merged ls (sym f i))

    pub both_first : Equal ≡ key_cmp k j → merged es fs ≡ (k, on_both l r) ∷ merged ls rs
    both_first c = by_order Equal c

    pub right_first : Greater ≡ key_cmp k j → merged es fs ≡ (j, on_right r) ∷ merged es rs
    right_first c = by_order Greater c ∙ (λ i. (j, on_right r) ∷ merged (sym e i) rs)
