-- Keys that begin with each other, and lists that are compared item by item.
use Rattle.std.proofs.Common.{◌≡◌, Bool, true, false, ◌&&◌, List, [], ◌∷◌, length, map, take, refl, sym, ap, ◌∙◌, arith}
use Rattle.std.specs.Ordering.{eq_by_cmp, is_eq}
use Rattle.std.specs.Cmp.{tied_itself}
use Rattle.std.specs.Cmp.Lexicographic.{pointwise}
use Rattle.prefix_model.specs.Keys.{KeyBits, key_cmp}
use Rattle.prefix_model.proofs.Order.{key_total, key_exact}
use Rattle.prefix_model.proofs.KeyLemmas.{both_ways, eq_to_equal}
use Rattle.prefix_model.specs.Masks.{begins_with}
use Rattle.prefix_model.proofs.Fronts.{front_take, front_itself, front_length}

take_whole : (xs : KeyBits) → take (length xs) xs ≡ xs
take_whole [] = refl
take_whole (x ∷ xs) = ap (λ ys. x ∷ ys) (take_whole xs)

fronts_same : (a b : KeyBits) → begins_with a b ≡ true → begins_with b a ≡ true → a ≡ b
fronts_same a b f g =
    let size : length a ≡ length b = omega (arith, front_length a b f, front_length b a g) in
    sym (front_take a b f) ∙ ap (λ n. take n b) size ∙ take_whole b

tied_same : (a b : KeyBits) → eq_by_cmp key_cmp a b ≡ true → a ≡ b
tied_same a b e = key_exact a b (eq_to_equal (key_cmp a b) e)

same_tied : (a b : KeyBits) → a ≡ b → eq_by_cmp key_cmp a b ≡ true
same_tied a b e = ap (λ x. eq_by_cmp key_cmp x b) e ∙ ap is_eq (tied_itself key_total b)

same_front : (a b : KeyBits) → a ≡ b → begins_with a b ≡ true
same_front a b e = ap (begins_with a) (sym e) ∙ front_itself a

-- the second test tells whether the keys are one, where b begins with a
pub told_second : (r : Bool) (a b : KeyBits) → r ≡ begins_with b a → begins_with a b ≡ true → r ≡ eq_by_cmp key_cmp a b
told_second r a b test front = both_ways r (eq_by_cmp key_cmp a b) (λ t. same_tied a b (fronts_same a b front (sym test ∙ t))) (λ e. test ∙ same_front b a (sym (tied_same a b e)))

pub told_first : (r : Bool) (a b : KeyBits) → r ≡ begins_with a b → r ≡ false → r ≡ eq_by_cmp key_cmp a b
told_first r a b test none = both_ways r (eq_by_cmp key_cmp a b) (λ t. absurd (cc)) (λ e. test ∙ same_front a b (tied_same a b e))

-- ---- entries without values

and_so : (b c : Bool) → c ≡ true → (b && c) ≡ b
and_so true c e = e
and_so false c e = refl

pub keys_alone : (es fs : List (KeyBits × Unit {0})) → pointwise (λ p q. eq_by_cmp key_cmp p.0 q.0 && true) es fs ≡ pointwise (eq_by_cmp key_cmp) (map (λ e. e.0) es) (map (λ e. e.0) fs)
keys_alone [] [] = refl
keys_alone [] (f ∷ fs) = refl
keys_alone (e ∷ es) [] = refl
keys_alone (e ∷ es) (f ∷ fs) = λ i. and_so (eq_by_cmp key_cmp e.0 f.0) true refl i && keys_alone es fs i
