-- The change sets of a tree of nodes are those of its positions.
use Rattle.std.proofs.Common.{◌≡◌, ℕ, zero, suc, ◌+◌, ◌-◌, ◌*◌, ◌≤◌, Bool, true, false, cond, List, [], ◌∷◌, ◌++◌, length, map, refl, sym, ap, ◌∙◌, subst, arith, append_assoc, length-append, T}
use Rattle.std.specs.Prelude.{◌==◌}
use Rattle.std.specs.List.{flat_map, list_all}
use Rattle.std.specs.declared.cmp.Ordering.{Ordering}
use Rattle.std.proofs.Math.Facts.{eqb_yes}
use Rattle.prefix_model.specs.Keys.{KeyBits}
use Rattle.prefix_model.specs.Tables.{Values}
use Rattle.prefix_model.specs.Positions.{child_places}
use Rattle.prefix_model.proofs.KeyLemmas.{both_true}
use Rattle.prefix_aggregate.specs.ChangeSets.{mask_of, lists_of}
use Rattle.prefix_aggregate.specs.Trees.{from, tree_masks, tree_lists, tree_positions}
use Rattle.prefix_aggregate.proofs.Relative.{mask_there, lists_there}

-- ---- lists of lists

map-two : {A B : Type 0} (f : A → B) (xs ys : List A) → map f (xs ++ ys) ≡ map f xs ++ map f ys
map-two f [] ys = refl
map-two f (x ∷ xs) ys = ap (λ l. f x ∷ l) (map-two f xs ys)

pub flat-two : {A B : Type 0} (f : A → List B) (xs ys : List A) → flat_map f (xs ++ ys) ≡ flat_map f xs ++ flat_map f ys
flat-two f [] ys = refl
flat-two f (x ∷ xs) ys = ap (λ l. f x ++ l) (flat-two f xs ys) ∙ sym (append_assoc (f x) (flat_map f xs) (flat_map f ys))

pub flat-mapped : {A B C : Type 0} (f : B → List C) (g : A → B) (xs : List A) → flat_map f (map g xs) ≡ flat_map (λ x. f (g x)) xs
flat-mapped f g [] = refl
flat-mapped f g (x ∷ xs) = ap (λ l. f (g x) ++ l) (flat-mapped f g xs)

map-flat : {A B C : Type 0} (f : B → C) (g : A → List B) (xs : List A) → map f (flat_map g xs) ≡ flat_map (λ x. map f (g x)) xs
map-flat f g [] = refl
map-flat f g (x ∷ xs) = map-two f (g x) (flat_map g xs) ∙ ap (λ l. map f (g x) ++ l) (map-flat f g xs)

flat-flat : {A B C : Type 0} (f : B → List C) (g : A → List B) (xs : List A) → flat_map f (flat_map g xs) ≡ flat_map (λ x. flat_map f (g x)) xs
flat-flat f g [] = refl
flat-flat f g (x ∷ xs) = flat-two f (g x) (flat_map g xs) ∙ ap (λ l. flat_map f (g x) ++ l) (flat-flat f g xs)

flat-alike : {B : Type 0} (f g : KeyBits → List B) (xs : List KeyBits) → list_all (λ c. length c == 5) xs ≡ true → ((c : KeyBits) → length c ≡ 5 → f c ≡ g c) → flat_map f xs ≡ flat_map g xs
flat-alike f g [] h e = refl
flat-alike f g (c ∷ xs) h e =
    let parts = both_true (length c == 5) (list_all (λ c. length c == 5) xs) h in
    λ i. e c (eqb_yes (subst T (sym parts.0) tt)) i ++ flat-alike f g xs parts.1 e i

five_more : list_all (λ c. length c == 5) child_places ≡ true
unfolding child_places
five_more = refl

map_if : {A B : Type 0} (f : A → B) (b : Bool) (xs : List A) → cond b (map f xs) [] ≡ map f (cond b xs [])
map_if f true xs = refl
map_if f false xs = refl

flat_if : {A B : Type 0} (f : A → List B) (b : Bool) (xs : List A) → cond b (flat_map f xs) [] ≡ flat_map f (cond b xs [])
flat_if f true xs = refl
flat_if f false xs = refl

-- ---- trees

module _ {V : Type 0} (cmp : V → V → Ordering) (w : ℕ) (f : Values V) (kept : KeyBits → Bool) where
  pub masks_of_tree : (l : ℕ) (p : KeyBits) → length p + 5 * l ≤ w → tree_masks cmp l (w - length p) (from p f) (from p kept) ≡ map (mask_of cmp w f) (tree_positions l kept p)
  masks_of_tree zero p h = ap (λ m. m ∷ []) (sym (mask_there cmp w f p (omega arith)))
  masks_of_tree (suc l) p h =
      let below : (c : KeyBits) → length c ≡ 5 → tree_masks cmp l (w - length p - 5) (from c (from p f)) (from c (from p kept)) ≡ map (mask_of cmp w f) (tree_positions l kept (p ++ c)) = λ c five.
      let size = length-append p c in
      let n : w - length p - 5 ≡ w - length (p ++ c) = omega (arith, size, five) in
      (λ i. tree_masks cmp l (n i) (λ k. f (sym (append_assoc p c k) i)) (λ k. kept (sym (append_assoc p c k) i))) ∙ masks_of_tree l (p ++ c) (omega (arith, size, five))
      in
      λ i. sym (mask_there cmp w f p (omega arith)) i ∷ (
      flat-alike (λ c. cond (kept (p ++ c)) (tree_masks cmp l (w - length p - 5) (from c (from p f)) (from c (from p kept))) []) (λ c. map (mask_of cmp w f) (cond (kept (p ++ c)) (tree_positions l kept (p ++ c)) [])) child_places five_more
      (λ c five. ap (λ x. cond (kept (p ++ c)) x []) (below c five) ∙ map_if (mask_of cmp w f) (kept (p ++ c)) (tree_positions l kept (p ++ c)))
      ∙ sym (map-flat (mask_of cmp w f) (λ c. cond (kept (p ++ c)) (tree_positions l kept (p ++ c)) []) child_places)
      ) i

  pub lists_of_tree : (l : ℕ) (p : KeyBits) → length p + 5 * l ≤ w → tree_lists cmp l (w - length p) (from p f) (from p kept) ≡ flat_map (lists_of cmp w f) (tree_positions l kept p)
  lists_of_tree zero p h = sym (lists_there cmp w f p (omega arith)) ∙ sym (append-none (lists_of cmp w f p))
    where
      append-none : {A : Type 0} (xs : List A) → xs ++ [] ≡ xs
      append-none [] = refl
      append-none (x ∷ xs) = ap (λ l. x ∷ l) (append-none xs)
  lists_of_tree (suc l) p h =
      let below : (c : KeyBits) → length c ≡ 5 → tree_lists cmp l (w - length p - 5) (from c (from p f)) (from c (from p kept)) ≡ flat_map (lists_of cmp w f) (tree_positions l kept (p ++ c)) = λ c five.
      let size = length-append p c in
      let n : w - length p - 5 ≡ w - length (p ++ c) = omega (arith, size, five) in
      (λ i. tree_lists cmp l (n i) (λ k. f (sym (append_assoc p c k) i)) (λ k. kept (sym (append_assoc p c k) i))) ∙ lists_of_tree l (p ++ c) (omega (arith, size, five))
      in
      λ i. sym (lists_there cmp w f p (omega arith)) i ++ (
      flat-alike (λ c. cond (kept (p ++ c)) (tree_lists cmp l (w - length p - 5) (from c (from p f)) (from c (from p kept))) []) (λ c. flat_map (lists_of cmp w f) (cond (kept (p ++ c)) (tree_positions l kept (p ++ c)) [])) child_places five_more
      (λ c five. ap (λ x. cond (kept (p ++ c)) x []) (below c five) ∙ flat_if (lists_of cmp w f) (kept (p ++ c)) (tree_positions l kept (p ++ c)))
      ∙ sym (flat-flat (lists_of cmp w f) (λ c. cond (kept (p ++ c)) (tree_positions l kept (p ++ c)) []) child_places)
      ) i
