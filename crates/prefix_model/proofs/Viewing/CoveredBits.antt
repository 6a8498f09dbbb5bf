-- The bits of a node, without what is not at or below a place.
use Rattle.std.specs.Prelude.{◌≡◌, ℕ, ◌&&◌, Bool, true, false, cond, List, [], ◌∷◌, ◌++◌, length, map, take, drop, Option, Some, None, is_some, bit_and}
use Rattle.std.proofs.Common.{refl, sym, ap, ◌∙◌}
use Rattle.prefix_model.specs.Keys.{KeyBits}
use Rattle.prefix_model.specs.Tables.{Values}
use Rattle.prefix_model.specs.Positions.{data_places, child_places, bitmap, data_bits, child_bits}
use Rattle.prefix_model.specs.Masks.{data_mask, child_mask, begins_with}
use Rattle.prefix_model.specs.Walks.{node_of}
use Rattle.prefix_model.specs.Views.{under}
use Rattle.prefix_model.proofs.Fronts.{drop_front, front_front}
use Rattle.prefix_model.proofs.Nodes.{parts}
use Rattle.prefix_model.proofs.MaskBits.{meet}

same_map : {A : Type 0} (f g : KeyBits → A) → ((k : KeyBits) → f k ≡ g k) → (ks : List KeyBits) → map f ks ≡ map g ks
same_map f g h [] = refl
same_map f g h (k ∷ ks) = λ i. h k i ∷ same_map f g h ks i

module _ (p : KeyBits) where
  inner : KeyBits
  inner = drop (length (node_of p)) p

  whole : p ≡ node_of p ++ inner
  unfolding inner
  whole = let q = parts p in q.whole ∙ ap (λ x. node_of p ++ x) (sym (ap (drop (length (node_of p))) q.whole ∙ drop_front (node_of p) q.inner))

  covered : (s : KeyBits) → begins_with p (node_of p ++ s) ≡ begins_with inner s
  covered s = ap (λ x. begins_with x (node_of p ++ s)) whole ∙ front_front (node_of p) inner s

  pub data_covered : {V : Type 0} (f : Values V) (bits : KeyBits) (d len r mask : ℕ) → d ≡ length (node_of p) → take len bits ≡ p
      → r ≡ data_bits f (node_of p) → mask ≡ data_mask (begins_with (drop d (take len bits))) → bit_and r mask ≡ data_bits (under p f) (node_of p)
  unfolding inner
  data_covered {V} f bits d len r mask e t h m =
      (λ i. bit_and (h i) ((m ∙ (λ j. data_mask (begins_with (drop (e j) (t j))))) i))
      ∙ meet data_places (λ s. is_some (f (node_of p ++ s))) (begins_with inner)
      ∙ ap bitmap (same_map (λ s. is_some (f (node_of p ++ s)) && begins_with inner s) (λ s. is_some (under p f (node_of p ++ s)))
      (λ s. swap (f (node_of p ++ s)) (begins_with inner s) ∙ ap (λ b. is_some (cond b (f (node_of p ++ s)) None)) (sym (covered s))) data_places)
    where
      swap : (o : Option V) (b : Bool) → (is_some o && b) ≡ is_some (cond b o None)
      swap None true = refl
      swap None false = refl
      swap (Some x) true = refl
      swap (Some x) false = refl

  pub children_covered : (f : KeyBits → Bool) (bits : KeyBits) (d len r mask : ℕ) → d ≡ length (node_of p) → take len bits ≡ p
      → r ≡ child_bits f (node_of p) → mask ≡ child_mask (begins_with (drop d (take len bits))) → bit_and r mask ≡ child_bits (λ c. begins_with p c && f c) (node_of p)
  unfolding inner
  children_covered f bits d len r mask e t h m =
      (λ i. bit_and (h i) ((m ∙ (λ j. child_mask (begins_with (drop (e j) (t j))))) i))
      ∙ meet child_places (λ s. f (node_of p ++ s)) (begins_with inner)
      ∙ ap bitmap (same_map (λ s. f (node_of p ++ s) && begins_with inner s) (λ s. begins_with p (node_of p ++ s) && f (node_of p ++ s))
      (λ s. swap (f (node_of p ++ s)) (begins_with inner s) ∙ ap (λ b. b && f (node_of p ++ s)) (sym (covered s))) child_places)
    where
      swap : (a b : Bool) → (a && b) ≡ (b && a)
      swap true true = refl
      swap true false = refl
      swap false true = refl
      swap false false = refl
