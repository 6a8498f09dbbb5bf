-- Steps of walks.
use Rattle.std.specs.FinMap as map
use Rattle.std.proofs.Common.{◌≡◌, ℕ, ◌≤◌, Bool, true, false, [], ◌∷◌, length, take, Some, sym, ap, ◌∙◌, arith, length-take}
use Rattle.prefix_model.specs.Keys.{KeyBits}
use Rattle.prefix_model.specs.Tables.{KeyMap}
use Rattle.prefix_model.specs.Walks.{begins_with, walk_from}
use Rattle.prefix_model.specs.Searches.{comes_from, IsFirst, in_walk}
use Rattle.prefix_model.proofs.KeyLemmas.{both_true}
use Rattle.prefix_model.proofs.Fronts.{front_take, front_length}
use Rattle.prefix_model.proofs.KeyLists.{take_take}
use Rattle.prefix_model.proofs.Walking.SortedWalks.{walk_some}
use Rattle.prefix_map.specs.Searches.{IsFound, IsPosition, entry_from, found_key, walked_from, position_key, rest_of}
use Rattle.prefix_map.specs.declared.search.Found.{Found}
use Rattle.prefix_map.specs.declared.search.Position.{Position}

module _ {R T : Type 0} (bits : R → KeyBits) (w : ℕ) (whole : (k : R) → length (bits k) ≡ w) where
  module _ (m : KeyMap T) (p : Position R) (position : IsPosition w p) (found : Found R T) (first : IsFirst (map.get m) (in_walk (walked_from bits p) (position_key bits p) p.inclusive) (Some (entry_from bits 0 found))) (is_found : IsFound bits w 0 (bits p.key) found) where
    front : begins_with (walked_from bits p) (found_key bits found) ≡ true
    front = (both_true (begins_with (walked_from bits p) (found_key bits found)) (comes_from (position_key bits p) p.inclusive (found_key bits found)) first.passes).0

    walked_length : length (walked_from bits p) ≡ p.within
    walked_length = let l = position.within in let f = position.fits in omega (arith, length-take p.within (bits p.key), whole p.key, l, f)

    found_length : length (found_key bits found) ≡ found.len
    found_length = let f = is_found.fits in omega (arith, length-take found.len (bits found.key), whole found.key, f)

    pub stays_within : p.within ≤ found.len
    stays_within = let l = front_length (walked_from bits p) (found_key bits found) front in omega (arith, l, walked_length, found_length)

    same_walk : walked_from bits p ≡ take p.within (bits found.key)
    same_walk =
        sym (front_take (walked_from bits p) (found_key bits found) front)
        ∙ ap (λ n. take n (found_key bits found)) walked_length
        ∙ take_take (bits found.key) p.within found.len stays_within

    pub rest_behind : rest_of bits m p ≡ entry_from bits 0 found ∷ rest_of bits m (record { key = found.key; within = p.within; len = found.len; inclusive = false })
    rest_behind =
        walk_some m (walked_from bits p) (position_key bits p) p.inclusive (entry_from bits 0 found) first
        ∙ ap (λ u. entry_from bits 0 found ∷ walk_from m u (found_key bits found) false) same_walk

-- ---- a walk by the prefix at which it stands

module _ {R T : Type 0} (bits : R → KeyBits) where
  pub rest_is : (m : KeyMap T) (p : Position R) (key : KeyBits) (w : ℕ) (i : Bool) → p.within ≡ w → p.inclusive ≡ i → position_key bits p ≡ key → p.within ≤ p.len → rest_of bits m p ≡ walk_from m (take w key) key i
  rest_is m p key w i ew ei ek short =
      let front : walked_from bits p ≡ take w key = sym (take_take (bits p.key) p.within p.len short) ∙ ap (take p.within) ek ∙ ap (λ n. take n key) ew in
      λ j. walk_from m (front j) (ek j) (ei j)

  pub item_given : (n m : KeyMap T) → n ≡ m → (p q : Position R) (found : Found R T) (key near : KeyBits) (w : ℕ) (i : Bool) → p.within ≡ w → p.inclusive ≡ i → position_key bits p ≡ key → p.within ≤ p.len
      → q.within ≡ w → q.inclusive ≡ false → position_key bits q ≡ near → q.within ≤ q.len → found_key bits found ≡ near
      → rest_of bits n p ≡ entry_from bits 0 found ∷ rest_of bits n q → walk_from m (take w key) key i ≡ (near, found.value.now) ∷ walk_from m (take w near) near false
  item_given n m same p q found key near w i ew ei ek short qw qi qk q_short is_near steps =
      ap (λ x. walk_from x (take w key) key i) (sym same) ∙ sym (rest_is n p key w i ew ei ek short) ∙ steps
      ∙ (λ j. (is_near j, found.value.now) ∷ rest_is n q near w false qw qi qk q_short j) ∙ ap (λ x. (near, found.value.now) ∷ walk_from x (take w near) near false) same

  pub none_given : (n m : KeyMap T) → n ≡ m → (p : Position R) (key : KeyBits) (w : ℕ) (i : Bool) → p.within ≡ w → p.inclusive ≡ i → position_key bits p ≡ key → p.within ≤ p.len → rest_of bits n p ≡ [] → walk_from m (take w key) key i ≡ []
  none_given n m same p key w i ew ei ek short none = ap (λ x. walk_from x (take w key) key i) (sym same) ∙ sym (rest_is n p key w i ew ei ek short) ∙ none
