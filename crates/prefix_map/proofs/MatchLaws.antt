-- The longest and the shortest stored front of a key.
use Rattle.std.specs.Prelude.{is_some, slice_get, nat_le, IfSome}
use Rattle.std.specs.List.{filter}
use Rattle.std.specs.Option.{option_map}
use Rattle.std.specs.FinMap as map
use Rattle.std.proofs.Common.{◌≡◌, ℕ, ◌≤◌, true, ◌&&◌, [], length, take, Option, Some, None, inl, inr, refl, sym, ap, ◌∙◌, arith, length-take}
use Rattle.std.proofs.lemmas.Bool.{cases_lt}
use Rattle.prefix_model.specs.Keys.{KeyBits}
use Rattle.prefix_model.specs.Tables.{KeyMap}
use Rattle.prefix_model.specs.Walks.{begins_with, covers, IsMatchUnder, IsLongestUnder}
use Rattle.prefix_model.specs.Matches.{IsLongestOf, IsShortestFrom}
use Rattle.prefix_model.proofs.KeyLists.{take_take}
use Rattle.prefix_model.proofs.Walking.CoverLaws.{le_true, none_left, first_left}
use Rattle.prefix_model.proofs.Walking.SortedWalks.{same_tests}
use Rattle.prefix_model.proofs.Fronts.{front_take, front_length, front_of_all}
use Rattle.prefix_model.proofs.KeyLemmas.{and_true}
use Rattle.prefix_map.specs.declared.search.Found.{Found}
use Rattle.prefix_map.specs.Searches.{entry_from, found_key}

-- the first bits of w bits
pub front_size : (bits k : KeyBits) (to w : ℕ) → take to bits ≡ k → length bits ≡ w → to ≤ w → length k ≡ to
front_size bits k to w is whole fits = omega (arith, ap length is, whole, fits, length-take to bits)

-- k is the first `to` of these bits
module _ {V : Type 0} (m : KeyMap V) (k bits : KeyBits) (to : ℕ) (is : take to bits ≡ k) (size : length k ≡ to) where
  at_front : (q : KeyBits) → begins_with q k ≡ true → take (length q) bits ≡ q
  at_front q e =
      let l = front_length q k e in
      sym (take_take bits (length q) to (omega (arith, l, size))) ∙ ap (take (length q)) is ∙ front_take q k e

  no_match : ((n : ℕ) → n ≤ to → map.get m (take n bits) ≡ None) → (q : KeyBits) → IsMatchUnder m [] k q → ⊥
  no_match none q found =
      let l = front_length q k found.above in
      let gone = ap is_some (ap (map.get m) (sym (at_front q found.above)) ∙ none (length q) (omega (arith, l, size))) in
      let stored = found.stored in cc

  front_within : (n : ℕ) → n ≤ to → begins_with (take n bits) k ≡ true
  front_within n l = ap (λ q. begins_with q k) (sym (take_take bits n to l) ∙ ap (take n) is) ∙ front_of_all n k

  all_left : covers m k ≡ filter (λ e. begins_with e.0 k && nat_le 0 (length e.0)) (map.entries m)
  all_left = same_tests (λ e. begins_with e.0 k) (λ e. begins_with e.0 k && nat_le 0 (length e.0)) (map.entries m) (λ e. sym (ap (λ b. begins_with e.0 k && b) (le_true 0 (length e.0) (omega arith)) ∙ and_true (begins_with e.0 k)))

  -- what a search found
  module _ {R : Type 0} (bits_of : R → KeyBits) where
    pub longest_found : (r : Option (Found R V)) → IsLongestOf (map.get m) bits to (option_map (entry_from bits_of 0) r) → IsLongestUnder m [] k (option_map (found_key bits_of) r)
    longest_found None none = no_match none
    longest_found (Some f) entry = (
      record {
        stored = ap is_some entry.stored;
        below = refl;
        above = ap (λ q. begins_with q k) entry.front ∙ front_within (length (found_key bits_of f)) entry.most;
      },
      λ j found. elim (cases_lt (length (found_key bits_of f)) (length j)) [
        | inr l ↦ l
        | inl l ↦
            let h = front_length j k found.above in
            let gone = ap is_some (ap (map.get m) (sym (at_front j found.above)) ∙ entry.behind (length j) l (omega (arith, h, size))) in
            let stored = found.stored in absurd (cc)
      ],
    )

    pub longest_value : (r : Option (Found R V)) → IsLongestOf (map.get m) bits to (option_map (entry_from bits_of 0) r) → IfSome r (λ f. map.get m (found_key bits_of f) ≡ Some f.value.now)
    longest_value None none = tt
    longest_value (Some f) entry = entry.stored

    pub shortest_found : (r : Option (Found R V)) → IsShortestFrom (map.get m) bits 0 to (option_map (entry_from bits_of 0) r) → option_map (entry_from bits_of 0) r ≡ slice_get (covers m k) 0
    shortest_found None none = sym (ap (λ es. slice_get es 0) (all_left ∙ none_left m k bits to is size 0 none))
    shortest_found (Some f) entry = sym (ap (λ es. slice_get es 0) (all_left ∙ first_left m k bits to is size 0 (entry_from bits_of 0 f) entry))
