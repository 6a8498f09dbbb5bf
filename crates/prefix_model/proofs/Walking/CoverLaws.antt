-- The stored fronts of a key.
use Rattle.std.specs.Prelude.{nat_le}
use Rattle.std.specs.List.{filter}
use Rattle.std.specs.FinMap as map
use Rattle.std.proofs.Common.{◌≡◌, ℕ, ◌+◌, ◌<◌, ◌≤◌, Bool, true, false, ◌&&◌, not, [], ◌∷◌, length, take, Some, None, inl, inr, refl, sym, ap, ◌∙◌, arith}
use Rattle.std.proofs.lemmas.Bool.{cases_lt}
use Rattle.std.proofs.lemmas.Bool.Decides.{nat_tests}
use Rattle.prefix_model.specs.Keys.{KeyBits}
use Rattle.prefix_model.specs.Tables.{KeyMap}
use Rattle.prefix_model.specs.Walks.{begins_with}
use Rattle.prefix_model.specs.Searches.{comes_before, IsFirst}
use Rattle.prefix_model.specs.Matches.{IsShortestEntry}
use Rattle.prefix_model.proofs.KeyLemmas.{both_true, both_ways}
use Rattle.prefix_model.proofs.KeyLists.{take_take}
use Rattle.prefix_model.proofs.Walking.SortedWalks.{entries_none, entries_some, same_tests, front_from}
use Rattle.prefix_model.proofs.Fronts.{front_take, front_length, taken_front}

pub le_true : (a b : ℕ) → a ≤ b → nat_le a b ≡ true
le_true a b l = grind (arith, nat_tests)

le_from : (a b : ℕ) → nat_le a b ≡ true → a ≤ b
le_from a b e = grind (arith, nat_tests)

fronts_nest : (y x p : KeyBits) → begins_with x p ≡ true → begins_with y p ≡ true → length y ≤ length x → begins_with y x ≡ true
fronts_nest [] x p ex ey l = refl
fronts_nest (b ∷ y) [] p ex ey l = absurd (omega arith)
fronts_nest (b ∷ y) (a ∷ x) [] ex ey l = absurd (cc)
fronts_nest (true ∷ y) (true ∷ x) (true ∷ p) ex ey l = fronts_nest y x p ex ey (omega arith)
fronts_nest (false ∷ y) (false ∷ x) (false ∷ p) ex ey l = fronts_nest y x p ex ey (omega arith)
fronts_nest (true ∷ y) (false ∷ x) (true ∷ p) ex ey l = absurd (cc)
fronts_nest (true ∷ y) (false ∷ x) (false ∷ p) ex ey l = absurd (cc)
fronts_nest (false ∷ y) (true ∷ x) (true ∷ p) ex ey l = absurd (cc)
fronts_nest (false ∷ y) (true ∷ x) (false ∷ p) ex ey l = absurd (cc)
fronts_nest (true ∷ y) (true ∷ x) (false ∷ p) ex ey l = absurd (cc)
fronts_nest (false ∷ y) (false ∷ x) (true ∷ p) ex ey l = absurd (cc)

-- a proper front stands before
proper_before : (e x : KeyBits) → begins_with e x ≡ true → length e < length x → comes_before e x ≡ true
proper_before [] [] f l = absurd (omega arith)
proper_before [] (b ∷ x) f l = refl
proper_before (a ∷ e) [] f l = absurd (cc)
proper_before (true ∷ e) (true ∷ x) f l = proper_before e x f (omega arith)
proper_before (true ∷ e) (false ∷ x) f l = absurd (cc)
proper_before (false ∷ e) (true ∷ x) f l = absurd (cc)
proper_before (false ∷ e) (false ∷ x) f l = proper_before e x f (omega arith)

-- of two fronts of a key the one that stands before is the shorter
shorter : (x y p : KeyBits) → begins_with x p ≡ true → begins_with y p ≡ true → comes_before x y ≡ true → length x < length y
shorter x y p ex ey b = elim (cases_lt (length x) (length y)) [
  | inl l ↦ l
  | inr l ↦ let from : not (comes_before x y) ≡ true = front_from y x (fronts_nest y x p ex ey l) in let n = ap not b in absurd (cc)
]

and_both : (a b : Bool) → a ≡ true → b ≡ true → (a && b) ≡ true
and_both true b e f = f
and_both false b e f = absurd (cc)

module _ {V : Type 0} (m : KeyMap V) (p bits : KeyBits) (to : ℕ) (is : take to bits ≡ p) (size : length p ≡ to) where
  abbrev left : ℕ → KeyBits → Bool
  left n x = begins_with x p && nat_le n (length x)

  at_front : (x : KeyBits) → begins_with x p ≡ true → take (length x) bits ≡ x
  at_front x e =
      let l = front_length x p e in
      sym (take_take bits (length x) to (omega (arith, l, size))) ∙ ap (take (length x)) is ∙ front_take x p e

  pub none_left : (from : ℕ) → ((n : ℕ) → from ≤ n → n ≤ to → map.get m (take n bits) ≡ None) → filter (λ e. begins_with e.0 p && nat_le from (length e.0)) (map.entries m) ≡ []
  none_left from none = entries_none m (left from) (record {
    none = λ x t.
        let parts = both_true (begins_with x p) (nat_le from (length x)) t in
        let l = front_length x p parts.0 in
        sym (ap (map.get m) (at_front x parts.0)) ∙ none (length x) (le_from from (length x) parts.1) (omega (arith, l, size));
  })

  module _ (from : ℕ) (e : KeyBits × V) (entry : IsShortestEntry (map.get m) bits from to e) where
    is_cover : begins_with e.0 p ≡ true
    is_cover = (λ i. begins_with (entry.front i) (sym is i)) ∙ taken_front bits (length e.0) to entry.most

    first : IsFirst (map.get m) (left from) (Some e)
    first = record {
      passes = and_both _ _ is_cover (le_true from (length e.0) entry.least);
      stored = entry.stored;
      before = λ x t b.
          let parts = both_true (begins_with x p) (nat_le from (length x)) t in
          sym (ap (map.get m) (at_front x parts.0)) ∙ entry.before (length x) (le_from from (length x) parts.1) (shorter x e.0 p parts.0 is_cover b);
    }

    longer : (x : KeyBits) → (left from x && comes_before e.0 x) ≡ left (length e.0 + 1) x
    longer x = of (begins_with x p) refl
      where
        of : (b : Bool) → begins_with x p ≡ b → ((b && nat_le from (length x)) && comes_before e.0 x) ≡ (b && nat_le (length e.0 + 1) (length x))
        of false f = refl
        of true f = both_ways (nat_le from (length x) && comes_before e.0 x) (nat_le (length e.0 + 1) (length x))
            (λ t. let l = shorter e.0 x p is_cover f (both_true (nat_le from (length x)) (comes_before e.0 x) t).1 in le_true (length e.0 + 1) (length x) (omega (arith, l)))
            (λ t. let l = le_from (length e.0 + 1) (length x) t in let least = entry.least in
            and_both _ _ (le_true from (length x) (omega (arith, l, least))) (proper_before e.0 x (fronts_nest e.0 x p f is_cover (omega (arith, l))) (omega (arith, l))))

    pub first_left : filter (λ x. begins_with x.0 p && nat_le from (length x.0)) (map.entries m) ≡ e ∷ filter (λ x. begins_with x.0 p && nat_le (length e.0 + 1) (length x.0)) (map.entries m)
    first_left = entries_some m (left from) e first ∙ ap (λ es. e ∷ es) (same_tests (λ x. left from x.0 && comes_before e.0 x.0) (λ x. left (length e.0 + 1) x.0) (map.entries m) (λ x. longer x.0))
