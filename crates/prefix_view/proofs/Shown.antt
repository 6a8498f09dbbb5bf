-- What the bits of a view's node say of its place.
use Rattle.std.specs.Prelude.{◌≡◌, ◌≢◌, ℕ, ◌+◌, ◌/◌, ◌%◌, ◌<◌, ◌&&◌, Bool, true, false, [], ◌∷◌, ◌++◌, length, drop, Option, Some, None, is_some, not, ◌==◌, IsTrue, bit_and, ◌^◌, slice_get, MatchOption}
use Rattle.std.specs.FinMap.{get, contains_key}
use Rattle.std.specs.Int.{bit_at}
use Rattle.std.proofs.Common.{refl, sym, ap, ◌∙◌, subst, arith, length-append}
use borrow.Author.Tests.{eqb-true, ne_eqb}
use Rattle.prefix_model.specs.Keys.{KeyBits, number, low_bits}
use Rattle.prefix_model.specs.Walks.{begins_with}
use Rattle.prefix_model.specs.Walks.Shows.{entry, child}
use Rattle.prefix_model.specs.Views.{Seen, under, node, IsPlace, IsShownAt, data_below, children_below, moved, CanStep}
use Rattle.prefix_model.specs.Positions.{data_places}
use Rattle.prefix_model.proofs.KeyLemmas.{both_true}
use Rattle.prefix_model.proofs.KeyPlaces.{low_bits-number}
use Rattle.prefix_model.proofs.Fronts.{front_itself, drop_front}
use Rattle.prefix_model.proofs.Nodes.{parts}
use Rattle.prefix_model.proofs.Viewing.ViewBits.{under_some, under_front, inside}
use Rattle.prefix_view.proofs.Bitmaps.{data_some, data_none, place_clear, child_some, child_none, child_set, child_clear, tested_bit, tested_clear}

module _ {V : Type 0} (w : ℕ) (v : Seen V) (at : IsPlace w v) where
  pub shown_by_data : data_below v ≢ 0 → IsShownAt v v.place
  shown_by_data n =
      let it = data_some (under v.place (get v.entries)) (node v) n in
      let u = under_some v.place (get v.entries) (node v ++ it.0) it.2 in
      let l = length-append (node v) it.0 in
      let s = it.1 in
      record { node = at.kept; below = entry (node v ++ it.0) u.0 u.1 (omega (arith, l, s)) }

  pub shown_by_child : children_below v ≢ 0 → IsShownAt v v.place
  shown_by_child n =
      let it = child_some (λ c. begins_with v.place c && contains_key v.kept c) (node v) n in
      let u = both_true _ _ it.2 in
      let l = length-append (node v) it.0 in
      let s = it.1 in
      record { node = at.kept; below = child (node v ++ it.0) u.0 u.1 (omega (arith, l, s)) }

  pub not_shown : data_below v ≡ 0 → children_below v ≡ 0 → IsShownAt v v.place → ⊥
  not_shown d c shown =
      elim shown.below [
        | entry k f s l ↦
            let i = inside v.place k f in
            let m = i.longer in
            let none = data_none (under v.place (get v.entries)) (node v) d i.rest (omega (arith, m, l)) in
            let here : get v.entries k ≡ None = sym (under_front v.place (get v.entries) k f) ∙ ap (under v.place (get v.entries)) i.whole ∙ none in
            let gone : is_some (get v.entries k) ≡ false = ap is_some here in
            cc
        | child k f s l ↦
            let i = inside v.place k f in
            let m = i.longer in
            let none = child_none (λ x. begins_with v.place x && contains_key v.kept x) (node v) c i.rest (omega (arith, m, l)) in
            let there : (begins_with v.place k && contains_key v.kept k) ≡ false = ap (λ x. begins_with v.place x && contains_key v.kept x) i.whole ∙ none in
            let here : (begins_with v.place k && contains_key v.kept k) ≡ true = (λ j. f j && s j) in
            cc
      ]

  -- the answer of `is_non_empty` where no data bit is set
  pub shown_else : data_below v ≡ 0 → (r : ℕ) → r ≡ children_below v
      → (IsTrue (not (r == 0)) → IsShownAt v v.place) × (IsShownAt v v.place → IsTrue (not (r == 0)))
  shown_else d r e =
      elim (r == 0) as (λ b. (r == 0) ≡ b → (IsTrue (not b) → IsShownAt v v.place) × (IsShownAt v v.place → IsTrue (not b))) [
        | true ↦ λ t. (λ x. cc, λ s. absurd (not_shown d (sym e ∙ eqb-true r 0 t) s))
        | false ↦ λ t. (λ x. shown_by_child (λ z. let n : (r == 0) ≡ true = ap (λ (k : ℕ). k == 0) (e ∙ z) in cc), λ s. refl)
      ] refl

  pub shown_then : (r : ℕ) → r ≡ data_below v → (r ≡ 0 → ⊥) → (IsTrue (not (r == 0)) → IsShownAt v v.place) × (IsShownAt v v.place → IsTrue (not (r == 0)))
  shown_then r e n = (λ _. shown_by_data (λ z. n (e ∙ z)), λ _. ap not (ne_eqb r 0 n))

  -- ---- the value at the place

  -- the bit of the place
  abbrev pub IsPlaceBit : ℕ → Type 0
  IsPlaceBit bit = slice_get data_places bit ≡ Some ((parts v.place).inner)

  pub value_clear : (r bit : ℕ) → r ≡ data_below v → IsPlaceBit bit → (bit_and (r / 2 ^ bit) 1 ≡ 1 → ⊥) → None ≡ get v.entries v.place
  value_clear r bit e b n =
      let q = parts v.place in
      let clear : bit_at (data_below v) bit ≡ 0 = ap (λ n. bit_at n bit) (sym e) ∙ tested_clear r bit n in
      let none = place_clear (under v.place (get v.entries)) (node v) bit q.inner b clear in
      sym (sym (under_front v.place (get v.entries) v.place (front_itself v.place)) ∙ ap (under v.place (get v.entries)) q.whole ∙ none)

  pub value_there : (x : V) (bit : ℕ) → IsPlaceBit bit → ((s : KeyBits) → slice_get data_places bit ≡ Some s → get v.entries (node v ++ s) ≡ Some x) → Some x ≡ get v.entries v.place
  value_there x bit b h = sym (ap (get v.entries) (parts v.place).whole ∙ h _ b)

  -- ---- the child towards a key

  module _ (child : KeyBits) (front : begins_with v.place child ≡ true) (long : length child ≡ length (node v) + 5) where
    rest : KeyBits
    rest = (inside v.place child front).rest

    rest_length : length rest ≡ 5
    unfolding rest
    rest_length = let l = (inside v.place child front).longer in omega (arith, l, long)

    rest_whole : child ≡ node v ++ rest
    unfolding rest
    rest_whole = (inside v.place child front).whole

    test_here : (begins_with v.place (node v ++ rest) && contains_key v.kept (node v ++ rest)) ≡ contains_key v.kept child
    test_here = ap (λ x. begins_with v.place x && contains_key v.kept x) (sym rest_whole) ∙ ap (λ b. b && contains_key v.kept child) front

    slot : (d bit : ℕ) → d ≡ length (node v) → bit ≡ number (drop d child) → bit ≡ number rest
    slot d bit e b = b ∙ (λ i. number (drop (e i) (rest_whole i))) ∙ ap number (drop_front (node v) rest)

    pub child_there : (d bit r : ℕ) → d ≡ length (node v) → bit ≡ number (drop d child) → r ≡ children_below v → bit_and (r / 2 ^ bit) 1 ≡ 1 → contains_key v.kept child ≡ true
    child_there d bit r e b h t =
        sym test_here ∙ child_set (λ c. begins_with v.place c && contains_key v.kept c) (node v) rest rest_length
        (ap (λ n. bit_at n (number rest)) (sym h) ∙ ap (bit_at r) (sym (slot d bit e b)) ∙ tested_bit r bit t)

    pub child_gone : (d bit r : ℕ) → d ≡ length (node v) → bit ≡ number (drop d child) → r ≡ children_below v → (bit_and (r / 2 ^ bit) 1 ≡ 1 → ⊥) → contains_key v.kept child ≡ false
    child_gone d bit r e b h n =
        sym test_here ∙ child_clear (λ c. begins_with v.place c && contains_key v.kept c) (node v) rest rest_length
        (ap (λ n. bit_at n (number rest)) (sym h) ∙ ap (bit_at r) (sym (slot d bit e b)) ∙ tested_clear r bit n)

    pub child_is : (d bit : ℕ) → d ≡ length (node v) → bit ≡ number (drop d child) → node v ++ low_bits 5 bit ≡ child
    child_is d bit e b =
        ap (λ k. node v ++ k) (ap (low_bits 5) (slot d bit e b) ∙ ap (λ n. low_bits n (number rest)) (sym rest_length) ∙ low_bits-number rest) ∙ sym rest_whole

  -- ---- one bit more

  level : length v.place % 5 ≡ 4 → length v.place + 1 ≡ length (node v) + 5
  level e = let q = parts v.place in let l = ap length q.whole ∙ length-append (node v) q.inner in let f = q.at_five in let s = q.short in omega (arith, l, f, s, e)

  level_from : length v.place + 1 ≡ length (node v) + 5 → length v.place % 5 ≡ 4
  level_from e = let q = parts v.place in let l = ap length q.whole ∙ length-append (node v) q.inner in let f = q.at_five in let s = q.short in omega (arith, l, f, s, e)

  module _ (b : Bool) (within : length v.place < w) where
    pub step_child : length v.place + 1 ≡ length (node v) + 5 → (k : KeyBits) → k ≡ v.place ++ b ∷ [] → {X : Type 0} (seen : X → Seen V) (r : Option X)
        → MatchOption r (contains_key v.kept k ≡ false) (λ x. (contains_key v.kept k ≡ true) × (seen x ≡ moved v k))
        → MatchOption r (CanStep w v b → ⊥) (λ x. CanStep w v b × (seen x ≡ moved v (v.place ++ b ∷ [])))
    step_child l k e seen None h = λ can. let there = ap (contains_key v.kept) e ∙ can.to_child (level_from l) in cc
    step_child l k e seen (Some x) h =
        (record { within = within; same_node = λ n. absurd (n (level_from l)); to_child = λ _. ap (contains_key v.kept) (sym e) ∙ h.0 }, h.1 ∙ ap (moved v) e)

    pub step_shown : (length v.place + 1 ≡ length (node v) + 5 → ⊥) → (u : Seen V) → u ≡ moved v (v.place ++ b ∷ []) → IsShownAt u u.place → CanStep w v b
    step_shown n u e s = record { within = within; same_node = λ _. subst (λ x. IsShownAt x x.place) e s; to_child = λ f. absurd (n (level f)) }

    pub step_hidden : (length v.place + 1 ≡ length (node v) + 5 → ⊥) → (u : Seen V) → u ≡ moved v (v.place ++ b ∷ []) → (IsShownAt u u.place → ⊥) → CanStep w v b → ⊥
    step_hidden n u e s can = s (subst (λ x. IsShownAt x x.place) (sym e) (can.same_node (λ f. n (level f))))
