-- The first entry from a key on: in the node of the key, or below the child towards it and behind that child.
use Rattle.std.specs.Prelude.{◌≡◌, ℕ, ◌+◌, ◌-◌, ◌*◌, ◌%◌, ◌^◌, ◌<◌, ◌≤◌, ◌==◌, Bool, true, false, [], ◌∷◌, ◌++◌, length, take, drop, Option, Some, None, IsSome, slice_get, bit_and}
use Rattle.std.proofs.Common.{refl, sym, ap, ◌∙◌, arith, inl, inr, append_assoc, length-take, length-drop}
use borrow.Author.Tests.{eqb-true, eqb-false}
use Rattle.std.specs.Int.{bit_at, w32}
use Rattle.std.proofs.lemmas.Nat.Bits.{bit_at_clear_same, bit_at_clear_other}
use Rattle.prefix_model.specs.Keys.{KeyBits, digit}
use Rattle.prefix_model.specs.Tables.{Values}
use Rattle.prefix_model.specs.Positions.{data_places}
use Rattle.prefix_model.specs.Masks.{is_past, data_mask, child_mask}
use Rattle.prefix_model.specs.Walks.{begins_with, stands_from}
use Rattle.prefix_model.proofs.Fronts.{Follows, follows, front_append, front_both, append_none, taken_front}
use Rattle.prefix_model.proofs.KeyLemmas.{both_ways}
use Rattle.prefix_model.proofs.WalkSplits.{stands_front}
use Rattle.prefix_model.proofs.KeyPlaces.{places_short}
use Rattle.prefix_model.proofs.KeyLists.{places_apart, slice_get-index_of}
use Rattle.prefix_model.proofs.KeyPieces.{take_parts}
use Rattle.prefix_model.specs.NodeSearches.{IsChosen, IsFirstOf, StandsBelow, IsFromPlace}
use Rattle.prefix_model.specs.NodeSearches.IsChosen.{at_place, below_child}
use Rattle.prefix_model.proofs.Walking.PlaceOrder.{less_stands, from_behind, stands_also, not_behind_itself, past_less, from_less, stands_child, stands_past_place, stands_past_child}
use Rattle.prefix_model.proofs.Bitmaps.NodeBits.{and_set, both_set, digit_set, place_mask, child_mask_at, place_limit, length_of_children}
use Rattle.prefix_model.proofs.Walking.Chosen.{first_same, ordered}

-- ---- the bits from a place on

pub place_unique : (a b : ℕ) (s : KeyBits) → slice_get data_places a ≡ Some s → slice_get data_places b ≡ Some s → a ≡ b
place_unique a b s e f =
    let i = slice_get-index_of data_places s a places_apart e in
    let j = slice_get-index_of data_places s b places_apart f in
    let z : Some a ≡ Some b = sym i ∙ j in
    let h : a ≡ b = cc in h

no_bool : (b : Bool) → (b ≡ true → ⊥) → b ≡ false
no_bool true n = absurd (n refl)
no_bool false n = refl

module _ (bit pm cm : ℕ) (r : KeyBits) (is : slice_get data_places bit ≡ Some r) (places_from : pm ≡ data_mask (stands_from true r)) (children_from : cm ≡ child_mask (stands_from true r)) where
  pub from_itself_on : IsFromPlace true r pm cm
  from_itself_on = record {
    place = λ b s at. place_mask (stands_from true r) pm b s places_from at;
    child = λ c s at. child_mask_at (stands_from true r) cm c s children_from at;
  }

  pub from_behind_on : IsFromPlace false r (bit_and pm (4294967295 - 1 * 2 ^ bit % 4294967296)) cm
  from_behind_on = record {
    place = λ b s at. elim (b == bit) as (λ t. (b == bit) ≡ t → bit_at (bit_and pm (4294967295 - 1 * 2 ^ bit % 4294967296)) b ≡ digit (stands_from false r s)) [
      | true ↦ λ t.
          let same = eqb-true b bit t in
          let clear = bit_at_clear_same w32 pm bit (let l = place_limit bit r is in omega (arith, l)) in
          let o : Some r ≡ Some s = sym is ∙ ap (slice_get data_places) (sym same) ∙ at in
          let one : r ≡ s = cc in
          let off = no_bool (stands_from false r s) (λ z. not_behind_itself r (ap (stands_from false r) one ∙ z)) in
          ap (bit_at (bit_and pm (4294967295 - 1 * 2 ^ bit % 4294967296))) same ∙ clear ∙ ap digit (sym off)
      | false ↦ λ t.
          let n = eqb-false b bit t in
          let other = bit_at_clear_other w32 pm bit (let l = place_limit bit r is in omega (arith, l)) b (let l = place_limit b s at in omega (arith, l)) n in
          let differ = λ (z : r ≡ s). n (place_unique b bit s at (is ∙ ap Some z)) in
          other ∙ place_mask (stands_from true r) pm b s places_from at
          ∙ ap digit (both_ways (stands_from true r s) (stands_from false r s) (λ e. from_behind r s e differ) (stands_also false r s))
    ] refl;
    child = λ c s at. child_mask_at (stands_from true r) cm c s children_from at;
  }

module _ {V : Type 0} (f : Values V) (n : KeyBits) (db cb : ℕ) (all : (k : KeyBits) → IsSome (f k) → begins_with n k ≡ true → IsChosen n db cb k) (q : KeyBits) (i : Bool) where
  -- ---- a key in the node

  module _ (r : KeyBits) (is_q : q ≡ n ++ r) (short : length r < 5) (pm cm : ℕ) (from : IsFromPlace i r pm cm) where
    here : (k y : KeyBits) → k ≡ n ++ y → stands_from i q k ≡ stands_from i r y
    here k y e = (λ j. stands_from i (is_q j) (e j)) ∙ stands_front i n r y

    pub from_node : (res : Option (KeyBits × V)) → IsFirstOf f (IsChosen n (bit_and db pm) (bit_and cb cm)) res → IsFirstOf f (StandsBelow n q i) res
    from_node = first_same f (IsChosen n (bit_and db pm) (bit_and cb cm)) (StandsBelow n q i)
        (λ k st c. elim (all k st c.0) [
          | at_place b s at_b set e ↦ at_place b s at_b (both_set db pm b set (from.place b s at_b ∙ ap digit (sym (here k s e) ∙ c.1))) e
          | below_child m s x at_c set e ↦
              let five = length_of_children m s at_c in
              let stands = sym (here k (s ++ x) (e ∙ append_assoc n s x)) ∙ c.1 in
              below_child m s x at_c (both_set cb cm m set (from.child m s at_c ∙ ap digit (stands_child i r s x (omega (arith, short, five)) stands))) e
        ])
        (λ k c. elim c [
          | at_place b s at_b set e ↦
              let p = and_set db pm b set in
              (ap (begins_with n) e ∙ front_append n s, here k s e ∙ digit_set _ (sym (from.place b s at_b) ∙ p.1))
          | below_child m s x at_c set e ↦
              let p = and_set cb cm m set in
              let five = length_of_children m s at_c in
              let w = e ∙ append_assoc n s x in
              let less = from_less r s x (omega (arith, short, five)) (digit_set _ (sym (from.child m s at_c) ∙ p.1)) in
              (ap (begins_with n) w ∙ front_append n (s ++ x), here k (s ++ x) w ∙ less_stands i r (s ++ x) less)
        ])

  -- ---- a key below a child

  module _ (cs x : KeyBits) (is_q : q ≡ (n ++ cs) ++ x) (five : length cs ≡ 5) where
    there : (k y : KeyBits) → k ≡ n ++ y → stands_from i q k ≡ stands_from i (cs ++ x) y
    there k y e = (λ j. stands_from i ((is_q ∙ append_assoc n cs x) j) (e j)) ∙ stands_front i n (cs ++ x) y

    pub child_found : (u : KeyBits × V) → IsFirstOf f (StandsBelow (n ++ cs) q i) (Some u) → IsFirstOf f (StandsBelow n q i) (Some u)
    child_found u h =
        let y = follows (n ++ cs) u.0 h.chosen.0 in
        let p : u.0 ≡ n ++ (cs ++ y.rest) = y.whole ∙ append_assoc n cs y.rest in
        record {
          stored = h.stored;
          chosen = (front_both n (n ++ cs) u.0 (front_append n cs) h.chosen.0, h.chosen.1);
          first = λ k st c. elim (all k st c.0) [
            | at_place b s at_b set g ↦
                let short = places_short b s at_b in
                let past = stands_past_place i cs x s (omega (arith, short, five)) (sym (there k s g) ∙ c.1) in
                ordered n (cs ++ y.rest) (s ++ []) u.0 k p (g ∙ ap (λ z. n ++ z) (sym (append_none s))) (past_less cs s y.rest [] past)
            | below_child m s z at_c set g ↦
                let long = length_of_children m s at_c in
                let w : k ≡ n ++ (s ++ z) = g ∙ append_assoc n s z in
                elim (stands_past_child i cs x s z (omega (arith, long, five)) (sym (there k (s ++ z) w) ∙ c.1)) [
                  | inl same ↦ h.first k st ((λ j. begins_with (n ++ same j) (g j)) ∙ front_append (n ++ s) z, c.1)
                  | inr past ↦ ordered n (cs ++ y.rest) (s ++ z) u.0 k p w (past_less cs s y.rest z past)
                ]
          ];
        }

    module _ (gone : IsFirstOf f (StandsBelow (n ++ cs) q i) None) (pm cm : ℕ) (places_past : pm ≡ data_mask (is_past cs)) (children_past : cm ≡ child_mask (is_past cs)) where
      pub child_none : (res : Option (KeyBits × V)) → IsFirstOf f (IsChosen n (bit_and db pm) (bit_and cb cm)) res → IsFirstOf f (StandsBelow n q i) res
      child_none = first_same f (IsChosen n (bit_and db pm) (bit_and cb cm)) (StandsBelow n q i)
          (λ k st c. elim (all k st c.0) [
            | at_place b s at_b set g ↦
                let short = places_short b s at_b in
                let past = stands_past_place i cs x s (omega (arith, short, five)) (sym (there k s g) ∙ c.1) in
                at_place b s at_b (both_set db pm b set (place_mask (is_past cs) pm b s places_past at_b ∙ ap digit past)) g
            | below_child m s z at_c set g ↦
                let long = length_of_children m s at_c in
                elim (stands_past_child i cs x s z (omega (arith, long, five)) (sym (there k (s ++ z) (g ∙ append_assoc n s z)) ∙ c.1)) [
                  | inl same ↦ absurd (gone k st ((λ j. begins_with (n ++ same j) (g j)) ∙ front_append (n ++ s) z, c.1))
                  | inr past ↦ below_child m s z at_c (both_set cb cm m set (child_mask_at (is_past cs) cm m s children_past at_c ∙ ap digit past)) g
                ]
          ])
          (λ k c. elim c [
            | at_place b s at_b set g ↦
                let p = and_set db pm b set in
                let past = digit_set _ (sym (place_mask (is_past cs) pm b s places_past at_b) ∙ p.1) in
                (ap (begins_with n) g ∙ front_append n s, there k (s ++ []) (g ∙ ap (λ z. n ++ z) (sym (append_none s))) ∙ less_stands i (cs ++ x) (s ++ []) (past_less cs s x [] past))
            | below_child m s z at_c set g ↦
                let p = and_set cb cm m set in
                let w = g ∙ append_assoc n s z in
                let past = digit_set _ (sym (child_mask_at (is_past cs) cm m s children_past at_c) ∙ p.1) in
                (ap (begins_with n) w ∙ front_append n (s ++ z), there k (s ++ z) w ∙ less_stands i (cs ++ x) (s ++ z) (past_less cs s x z past))
          ])

-- ---- parts of a key

-- what a key adds to the node at its first d bits, where the node is near
pub part_short : (bits : KeyBits) (d len : ℕ) → d ≤ len → len < d + 5 → length (drop d (take len bits)) < 5
part_short bits d len order near = let a = length-drop d (take len bits) in let t = length-take len bits in omega (arith, a, t, order, near)

-- what follows the child towards it, where it is not
pub behind_child : (bits : KeyBits) (d len : ℕ) → d + 5 ≤ len → Follows (take (d + 5) bits) (take len bits)
behind_child bits d len far = follows (take (d + 5) bits) (take len bits) (taken_front bits (d + 5) len far)

pub child_whole : (bits : KeyBits) (d : ℕ) → take d bits ++ drop d (take (d + 5) bits) ≡ take (d + 5) bits
child_whole bits d = take_parts bits d (d + 5) (omega arith)

pub key_below : (bits : KeyBits) (d len : ℕ) (far : d + 5 ≤ len) → take len bits ≡ (take d bits ++ drop d (take (d + 5) bits)) ++ (behind_child bits d len far).rest
key_below bits d len far = (behind_child bits d len far).whole ∙ ap (λ x. x ++ (behind_child bits d len far).rest) (sym (child_whole bits d))

-- ---- within a front

-- a key between two that begin with w begins with w
pub between : (w q e k : KeyBits) (i : Bool) → begins_with w q ≡ true → begins_with w k ≡ true → stands_from i q e ≡ true → stands_from true e k ≡ true → begins_with w e ≡ true
between [] q e k i a b s t = refl
between (c ∷ w) [] e k i a b s t = cc
between (c ∷ w) (x ∷ q) [] k i a b s t = cc
between (c ∷ w) (x ∷ q) (y ∷ e) [] i a b s t = cc
between (true ∷ w) (false ∷ q) (y ∷ e) (z ∷ k) i a b s t = cc
between (false ∷ w) (true ∷ q) (y ∷ e) (z ∷ k) i a b s t = cc
between (true ∷ w) (true ∷ q) (y ∷ e) (false ∷ k) i a b s t = cc
between (false ∷ w) (false ∷ q) (y ∷ e) (true ∷ k) i a b s t = cc
between (true ∷ w) (true ∷ q) (false ∷ e) (true ∷ k) i a b s t = cc
between (false ∷ w) (false ∷ q) (true ∷ e) (false ∷ k) i a b s t = cc
between (true ∷ w) (true ∷ q) (true ∷ e) (true ∷ k) i a b s t = between w q e k i a b s t
between (false ∷ w) (false ∷ q) (false ∷ e) (false ∷ k) i a b s t = between w q e k i a b s t
