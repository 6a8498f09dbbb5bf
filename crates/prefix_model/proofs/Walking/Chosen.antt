-- The first of the entries that are chosen by bitmaps of a node.
use Rattle.std.specs.Prelude.{◌≡◌, ℕ, ◌+◌, ◌-◌, ◌^◌, ◌<◌, Bool, true, false, [], ◌++◌, length, take, drop, Option, Some, None, IsSome, is_some, slice_get, bit_and, ◌⊎◌, nat_lt, ◌==◌}
use Rattle.std.proofs.Common.{refl, sym, ap, ◌∙◌, subst, arith, inl, inr, length-take, append_assoc}
use borrow.Author.Tests.{eqb-true, eqb-false, ltb-true, ltb-false}
use Rattle.std.specs.Int.{bit_at}
use Rattle.std.specs.Option.{option_map}
use Rattle.std.specs.declared.cmp.Ordering.TheVariants.{Less}
use Rattle.std.proofs.lemmas.Nat.Bits.{bit_at-zero}
use Rattle.prefix_model.specs.Keys.{KeyBits, key_cmp, number, digit}
use Rattle.prefix_model.specs.Tables.{Values}
use Rattle.prefix_model.specs.Positions.{data_places, child_places, data_bits, child_bits}
use Rattle.prefix_model.specs.Masks.{is_past, data_mask, child_mask}
use Rattle.prefix_model.specs.Walks.{begins_with, stands_from}
use Rattle.prefix_model.proofs.Fronts.{follows, take_drop, front_append, append_none, cmp_front}
use Rattle.prefix_model.proofs.Order.{key_total}
use Rattle.prefix_model.proofs.WalkSplits.{stands_front}
use Rattle.prefix_model.proofs.KeyPlaces.{place_at, places_short}
use Rattle.prefix_model.specs.NodeSearches.{IsChosen, IsFirstOf}
use Rattle.prefix_model.specs.NodeSearches.IsChosen.{at_place, below_child}
use Rattle.prefix_model.proofs.Bitmaps.NodeBits.{bit_of_test, child_at, length_of_children, place_limit, place_mask, child_mask_at, set_or_clear, without_set, without_clear, both_set, and_set, digit_set, digit_clear}
use Rattle.prefix_model.proofs.Walking.PlaceOrder.{less_stands, past_less, not_past_less, later_child}

module _ {V : Type 0} (f : Values V) where
  -- the first is the same of two properties that agree at the stored keys
  pub first_same : (C D : KeyBits → Type 0) → ((k : KeyBits) → IsSome (f k) → D k → C k) → ((k : KeyBits) → C k → D k) → (r : Option (KeyBits × V)) → IsFirstOf f C r → IsFirstOf f D r
  first_same C D back there None h = λ k s d. h k s (back k s d)
  first_same C D back there (Some e) h = record { stored = h.stored; chosen = there e.0 h.chosen; first = λ k s d. h.first k s (back k s d) }

  -- ---- a whole node

  module _ (is_position : KeyBits → Bool) (n : KeyBits) (db cb : ℕ) (data_is : db ≡ data_bits f n) (children_are : cb ≡ child_bits is_position n)
      (keeps : (c r : KeyBits) → length c ≡ 5 → IsSome (f ((n ++ c) ++ r)) → is_position (n ++ c) ≡ true) where
    -- a stored key below the node is chosen by its bitmaps
    pub all_chosen : (k : KeyBits) → IsSome (f k) → begins_with n k ≡ true → IsChosen n db cb k
    all_chosen k stored front =
        let i = follows n k front in
        elim (nat_lt (length i.rest) 5) as (λ b. nat_lt (length i.rest) 5 ≡ b → IsChosen n db cb k) [
          | true ↦ λ t.
              let l = ltb-true _ _ t in
              let here = subst (λ x. IsSome (f x)) i.whole stored in
              let at = place_at i.rest (length i.rest) refl l in
              at_place _ i.rest at (ap (λ x. bit_at x (2 ^ length i.rest - 1 + number i.rest)) data_is ∙ bit_of_test data_places (λ s. is_some (f (n ++ s))) _ i.rest at ∙ ap digit here) i.whole
          | false ↦ λ t.
              let l = ltb-false _ _ t in
              let c = take 5 i.rest in
              let r = drop 5 i.rest in
              let long = length-take 5 i.rest in
              let five : length c ≡ 5 = omega (arith, long, l) in
              let whole : k ≡ (n ++ c) ++ r = i.whole ∙ ap (λ x. n ++ x) (take_drop 5 i.rest) ∙ sym (append_assoc n c r) in
              let kept = keeps c r five (subst (λ x. IsSome (f x)) whole stored) in
              let at = child_at c five in
              below_child (number c) c r at (ap (λ x. bit_at x (number c)) children_are ∙ bit_of_test child_places (λ s. is_position (n ++ s)) (number c) c at ∙ ap digit kept) whole
        ] refl

-- keys with one front are in the order of what follows it
pub ordered : (n x y a b : KeyBits) → a ≡ n ++ x → b ≡ n ++ y → key_cmp x y ≡ Less → stands_from true a b ≡ true
ordered n x y a b e f l = less_stands true a b ((λ j. key_cmp (e j) (f j)) ∙ cmp_front n x y ∙ l)

module _ {V : Type 0} (f : Values V) (n : KeyBits) where
  -- ---- the first of the places that are set

  pub first_place_is : (places r : ℕ) (s : KeyBits) (e : KeyBits × V) → slice_get data_places r ≡ Some s → bit_at places r ≡ 1
      → ((b : ℕ) (t : KeyBits) → slice_get data_places b ≡ Some t → bit_at places b ≡ 1 → stands_from true s t ≡ true)
      → e.0 ≡ n ++ s → f e.0 ≡ Some e.1 → IsFirstOf f (IsChosen n places 0) (Some e)
  first_place_is places r s e is set first p stored = record {
    stored = stored;
    chosen = at_place r s is set p;
    first = λ k st c. elim c [
      | at_place b t is' set' q ↦
          let same : stands_from true (n ++ s) (n ++ t) ≡ true = stands_front true n s t ∙ first b t is' set' in
          (λ j. stands_from true (p j) (q j)) ∙ same
      | below_child i t x is' set' q ↦ absurd (omega (arith, set', bit_at-zero i))
    ];
  }

  pub no_place : (places : ℕ) → places ≡ 0 → IsFirstOf f (IsChosen n places 0) None
  no_place places z k st c = elim c [
    | at_place b t is set q ↦ absurd (omega (arith, set, ap (λ x. bit_at x b) z, bit_at-zero b))
    | below_child i t x is set q ↦ absurd (omega (arith, set, bit_at-zero i))
  ]

  pub no_children : (places children : ℕ) → children ≡ 0 → (r : Option (KeyBits × V)) → IsFirstOf f (IsChosen n places 0) r → IsFirstOf f (IsChosen n places children) r
  no_children places children z r h = subst (λ x. IsFirstOf f (IsChosen n places x) r) (sym z) h

  -- ---- a child, and what stands before and behind it

  module _ (places children child pa ca : ℕ) (cs : KeyBits)
      (is : slice_get child_places child ≡ Some cs) (places_past : pa ≡ data_mask (is_past cs)) (children_past : ca ≡ child_mask (is_past cs)) (small : pa < 4294967296)
      (set : bit_at children child ≡ 1) (lowest : (i : ℕ) → i < child → bit_at children i ≡ 0) where
    five : length cs ≡ 5
    five = length_of_children child cs is

    -- a place that is set and not before the child is behind its range
    place_past : (b : ℕ) (t : KeyBits) → slice_get data_places b ≡ Some t → bit_at places b ≡ 1 → bit_at (bit_and places (4294967295 - pa)) b ≡ 0 → is_past cs t ≡ true
    place_past b t at_b e g =
        let l = place_limit b t at_b in
        digit_set _ (sym (place_mask (is_past cs) pa b t places_past at_b) ∙ without_clear places pa b small (omega (arith, l)) e g)

    -- and so is each child that is set, but for this one
    child_past : (c : ℕ) (s : KeyBits) → slice_get child_places c ≡ Some s → bit_at children c ≡ 1 → (cs ≡ s) ⊎ (is_past cs s ≡ true)
    child_past c s at_c e =
        elim (nat_lt child c) as (λ b. nat_lt child c ≡ b → (cs ≡ s) ⊎ (is_past cs s ≡ true)) [
          | true ↦ λ t. inr (later_child child c cs s (ltb-true _ _ t) is at_c)
          | false ↦ λ t. elim (c == child) as (λ b. (c == child) ≡ b → (cs ≡ s) ⊎ (is_past cs s ≡ true)) [
            | true ↦ λ z. let o : Some cs ≡ Some s = sym is ∙ ap (slice_get child_places) (sym (eqb-true c child z)) ∙ at_c in inl (let h : cs ≡ s = cc in h)
            | false ↦ λ z. let m = eqb-false c child z in let g = ltb-false child c t in absurd (let none = lowest c (omega (arith, m, g)) in omega (arith, none, e))
          ] refl
        ] refl

    pub before_found : (e : KeyBits × V) → IsFirstOf f (IsChosen n (bit_and places (4294967295 - pa)) 0) (Some e) → IsFirstOf f (IsChosen n places children) (Some e)
    before_found e h =
        elim h.chosen [
          | below_child i t x at_i one q ↦ absurd (omega (arith, one, bit_at-zero i))
          | at_place b t at_b one q ↦
              let l = place_limit b t at_b in
              let p = without_set places pa b small (omega (arith, l)) one in
              let short = places_short b t at_b in
              let off = digit_clear _ (sym (place_mask (is_past cs) pa b t places_past at_b) ∙ p.1) in
              let less = λ (x : KeyBits). not_past_less cs t x (omega (arith, short, five)) off in
              record {
                stored = h.stored;
                chosen = at_place b t at_b p.0 q;
                first = λ k st c. elim c [
                  | at_place b' t' at_b' one' q' ↦ elim (set_or_clear (bit_and places (4294967295 - pa)) b') [
                    | inl g ↦ h.first k st (at_place b' t' at_b' g q')
                    | inr g ↦
                        let later = past_less cs t' [] [] (place_past b' t' at_b' one' g) in
                        ordered n t (t' ++ []) e.0 k q (q' ∙ ap (λ y. n ++ y) (sym (append_none t'))) (key_total.trans t (cs ++ []) (t' ++ []) (less []) later)
                  ]
                  | below_child c' s' r at_c one' q' ↦ elim (child_past c' s' at_c one') [
                    | inl same ↦ ordered n t (cs ++ r) e.0 k q (q' ∙ append_assoc n s' r ∙ ap (λ y. n ++ (y ++ r)) (sym same)) (less r)
                    | inr past ↦
                        ordered n t (s' ++ r) e.0 k q (q' ∙ append_assoc n s' r) (key_total.trans t (cs ++ []) (s' ++ r) (less []) (past_less cs s' [] r past))
                  ]
                ];
              }
        ]

    module _ (none : IsFirstOf f (IsChosen n (bit_and places (4294967295 - pa)) 0) None) where
      pub below_found : (e : KeyBits × V) → IsFirstOf f (λ k. begins_with (n ++ cs) k ≡ true) (Some e) → IsFirstOf f (IsChosen n places children) (Some e)
      below_found e h =
          let x = follows (n ++ cs) e.0 h.chosen in
          let p : e.0 ≡ n ++ (cs ++ x.rest) = x.whole ∙ append_assoc n cs x.rest in
          record {
            stored = h.stored;
            chosen = below_child child cs x.rest is set x.whole;
            first = λ k st c. elim c [
              | at_place b t at_b one q' ↦ elim (set_or_clear (bit_and places (4294967295 - pa)) b) [
                | inl g ↦ absurd (none k st (at_place b t at_b g q'))
                | inr g ↦ ordered n (cs ++ x.rest) (t ++ []) e.0 k p (q' ∙ ap (λ y. n ++ y) (sym (append_none t))) (past_less cs t x.rest [] (place_past b t at_b one g))
              ]
              | below_child c' s' r at_c one q' ↦ elim (child_past c' s' at_c one) [
                | inl same ↦ h.first k st ((λ j. begins_with (n ++ same j) (q' j)) ∙ front_append (n ++ s') r)
                | inr past ↦ ordered n (cs ++ x.rest) (s' ++ r) e.0 k p (q' ∙ append_assoc n s' r) (past_less cs s' x.rest r past)
              ]
            ];
          }

      pub below_none : IsFirstOf f (λ k. begins_with (n ++ cs) k ≡ true) None → (r : Option (KeyBits × V))
          → IsFirstOf f (IsChosen n (bit_and places pa) (bit_and children ca)) r → IsFirstOf f (IsChosen n places children) r
      below_none gone = first_same f (IsChosen n (bit_and places pa) (bit_and children ca)) (IsChosen n places children)
          (λ k st c. elim c [
            | at_place b t at_b one q ↦ elim (set_or_clear (bit_and places (4294967295 - pa)) b) [
              | inl g ↦ absurd (none k st (at_place b t at_b g q))
              | inr g ↦ at_place b t at_b (both_set places pa b one (place_mask (is_past cs) pa b t places_past at_b ∙ ap digit (place_past b t at_b one g))) q
            ]
            | below_child c' s' r at_c one q ↦ elim (child_past c' s' at_c one) [
              | inl same ↦ absurd (gone k st ((λ j. begins_with (n ++ same j) (q j)) ∙ front_append (n ++ s') r))
              | inr past ↦ below_child c' s' r at_c (both_set children ca c' one (child_mask_at (is_past cs) ca c' s' children_past at_c ∙ ap digit past)) q
            ]
          ])
          (λ k c. elim c [
            | at_place b t at_b one q ↦ at_place b t at_b (and_set places pa b one).0 q
            | below_child c' s' r at_c one q ↦ below_child c' s' r at_c (and_set children ca c' one).0 q
          ])

-- what a node's bitmaps choose begins with its key
pub chosen_front : (n : KeyBits) (a b : ℕ) (k : KeyBits) → IsChosen n a b k → begins_with n k ≡ true
chosen_front n a b k h = elim h [
  | at_place i s is set e ↦ ap (begins_with n) e ∙ front_append n s
  | below_child i s r is set e ↦ ap (begins_with n) (e ∙ append_assoc n s r) ∙ front_append n (s ++ r)
]

-- ---- answers that may be none

pub some_mapped : {A B : Type 0} (g : A → B) (r : Option A) (b : Bool) → is_some r ≡ b → is_some (option_map g r) ≡ b
some_mapped g None b e = e
some_mapped g (Some x) b e = e

module _ {V : Type 0} (f : Values V) where
  -- what holds of each entry that is found holds of an answer that is not none
  pub where_some : (C D : KeyBits → Type 0) → ((e : KeyBits × V) → IsFirstOf f C (Some e) → IsFirstOf f D (Some e)) → (r : Option (KeyBits × V)) → is_some r ≡ true → IsFirstOf f C r → IsFirstOf f D r
  where_some C D each None some h = cc
  where_some C D each (Some e) some h = each e h

  pub where_none : (C : KeyBits → Type 0) (r : Option (KeyBits × V)) → is_some r ≡ false → IsFirstOf f C r → IsFirstOf f C None
  where_none C None none h = h
  where_none C (Some e) none h = cc
