-- The candidates of a node's places, by what the node has below them.
use Rattle.std.specs.Prelude.{◌==◌, ◌||◌, nat_le, is_some, slice_get, get_or}
use Rattle.std.specs.Int.{bit_at}
use Rattle.std.specs.List.{list_all}
use Rattle.std.specs.FinMap as map
use Rattle.std.proofs.Common.{◌≡◌, ◌≢◌, ◌⊎◌, inl, inr, ℕ, zero, suc, ◌+◌, ◌-◌, ◌*◌, ◌/◌, ◌%◌, ◌^◌, ◌<◌, ◌≤◌, Bool, true, false, cond, [], ◌∷◌, ◌++◌, length, Option, Some, None, refl, sym, ap, ◌∙◌, subst, arith, append_assoc, append-nil, length-append, bit_or, T}
use Rattle.std.proofs.lemmas.Nat.Bits.{bit_at_or, bit_at-zero}
use Rattle.std.proofs.lemmas.Option.{get_or_from_slice_get, slice_get-get_or, slice_get_within}
use Rattle.std.proofs.Math.Facts.{eqb_yes}
use Rattle.prefix_model.specs.Keys.{KeyBits, same_key}
use Rattle.prefix_model.specs.Tables.{HasWidth}
use Rattle.prefix_model.specs.Positions.{data_places, child_places, data_bits, child_bits}
use Rattle.prefix_model.specs.Rows.{count_up}
use Rattle.prefix_model.specs.TableViews.{TableView, HoldsPositions}
use Rattle.prefix_model.specs.Places.{answers_from}
use Rattle.prefix_model.proofs.Bitmaps.NodeBits.{places_count, children_count}
use Rattle.prefix_model.proofs.MaskBits.{bitmap_bit}
use Rattle.prefix_model.proofs.TablePositions.{none_from}
use Rattle.prefix_model.proofs.KeyLemmas.{same_key-same}
use Rattle.prefix_model.proofs.Building.{answer_none}
use Rattle.prefix_aggregate.specs.Inner.{has_pair, has_below, AreInner}
use Rattle.prefix_aggregate.proofs.NodeLaws.{all_test, digit}
use Rattle.prefix_aggregate.proofs.BelowLaws.{answer_split}
use Rattle.prefix_aggregate.proofs.Numbers.{nat_order}

-- ---- the halves of a place, by number

abbrev half_places : Bool → ℕ → Bool
half_places x b = same_key (get_or data_places (2 * b + 1 + cond x 1 0) []) (get_or data_places b [] ++ x ∷ [])

lows : list_all (λ b. half_places false b) (count_up 0 15) ≡ true
unfolding data_places
lows = refl

highs : list_all (λ b. half_places true b) (count_up 0 15) ≡ true
unfolding data_places
highs = refl

abbrev slot_places : Bool → ℕ → Bool
slot_places x b = same_key (get_or child_places (2 * (b - 15) + cond x 1 0) []) (get_or data_places b [] ++ x ∷ [])

low_slots : list_all (λ b. slot_places false b) (count_up 15 16) ≡ true
unfolding data_places child_places
low_slots = refl

high_slots : list_all (λ b. slot_places true b) (count_up 15 16) ≡ true
unfolding data_places child_places
high_slots = refl

four_long : list_all (λ b. length (get_or data_places b []) == 4) (count_up 15 16) ≡ true
unfolding data_places
four_long = refl

pub one_of : (m b : ℕ) → (bit_at m b ≡ 1) ⊎ (bit_at m b ≡ 0)
one_of m b = digit (m / 2 ^ b)

pub none_of : (p q : Bool) → (p || q) ≡ false → (p ≡ false) × (q ≡ false)
none_of false false e = (refl, refl)
none_of false true e = absurd cc
none_of true q e = absurd cc

some_of : (p q : Bool) → (p || q) ≡ true → (p ≡ true) ⊎ (q ≡ true)
some_of true q e = inl refl
some_of false q e = inr e

pub zero_bit : (m b : ℕ) → (bit_at m b == 1) ≡ false → bit_at m b ≡ 0
zero_bit m b e = elim (one_of m b) [
  | inl one ↦ absurd (let f = sym (ap (λ d. d == 1) one) ∙ e in cc)
  | inr none ↦ none
]

one_bit : (m b : ℕ) → (bit_at m b == 1) ≡ true → bit_at m b ≡ 1
one_bit m b e = elim (one_of m b) [
  | inl one ↦ one
  | inr none ↦ absurd (let f = sym (ap (λ d. d == 1) none) ∙ e in cc)
]

below_low : (f c b : ℕ) → b < 15 → has_below f c b ≡ has_pair f (2 * b + 1)
below_low f c b h = ap (λ t. cond t (has_pair c (2 * (b - 15))) (has_pair f (2 * b + 1))) (not_le 15 b h)
  where
    not_le : (a b : ℕ) → b < a → nat_le a b ≡ false
    not_le a b h = grind (arith, h)

below_high : (f c b : ℕ) → 15 ≤ b → has_below f c b ≡ has_pair c (2 * (b - 15))
below_high f c b h = ap (λ t. cond t (has_pair c (2 * (b - 15))) (has_pair f (2 * b + 1))) (is_le 15 b h)
  where
    is_le : (a b : ℕ) → a ≤ b → nat_le a b ≡ true
    is_le a b h = grind (arith, h)

module _ (stored child inner : ℕ) (law : AreInner stored child inner 0) where
  -- where a place is not inner, its halves are not filled
  pub not_filled : (b : ℕ) → b < 15 → bit_at inner b ≡ 0 → (x : Bool) → (bit_at stored (2 * b + 1 + cond x 1 0) ≡ 0) × (bit_at inner (2 * b + 1 + cond x 1 0) ≡ 0)
  not_filled b h none x =
      let pair : has_pair (bit_or stored inner) (2 * b + 1) ≡ false = sym (law b (omega arith) (omega (arith, h)) ∙ below_low (bit_or stored inner) child b h) ∙ ap (λ d. d == 1) none in
      let parts = none_of (bit_at (bit_or stored inner) (2 * b + 1) == 1) (bit_at (bit_or stored inner) (2 * b + 1 + 1) == 1) pair in
      let low = zero_bit (bit_or stored inner) (2 * b + 1) parts.0 in
      let high = zero_bit (bit_or stored inner) (2 * b + 1 + 1) parts.1 in
      of x low high
    where
      both : (i : ℕ) → bit_at (bit_or stored inner) i ≡ 0 → (bit_at stored i ≡ 0) × (bit_at inner i ≡ 0)
      both i e = let m = sym (bit_at_or stored inner i) ∙ e in (omega (arith, m), omega (arith, m))

      of : (x : Bool) → bit_at (bit_or stored inner) (2 * b + 1) ≡ 0 → bit_at (bit_or stored inner) (2 * b + 1 + 1) ≡ 0 → (bit_at stored (2 * b + 1 + cond x 1 0) ≡ 0) × (bit_at inner (2 * b + 1 + cond x 1 0) ≡ 0)
      of true low high = both (2 * b + 1 + 1) high
      of false low high = let z : 2 * b + 1 ≡ 2 * b + 1 + 0 = omega arith in both (2 * b + 1 + 0) (ap (bit_at (bit_or stored inner)) (sym z) ∙ low)

  pub no_slots : (b : ℕ) → 15 ≤ b → b < 31 → bit_at inner b ≡ 0 → (x : Bool) → bit_at child (2 * (b - 15) + cond x 1 0) ≡ 0
  no_slots b h w none x =
      let pair : has_pair child (2 * (b - 15)) ≡ false = sym (law b (omega arith) w ∙ below_high (bit_or stored inner) child b h) ∙ ap (λ d. d == 1) none in
      let parts = none_of (bit_at child (2 * (b - 15)) == 1) (bit_at child (2 * (b - 15) + 1) == 1) pair in
      of x (zero_bit child (2 * (b - 15)) parts.0) (zero_bit child (2 * (b - 15) + 1) parts.1)
    where
      of : (x : Bool) → bit_at child (2 * (b - 15)) ≡ 0 → bit_at child (2 * (b - 15) + 1) ≡ 0 → bit_at child (2 * (b - 15) + cond x 1 0) ≡ 0
      of true low high = high
      of false low high = let z : 2 * (b - 15) ≡ 2 * (b - 15) + 0 = omega arith in ap (bit_at child) (sym z) ∙ low

  -- and where it is, one of them is
  pub filled : (b : ℕ) → b < 15 → bit_at inner b ≡ 1 → (x : Bool) × ((bit_at stored (2 * b + 1 + cond x 1 0) ≡ 1) ⊎ (bit_at inner (2 * b + 1 + cond x 1 0) ≡ 1))
  filled b h one =
      let pair : has_pair (bit_or stored inner) (2 * b + 1) ≡ true = sym (law b (omega arith) (omega (arith, h)) ∙ below_low (bit_or stored inner) child b h) ∙ ap (λ d. d == 1) one in
      elim (some_of (bit_at (bit_or stored inner) (2 * b + 1) == 1) (bit_at (bit_or stored inner) (2 * b + 1 + 1) == 1) pair) [
        | inl low ↦ (let z : 2 * b + 1 ≡ 2 * b + 1 + 0 = omega arith in (false, either (2 * b + 1 + 0) (ap (bit_at (bit_or stored inner)) (sym z) ∙ one_bit (bit_or stored inner) (2 * b + 1) low)))
        | inr high ↦ (true, either (2 * b + 1 + 1) (one_bit (bit_or stored inner) (2 * b + 1 + 1) high))
      ]
    where
      either : (i : ℕ) → bit_at (bit_or stored inner) i ≡ 1 → (bit_at stored i ≡ 1) ⊎ (bit_at inner i ≡ 1)
      either i e = let m = sym (bit_at_or stored inner i) ∙ e in elim (one_of stored i) [ inl one ↦ inl one | inr none ↦ inr (omega (arith, m, none)) ]

  pub has_slot : (b : ℕ) → 15 ≤ b → b < 31 → bit_at inner b ≡ 1 → child ≢ 0
  has_slot b h w one none =
      let pair : has_pair child (2 * (b - 15)) ≡ true = sym (law b (omega arith) w ∙ below_high (bit_or stored inner) child b h) ∙ ap (λ d. d == 1) one in
      elim (some_of (bit_at child (2 * (b - 15)) == 1) (bit_at child (2 * (b - 15) + 1) == 1) pair) [
        | inl low ↦ (let e = sym (one_bit child (2 * (b - 15)) low) ∙ ap (λ m. bit_at m (2 * (b - 15))) none ∙ clear (2 * (b - 15)) in omega (arith, e))
        | inr high ↦ (let e = sym (one_bit child (2 * (b - 15) + 1) high) ∙ ap (λ m. bit_at m (2 * (b - 15) + 1)) none ∙ clear (2 * (b - 15) + 1) in omega (arith, e))
      ]
    where
      clear : (i : ℕ) → bit_at 0 i ≡ 0
      clear i = bit_at-zero i

  pub above_inner : (b : ℕ) → 0 < b → b < 31 → bit_at inner b ≡ 1 → bit_at inner ((b - 1) / 2) ≡ 1
  above_inner b some w one = elim (one_of inner ((b - 1) / 2)) [
    | inl one ↦ one
    | inr none ↦ absurd (
        let halves = not_filled ((b - 1) / 2) (omega (arith, w)) none in
        let low = (halves false).1 in
        let high = (halves true).1 in
        side (b % 2) refl low high
        )
  ]
    where
      side : (d : ℕ) → b % 2 ≡ d → bit_at inner (2 * ((b - 1) / 2) + 1 + 0) ≡ 0 → bit_at inner (2 * ((b - 1) / 2) + 1 + 1) ≡ 0 → ⊥
      side zero e low high = (let i : b ≡ 2 * ((b - 1) / 2) + 1 + 1 = omega (arith, e, some) in let f = sym one ∙ ap (bit_at inner) i ∙ high in omega (arith, f))
      side (suc d) e low high = (let i : b ≡ 2 * ((b - 1) / 2) + 1 + 0 = omega (arith, e, some) in let f = sym one ∙ ap (bit_at inner) i ∙ low in omega (arith, f))

-- ---- halves by key

module _ (b : ℕ) (s : KeyBits) (named : slice_get data_places b ≡ Some s) where
  is_key : get_or data_places b [] ≡ s
  is_key = get_or_from_slice_get data_places b s [] named

  pub half_named : b < 15 → (x : Bool) → slice_get data_places (2 * b + 1 + cond x 1 0) ≡ Some (s ++ x ∷ [])
  half_named h x = slice_get-get_or data_places (2 * b + 1 + cond x 1 0) [] (small x) ∙ ap (λ k. Some k) (same_key-same _ _ (tested x) ∙ ap (λ k. k ++ x ∷ []) is_key)
    where
      small : (x : Bool) → 2 * b + 1 + cond x 1 0 < length data_places
      small true = subst (λ n. 2 * b + 1 + 1 < n) (sym places_count) (omega (arith, h))
      small false = subst (λ n. 2 * b + 1 + 0 < n) (sym places_count) (omega (arith, h))

      tested : (x : Bool) → half_places x b ≡ true
      tested true = all_test (λ b. half_places true b) 0 15 b highs (omega arith) (omega (arith, h))
      tested false = all_test (λ b. half_places false b) 0 15 b lows (omega arith) (omega (arith, h))

  pub slot_named : 15 ≤ b → b < 31 → (x : Bool) → slice_get child_places (2 * (b - 15) + cond x 1 0) ≡ Some (s ++ x ∷ [])
  slot_named h w x = slice_get-get_or child_places (2 * (b - 15) + cond x 1 0) [] (small x) ∙ ap (λ k. Some k) (same_key-same _ _ (tested x) ∙ ap (λ k. k ++ x ∷ []) is_key)
    where
      small : (x : Bool) → 2 * (b - 15) + cond x 1 0 < length child_places
      small true = subst (λ n. 2 * (b - 15) + 1 < n) (sym children_count) (omega (arith, h, w))
      small false = subst (λ n. 2 * (b - 15) + 0 < n) (sym children_count) (omega (arith, h, w))

      tested : (x : Bool) → slot_places x b ≡ true
      tested true = all_test (λ b. slot_places true b) 15 16 b high_slots h (omega (arith, w))
      tested false = all_test (λ b. slot_places false b) 15 16 b low_slots h (omega (arith, w))

  pub last_long : 15 ≤ b → b < 31 → length s ≡ 4
  last_long h w = ap length (sym is_key) ∙ eqb_yes (subst T (sym (all_test (λ b. length (get_or data_places b []) == 4) 15 16 b four_long h (omega (arith, w)))) tt)

-- ---- what lies below a place

no_value : {X : Type 0} (o : Option X) → ◌≡◌ {A = ℕ} (cond (is_some o) 1 0) 0 → o ≡ None
no_value None e = refl
no_value (Some x) e = absurd (omega (arith, e))

a_value : {X : Type 0} (o : Option X) → ◌≡◌ {A = ℕ} (cond (is_some o) 1 0) 1 → is_some o ≡ true
a_value None e = absurd (omega (arith, e))
a_value (Some x) e = refl

pub no_flag : (b : Bool) → ◌≡◌ {A = ℕ} (cond b 1 0) 0 → b ≡ false
no_flag false e = refl
no_flag true e = absurd (omega (arith, e))

module _ {X : Type 0} (w : ℕ) (view : TableView X) (holds : HoldsPositions view) (wide : HasWidth w view.entries) (p : KeyBits) (node : length p % 5 ≡ 0) where
  too_long : (k : KeyBits) → w < length k → map.get view.entries k ≡ None
  too_long k h = of (map.get view.entries k) refl
    where
      of : (o : Option X) → map.get view.entries k ≡ o → o ≡ None
      of None e = refl
      of (Some x) e = absurd (let l = wide k (ap is_some e) in omega (arith, l, h))

  -- what goes on from a place with nothing below has the answer there
  answer_alone : (v : Option X) (s : KeyBits) → ((x : Bool) (k : KeyBits) → map.get view.entries (p ++ (s ++ x ∷ k)) ≡ None) → (k : KeyBits) → answers_from view p v (s ++ k) ≡ answers_from view p v s
  answer_alone v s none [] = ap (answers_from view p v) (append-nil s)
  answer_alone v s none (x ∷ k) = answer_split v (λ q. map.get view.entries (p ++ q)) s x k ∙ answer_none (answers_from view p v s) (λ q. map.get view.entries (p ++ (s ++ x ∷ q))) (λ q. none x q) k

  module _ (stored child inner : ℕ) (child_is : length p + 5 ≤ w → child ≡ child_bits (map.contains_key view.kept) p) (law : AreInner stored child inner 0) where
    below_slot : (b : ℕ) (s : KeyBits) → slice_get data_places b ≡ Some s → 15 ≤ b → b < 31 → bit_at inner b ≡ 0 → (x : Bool) (k : KeyBits) → map.get view.entries (p ++ (s ++ x ∷ k)) ≡ None
    below_slot b s named h l none x k = elim (nat_order (length p + 5) w) [
      | inl fits ↦
          let bit = sym (bitmap_bit child_places (λ c. map.contains_key view.kept (p ++ c)) (2 * (b - 15) + cond x 1 0) (s ++ x ∷ []) (slot_named b s named h l x)) ∙ ap (λ m. bit_at m (2 * (b - 15) + cond x 1 0)) (sym (child_is fits)) ∙ no_slots stored child inner law b h l none x in
          let size = length-append p (s ++ x ∷ []) in
          let more = length-append s (x ∷ []) in
          let four = last_long b s named h l in
          ap (map.get view.entries) (sym (append_assoc p (s ++ x ∷ []) k ∙ ap (λ t. p ++ t) (append_assoc s (x ∷ []) k)))
          ∙ none_from view holds (p ++ (s ++ x ∷ [])) (omega (arith, size, more, four, node)) (no_flag (map.contains_key view.kept (p ++ (s ++ x ∷ []))) bit) k
      | inr long ↦
          let size = length-append p (s ++ x ∷ k) in
          let more = length-append s (x ∷ k) in
          let four = last_long b s named h l in
          too_long (p ++ (s ++ x ∷ k)) (omega (arith, size, more, four, long))
    ]

    -- a place of the last level has one answer, where it has no child
    pub last_answer : (v : Option X) (b : ℕ) (s : KeyBits) → 15 ≤ b → b < 31 → slice_get data_places b ≡ Some s → bit_at inner b ≡ 0 → (k : KeyBits) → answers_from view p v (s ++ k) ≡ answers_from view p v s
    last_answer v b s high l named none k = answer_alone v s (λ x q. below_slot b s named high l none x q) k

-- a place that is inner lies above the addresses, where no place that is stored lies below them
module _ (w : ℕ) (p : KeyBits) (stored child inner : ℕ) (child_none : w < length p + 5 → child ≡ 0) (law : AreInner stored child inner 0)
    (fits : (b : ℕ) (s : KeyBits) → 0 < b → slice_get data_places b ≡ Some s → bit_at stored b ≡ 1 → length (p ++ s) ≤ w) where
  pub above_addresses : (m b : ℕ) (s : KeyBits) → 31 ≤ b + m → b < 31 → slice_get data_places b ≡ Some s → bit_at inner b ≡ 1 → length p + length s < w
  above_addresses zero b s enough l named one = absurd (omega (arith, enough, l))
  above_addresses (suc m) b s enough l named one = elim (nat_order 15 b) [
    | inl high ↦
        let four = last_long b s named high l in
        elim (nat_order (length p + 5) w) [
          | inl fits ↦ omega (arith, four, fits)
          | inr long ↦ absurd (has_slot stored child inner law b high l one (child_none long))
        ]
    | inr low ↦ deeper (λ x below half. above_addresses m (2 * b + 1 + cond x 1 0) (s ++ x ∷ []) (omega (arith, enough)) (subst (λ n. 2 * b + 1 + cond x 1 0 < n) places_count (slice_get_within data_places (2 * b + 1 + cond x 1 0) (s ++ x ∷ []) half)) half below) (filled stored child inner law b low one) low
  ]
    where
      deeper : ((x : Bool) → bit_at inner (2 * b + 1 + cond x 1 0) ≡ 1 → slice_get data_places (2 * b + 1 + cond x 1 0) ≡ Some (s ++ x ∷ []) → length p + length (s ++ x ∷ []) < w) → (x : Bool) × ((bit_at stored (2 * b + 1 + cond x 1 0) ≡ 1) ⊎ (bit_at inner (2 * b + 1 + cond x 1 0) ≡ 1)) → b < 15 → length p + length s < w
      deeper rec (x, found) low =
          let half = half_named b s named low x in
          let more = length-append s (x ∷ []) in
          let size = length-append p (s ++ x ∷ []) in
          elim found [
            | inl value ↦ (let most = fits (2 * b + 1 + cond x 1 0) (s ++ x ∷ []) (omega arith) half value in omega (arith, most, size, more))
            | inr below ↦ (let r = rec x below half in omega (arith, r, more))
          ]

module _ {X : Type 0} (w : ℕ) (view : TableView X) (holds : HoldsPositions view) (wide : HasWidth w view.entries) (p : KeyBits) (node : length p % 5 ≡ 0) (stored child inner : ℕ)
    (stored_is : stored ≡ data_bits (map.get view.entries) p) (child_is : length p + 5 ≤ w → child ≡ child_bits (map.contains_key view.kept) p) (child_none : w < length p + 5 → child ≡ 0) (law : AreInner stored child inner 0) where
  stored_bit : (b : ℕ) (s : KeyBits) → slice_get data_places b ≡ Some s → bit_at stored b ≡ cond (is_some (map.get view.entries (p ++ s))) 1 0
  stored_bit b s named = ap (λ m. bit_at m b) stored_is ∙ bitmap_bit data_places (λ s. is_some (map.get view.entries (p ++ s))) b s named

  pub nothing_below : (m b : ℕ) (s : KeyBits) → 31 ≤ b + m → b < 31 → slice_get data_places b ≡ Some s → bit_at inner b ≡ 0 → (x : Bool) (k : KeyBits) → map.get view.entries (p ++ (s ++ x ∷ k)) ≡ None
  nothing_below zero b s enough l named none x k = absurd (omega (arith, enough, l))
  nothing_below (suc m) b s enough l named none x k = elim (nat_order 15 b) [
    | inl high ↦ below_slot w view holds wide p node stored child inner child_is law b s named high l none x k
    | inr low ↦
        let halves = not_filled stored child inner law b low none x in
        let half = half_named b s named low x in
        deeper half halves.0 (λ z k. nothing_below m (2 * b + 1 + cond x 1 0) (s ++ x ∷ []) (omega (arith, enough)) (subst (λ n. 2 * b + 1 + cond x 1 0 < n) places_count (slice_get_within data_places (2 * b + 1 + cond x 1 0) (s ++ x ∷ []) half)) half halves.1 z k) k
  ]
    where
      deeper : slice_get data_places (2 * b + 1 + cond x 1 0) ≡ Some (s ++ x ∷ []) → bit_at stored (2 * b + 1 + cond x 1 0) ≡ 0
          → ((z : Bool) (k : KeyBits) → map.get view.entries (p ++ ((s ++ x ∷ []) ++ z ∷ k)) ≡ None) → (k : KeyBits) → map.get view.entries (p ++ (s ++ x ∷ k)) ≡ None
      deeper half clear rest [] = no_value (map.get view.entries (p ++ (s ++ x ∷ []))) (sym (stored_bit (2 * b + 1 + cond x 1 0) (s ++ x ∷ []) half) ∙ clear)
      deeper half clear rest (z ∷ k) = ap (λ t. map.get view.entries (p ++ t)) (sym (append_assoc s (x ∷ []) (z ∷ k))) ∙ rest z k

  pub inner_short : (m b : ℕ) (s : KeyBits) → 31 ≤ b + m → b < 31 → slice_get data_places b ≡ Some s → bit_at inner b ≡ 1 → length p + length s < w
  inner_short = above_addresses w p stored child inner child_none law (λ b s _ named one. wide (p ++ s) (a_value (map.get view.entries (p ++ s)) (sym (stored_bit b s named) ∙ one)))

  -- all that goes on from a place that is not inner has the answer there
  pub one_answer : (v : Option X) (b : ℕ) (s : KeyBits) → b < 31 → slice_get data_places b ≡ Some s → bit_at inner b ≡ 0 → (k : KeyBits) → answers_from view p v (s ++ k) ≡ answers_from view p v s
  one_answer v b s l named none k = answer_alone w view holds wide p node v s (λ x q. nothing_below 31 b s (omega arith) l named none x q) k
