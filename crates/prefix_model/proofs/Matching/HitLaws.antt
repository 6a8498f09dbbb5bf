-- The stored fronts of a key in a node, by the data bits that are set.
use Rattle.std.proofs.Common.{◌≡◌, ℕ, zero, ◌+◌, ◌-◌, ◌*◌, ◌/◌, ◌^◌, ◌<◌, ◌≤◌, ◌&&◌, ◌++◌, Bool, true, false, cond, length, take, drop, refl, sym, ap, ◌∙◌, subst, arith, inl, inr, Option, Some, None, length-take, length-drop, length-append}
use Rattle.std.specs.Prelude.{is_some, slice_get, bit_and, min, max}
use Rattle.std.specs.Int.{bit_at, w32}
use Rattle.std.specs.FinMap.{get}
use Rattle.std.proofs.lemmas.Bool.{cases_lt}
use Rattle.std.proofs.lemmas.Nat.{pow-add}
use Rattle.std.proofs.Math.Nat.{div-le_self}
use Rattle.std.proofs.lemmas.Nat.Bits.{bit_at_above, bit_at-trailing_zeros, bit_at-zero}
use lib.Count.{count_leading_zeros, count_trailing_zeros}
use lib.Pow.{pow_mono}
use Rattle.prefix_model.specs.Keys.{KeyBits, number}
use Rattle.prefix_model.specs.Tables.{KeyMap}
use Rattle.prefix_model.specs.Positions.{data_places, data_bits}
use Rattle.prefix_model.specs.Masks.{data_mask, begins_with}
use Rattle.prefix_model.proofs.MaskBits.{data_mask_tells, masks_meet, masks_fit}
use Rattle.prefix_model.proofs.KeyLemmas.{both_true}
use Rattle.prefix_model.proofs.KeyPlaces.{places_short, part-lt}
use Rattle.prefix_model.proofs.KeyLists.{places_apart, place_index, slice_get-index_of}
use Rattle.prefix_model.proofs.KeyPieces.{part_at, part_front, take_parts}
use Rattle.prefix_model.proofs.Bitmaps.WordBits.{bit_at_shr}
use Rattle.prefix_model.proofs.Bitmaps.SetBits.{top_of, above_zero}
use Rattle.prefix_model.proofs.Fronts.{follows, take_front, front_of_all}
use Rattle.prefix_model.specs.Hits.{place_of, HasNoneIn, IsLastIn, IsFirstIn, IsMatchAt, IsHit, AreHits, IsHighest, IsLowestFrom}
use Rattle.prefix_model.proofs.Bitmaps.NodeBits.{data_place}
use Rattle.prefix_model.proofs.StoredValues.{none_of}

set_is_true : (b : Bool) (n : ℕ) → n ≡ cond b 1 0 → n ≡ 1 → b ≡ true
set_is_true true n e f = refl
set_is_true false n e f = absurd (omega arith)

clear_is_false : (b : Bool) (n : ℕ) → n ≡ cond b 1 0 → n ≡ 0 → b ≡ false
clear_is_false true n e f = absurd (omega arith)
clear_is_false false n e f = refl

-- ---- the data bits of fronts

-- a longer front has a higher data bit
pub place_rises : (bits : KeyBits) (d i j : ℕ) → d ≤ i → i < j → place_of bits d i < place_of bits d j
place_rises bits d i j from more =
    let a = part-lt bits d i (i - d) (omega arith) in
    let e : 2 ^ (i - d + 1) ≡ 2 ^ (i - d) * 2 = pow-add 2 (i - d) 1 in
    let p : 2 ^ (i - d + 1) ≤ 2 ^ (j - d) = pow_mono (omega arith) in
    omega (arith, a, e, p)

pub same_front_length : (bits : KeyBits) (d i j : ℕ) → d ≤ i → d ≤ j → place_of bits d i ≡ place_of bits d j → i ≡ j
same_front_length bits d i j fi fj e = elim (cases_lt i j) [
  | inl l ↦ let r = place_rises bits d i j fi l in absurd (omega (arith, r, e))
  | inr l ↦ elim (cases_lt j i) [ inl m ↦ let r = place_rises bits d j i fj m in absurd (omega (arith, r, e)) | inr m ↦ omega arith ]
]

-- the data bit of the shortest front of a level
pub level_start : (bits : KeyBits) (d j k : ℕ) → d + k ≤ j → 2 ^ k - 1 ≤ place_of bits d j
level_start bits d j k l = let p : 2 ^ k ≤ 2 ^ (j - d) = pow_mono (omega arith) in omega (arith, p)

pub before_level : (bits : KeyBits) (d j k : ℕ) → d ≤ j → j < d + k → place_of bits d j < 2 ^ k - 1
before_level bits d j k from l =
    let a = part-lt bits d j (j - d) (omega arith) in
    let e : 2 ^ (j - d + 1) ≡ 2 ^ (j - d) * 2 = pow-add 2 (j - d) 1 in
    let p : 2 ^ (j - d + 1) ≤ 2 ^ k = pow_mono (omega arith) in
    omega (arith, a, e, p)

module _ {V : Type 0} (m : KeyMap V) (bits : KeyBits) (d len : ℕ) (order : d ≤ len) (within : len ≤ length bits) where
  part_is_front : (j : ℕ) → d ≤ j → j ≤ len → begins_with (drop d (take j bits)) (drop d (take len bits)) ≡ true
  part_is_front j from to =
      let e : d + (j - d) ≡ j = omega arith in
      let f : drop d (take j bits) ≡ take (j - d) (drop d (take len bits)) = ap (λ n. drop d (take n bits)) (sym e) ∙ part_front bits d (j - d) len (omega arith) in
      ap (λ s. begins_with s (drop d (take len bits))) f ∙ front_of_all (j - d) (drop d (take len bits))

  module _ (marks mask hits : ℕ) (marks_are : marks ≡ data_bits (get m) (take d bits)) (mask_is : mask ≡ data_mask (λ s. begins_with s (drop d (take len bits)))) (hits_are : hits ≡ bit_and marks mask) where
    test : KeyBits → Bool
    test s = is_some (get m (take d bits ++ s)) && begins_with s (drop d (take len bits))

    hits_mask : hits ≡ data_mask test
    unfolding test
    hits_mask = hits_are ∙ (λ i. bit_and (marks_are i) (mask_is i)) ∙ (masks_meet (λ s. is_some (get m (take d bits ++ s))) (λ s. begins_with s (drop d (take len bits)))).0

    hits_small : hits < 2 ^ 31
    hits_small = subst (λ n. n < 2 ^ 31) (sym hits_mask) (masks_fit test).0

    at_place : (b : ℕ) (s : KeyBits) → slice_get data_places b ≡ Some s → bit_at hits b ≡ cond (test s) 1 0
    at_place b s e = ap (λ n. bit_at n b) hits_mask ∙ data_mask_tells test b s e

    bit_within : (b : ℕ) → bit_at hits b ≡ 1 → b < 31
    bit_within b set = elim (cases_lt b 31) [ inl l ↦ l | inr l ↦ absurd (let z = bit_at_above hits 31 b hits_small l in omega (arith, z, set)) ]

    hit : (b : ℕ) → bit_at hits b ≡ 1 → IsHit bits d (min (len + 1) (d + 5)) marks b
    unfolding test
    hit b set =
        let l = bit_within b set in
        let place = data_place b l in
        let s = place.0 in
        let e = place.1 in
        let passes = set_is_true (test s) (bit_at hits b) (at_place b s e) set in
        let parts = both_true (is_some (get m (take d bits ++ s))) (begins_with s (drop d (take len bits))) passes in
        let short = places_short b s e in
        let f = follows s (drop d (take len bits)) parts.1 in
        let whole = ap length f.whole in
        let sum = length-append s f.rest in
        let a = length-drop d (take len bits) in
        let t = length-take len bits in
        let few : length s ≤ len - d = omega (arith, whole, sum, a, t) in
        let j : ℕ = d + length s in
        let back : j - d ≡ length s = omega arith in
        let same : drop d (take j bits) ≡ s = part_front bits d (length s) len (omega (arith, few)) ∙ ap (take (length s)) f.whole ∙ take_front s f.rest in
        let index = slice_get-index_of data_places s b places_apart e in
        let own = place_index s short in
        let number_is : b ≡ 2 ^ length s - 1 + number s = (let k : Some b ≡ Some (2 ^ length s - 1 + number s) = sym index ∙ own in cc) in
        let marked : bit_at marks b ≡ 1 = ap (λ n. bit_at n b) marks_are ∙ data_mask_tells (λ s. is_some (get m (take d bits ++ s))) b s e ∙ ap (λ t. cond t 1 0) parts.0 in
        record {
          len = j;
          from = omega arith;
          below = omega (arith, few, short);
          at = number_is ∙ (λ i. 2 ^ (sym back i) - 1 + number (sym same i));
          is_marked = marked;
        }

    none_at : (j : ℕ) → d ≤ j → j < min (len + 1) (d + 5) → bit_at hits (place_of bits d j) ≡ 0 → get m (take j bits) ≡ None
    unfolding test
    none_at j from below clear =
        let s = drop d (take j bits) in
        let e = part_at bits d j (place_of bits d j) from (omega (arith, below)) (omega (arith, below)) refl in
        let fails = clear_is_false (test s) (bit_at hits (place_of bits d j)) (at_place (place_of bits d j) s e) clear in
        let front = part_is_front j from (omega (arith, below)) in
        let gone : is_some (get m (take d bits ++ s)) ≡ false = off (is_some (get m (take d bits ++ s))) (begins_with s (drop d (take len bits))) front fails in
        ap (get m) (sym (take_parts bits d j from)) ∙ none_of _ gone
      where
        off : (a b : Bool) → b ≡ true → (a && b) ≡ false → a ≡ false
        off a true e f = elim a as (λ a. (a && true) ≡ false → a ≡ false) [ true ↦ λ g. g | false ↦ λ g. refl ] f
        off a false e f = cc

    pub are_hits : AreHits m bits d (min (len + 1) (d + 5)) marks hits
    are_hits = record { small = hits_small; some = hit; none = none_at }

  -- ---- the longest and the shortest

  pub none_hit : (n marks hits : ℕ) → AreHits m bits d n marks hits → hits ≡ 0 → HasNoneIn m bits d n
  none_hit n marks hits h e j from below = h.none j from below (ap (λ x. bit_at x (place_of bits d j)) e ∙ bit_at-zero (place_of bits d j))

  pub last_hit : (n marks hits b length_found : ℕ) (v : V) → AreHits m bits d n marks hits → IsHighest hits b → IsMatchAt m bits d n b length_found v → IsLastIn m bits d n length_found v
  last_hit n marks hits b found v h top at = record {
    from = at.from;
    below = at.below;
    stored = at.stored;
    longest = λ j more below.
        let from = at.from in
        let rises = place_rises bits d found j from (omega (arith, more)) in
        h.none j (omega (arith, more, from)) below (top.none (place_of bits d j) (omega (arith, rises, at.at)));
  }

  -- from the first data bit of a level on
  pub first_hit : (n from k start marks hits b found : ℕ) (v : V) → k ≡ from - d → start ≡ 2 ^ k - 1 → AreHits m bits d n marks hits → IsLowestFrom hits start b → IsMatchAt m bits d n b found v → IsFirstIn m bits (max from d) n found v
  first_hit n from k start marks hits b found v k_is start_is h low at =
      let at_from = at.from in
      let low_from = low.from in
      let reaches : max from d ≤ found = elim (cases_lt found (max from d)) [
        | inl l ↦ let less = before_level bits d found k at_from (omega (arith, l, k_is)) in absurd (omega (arith, less, low_from, start_is, at.at))
        | inr l ↦ l
      ] in
      record {
        from = reaches;
        below = at.below;
        stored = at.stored;
        shortest = λ j from_j less.
            let first = level_start bits d j k (omega (arith, from_j, k_is)) in
            let rises = place_rises bits d j found (omega (arith, from_j)) less in
            let below_n = at.below in
            h.none j (omega (arith, from_j)) (omega (arith, less, below_n)) (low.none (place_of bits d j) (omega (arith, first, start_is)) (omega (arith, rises, at.at)));
      }

  pub none_hit_from : (n from k start marks hits : ℕ) → k ≡ from - d → start ≡ 2 ^ k - 1 → AreHits m bits d n marks hits → ((i : ℕ) → start ≤ i → bit_at hits i ≡ 0) → HasNoneIn m bits (max from d) n
  none_hit_from n from k start marks hits k_is start_is h clear j from_j below =
      let first = level_start bits d j k (omega (arith, from_j, k_is)) in
      h.none j (omega (arith, from_j)) below (clear (place_of bits d j) (omega (arith, first, start_is)))

-- the place of a data bit that is a hit
pub record HitPlace (bits : KeyBits) (d len b found : ℕ) : Type 0 where
  pub small : b < 31
  pub at_place : slice_get data_places b ≡ Some (drop d (take found bits))
  pub short : found - d < 5
  pub size : length (drop d (take found bits)) ≡ found - d

pub hit_place : (bits : KeyBits) (d len marks b : ℕ) → len ≤ length bits → (h : IsHit bits d (min (len + 1) (d + 5)) marks b) → HitPlace bits d len b h.len
hit_place bits d len marks b within h =
    let from = h.from in
    let below = h.below in
    let at = h.at in
    let l = before_level bits d h.len 5 from (omega (arith, below)) in
    record {
      small = omega (arith, at, l);
      at_place = part_at bits d h.len b from (omega (arith, below)) (omega (arith, below, within)) at;
      short = omega (arith, below, from);
      size = let a = length-drop d (take h.len bits) in let t = length-take h.len bits in omega (arith, a, t, below, within);
    }

-- a length that is told by the place is that of the hit
pub hit_level : (b l : ℕ) (s t : KeyBits) → slice_get data_places b ≡ Some s → slice_get data_places b ≡ Some t → length s ≡ l → l ≡ length t
hit_level b l s t e f size = let same : s ≡ t = (let k : Some s ≡ Some t = sym e ∙ f in cc) in sym size ∙ ap length same

-- the highest set bit by the zeros before it, and the lowest by those behind it
pub highest_bit : (x : ℕ) → x < 2 ^ 32 → (x ≡ 0 → ⊥) → IsHighest x (31 - count_leading_zeros 32 x)
highest_bit x fits some = let t = top_of x fits (above_zero x some) in record { within = t.within; set = t.set; none = t.none }

pub lowest_bit : (x a : ℕ) → x < 2 ^ 32 → a < 32 → (x / 2 ^ a ≡ 0 → ⊥) → IsLowestFrom x a (a + count_trailing_zeros 32 (x / 2 ^ a))
lowest_bit x a fits small some =
    let less : x / 2 ^ a < 2 ^ 32 = omega (arith, div-le_self x (2 ^ a)) in
    let t = bit_at-trailing_zeros w32 (x / 2 ^ a) (above_zero (x / 2 ^ a) some) less in
    let set : bit_at x (a + count_trailing_zeros 32 (x / 2 ^ a)) ≡ 1 = sym (bit_at_shr x a (count_trailing_zeros 32 (x / 2 ^ a))) ∙ t.1 in
    record {
      from = omega arith;
      within = elim (cases_lt (a + count_trailing_zeros 32 (x / 2 ^ a)) 32) [ inl l ↦ l | inr l ↦ absurd (let z = bit_at_above x 32 (a + count_trailing_zeros 32 (x / 2 ^ a)) fits l in omega (arith, z, set)) ];
      set = set;
      none = λ i from below.
          let is : a + (i - a) ≡ i = omega arith in
          ap (bit_at x) (sym is) ∙ sym (bit_at_shr x a (i - a)) ∙ t.2 (i - a) (omega arith);
    }

pub none_from : (x a : ℕ) → x / 2 ^ a ≡ 0 → (i : ℕ) → a ≤ i → bit_at x i ≡ 0
none_from x a e i from =
    let is : a + (i - a) ≡ i = omega arith in
    ap (bit_at x) (sym is) ∙ sym (bit_at_shr x a (i - a)) ∙ ap (λ n. bit_at n (i - a)) e ∙ bit_at-zero (i - a)
