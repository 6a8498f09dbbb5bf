-- Bits of the masks of a node: which are set, and which of them is the first in key order.
use Rattle.std.specs.Prelude.{◌≡◌, ℕ, zero, suc, ◌+◌, ◌-◌, ◌*◌, ◌/◌, ◌^◌, ◌<◌, ◌&&◌, ◌==◌, not, Bool, true, false, cond, List, [], ◌∷◌, length, map, Option, Some, None, IsSome, slice_get, bit_and, ◌⊎◌, ◌++◌, map as map_list, IsBitSet}
use Rattle.std.specs.Int.{bit_at, w32}
use Rattle.std.specs.Ordering.{is_lt, match_ordering}
use Rattle.std.specs.Option.{option_map}
use Rattle.std.proofs.Common.{refl, sym, ap, ◌∙◌, subst, arith, inl, inr}
use Rattle.std.proofs.lemmas.Nat.Bits.{bit_at-zero, bit_at-lt, bit_at-suc, bit_at_lowest, bit_at_and, bit_at_not, bit_at-trailing_zeros}
use Rattle.std.proofs.lemmas.Nat.{and_le_l}
use Rattle.std.proofs.lemmas.List.{length-map}
use Rattle.std.proofs.lemmas.Option.{slice_get-map, same_Some}
use borrow.Author.Tests.{eqb-true, eqb-false}
use lib.Count.{count_trailing_zeros}
use Rattle.prefix_model.specs.Keys.{KeyBits, keys_of_length, number, low_bits, digit}
use Rattle.prefix_model.specs.Positions.{data_places, child_places, bitmap, child_bits}
use Rattle.prefix_model.specs.Masks.{is_past, data_mask, child_mask}
use Rattle.prefix_model.specs.Walks.{begins_with, stands_from}
use Rattle.prefix_model.proofs.Archive.Numbers.{bitmap-lt}
use Rattle.prefix_model.proofs.KeyLemmas.{both_true}
use Rattle.prefix_model.proofs.KeyPlaces.{key_at_number}
use Rattle.prefix_model.proofs.MaskBits.{bitmap_bit, child_slot, bit_set_from}
use Rattle.prefix_model.proofs.Walking.PlaceOrder.{not_from, less_from}
use Rattle.prefix_model.proofs.Order.{itself}
use Rattle.prefix_model.proofs.Bitmaps.SetBits.{above_zero}
use Rattle.prefix_model.proofs.Bitmaps.PlaceBits.{set_from}

-- ---- bitmaps of tests

-- a bitmap of a test over keys
pub bit_of_test : (ks : List KeyBits) (test : KeyBits → Bool) (i : ℕ) (k : KeyBits) → slice_get ks i ≡ Some k → bit_at (bitmap (map test ks)) i ≡ digit (test k)
bit_of_test ks test i k e = bitmap_bit ks test i k e ∙ as_digit (test k)
  where
    as_digit : (b : Bool) → cond b 1 0 ≡ digit b
    as_digit true = refl
    as_digit false = refl

-- a bit that is set is in range, and its key passes
pub data SetBit (bs : List Bool) (i : ℕ) : Type 0 where
  found : slice_get bs i ≡ Some true → SetBit bs i

pub set_bit : (bs : List Bool) (i : ℕ) → bit_at (bitmap bs) i ≡ 1 → SetBit bs i
set_bit [] i e = absurd (omega (arith, e, bit_at-zero i))
set_bit (true ∷ bs) zero e = found refl
set_bit (false ∷ bs) zero e = absurd (omega (arith, e, bit_at_lowest (0 + 2 * bitmap bs)))
set_bit (true ∷ bs) (suc i) e = elim (set_bit bs i (sym (bit_at-suc (1 + 2 * bitmap bs) i ∙ ap (λ n. bit_at n i) (let r : (1 + 2 * bitmap bs) / 2 ≡ bitmap bs = omega arith in r)) ∙ e)) [ found s ↦ found s ]
set_bit (false ∷ bs) (suc i) e = elim (set_bit bs i (sym (bit_at-suc (0 + 2 * bitmap bs) i ∙ ap (λ n. bit_at n i) (let r : (0 + 2 * bitmap bs) / 2 ≡ bitmap bs = omega arith in r)) ∙ e)) [ found s ↦ found s ]

-- a bit that is set in a bitmap of a test is that of an item
pub item_of : {A : Type 0} (ks : List A) (test : A → Bool) (b : ℕ) → slice_get (map test ks) b ≡ Some true → (k : A) × (slice_get ks b ≡ Some k)
item_of [] test b e = cc
item_of (k ∷ ks) test zero e = (k, refl)
item_of (k ∷ ks) test (suc b) e = item_of ks test b e

-- the key of a bit that is set
pub key_of_bit : (ks : List KeyBits) (test : KeyBits → Bool) (b : ℕ) → bit_at (bitmap (map test ks)) b ≡ 1 → (s : KeyBits) × (slice_get ks b ≡ Some s)
key_of_bit ks test b e = elim (set_bit (map test ks) b e) [ found h ↦ item_of ks test b h ]

-- ---- children

pub child_at : (c : KeyBits) → length c ≡ 5 → slice_get child_places (number c) ≡ Some c
unfolding child_places
child_at c e = ap (λ n. slice_get (keys_of_length n) (number c)) (sym e) ∙ key_at_number c

every : (KeyBits → Bool) → List KeyBits → Bool
every test [] = true
every test (k ∷ ks) = test k && every test ks

every_at : (test : KeyBits → Bool) (ks : List KeyBits) (i : ℕ) (k : KeyBits) → every test ks ≡ true → slice_get ks i ≡ Some k → test k ≡ true
unfolding every
every_at test [] i k a e = cc
every_at test (l ∷ ks) zero k a e = let h : l ≡ k = cc in subst (λ (x : KeyBits). test x ≡ true) h (both_true _ _ a).0
every_at test (l ∷ ks) (suc i) k a e = every_at test ks i k (both_true _ _ a).1 e

pub length_of_children : (i : ℕ) (c : KeyBits) → slice_get child_places i ≡ Some c → length c ≡ 5
unfolding child_places every
length_of_children i c e = eqb-true _ _ (every_at (λ k. length k == 5) child_places i c refl e)

-- ---- bits of words

pub and_set : (x y b : ℕ) → bit_at (bit_and x y) b ≡ 1 → (bit_at x b ≡ 1) × (bit_at y b ≡ 1)
and_set x y b e =
    let m = bit_at_and x y b in
    let l = bit_at-lt x b in
    let k = bit_at-lt y b in
    (omega (arith, m, e, l, k), omega (arith, m, e, l, k))

pub both_set : (x y b : ℕ) → bit_at x b ≡ 1 → bit_at y b ≡ 1 → bit_at (bit_and x y) b ≡ 1
both_set x y b e f = let m = bit_at_and x y b in omega (arith, m, e, f)

pub digit_set : (b : Bool) → digit b ≡ 1 → b ≡ true
digit_set true e = refl
digit_set false e = absurd (omega (arith, e))

pub digit_clear : (b : Bool) → digit b ≡ 0 → b ≡ false
digit_clear true e = absurd (omega (arith, e))
digit_clear false e = refl

-- a set bit of a word, with a mask left out or put in
module _ (x m b : ℕ) (small : m < 4294967296) (within : b < 32) where
  pub without_set : bit_at (bit_and x (4294967295 - m)) b ≡ 1 → (bit_at x b ≡ 1) × (bit_at m b ≡ 0)
  without_set e =
      let p = and_set x (4294967295 - m) b e in
      let n : bit_at (4294967295 - m) b ≡ 1 - bit_at m b = bit_at_not w32 m b small within in
      let l = bit_at-lt m b in
      let s = p.1 in
      (p.0, omega (arith, n, l, s))

  pub without_clear : bit_at x b ≡ 1 → bit_at (bit_and x (4294967295 - m)) b ≡ 0 → bit_at m b ≡ 1
  without_clear e f =
      let a = bit_at_and x (4294967295 - m) b in
      let n : bit_at (4294967295 - m) b ≡ 1 - bit_at m b = bit_at_not w32 m b small within in
      let l = bit_at-lt m b in
      omega (arith, a, n, l, e, f)

pub set_or_clear : (x b : ℕ) → (bit_at x b ≡ 1) ⊎ (bit_at x b ≡ 0)
set_or_clear x b =
    elim (bit_at x b == 1) as (λ t. (bit_at x b == 1) ≡ t → (bit_at x b ≡ 1) ⊎ (bit_at x b ≡ 0)) [
      | true ↦ λ t. inl (eqb-true _ _ t)
      | false ↦ λ t. let n = eqb-false _ _ t in let l = bit_at-lt x b in inr (omega (arith, n, l))
    ] refl

-- ---- numbers of places and children

limit : {A : Type 0} (xs : List A) (i : ℕ) (x : A) → slice_get xs i ≡ Some x → i < length xs
limit [] i x e = cc
limit (y ∷ xs) zero x e = omega arith
limit (y ∷ xs) (suc i) x e = let l = limit xs i x e in omega (arith, l)

pub place_limit : (b : ℕ) (s : KeyBits) → slice_get data_places b ≡ Some s → b < 31
unfolding data_places
place_limit b s e = limit data_places b s e

pub child_limit : (c : ℕ) (s : KeyBits) → slice_get child_places c ≡ Some s → c < 32
unfolding child_places
child_limit c s e = limit child_places c s e

-- each data bit has a place
pub data_place : (b : ℕ) → b < 31 → (s : KeyBits) × (slice_get data_places b ≡ Some s)
unfolding data_places
data_place b l = some_at data_places b l
  where
    some_at : (ks : List KeyBits) (i : ℕ) → i < length ks → (s : KeyBits) × (slice_get ks i ≡ Some s)
    some_at [] i l = absurd (omega arith)
    some_at (k ∷ ks) zero l = (k, refl)
    some_at (k ∷ ks) (suc i) l = some_at ks i (omega arith)

-- the mask of a test, at a place
pub place_mask : (test : KeyBits → Bool) (m b : ℕ) (s : KeyBits) → m ≡ data_mask test → slice_get data_places b ≡ Some s → bit_at m b ≡ digit (test s)
place_mask test m b s e at = ap (λ n. bit_at n b) e ∙ bit_of_test data_places test b s at

pub child_mask_at : (test : KeyBits → Bool) (m c : ℕ) (s : KeyBits) → m ≡ child_mask test → slice_get child_places c ≡ Some s → bit_at m c ≡ digit (test s)
child_mask_at test m c s e at = ap (λ n. bit_at n c) e ∙ bit_of_test child_places test c s at

-- a mask of places has 31 bits
pub mask_small : (test : KeyBits → Bool) (m : ℕ) → m ≡ data_mask test → m < 4294967296
unfolding data_places
mask_small test m e =
    let l : bitmap (map test data_places) < 2 ^ 31 = subst (λ n. bitmap (map test data_places) < 2 ^ n) (length-map data_places test) (bitmap-lt (map test data_places)) in
    omega (arith, l, e)

key_in : (o : Option KeyBits) → IsSome o → (s : KeyBits) × (o ≡ Some s)
key_in None h = cc
key_in (Some s) h = (s, refl)

-- ---- the first of the places that are set

module _ (x bit m : ℕ) (s : KeyBits) (at : slice_get data_places bit ≡ Some s) (mask : m ≡ data_mask (stands_from true s)) (small : m < 4294967296) where
  -- a place that is set, and not before s, stands from s on
  behind : (b : ℕ) (t : KeyBits) → slice_get data_places b ≡ Some t → bit_at x b ≡ 1 → bit_at (bit_and x (4294967295 - m)) b ≡ 0 → stands_from true s t ≡ true
  behind b t is e f =
      let l = place_limit b t is in
      let set = without_clear x m b small (omega (arith, l)) e f in
      digit_set _ (sym (place_mask (stands_from true s) m b t mask is) ∙ set)

  pub first_alone : bit_and x (4294967295 - m) ≡ 0 → (b : ℕ) (t : KeyBits) → slice_get data_places b ≡ Some t → bit_at x b ≡ 1 → stands_from true s t ≡ true
  first_alone z b t is e = behind b t is e (ap (λ n. bit_at n b) z ∙ bit_at-zero b)

  pub first_before : (r : ℕ) (u : KeyBits) → slice_get data_places r ≡ Some u → bit_at (bit_and x (4294967295 - m)) r ≡ 1
      → ((b : ℕ) (t : KeyBits) → slice_get data_places b ≡ Some t → bit_at (bit_and x (4294967295 - m)) b ≡ 1 → stands_from true u t ≡ true)
      → (b : ℕ) (t : KeyBits) → slice_get data_places b ≡ Some t → bit_at x b ≡ 1 → stands_from true u t ≡ true
  first_before r u is set first b t there e =
      elim (set_or_clear (bit_and x (4294967295 - m)) b) [
        | inl f ↦ first b t there f
        | inr f ↦
            let l = place_limit r u is in
            let clear = (without_set x m r small (omega (arith, l)) set).1 in
            let less = not_from s u (digit_clear _ (sym (place_mask (stands_from true s) m r u mask is) ∙ clear)) in
            less_from u s t less (behind b t there e f)
      ]

-- what the code knows of the lowest bit that is set
module _ (x : ℕ) (fits : x < 4294967296) (some : x ≡ 0 → ⊥) (placed : (b : ℕ) → bit_at x b ≡ 1 → IsSome (slice_get data_places b)) where
  pub lowest_set : bit_at x (count_trailing_zeros 32 x) ≡ 1
  lowest_set = (bit_at-trailing_zeros w32 x (above_zero x some) fits).1

  pub lowest_key : (s : KeyBits) × (slice_get data_places (count_trailing_zeros 32 x) ≡ Some s)
  lowest_key = key_in (slice_get data_places (count_trailing_zeros 32 x)) (placed _ lowest_set)

  pub lowest_small : count_trailing_zeros 32 x < 31
  lowest_small = let k = lowest_key in place_limit (count_trailing_zeros 32 x) k.0 k.1

  -- without what stands from it on fewer are left
  pub fewer_left : (m : ℕ) → ((s : KeyBits) → slice_get data_places (count_trailing_zeros 32 x) ≡ Some s → m ≡ data_mask (stands_from true s)) → bit_and x (4294967295 - m) < x
  fewer_left m mask =
      let k = lowest_key in
      let l = lowest_small in
      let e = mask k.0 k.1 in
      let small = mask_small (stands_from true k.0) m e in
      let own : bit_at m (count_trailing_zeros 32 x) ≡ 1 = place_mask (stands_from true k.0) m _ k.0 e k.1 ∙ ap (λ o. digit (match_ordering o true true false)) (itself k.0) in
      let le = and_le_l x (4294967295 - m) in
      elim (bit_and x (4294967295 - m) == x) as (λ b. (bit_and x (4294967295 - m) == x) ≡ b → bit_and x (4294967295 - m) < x) [
        | true ↦ λ t.
            let z = ap (λ n. bit_at n (count_trailing_zeros 32 x)) (eqb-true _ _ t) ∙ lowest_set in
            let off = (without_set x m (count_trailing_zeros 32 x) small (omega (arith, l)) z).1 in
            absurd (omega (arith, own, off))
        | false ↦ λ t. let n = eqb-false _ _ t in omega (arith, le, n)
      ] refl

-- fewer bits are set where one of them is masked out
pub fewer_with : (x m i : ℕ) → bit_at x i ≡ 1 → bit_at m i ≡ 0 → bit_and x m < x
fewer_with x m i e f =
    let le = and_le_l x m in
    elim (bit_and x m == x) as (λ b. (bit_and x m == x) ≡ b → bit_and x m < x) [
      | true ↦ λ t. let on = (and_set x m i (ap (λ n. bit_at n i) (eqb-true _ _ t) ∙ e)).1 in absurd (omega (arith, on, f))
      | false ↦ λ t. let n = eqb-false _ _ t in omega (arith, le, n)
    ] refl

-- a child is not behind its own range
pub own_range : (c ca : ℕ) → c < 32 → ca ≡ child_mask (is_past (low_bits 5 c)) → bit_at ca c ≡ 0
own_range c ca l e = child_mask_at (is_past (low_bits 5 c)) ca c (low_bits 5 c) e (child_slot c l) ∙ ap (λ o. digit (is_lt o && not (begins_with (low_bits 5 c) (low_bits 5 c)))) (itself (low_bits 5 c))

-- what the code knows of the lowest child that is set
module _ (x : ℕ) (fits : x < 4294967296) (some : x ≡ 0 → ⊥) where
  pub lowest_child : bit_at x (count_trailing_zeros 32 x) ≡ 1
  lowest_child = (bit_at-trailing_zeros w32 x (above_zero x some) fits).1

  pub below_child_bit : count_trailing_zeros 32 x < 32
  below_child_bit = (bit_at-trailing_zeros w32 x (above_zero x some) fits).0

  pub none_lower : (i : ℕ) → i < count_trailing_zeros 32 x → bit_at x i ≡ 0
  none_lower = (bit_at-trailing_zeros w32 x (above_zero x some) fits).2

pub child_small : (is_position : KeyBits → Bool) (p : KeyBits) (x : ℕ) → x ≡ child_bits is_position p → x < 4294967296
unfolding child_places
child_small is_position p x e =
    let tests = map_list (λ c. is_position (p ++ c)) child_places in
    let l : bitmap tests < 2 ^ 32 = subst (λ n. bitmap tests < 2 ^ n) (length-map child_places (λ c. is_position (p ++ c))) (bitmap-lt tests) in
    omega (arith, l, e)

-- ---- set bits

-- what a set bit of a bitmap over keys says
pub record SetAt (ks : List KeyBits) (test : KeyBits → Bool) (i : ℕ) : Type 0 where
  pub key : KeyBits
  pub is_at : slice_get ks i ≡ Some key
  pub passes : test key ≡ true

pub set_at : (ks : List KeyBits) (test : KeyBits → Bool) (i : ℕ) → IsBitSet (bitmap (map test ks)) i → SetAt ks test i
set_at ks test i h =
    elim (set_bit (map test ks) i (bit_set_from _ i h)) [
      | found e ↦ from (slice_get ks i) refl (sym (slice_get-map test ks i) ∙ e)
    ]
  where
    from : (o : Option KeyBits) → slice_get ks i ≡ o → option_map test o ≡ Some true → SetAt ks test i
    from None a e = cc
    from (Some k) a e = record { key = k; is_at = a; passes = same_Some _ _ e }

pub set_of : (ks : List KeyBits) (test : KeyBits → Bool) (i : ℕ) (k : KeyBits) → slice_get ks i ≡ Some k → test k ≡ true → IsBitSet (bitmap (map test ks)) i
set_of ks test i k e p = set_from _ i (bit_of_test ks test i k e ∙ ap digit p)

pub places_count : length data_places ≡ 31
unfolding data_places
places_count = refl

pub children_count : length child_places ≡ 32
unfolding child_places
children_count = refl
