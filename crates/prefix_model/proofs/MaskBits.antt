-- Masks by their bits.
use Rattle.std.proofs.Common.{◌≡◌, ℕ, zero, suc, ◌+◌, ◌*◌, ◌/◌, ◌%◌, ◌^◌, ◌<◌, Bool, true, false, cond, List, [], ◌∷◌, length, map, bit_and, min, refl, sym, ap, ◌∙◌, arith, Some}
use Rattle.std.specs.Prelude.{slice_get, ◌≢◌, ◌&&◌}
use Rattle.std.specs.Int.{bit_at}
use Rattle.std.proofs.lemmas.Nat.Bits.{bit_at-lt, bit_at-suc, bit_at_lowest, bit_at_and, same_from_bits, and_pow}
use Rattle.std.specs.List.{range_with_len}
use Rattle.std.specs.Option.{option_map}
use Rattle.std.proofs.lemmas.List.FromFn.{get_or-range_with_len}
use Rattle.std.proofs.lemmas.Option.{slice_get-map, slice_get-get_or}
use Rattle.prefix_model.specs.Keys.{KeyBits, low_bits}
use Rattle.prefix_model.specs.Positions.{bitmap, data_places, child_places}
use Rattle.prefix_model.specs.MaskLaws.{DataMaskTells, ChildMaskTells, MasksMeet, MasksFit}

pub digit_low : (b : Bool) (m : ℕ) → (cond b 1 0 + 2 * m) % 2 ≡ cond b 1 0
digit_low true m = omega arith
digit_low false m = omega arith

pub digit_high : (b : Bool) (m : ℕ) → (cond b 1 0 + 2 * m) / 2 ≡ m
digit_high true m = omega arith
digit_high false m = omega arith

-- a bit of a bitmap
pub bitmap_bit : (ks : List KeyBits) (test : KeyBits → Bool) (b : ℕ) (s : KeyBits) → slice_get ks b ≡ Some s → bit_at (bitmap (map test ks)) b ≡ cond (test s) 1 0
bitmap_bit [] test b s e = cc
bitmap_bit (p ∷ ks) test zero s e =
    let h : p ≡ s = cc in
    bit_at_lowest (bitmap (map test (p ∷ ks))) ∙ digit_low (test p) (bitmap (map test ks)) ∙ ap (λ k. cond (test k) 1 0) h
bitmap_bit (p ∷ ks) test (suc b) s e =
    bit_at-suc (bitmap (map test (p ∷ ks))) b ∙ ap (λ n. bit_at n b) (digit_high (test p) (bitmap (map test ks))) ∙ bitmap_bit ks test b s e

-- as many bits as there are keys
fits : (ks : List KeyBits) (test : KeyBits → Bool) → bitmap (map test ks) < 2 ^ length ks
fits [] test = omega arith
fits (p ∷ ks) test = let r = fits ks test in grow (test p) (bitmap (map test ks)) (length ks) r
  where
    grow : (b : Bool) (m n : ℕ) → m < 2 ^ n → cond b 1 0 + 2 * m < 2 ^ suc n
    grow true m n l = omega (arith, l)
    grow false m n l = omega (arith, l)

-- what two bitmaps of one list share
meet_head : (a b : Bool) → min (cond a 1 0) (cond b 1 0) ≡ cond (a && b) 1 0
meet_head true true = refl
meet_head true false = refl
meet_head false true = refl
meet_head false false = refl

meet_bit : (ks : List KeyBits) (f g : KeyBits → Bool) (b : ℕ) → min (bit_at (bitmap (map f ks)) b) (bit_at (bitmap (map g ks)) b) ≡ bit_at (bitmap (map (λ k. f k && g k) ks)) b
meet_bit [] f g b = both_zero (bit_at 0 b)
  where
    both_zero : (n : ℕ) → min n n ≡ n
    both_zero n = grind arith
meet_bit (p ∷ ks) f g zero =
    (λ j. min ((bit_at_lowest (bitmap (map f (p ∷ ks))) ∙ digit_low (f p) (bitmap (map f ks))) j) ((bit_at_lowest (bitmap (map g (p ∷ ks))) ∙ digit_low (g p) (bitmap (map g ks))) j))
    ∙ meet_head (f p) (g p)
    ∙ sym (bit_at_lowest (bitmap (map (λ k. f k && g k) (p ∷ ks))) ∙ digit_low (f p && g p) (bitmap (map (λ k. f k && g k) ks)))
meet_bit (p ∷ ks) f g (suc b) =
    (λ j. min ((bit_at-suc (bitmap (map f (p ∷ ks))) b ∙ ap (λ n. bit_at n b) (digit_high (f p) (bitmap (map f ks)))) j) ((bit_at-suc (bitmap (map g (p ∷ ks))) b ∙ ap (λ n. bit_at n b) (digit_high (g p) (bitmap (map g ks)))) j))
    ∙ meet_bit ks f g b
    ∙ sym (bit_at-suc (bitmap (map (λ k. f k && g k) (p ∷ ks))) b ∙ ap (λ n. bit_at n b) (digit_high (f p && g p) (bitmap (map (λ k. f k && g k) ks))))

pub meet : (ks : List KeyBits) (f g : KeyBits → Bool) → bit_and (bitmap (map f ks)) (bitmap (map g ks)) ≡ bitmap (map (λ k. f k && g k) ks)
meet ks f g = same_from_bits _ _ (λ b. bit_at_and (bitmap (map f ks)) (bitmap (map g ks)) b ∙ meet_bit ks f g b)

-- the children are numbered by their five bits
slice_get_listed : {X : Type 0} (xs ys : List X) → xs ≡ ys → (i : ℕ) → slice_get xs i ≡ slice_get ys i
slice_get_listed xs ys e i = ap (λ l. slice_get l i) e

numbered : child_places ≡ map (low_bits 5) (range_with_len 0 32)
unfolding child_places low_bits
numbered = refl

pub child_slot : (c : ℕ) → c < 32 → slice_get child_places c ≡ Some (low_bits 5 c)
child_slot c l =
    slice_get_listed child_places _ numbered c ∙ slice_get-map (low_bits 5) (range_with_len 0 32) c
    ∙ ap (option_map (low_bits 5)) (slice_get-get_or (range_with_len 0 32) c 0 l ∙ ap Some (get_or-range_with_len 0 32 c 0 l ∙ (let e : 0 + c ≡ c = omega arith in e)))

pub data_mask_tells : DataMaskTells
data_mask_tells test b s e = bitmap_bit data_places test b s e

pub child_mask_tells : ChildMaskTells
child_mask_tells test c l = bitmap_bit child_places test c (low_bits 5 c) (child_slot c l)

pub masks_meet : MasksMeet
masks_meet f g = (meet data_places f g, meet child_places f g)

pub masks_fit : MasksFit
unfolding data_places child_places
masks_fit test = (fits data_places test, fits child_places test)

-- ---- one bit of a word

pub bit_set_from : (bits i : ℕ) → bit_and bits (2 ^ i) ≢ 0 → bit_at bits i ≡ 1
bit_set_from bits i set =
    let two = bit_at-lt bits i in
    let product = and_pow bits i in
    one (bit_at bits i) two (λ z. set (product ∙ ap (λ n. n * 2 ^ i) z ∙ (let e : 0 * 2 ^ i ≡ 0 = omega arith in e)))
  where
    one : (d : ℕ) → d < 2 → (d ≢ 0) → d ≡ 1
    one d l n = omega arith

pub clear_from : (bits i : ℕ) → bit_at bits i ≢ 1 → bit_at bits i ≡ 0
clear_from bits i n = let two = bit_at-lt bits i in omega arith
