-- What the bits of a node tell of its places, and the halves of a place.
use Rattle.std.specs.Prelude.{◌==◌, is_some, slice_get, IsBitSet}
use Rattle.std.specs.Int.{bit_at}
use Rattle.std.specs.FinMap as map
use Rattle.std.proofs.Common.{◌≡◌, ◌≢◌, ℕ, zero, suc, ◌+◌, ◌-◌, ◌*◌, ◌/◌, ◌%◌, ◌^◌, ◌<◌, ◌≤◌, cond, [], ◌∷◌, ◌++◌, Option, Some, None, refl, sym, ap, ◌∙◌, arith, append_assoc, bit_and}
use Rattle.std.proofs.Math.Nat.{mod-eq_of_lt}
use Rattle.std.proofs.lemmas.Nat.Bits.{bit_at_lowest, shr_and_one}
use Rattle.prefix_model.specs.Keys.{KeyBits, low_bits}
use Rattle.prefix_model.specs.Positions.{data_places, data_bits}
use Rattle.prefix_model.specs.TableViews.{TableView, position_at}
use Rattle.prefix_model.proofs.KeyNumbers.{length-low_bits, number-low_bits, low_bits-append}
use Rattle.prefix_model.proofs.KeyPlaces.{place_at}
use Rattle.prefix_model.proofs.Bitmaps.SlotLaws.{shifted_one}
use Rattle.prefix_model.proofs.MaskBits.{bitmap_bit}
use Rattle.prefix_model.proofs.Bitmaps.PlaceBits.{set_from}
use Rattle.prefix_table.specs.Places.{IsPlace, key_at}
use Rattle.prefix_table.specs.declared.places.Place.{Place}

-- ---- the bit of a place

-- the bit of a place stands for the bits of its number
pub named_place : (l n : ℕ) → l < 5 → n < 2 ^ l → slice_get data_places (1 * 2 ^ l % 4294967296 - 1 + n) ≡ Some (low_bits l n)
named_place l n short within =
    ap (λ k. slice_get data_places (k - 1 + n)) (shifted_one l (omega arith))
    ∙ ap (λ k. slice_get data_places (2 ^ l - 1 + k)) (sym (number-low_bits l n ∙ mod-eq_of_lt within))
    ∙ place_at (low_bits l n) l (length-low_bits l n) short

module _ {T : Type 0} (view : TableView T) (place : Place) (at_place : IsPlace view place) where
  pub place_within : 1 * 2 ^ place.level % 4294967296 - 1 + place.number < 31
  place_within = level_within place.level place.number at_place.level at_place.number
    where
      level_within : (k n : ℕ) → k < 5 → n < 2 ^ k → 1 * 2 ^ k % 4294967296 - 1 + n < 31
      level_within zero n l m = omega arith
      level_within (suc zero) n l m = omega arith
      level_within (suc (suc zero)) n l m = omega arith
      level_within (suc (suc (suc zero))) n l m = omega arith
      level_within (suc (suc (suc (suc zero)))) n l m = omega arith
      level_within (suc (suc (suc (suc (suc k))))) n l m = absurd (omega arith)

  -- the bit of a place tells whether something is stored there
  pub place_bit : (bits : ℕ) → bits ≡ data_bits (map.get view.entries) (position_at view place.at)
      → bit_and (bits / 2 ^ (1 * 2 ^ place.level % 4294967296 - 1 + place.number)) 1 ≡ cond (is_some (map.get view.entries (key_at view place))) 1 0
  place_bit bits e =
      let b : ℕ = 1 * 2 ^ place.level % 4294967296 - 1 + place.number in
      shr_and_one bits b ∙ ap (λ n. bit_at n b) e
      ∙ bitmap_bit data_places (λ s. is_some (map.get view.entries (position_at view place.at ++ s))) b (low_bits place.level place.number) (named_place place.level place.number at_place.level at_place.number)

  pub place_set : (bits : ℕ) → bits ≡ data_bits (map.get view.entries) (position_at view place.at)
      → bit_and (bits / 2 ^ (1 * 2 ^ place.level % 4294967296 - 1 + place.number)) 1 ≡ 1
      → IsBitSet (data_bits (map.get view.entries) (position_at view place.at)) (1 * 2 ^ place.level % 4294967296 - 1 + place.number)
  place_set bits e set =
      let b : ℕ = 1 * 2 ^ place.level % 4294967296 - 1 + place.number in
      set_from (data_bits (map.get view.entries) (position_at view place.at)) b (ap (λ n. bit_at n b) (sym e) ∙ sym (shr_and_one bits b) ∙ set)

  pub place_clear : (bits : ℕ) → bits ≡ data_bits (map.get view.entries) (position_at view place.at)
      → bit_and (bits / 2 ^ (1 * 2 ^ place.level % 4294967296 - 1 + place.number)) 1 ≢ 1
      → None ≡ map.get view.entries (key_at view place)
  place_clear bits e clear = none (map.get view.entries (key_at view place)) (λ one. clear (place_bit bits e ∙ one))
    where
      none : (o : Option T) → ◌≢◌ {A = ℕ} (cond (is_some o) 1 0) 1 → None ≡ o
      none None n = refl
      none (Some x) n = absurd (n refl)

-- ---- the halves of a place

pub number_grows : (l n b : ℕ) → n < 2 ^ l → b < 2 → 2 * n + b < 2 ^ (l + 1)
number_grows l n b m two = let e : 2 ^ (l + 1) ≡ 2 ^ suc l = ap (λ k. 2 ^ k) (let f : l + 1 ≡ suc l = omega arith in f) in omega (arith, e)

low_bits_last : (n b : ℕ) → b < 2 → low_bits 1 (2 * n + b) ≡ (b == 1) ∷ []
unfolding low_bits
low_bits_last n b two = ap (λ d. (d == 1) ∷ []) (bit_at_lowest (2 * n + b) ∙ (let e : (2 * n + b) % 2 ≡ b = omega arith in e))

pub low_bits_push : (l n b : ℕ) → b < 2 → low_bits (l + 1) (2 * n + b) ≡ low_bits l n ++ (b == 1) ∷ []
low_bits_push l n b two =
    let half : (2 * n + b) / 2 ^ 1 ≡ n = omega arith in
    let last = low_bits_last n b two in
    low_bits-append l 1 (2 * n + b) ∙ (λ i. low_bits l (half i) ++ last i)

-- the key of a half, by the bits that it adds to its node's
pub half_key : (p : KeyBits) (l n b : ℕ) → b < 2 → p ++ low_bits (l + 1) (2 * n + b) ≡ (p ++ low_bits l n) ++ (b == 1) ∷ []
half_key p l n b two = ap (λ s. p ++ s) (low_bits_push l n b two) ∙ sym (append_assoc p (low_bits l n) ((b == 1) ∷ []))

pub slot_key : (p : KeyBits) (l n b : ℕ) → l < 5 → 4 ≤ l → b < 2 → p ++ low_bits 5 (2 * n + b) ≡ (p ++ low_bits l n) ++ (b == 1) ∷ []
slot_key p l n b short deep two =
    let five : 5 ≡ l + 1 = omega arith in
    ap (λ k. p ++ low_bits k (2 * n + b)) five ∙ half_key p l n b two
