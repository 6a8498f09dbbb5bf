-- What the bits of a node say of the keys in it.
use Rattle.std.specs.Prelude.{◌≡◌, ◌≢◌, ℕ, suc, ◌+◌, ◌-◌, ◌*◌, ◌/◌, ◌^◌, ◌<◌, Bool, true, false, cond, List, [], ◌∷◌, ◌++◌, length, map, Option, Some, None, is_some, slice_get, bit_and}
use Rattle.std.specs.Option.{IsSome}
use Rattle.std.specs.Int.{bit_at}
use Rattle.std.proofs.Common.{refl, sym, ap, ◌∙◌, arith}
use Rattle.std.proofs.lemmas.Nat.Bits.{bit_at-zero, shr_and_one}
use Rattle.prefix_model.specs.Keys.{KeyBits, number, digit}
use Rattle.prefix_model.specs.Tables.{Values}
use Rattle.prefix_model.specs.Positions.{data_places, child_places, bitmap, data_bits, child_bits}
use Rattle.prefix_model.proofs.KeyPlaces.{place_at, places_short}
use Rattle.prefix_model.proofs.Bitmaps.NodeBits.{bit_of_test, digit_set, digit_clear, child_at, length_of_children}
use Rattle.prefix_model.proofs.StoredValues.{none_of}

-- a bitmap that is not 0 has a bit that is set
pub record Passing (ks : List KeyBits) (test : KeyBits → Bool) : Type 0 where
  pub index : ℕ
  pub key : KeyBits
  pub is_at : slice_get ks index ≡ Some key
  pub passes : test key ≡ true

pub passing : (ks : List KeyBits) (test : KeyBits → Bool) → bitmap (map test ks) ≢ 0 → Passing ks test
passing [] test n = absurd (n refl)
passing (k ∷ ks) test n =
    elim (test k) as (λ b. test k ≡ b → cond b 1 0 + 2 * bitmap (map test ks) ≢ 0 → Passing (k ∷ ks) test) [
      | true ↦ λ e _. record { index = 0; key = k; is_at = refl; passes = e }
      | false ↦ λ e m.
          let rest = passing ks test (λ z. m (omega (arith, z))) in
          record { index = suc rest.index; key = rest.key; is_at = rest.is_at; passes = rest.passes }
    ] refl n

pub tested_bit : (x i : ℕ) → bit_and (x / 2 ^ i) 1 ≡ 1 → bit_at x i ≡ 1
tested_bit x i e = sym (shr_and_one x i) ∙ e

pub tested_clear : (x i : ℕ) → bit_and (x / 2 ^ i) 1 ≢ 1 → bit_at x i ≡ 0
tested_clear x i n = let s = shr_and_one x i in omega (arith, s, n)

pub is_some_of : {A : Type 0} (o : Option A) → is_some o ≡ true → IsSome o
is_some_of o e = e

pub some_is : {A : Type 0} (o : Option A) → IsSome o → is_some o ≡ true
some_is o h = h

module _ {V : Type 0} (f : Values V) (p : KeyBits) where
  -- the data bit of the key p ++ s
  pub data_bit_at : (s : KeyBits) → length s < 5 → bit_at (data_bits f p) (2 ^ length s - 1 + number s) ≡ digit (is_some (f (p ++ s)))
  data_bit_at s l = bit_of_test data_places (λ t. is_some (f (p ++ t))) _ s (place_at s (length s) refl l)

  pub data_set : (s : KeyBits) → length s < 5 → bit_at (data_bits f p) (2 ^ length s - 1 + number s) ≡ 1 → IsSome (f (p ++ s))
  data_set s l e = is_some_of _ (digit_set _ (sym (data_bit_at s l) ∙ e))

  pub data_clear : (s : KeyBits) → length s < 5 → bit_at (data_bits f p) (2 ^ length s - 1 + number s) ≡ 0 → f (p ++ s) ≡ None
  data_clear s l e = none_of _ (digit_clear _ (sym (data_bit_at s l) ∙ e))

  -- the same by the number of the place
  pub place_clear : (bit : ℕ) (s : KeyBits) → slice_get data_places bit ≡ Some s → bit_at (data_bits f p) bit ≡ 0 → f (p ++ s) ≡ None
  place_clear bit s is e = none_of _ (digit_clear _ (sym (bit_of_test data_places (λ t. is_some (f (p ++ t))) bit s is) ∙ e))

  pub data_none : data_bits f p ≡ 0 → (s : KeyBits) → length s < 5 → f (p ++ s) ≡ None
  data_none z s l = data_clear s l (ap (λ n. bit_at n (2 ^ length s - 1 + number s)) z ∙ bit_at-zero (2 ^ length s - 1 + number s))

  pub data_some : data_bits f p ≢ 0 → (s : KeyBits) × (length s < 5) × IsSome (f (p ++ s))
  data_some n = let it = passing data_places (λ t. is_some (f (p ++ t))) n in (it.key, places_short it.index it.key it.is_at, is_some_of _ it.passes)

module _ (f : KeyBits → Bool) (p : KeyBits) where
  pub child_bit_at : (c : KeyBits) → length c ≡ 5 → bit_at (child_bits f p) (number c) ≡ digit (f (p ++ c))
  child_bit_at c e = bit_of_test child_places (λ t. f (p ++ t)) _ c (child_at c e)

  pub child_set : (c : KeyBits) → length c ≡ 5 → bit_at (child_bits f p) (number c) ≡ 1 → f (p ++ c) ≡ true
  child_set c e s = digit_set _ (sym (child_bit_at c e) ∙ s)

  pub child_clear : (c : KeyBits) → length c ≡ 5 → bit_at (child_bits f p) (number c) ≡ 0 → f (p ++ c) ≡ false
  child_clear c e s = digit_clear _ (sym (child_bit_at c e) ∙ s)

  pub child_none : child_bits f p ≡ 0 → (c : KeyBits) → length c ≡ 5 → f (p ++ c) ≡ false
  child_none z c e = child_clear c e (ap (λ n. bit_at n (number c)) z ∙ bit_at-zero (number c))

module _ (f : KeyBits → Bool) (p : KeyBits) where
  pub child_some : child_bits f p ≢ 0 → (c : KeyBits) × (length c ≡ 5) × (f (p ++ c) ≡ true)
  unfolding child_places
  child_some n = let it = passing child_places (λ t. f (p ++ t)) n in (it.key, length_of_children it.index it.key it.is_at, it.passes)
