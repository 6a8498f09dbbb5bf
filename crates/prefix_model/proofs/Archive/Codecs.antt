-- The codecs are lawful.
use Rattle.std.proofs.Common.{◌≡◌, ℕ, zero, suc, ◌+◌, ◌-◌, ◌*◌, ◌/◌, ◌%◌, ◌^◌, ◌<◌, List, [], ◌∷◌, length, take, get_or, Bool, refl, sym, ap, ◌∙◌, subst, arith}
use Rattle.std.specs.Int.{Width, w8, w16, w32, w64, w128, byte_len, byte_at, byte_worth, bytes_low_first, sum_through, to_le_bytes, from_le_bytes}
use Rattle.std.proofs.lemmas.List.{nil_from_length}
use Rattle.std.proofs.Math.Nat.{pow-suc, mul_assoc, div-div-eq-div-mul}
use mir.Val.{bits}
use Rattle.prefix_model.specs.Spelling.{IsBytes, HasSpelling, IsLawful, number_codec, unit_codec, raw_codec}
use Rattle.prefix_model.specs.SpellingLaws.{IsCodecOfNumbers}

-- ---- numbers as bytes, the least significant first

-- the k lowest bytes of n
digits : ℕ → ℕ → List ℕ
digits zero n = []
digits (suc k) n = n % 256 ∷ digits k (n / 256)

worth : List ℕ → ℕ
worth [] = 0
worth (b ∷ bs) = b + 256 * worth bs

length-digits : (k n : ℕ) → length (digits k n) ≡ k
unfolding digits
length-digits zero n = refl
length-digits (suc k) n = ap suc (length-digits k (n / 256))

IsBytes-digits : (k n : ℕ) → IsBytes (digits k n)
unfolding digits
IsBytes-digits zero n i = omega arith
IsBytes-digits (suc k) n zero = omega arith
IsBytes-digits (suc k) n (suc i) = IsBytes-digits k (n / 256) i

worth-digits : (k n : ℕ) → n < 256 ^ k → worth (digits k n) ≡ n
unfolding digits worth
worth-digits zero n h = omega arith
worth-digits (suc k) n h =
    let p = pow-suc 256 k in
    let ih = worth-digits k (n / 256) (omega arith) in omega arith

digits-worth : (bs : List ℕ) → IsBytes bs → digits (length bs) (worth bs) ≡ bs
unfolding digits worth
digits-worth [] h = refl
digits-worth (b ∷ bs) h =
    let low : (b + 256 * worth bs) % 256 ≡ b = omega (arith, h 0) in
    let high : (b + 256 * worth bs) / 256 ≡ worth bs = omega (arith, h 0) in
    λ i. low i ∷ (ap (digits (length bs)) high ∙ digits-worth bs (λ i. h (suc i))) i

worth-lt : (bs : List ℕ) → IsBytes bs → worth bs < 256 ^ length bs
unfolding worth
worth-lt [] h = omega arith
worth-lt (b ∷ bs) h = let p = pow-suc 256 (length bs) in let ih = worth-lt bs (λ i. h (suc i)) in omega (arith, h 0)

byte_of : (i n : ℕ) → byte_at i n ≡ n / 256 ^ i % 256
byte_of zero n = omega arith
byte_of (suc i) n = refl

bytes_are : (i k n : ℕ) → bytes_low_first i k n ≡ digits k (n / 256 ^ i)
unfolding digits
bytes_are i zero n = refl
bytes_are i (suc k) n =
    let further : n / 256 ^ suc i ≡ n / 256 ^ i / 256 = ap (λ m. n / m) (pow-suc 256 i) ∙ sym (div-div-eq-div-mul n (256 ^ i) 256) in
    λ j. byte_of i n j ∷ (bytes_are (suc i) k n ∙ ap (digits k) further) j

worth-take : (bs : List ℕ) (k : ℕ) → worth (take (suc k) bs) ≡ worth (take k bs) + byte_worth k (get_or bs k 0)
unfolding worth
worth-take [] zero = refl
worth-take [] (suc k) = omega arith
worth-take (b ∷ bs) zero = omega arith
worth-take (b ∷ bs) (suc zero) = let ih = worth-take bs 0 in omega arith
worth-take (b ∷ bs) (suc (suc k)) =
    let ih = worth-take bs (suc k) in
    let x = get_or bs (suc k) 0 in
    let up : x * 256 ^ suc (suc k) ≡ x * 256 ^ suc k * 256 = ap (λ q. x * q) (pow-suc 256 (suc k)) ∙ sym (mul_assoc x (256 ^ suc k) 256) in
    omega (arith, ih, up)

sum_is : (bs : List ℕ) (k : ℕ) → sum_through (λ i. byte_worth i (get_or bs i 0)) k ≡ worth (take (suc k) bs)
unfolding worth
sum_is bs zero = let e = worth-take bs 0 in omega (arith, e)
sum_is bs (suc k) = ap (λ x. x + byte_worth (suc k) (get_or bs (suc k) 0)) (sum_is bs k) ∙ sym (worth-take bs (suc k))

take-all : (bs : List ℕ) → take (length bs) bs ≡ bs
take-all [] = refl
take-all (b ∷ bs) = ap (λ r. b ∷ r) (take-all bs)

-- ---- the numbers of each width

some_bytes : (w : Width) → suc (byte_len w - 1) ≡ byte_len w
some_bytes w8 = refl
some_bytes w16 = refl
some_bytes w32 = refl
some_bytes w64 = refl
some_bytes w128 = refl

all_bits : (w : Width) → 2 ^ bits w ≡ 256 ^ byte_len w
all_bits w8 = refl
all_bits w16 = refl
all_bits w32 = refl
all_bits w64 = refl
all_bits w128 = refl

to_is : (w : Width) (n : ℕ) → to_le_bytes w n ≡ digits (byte_len w) n
to_is w n = bytes_are 0 (byte_len w) n ∙ ap (digits (byte_len w)) (let e : n / 256 ^ 0 ≡ n = omega arith in e)

from_is : (w : Width) (bs : List ℕ) → length bs ≡ byte_len w → from_le_bytes w bs ≡ worth bs
from_is w bs l = sum_is bs (byte_len w - 1) ∙ ap (λ k. worth (take k bs)) (some_bytes w ∙ sym l) ∙ ap worth (take-all bs)

number_spelled : (w : Width) (n : ℕ) → n < 2 ^ bits w → HasSpelling (number_codec w) n
number_spelled w n h =
    let len : length (to_le_bytes w n) ≡ byte_len w = ap length (to_is w n) ∙ length-digits (byte_len w) n in
    record {
      len = len;
      bytes = subst IsBytes (sym (to_is w n)) (IsBytes-digits (byte_len w) n);
      accepted = refl;
      again = from_is w (to_le_bytes w n) len ∙ ap worth (to_is w n) ∙ worth-digits (byte_len w) n (subst (λ x. n < x) (all_bits w) h);
    }

pub numbers_lawful : (w : Width) → IsCodecOfNumbers w
numbers_lawful w = record {
  lawful = λ bytes h l a.
      let is = from_is w bytes l in
      let below : from_le_bytes w bytes < 2 ^ bits w = subst (λ x. x < 2 ^ bits w) (sym is) (subst (λ x. worth bytes < x) (ap (λ k. 256 ^ k) l ∙ sym (all_bits w)) (worth-lt bytes h)) in
      (number_spelled w (from_le_bytes w bytes) below, to_is w (from_le_bytes w bytes) ∙ (λ i. digits (sym l i) (is i)) ∙ digits-worth bytes h);
  spelled = number_spelled w;
}

pub unit_lawful : IsLawful unit_codec
unit_lawful bytes h l a = (record { len = refl; bytes = λ i. omega arith; accepted = refl; again = refl }, sym (nil_from_length bytes l))

pub raw_lawful : (size : ℕ) (accepted : List ℕ → Bool) → IsLawful (raw_codec size accepted)
raw_lawful size accepted bytes h l a = (record { len = l; bytes = h; accepted = a; again = refl }, refl)
