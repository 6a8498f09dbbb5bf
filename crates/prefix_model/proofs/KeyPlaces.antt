-- Keys by their numbers: the places of a node, and the number of a part of a key.
use Rattle.std.specs.Prelude.{◌≡◌, ℕ, zero, suc, ◌+◌, ◌-◌, ◌*◌, ◌^◌, ◌<◌, ◌≤◌, ◌==◌, ◌&&◌, Bool, true, false, List, [], ◌∷◌, ◌++◌, length, map, take, drop, nat_lt, Some, slice_get}
use Rattle.std.proofs.Common.{refl, sym, ap, ◌∙◌, subst, arith, length-append, length-drop, length-take}
use Rattle.std.specs.Int.{bit_at}
use Rattle.std.specs.Option.{option_map}
use Rattle.std.proofs.Math.Nat.{mul_assoc, add-mul}
use Rattle.std.proofs.lemmas.List.{length-map}
use Rattle.std.proofs.lemmas.Nat.{pow-add}
use Rattle.std.proofs.lemmas.Nat.Bits.{bit_at_cat_low, bit_at_cat_high}
use Rattle.std.proofs.lemmas.Option.{slice_get-map}
use borrow.Author.Tests.{ltb-true}
use lib.Pow.{pow_mono}
use mir.Val.{bool_byte}
use Rattle.prefix_model.specs.Keys.{KeyBits, digit, keys_of_length, low_bits, number}
use Rattle.prefix_model.specs.Positions.{data_places}
use Rattle.prefix_model.proofs.KeyLemmas.{both_true}
use Rattle.prefix_model.proofs.KeyNumbers.{low_bits-same}

-- ---- the places of a node

all_short : List KeyBits → Bool
all_short [] = true
all_short (p ∷ ps) = nat_lt (length p) 5 && all_short ps

short_of : (ps : List KeyBits) (i : ℕ) (s : KeyBits) → all_short ps ≡ true → slice_get ps i ≡ Some s → length s < 5
unfolding all_short
short_of [] i s a e = cc
short_of (p ∷ ps) zero s a e =
    let parts = both_true (nat_lt (length p) 5) (all_short ps) a in
    let h : p ≡ s = cc in
    subst (λ (k : KeyBits). length k < 5) h (ltb-true _ _ parts.0)
short_of (p ∷ ps) (suc i) s a e = let parts = both_true (nat_lt (length p) 5) (all_short ps) a in short_of ps i s parts.1 e

pub places_short : (i : ℕ) (s : KeyBits) → slice_get data_places i ≡ Some s → length s < 5
unfolding data_places all_short
places_short i s e = short_of data_places i s refl e

pub slice_get-drop : {A : Type 0} (items : List A) (n i : ℕ) → slice_get (drop n items) i ≡ slice_get items (n + i)
slice_get-drop [] zero i = refl
slice_get-drop [] (suc n) i = refl
slice_get-drop (x ∷ items) zero i = ap (slice_get (x ∷ items)) (let e : i ≡ 0 + i = omega arith in e)
slice_get-drop (x ∷ items) (suc n) i = slice_get-drop items n i ∙ ap (slice_get (x ∷ items)) (let e : suc (n + i) ≡ suc n + i = omega arith in e)

slice_get-front : {A : Type 0} (xs ys : List A) (i : ℕ) (x : A) → slice_get xs i ≡ Some x → slice_get (xs ++ ys) i ≡ Some x
slice_get-front [] ys i x e = cc
slice_get-front (y ∷ xs) ys zero x e = e
slice_get-front (y ∷ xs) ys (suc i) x e = slice_get-front xs ys i x e

slice_get-back : {A : Type 0} (xs ys : List A) (k i : ℕ) → k ≡ length xs + i → slice_get (xs ++ ys) k ≡ slice_get ys i
slice_get-back [] ys k i e = ap (slice_get ys) (let f : k ≡ i = omega arith in f)
slice_get-back (x ∷ xs) ys zero i e = absurd (omega arith)
slice_get-back (x ∷ xs) ys (suc k) i e = slice_get-back xs ys k i (omega arith)

length-keys : (n : ℕ) → length (keys_of_length n) ≡ 2 ^ n
length-keys zero = refl
length-keys (suc n) =
    let l = length-append (map (λ k. false ∷ k) (keys_of_length n)) (map (λ k. true ∷ k) (keys_of_length n)) in
    let a = length-map (keys_of_length n) (λ (k : KeyBits). false ∷ k) in
    let b = length-map (keys_of_length n) (λ (k : KeyBits). true ∷ k) in
    let r = length-keys n in
    omega (arith, l, a, b, r)

pub number-lt : (s : KeyBits) → number s < 2 ^ length s
number-lt [] = omega arith
number-lt (true ∷ s) = let r = number-lt s in let e : 1 * 2 ^ length s + number s < 2 ^ suc (length s) = omega (arith, r) in e
number-lt (false ∷ s) = let r = number-lt s in let e : 0 * 2 ^ length s + number s < 2 ^ suc (length s) = omega (arith, r) in e

pub key_at_number : (s : KeyBits) → slice_get (keys_of_length (length s)) (number s) ≡ Some s
key_at_number [] = refl
key_at_number (false ∷ s) =
    let r = key_at_number s in
    let e : 0 * 2 ^ length s + number s ≡ number s = omega arith in
    ap (slice_get (keys_of_length (suc (length s)))) e
    ∙ slice_get-front _ _ (number s) (false ∷ s) (slice_get-map (λ (k : KeyBits). false ∷ k) (keys_of_length (length s)) (number s) ∙ ap (option_map (λ k. false ∷ k)) r)
key_at_number (true ∷ s) =
    let r = key_at_number s in
    let l = length-keys (length s) in
    let a = length-map (keys_of_length (length s)) (λ (k : KeyBits). false ∷ k) in
    slice_get-back (map (λ k. false ∷ k) (keys_of_length (length s))) (map (λ k. true ∷ k) (keys_of_length (length s))) _ (number s) (omega (arith, l, a))
    ∙ slice_get-map (λ (k : KeyBits). true ∷ k) (keys_of_length (length s)) (number s) ∙ ap (option_map (λ k. true ∷ k)) r

place_in : (s : KeyBits) (l off : ℕ) (rest : List KeyBits) → length s ≡ l → drop off data_places ≡ keys_of_length l ++ rest → slice_get data_places (off + number s) ≡ Some s
place_in s l off rest e d =
    sym (slice_get-drop data_places off (number s)) ∙ ap (λ ks. slice_get ks (number s)) d
    ∙ slice_get-front (keys_of_length l) rest (number s) s (ap (λ n. slice_get (keys_of_length n) (number s)) (sym e) ∙ key_at_number s)

pub place_at : (s : KeyBits) (l : ℕ) → length s ≡ l → l < 5 → slice_get data_places (2 ^ l - 1 + number s) ≡ Some s
unfolding data_places
place_at s zero e short = place_in s 0 0 (keys_of_length 1 ++ (keys_of_length 2 ++ (keys_of_length 3 ++ (keys_of_length 4 ++ [])))) e refl
place_at s (suc zero) e short = place_in s 1 1 (keys_of_length 2 ++ (keys_of_length 3 ++ (keys_of_length 4 ++ []))) e refl
place_at s (suc (suc zero)) e short = place_in s 2 3 (keys_of_length 3 ++ (keys_of_length 4 ++ [])) e refl
place_at s (suc (suc (suc zero))) e short = place_in s 3 7 (keys_of_length 4 ++ []) e refl
place_at s (suc (suc (suc (suc zero)))) e short = place_in s 4 15 [] e refl
place_at s (suc (suc (suc (suc (suc l))))) e short = absurd (omega arith)

pub low_bits-number : (s : KeyBits) → low_bits (length s) (number s) ≡ s
unfolding low_bits
low_bits-number [] = refl
low_bits-number (b ∷ s) =
    let top = bit_at_cat_high (digit b) (length s) (number s) (length s) (number-lt s) (omega arith) in
    (λ i. (top i == 1) ∷ low_bits-same (length s) (digit b * 2 ^ length s + number s) (number s) (λ j l. bit_at_cat_low (digit b) (length s) (number s) j l) i)
    ∙ (λ i. first b i ∷ low_bits-number s i)
  where
    first : (b : Bool) → (bit_at (digit b) (length s - length s) == 1) ≡ b
    first b = ap (λ k. bit_at (digit b) k == 1) (let e : length s - length s ≡ 0 = omega arith in e) ∙ bit b
      where
        bit : (b : Bool) → (bit_at (digit b) 0 == 1) ≡ b
        bit true = refl
        bit false = refl

-- ---- the number of a part of a key

split_digit : (d x a b n m k : ℕ) → x ≡ a * b → n ≡ m * b + k → d * x + n ≡ (d * a + m) * b + k
split_digit d x a b n m k e f =
    let product : d * x ≡ d * a * b = ap (λ y. d * y) e ∙ sym (mul_assoc d a b) in
    let parts : (d * a + m) * b ≡ d * a * b + m * b = add-mul (d * a) m b in
    omega (arith, product, parts)

-- the number of two keys, one behind the other
pub number-append : (s q : KeyBits) → number (s ++ q) ≡ number s * 2 ^ length q + number q
number-append [] q = omega arith
number-append (b ∷ s) q =
    split_digit (digit b) (2 ^ length (s ++ q)) (2 ^ length s) (2 ^ length q) (number (s ++ q)) (number s) (number q)
    (ap (λ n. 2 ^ n) (length-append s q) ∙ pow-add 2 (length s) (length q)) (number-append s q)

pub number_push : (s : KeyBits) (b : Bool) → number (s ++ b ∷ []) ≡ 2 * number s + digit b
number_push [] b = let e : digit b * 2 ^ 0 + 0 ≡ 2 * 0 + digit b = omega arith in e
number_push (x ∷ s) b =
    let l : length (s ++ b ∷ []) ≡ suc (length s) = let a = length-append s (b ∷ []) in omega (arith, a) in
    let r = number_push s b in
    bit x (ap (λ n. digit x * 2 ^ n + number (s ++ b ∷ [])) l) r
  where
    bit : (x : Bool) → digit x * 2 ^ length (s ++ b ∷ []) + number (s ++ b ∷ []) ≡ digit x * 2 ^ suc (length s) + number (s ++ b ∷ []) → number (s ++ b ∷ []) ≡ 2 * number s + digit b → digit x * 2 ^ length (s ++ b ∷ []) + number (s ++ b ∷ []) ≡ 2 * (digit x * 2 ^ length s + number s) + digit b
    bit true l r = omega (arith, l, r)
    bit false l r = omega (arith, l, r)

part_push : (xs : KeyBits) (d i k : ℕ) (b : Bool) → d ≤ i → k ≡ i + 1 → slice_get xs i ≡ Some b → drop d (take k xs) ≡ drop d (take i xs) ++ b ∷ []
part_push [] d i k b l e at = cc
part_push (x ∷ xs) d i zero b l e at = absurd (omega arith)
part_push (x ∷ xs) zero zero (suc k) b l e at = let h : x ≡ b = cc in let z : 0 ≡ k = omega arith in (λ j. h j ∷ take (sym z j) xs)
part_push (x ∷ xs) zero (suc i) (suc k) b l e at = ap (λ rest. x ∷ rest) (part_push xs zero i k b (omega arith) (omega arith) at)
part_push (x ∷ xs) (suc d) zero (suc k) b l e at = absurd (omega arith)
part_push (x ∷ xs) (suc d) (suc i) (suc k) b l e at = part_push xs d i k b (omega arith) (omega arith) at

-- two keys with one front and one bit behind it have one longer front
pub longer_front : (xs ys : KeyBits) (i : ℕ) (a b : Bool) → take i xs ≡ take i ys → slice_get xs i ≡ Some a → slice_get ys i ≡ Some b → a ≡ b → take (i + 1) xs ≡ take (i + 1) ys
longer_front xs ys i a b front at_a at_b e =
    part_push xs 0 i (i + 1) a (omega arith) refl at_a ∙ (λ j. front j ++ e j ∷ []) ∙ sym (part_push ys 0 i (i + 1) b (omega arith) refl at_b)

pub number_more : (xs : KeyBits) (d i : ℕ) (b : Bool) → d ≤ i → slice_get xs i ≡ Some b → number (drop d (take (i + 1) xs)) ≡ 2 * number (drop d (take i xs)) + digit b
number_more xs d i b l at = ap number (part_push xs d i (i + 1) b l refl at) ∙ number_push (drop d (take i xs)) b

pub number_none : (xs : KeyBits) (d : ℕ) → number (drop d (take d xs)) ≡ 0
number_none xs zero = refl
number_none [] (suc d) = refl
number_none (x ∷ xs) (suc d) = number_none xs d

pub byte-digit : (b : Bool) → bool_byte b ≡ digit b
byte-digit true = refl
byte-digit false = refl

pub part-lt : (xs : KeyBits) (d i k : ℕ) → i ≤ d + k → number (drop d (take i xs)) < 2 ^ k
part-lt xs d i k l =
    let n = number-lt (drop d (take i xs)) in
    let a = length-drop d (take i xs) in
    let b = length-take i xs in
    let short : length (drop d (take i xs)) ≤ k = omega (arith, a, b) in
    let p = pow_mono short in
    omega (arith, n, p)
