-- Numbers and the keys that they spell, as live views keep them.
use Rattle.std.specs.Prelude.{◌≡◌, ℕ, zero, suc, ◌+◌, ◌-◌, ◌*◌, ◌/◌, ◌%◌, ◌^◌, ◌<◌, ◌≤◌, ◌==◌, Bool, true, false, [], ◌∷◌, ◌++◌, length, take, replicate}
use Rattle.std.proofs.Common.{sym, ap, ◌∙◌, subst, arith, length-take, pow-add}
use Rattle.std.proofs.Math.Nat.{mul-div_cancel, mul-lt-mul_of_pos_left, mul_comm, div-lt_iff_lt-mul, mod-eq_of_lt}
use lib.Pow.{pow_mono}
use Rattle.prefix_model.specs.Keys.{KeyBits, low_bits, number, digit, padded}
use Rattle.prefix_model.specs.Walks.{node_of}
use Rattle.prefix_model.proofs.KeyNumbers.{length-low_bits, low_bits-append, low_bits-multiple, number-low_bits}
use Rattle.prefix_model.proofs.KeyPlaces.{low_bits-number}
use Rattle.prefix_model.proofs.Fronts.{front_take, take_front}
use Rattle.prefix_model.proofs.Nodes.{node_above, node_front}

pub node_length : (p : KeyBits) → length (node_of p) ≡ length p / 5 * 5
unfolding node_of
node_length p = let t = length-take (5 * (length p / 5)) p in omega (arith, t)

-- ---- numbers of keys

pub power_positive : (k : ℕ) → 0 < 2 ^ k
power_positive zero = omega arith
power_positive (suc k) = let r = power_positive k in let e : 2 ^ suc k ≡ 2 * 2 ^ k = omega arith in omega (arith, r, e)

-- the key of a number with zeros behind it
pub padded_number : (w len n m : ℕ) → len ≤ w → m ≡ n * 2 ^ (w - len) → low_bits w m ≡ padded w (low_bits len n)
padded_number w len n m l e =
    let l2 = length-low_bits len n in
    let x : len + (w - len) ≡ w = omega (arith, l) in
    let P : ℕ → Type 0 = λ k. low_bits k m ≡ low_bits len n ++ replicate (w - len) false in
    let h = subst P x (low_bits-append len (w - len) m ∙ (λ i. low_bits len (part i) ++ zeros i)) in
    h ∙ ap (λ k. low_bits len n ++ replicate (w - k) false) (sym l2)
  where
    part : m / 2 ^ (w - len) ≡ n
    part = ap (λ x. x / 2 ^ (w - len)) e ∙ mul-div_cancel n (power_positive (w - len))

    zeros : low_bits (w - len) m ≡ replicate (w - len) false
    zeros = ap (low_bits (w - len)) e ∙ low_bits-multiple (w - len) n

-- one bit more
pub number_push : (n i : ℕ) (b : Bool) → low_bits (i + 1) (2 * n + digit b) ≡ low_bits i n ++ b ∷ []
unfolding low_bits
number_push n i true =
    low_bits-append i 1 (2 * n + 1) ∙ (let h : (2 * n + 1) / 2 ^ 1 ≡ n = omega arith in let l : (2 * n + 1) / 2 ^ 0 % 2 ≡ 1 = omega arith in λ j. low_bits i (h j) ++ (l j == 1) ∷ [])
number_push n i false =
    low_bits-append i 1 (2 * n + 0) ∙ (let h : (2 * n + 0) / 2 ^ 1 ≡ n = omega arith in let l : (2 * n + 0) / 2 ^ 0 % 2 ≡ 0 = omega arith in λ j. low_bits i (h j) ++ (l j == 1) ∷ [])

same_low : (k x y : ℕ) → x % 2 ^ k ≡ y % 2 ^ k → low_bits k x ≡ low_bits k y
same_low k x y e =
    by_number k x ∙ ap (low_bits k) (number-low_bits k x ∙ e ∙ sym (number-low_bits k y)) ∙ sym (by_number k y)
  where
    by_number : (k x : ℕ) → low_bits k x ≡ low_bits k (number (low_bits k x))
    by_number k x = sym (low_bits-number (low_bits k x)) ∙ ap (λ n. low_bits n (number (low_bits k x))) (length-low_bits k x)

-- the position of a child
pub child_number : (len n d c m : ℕ) → d ≤ len → m ≡ n / 2 ^ (len - d) * 32 + c → c < 32 → low_bits (d + 5) m ≡ take d (low_bits len n) ++ low_bits 5 c
child_number len n d c m l e s =
    let high : m / 2 ^ 5 ≡ n / 2 ^ (len - d) = omega (arith, e, s) in
    let low : m % 2 ^ 5 ≡ c % 2 ^ 5 = omega (arith, e, s) in
    let whole : d + (len - d) ≡ len = omega (arith, l) in
    let split : low_bits len n ≡ low_bits d (n / 2 ^ (len - d)) ++ low_bits (len - d) n = ap (λ k. low_bits k n) (sym whole) ∙ low_bits-append d (len - d) n in
    let front : take d (low_bits len n) ≡ low_bits d (n / 2 ^ (len - d)) =
    ap (take d) split ∙ (λ i. take (sym (length-low_bits d (n / 2 ^ (len - d))) i) (low_bits d (n / 2 ^ (len - d)) ++ low_bits (len - d) n)) ∙ take_front _ _ in
    low_bits-append d 5 m ∙ (λ i. low_bits d (high i) ++ same_low 5 m c low i) ∙ ap (λ k. k ++ low_bits 5 c) (sym front)

-- and its number is small
pub child_small : (len n d c m : ℕ) → d ≤ len → n < 2 ^ len → m ≡ n / 2 ^ (len - d) * 32 + c → c < 32 → m < 2 ^ (d + 5)
child_small len n d c m l small e s =
    let whole : d + (len - d) ≡ len = omega (arith, l) in
    let below = subst (λ k. n < 2 ^ k) (sym whole) small in
    let split : 2 ^ (d + (len - d)) ≡ 2 ^ d * 2 ^ (len - d) = pow-add 2 d (len - d) in
    let high : n / 2 ^ (len - d) < 2 ^ d = (div-lt_iff_lt-mul (power_positive (len - d))).1 (subst (λ k. n < k) split below) in
    let five : 2 ^ (d + 5) ≡ 2 ^ d * 2 ^ 5 = pow-add 2 d 5 in
    omega (arith, high, five, e, s)

-- the place of a child
pub child_place : (len n d d' c bit m : ℕ) → d ≡ length (node_of (low_bits len n)) → d' ≡ length (node_of (low_bits len n)) → c ≡ bit → bit < 32 → m ≡ n / 2 ^ (len - d) * 32 + c
    → low_bits (d' + 5) m ≡ node_of (low_bits len n) ++ low_bits 5 bit
child_place len n d d' c bit m e f g s h =
    let p = low_bits len n in
    let above = node_above p in
    let long = length-low_bits len n in
    let same : d' ≡ d = f ∙ sym e in
    let front : take d p ≡ node_of p = ap (λ k. take k p) e ∙ front_take (node_of p) p (node_front p) in
    ap (λ k. low_bits (k + 5) m) same ∙ child_number len n d c m (omega (arith, above, long, e)) h (omega (arith, s, g)) ∙ (λ i. front i ++ low_bits 5 (g i))

-- a key is determined by its number
power_next : (i : ℕ) → 2 ^ (i + 1) ≡ 2 * 2 ^ i
power_next i = ap (λ k. 2 ^ k) (let n : i + 1 ≡ suc i = omega arith in n) ∙ (let e : 2 ^ suc i ≡ 2 * 2 ^ i = omega arith in e)

-- one bit more keeps the number small
pub push_small : (n i : ℕ) (b : Bool) → n < 2 ^ i → 2 * n + digit b < 2 ^ (i + 1)
push_small n i true l = let s = power_next i in omega (arith, l, s)
push_small n i false l = let s = power_next i in omega (arith, l, s)

-- a number shifted up to a width
pub shifted_small : (w len n : ℕ) → len ≤ w → n < 2 ^ len → n * 2 ^ (w - len) < 2 ^ w
shifted_small w len n l small =
    let whole : len + (w - len) ≡ w = omega (arith, l) in
    let split : 2 ^ (len + (w - len)) ≡ 2 ^ len * 2 ^ (w - len) = pow-add 2 len (w - len) in
    let below : 2 ^ (w - len) * n < 2 ^ (w - len) * 2 ^ len = mul-lt-mul_of_pos_left small (power_positive (w - len)) in
    let below' : n * 2 ^ (w - len) < 2 ^ len * 2 ^ (w - len) = (λ (a b : ℕ) (x : 2 ^ (w - len) * n ≡ a) (y : 2 ^ (w - len) * 2 ^ len ≡ b). subst (λ z. a < z) y (subst (λ z. z < 2 ^ (w - len) * 2 ^ len) x below)) (n * 2 ^ (w - len)) (2 ^ len * 2 ^ (w - len)) (mul_comm (2 ^ (w - len)) n) (mul_comm (2 ^ (w - len)) (2 ^ len)) in
    subst (λ k. n * 2 ^ (w - len) < 2 ^ k) whole (subst (λ k. n * 2 ^ (w - len) < k) (sym split) below')

pub shifted : (w v len n : ℕ) → v ≡ w → len ≤ w → n < 2 ^ len → w ≤ 128 → n * 2 ^ (v - len) % 2 ^ 128 ≡ n * 2 ^ (w - len)
shifted w v len n e l small wide =
    let a = shifted_small w len n l small in
    let b = pow_mono {i = w} {j = 128} wide in
    ap (λ k. n * 2 ^ (k - len) % 2 ^ 128) e ∙ mod-eq_of_lt (omega (arith, a, b))

pub fits_word : (n i k : ℕ) (b : Bool) → n < 2 ^ i → i < k → k ≤ 128 → 2 * n + digit b < 2 ^ 128
fits_word n i k b l below wide = let s = push_small n i b l in let m = pow_mono {i = i + 1} {j = 128} (omega (arith, below, wide)) in omega (arith, s, m)
