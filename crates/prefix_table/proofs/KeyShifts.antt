-- What shifts and masks do to the bits of a key.
use Rattle.std.specs.Prelude.{◌≡◌, ◌↔◌, ℕ, ◌+◌, ◌-◌, ◌*◌, ◌/◌, ◌%◌, ◌^◌, ◌<◌, ◌≤◌, ◌++◌, false, length, replicate, take, drop, bit_and, bit_or, IsTrue}
use Rattle.std.proofs.Common.{sym, ap, ◌∙◌, arith, append_assoc, subst, length-take}
use Rattle.std.proofs.Math.Nat.{mod-eq_of_lt, mul_assoc, add-mul, mul-lt-mul_of_pos_right}
use Rattle.std.proofs.lemmas.List.{length-replicate}
use Rattle.std.proofs.Math.Seq.{take-append_seam, drop-append_seam}
use Rattle.std.proofs.lemmas.Nat.{and_mask, or_shifted, div-mul-add, pow-add, pow_pos, shl-shr}
use Rattle.std.proofs.lemmas.Nat.Bits.{bit_at_cat_low}
use Rattle.std.proofs.lemmas.Bool.{eqb-true, eq-eqb}
use Rattle.std.proofs.Math.Dec.{eqb}
use Rattle.std.proofs.Math.Pow.{pow-lt}
use lib.Pow.{pow_mono}
use Rattle.prefix_model.specs.Keys.{KeyBits, number, low_bits}
use Rattle.prefix_model.proofs.KeyNumbers.{length-low_bits, number-low_bits, low_bits-append, low_bits-same, low_bits-multiple}
use Rattle.prefix_model.proofs.KeyPlaces.{low_bits-number, number-append}
use Rattle.prefix_model.proofs.Fronts.{same_parts}

-- the first bits of a number, and the bits behind them
first_bits : (a b x : ℕ) → take a (low_bits (a + b) x) ≡ low_bits a (x / 2 ^ b)
first_bits a b x =
    ap (take a) (low_bits-append a b x)
    ∙ ap (λ n. take n (low_bits a (x / 2 ^ b) ++ low_bits b x)) (sym (length-low_bits a (x / 2 ^ b)))
    ∙ take-append_seam (low_bits a (x / 2 ^ b)) (low_bits b x)

last_bits : (a b x : ℕ) → drop a (low_bits (a + b) x) ≡ low_bits b x
last_bits a b x =
    ap (drop a) (low_bits-append a b x)
    ∙ ap (λ n. drop n (low_bits a (x / 2 ^ b) ++ low_bits b x)) (sym (length-low_bits a (x / 2 ^ b)))
    ∙ drop-append_seam (low_bits a (x / 2 ^ b)) (low_bits b x)

-- the number of a part of a key
part_number : (n x from to : ℕ) → from ≤ to → to ≤ n → number (drop from (take to (low_bits n x))) ≡ x / 2 ^ (n - to) % 2 ^ (to - from)
part_number n x from to order within =
    let whole : to + (n - to) ≡ n = omega arith in
    let front : from + (to - from) ≡ to = omega arith in
    let y : ℕ = x / 2 ^ (n - to) in
    ap (λ k. number (drop from (take to (low_bits k x)))) (sym whole)
    ∙ ap (λ s. number (drop from s)) (first_bits to (n - to) x)
    ∙ ap (λ k. number (drop from (low_bits k y))) (sym front)
    ∙ ap number (last_bits from (to - from) y)
    ∙ number-low_bits (to - from) y

-- `(x >> (n - to)) & ((1 << (to - from)) - 1)` in a word of w bits
pub part_masked : (w n x y from to : ℕ) → 5 < w → from ≤ to → to ≤ from + 5 → to ≤ n → y ≡ x / 2 ^ (n - to) → bit_and y (1 * 2 ^ (to - from) % 2 ^ w - 1) ≡ number (drop from (take to (low_bits n x)))
part_masked w n x y from to wide order few within shifted =
    let small = pow-lt (let l : to - from < w = omega arith in l) in
    let one : 1 * 2 ^ (to - from) % 2 ^ w ≡ 2 ^ (to - from) = ap (λ m. m % 2 ^ w) (let e : 1 * 2 ^ (to - from) ≡ 2 ^ (to - from) = omega arith in e) ∙ mod-eq_of_lt small in
    (λ j. bit_and (shifted j) (one j - 1))
    ∙ and_mask (x / 2 ^ (n - to)) (to - from)
    ∙ sym (part_number n x from to order within)

-- no bit is between two equal ends
pub part_none : (s : KeyBits) (from to : ℕ) → from ≤ to → to ≡ 0 → 0 ≡ number (drop from (take to s))
part_none s from to order none =
    let zero_from : from ≡ 0 = omega arith in
    ap (λ n. number (drop n (take 0 s))) (sym zero_from) ∙ ap (λ n. number (drop from (take n s))) (sym none)

-- a number of a few bits
pub few_below : (m c : ℕ) → m < 2 ^ c → c ≤ 5 → m < 32
few_below m c below few = let p : 2 ^ c ≤ 2 ^ 5 = pow_mono few in omega (arith, p)

-- ---- a number behind the front of a key

zeros_number : (k : ℕ) → number (replicate k false) ≡ 0
zeros_number k = ap number (sym (low_bits-multiple k 0)) ∙ number-low_bits k (0 * 2 ^ k) ∙ (let e : 0 * 2 ^ k % 2 ^ k ≡ 0 = omega arith in e)

-- the number of a key that ends in zeros
front_number : (n k f : ℕ) (t : KeyBits) → f < 2 ^ n → low_bits n f ≡ t ++ replicate k false → f ≡ number t * 2 ^ k
front_number n k f t fits e =
    let whole = number-append t (replicate k false) in
    let zeros = zeros_number k in
    let length_zeros : 2 ^ length (replicate k false) ≡ 2 ^ k = ap (λ m. 2 ^ m) (length-replicate k false) in
    sym (number-low_bits n f ∙ mod-eq_of_lt fits) ∙ ap number e ∙ whole ∙ (λ j. number t * length_zeros j + zeros j) ∙ (let none : number t * 2 ^ k + 0 ≡ number t * 2 ^ k = omega arith in none)

-- two numbers in c bits, one behind the other, and then zeros
two_parts : (a c k q m : ℕ) → low_bits (a + (c + k)) ((q * 2 ^ c + m) * 2 ^ k) ≡ low_bits a ((q * 2 ^ c + m) / 2 ^ c) ++ (low_bits c m ++ replicate k false)
two_parts a c k q m =
    let y : ℕ = q * 2 ^ c + m in
    let parts : a + (c + k) ≡ (a + c) + k = omega arith in
    ap (λ n. low_bits n (y * 2 ^ k)) parts
    ∙ low_bits-append (a + c) k (y * 2 ^ k)
    ∙ (λ j. low_bits (a + c) (shl-shr y k j) ++ low_bits-multiple k y j)
    ∙ ap (λ s. s ++ replicate k false) (low_bits-append a c y ∙ ap (λ s. low_bits a (y / 2 ^ c) ++ s) (low_bits-same c y m (λ i l. bit_at_cat_low q c m i l)))
    ∙ append_assoc (low_bits a (y / 2 ^ c)) (low_bits c m) (replicate k false)

high_part : (q c m : ℕ) → m < 2 ^ c → (q * 2 ^ c + m) / 2 ^ c ≡ q
high_part q c m below = div-mul-add q (2 ^ c) m below

-- `keep(len) | (number << k)`
pub put_behind : (n f c m k : ℕ) (t : KeyBits) → f < 2 ^ n → length t + (c + k) ≡ n → m < 2 ^ c → low_bits n f ≡ t ++ replicate (c + k) false → low_bits n (bit_or f (m * 2 ^ k % 2 ^ n)) ≡ t ++ (low_bits c m ++ replicate k false)
put_behind n f c m k t fits whole below zeros =
    let q : ℕ = number t in
    let shifted : m * 2 ^ k < 2 ^ (c + k) = subst (λ (p : ℕ). m * 2 ^ k < p) (sym (pow-add 2 c k)) (mul-lt-mul_of_pos_right below (pow_pos k)) in
    let short : 2 ^ (c + k) ≤ 2 ^ n = pow_mono (let l : c + k ≤ n = omega arith in l) in
    let small : m * 2 ^ k < 2 ^ n = omega (arith, shifted, short) in
    let front = front_number n (c + k) f t fits zeros in
    let joined : bit_or f (m * 2 ^ k % 2 ^ n) ≡ (q * 2 ^ c + m) * 2 ^ k =
    (λ j. bit_or (front j) (mod-eq_of_lt small j)) ∙ or_shifted q (c + k) (m * 2 ^ k) shifted ∙ factored q m c k in
    ap (low_bits n) joined
    ∙ ap (λ w. low_bits w ((q * 2 ^ c + m) * 2 ^ k)) (sym whole)
    ∙ two_parts (length t) c k q m
    ∙ ap (λ s. s ++ (low_bits c m ++ replicate k false)) (ap (low_bits (length t)) (high_part q c m below) ∙ low_bits-number t)
  where
    factored : (q m c k : ℕ) → q * 2 ^ (c + k) + m * 2 ^ k ≡ (q * 2 ^ c + m) * 2 ^ k
    factored q m c k = ap (λ p. q * p + m * 2 ^ k) (pow-add 2 c k) ∙ ap (λ p. p + m * 2 ^ k) (sym (mul_assoc q (2 ^ c) (2 ^ k))) ∙ sym (add-mul (q * 2 ^ c) m (2 ^ k))

-- the same, as the code has it, where the front of x was kept in f
pub number_put : (n x f c m y len : ℕ) → f < 2 ^ n → len + c ≤ n → m < 2 ^ c → y ≡ m → low_bits n f ≡ take len (low_bits n x) ++ replicate (n - len) false
    → low_bits n (bit_or f (y * 2 ^ (n - len - c) % 2 ^ n)) ≡ take len (low_bits n x) ++ (low_bits c m ++ replicate (n - (len + c)) false)
number_put n x f c m y len fits within below same kept =
    let front = length-take len (low_bits n x) in
    let whole = length-low_bits n x in
    let count : n - len ≡ c + (n - len - c) = omega arith in
    let rest : n - len - c ≡ n - (len + c) = omega arith in
    ap (λ v. low_bits n (bit_or f (v * 2 ^ (n - len - c) % 2 ^ n))) same
    ∙ put_behind n f c m (n - len - c) (take len (low_bits n x)) fits (omega (arith, front, whole)) below (kept ∙ ap (λ k. take len (low_bits n x) ++ replicate k false) count)
    ∙ ap (λ k. take len (low_bits n x) ++ (low_bits c m ++ replicate k false)) rest

-- a number of no bits
pub none_put : (n x f c m len : ℕ) → c ≡ 0 → low_bits n f ≡ take len (low_bits n x) ++ replicate (n - len) false → low_bits n f ≡ take len (low_bits n x) ++ (low_bits c m ++ replicate (n - (len + c)) false)
unfolding low_bits
none_put n x f c m len none kept =
    let rest : n - len ≡ n - (len + 0) = omega arith in
    kept ∙ ap (λ k. take len (low_bits n x) ++ replicate k false) rest ∙ ap (λ k. take len (low_bits n x) ++ (low_bits k m ++ replicate (n - (len + k)) false)) (sym none)

-- ---- two keys of which the same bits are kept

pub kept_equal : (n x y a b len : ℕ) → a < 2 ^ n → b < 2 ^ n → low_bits n a ≡ take len (low_bits n x) ++ replicate (n - len) false → low_bits n b ≡ take len (low_bits n y) ++ replicate (n - len) false
    → IsTrue (eqb a b) ↔ (take len (low_bits n x) ≡ take len (low_bits n y))
kept_equal n x y a b len fits_a fits_b kept_a kept_b = (λ t. fronts (eqb-true a b t), λ e. eq-eqb a b (whole e))
  where
    lengths : length (take len (low_bits n x)) ≡ length (take len (low_bits n y))
    lengths =
        let l = length-take len (low_bits n x) in
        let m = length-take len (low_bits n y) in
        let p = length-low_bits n x in
        let q = length-low_bits n y in
        omega (arith, l, m, p, q)

    fronts : a ≡ b → take len (low_bits n x) ≡ take len (low_bits n y)
    fronts e = (same_parts _ _ (replicate (n - len) false) (replicate (n - len) false) lengths (sym kept_a ∙ ap (low_bits n) e ∙ kept_b)).0

    whole : take len (low_bits n x) ≡ take len (low_bits n y) → a ≡ b
    whole e =
        sym (number-low_bits n a ∙ mod-eq_of_lt fits_a)
        ∙ ap number (kept_a ∙ ap (λ s. s ++ replicate (n - len) false) e ∙ sym kept_b)
        ∙ number-low_bits n b ∙ mod-eq_of_lt fits_b
