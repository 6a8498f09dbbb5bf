-- Bits of numbers, and numbers as four bytes.
use Rattle.std.proofs.Common.{◌≡◌, ℕ, zero, suc, ◌+◌, ◌*◌, ◌/◌, ◌%◌, ◌^◌, ◌<◌, ◌≤◌, Bool, true, false, cond, eqb, List, [], ◌∷◌, ◌++◌, length, take, drop, refl, sym, ap, ◌∙◌, arith, inl, inr}
use lib.Count.{ones, ones_step}
use Rattle.std.specs.Int.{w32, to_le_bytes, from_le_bytes}
use Rattle.std.proofs.lemmas.Bool.{cases_lt}
use Rattle.std.proofs.lemmas.List.{take_at, take-append-drop, length-take, get_or-drop, get_or-take, get_or_past, get_or_append_left, get_or-append_right}
use Rattle.std.proofs.lemmas.Nat.{le_bytes_4, from_le_bytes-to_le_bytes_4}
use Rattle.std.proofs.Math.Nat.{pow-suc}
use Rattle.prefix_model.specs.Positions.{bitmap, bits_of, count_true, bits_set}
use Rattle.prefix_model.specs.Spelling.{IsBytes, word}
use Rattle.prefix_model.specs.FirstCause.{first_word}

pub low_bit : (b : Bool) (x : ℕ) → eqb ((cond b 1 0 + 2 * x) % 2) 1 ≡ b
low_bit true x = let e : (1 + 2 * x) % 2 ≡ 1 = omega arith in ap (λ r. eqb r 1) e
low_bit false x = let e : (0 + 2 * x) % 2 ≡ 0 = omega arith in ap (λ r. eqb r 1) e

pub high_bits : (b : Bool) (x : ℕ) → (cond b 1 0 + 2 * x) / 2 ≡ x
high_bits true x = omega arith
high_bits false x = omega arith

-- the bits of a bitmap
pub bits_of-bitmap : (bs : List Bool) → bits_of (length bs) (bitmap bs) ≡ bs
bits_of-bitmap [] = refl
bits_of-bitmap (b ∷ bs) = λ i. low_bit b (bitmap bs) i ∷ (ap (bits_of (length bs)) (high_bits b (bitmap bs)) ∙ bits_of-bitmap bs) i

-- as many bits as were asked for
pub length-bits_of : (n x : ℕ) → length (bits_of n x) ≡ n
length-bits_of zero x = refl
length-bits_of (suc n) x = ap suc (length-bits_of n (x / 2))

two_values : (x : ℕ) → cond (eqb (x % 2) 1) 1 0 ≡ x % 2
two_values x = go (x % 2) (omega arith)
  where
    go : (r : ℕ) → r < 2 → cond (eqb r 1) 1 0 ≡ r
    go zero h = refl
    go (suc zero) h = refl
    go (suc (suc r)) h = absurd (omega arith)

-- a number that fits is the bitmap of its bits
pub bitmap-bits_of : (n x : ℕ) → x < 2 ^ n → bitmap (bits_of n x) ≡ x
bitmap-bits_of zero x h = omega arith
bitmap-bits_of (suc n) x h =
    let p = pow-suc 2 n in
    let ih = bitmap-bits_of n (x / 2) (omega arith) in
    let e = two_values x in omega arith

-- a bitmap fits in its bits
pub bitmap-lt : (bs : List Bool) → bitmap bs < 2 ^ length bs
bitmap-lt [] = omega arith
bitmap-lt (true ∷ bs) = let p = pow-suc 2 (length bs) in let ih = bitmap-lt bs in omega arith
bitmap-lt (false ∷ bs) = let p = pow-suc 2 (length bs) in let ih = bitmap-lt bs in omega arith

pub count_none : (n : ℕ) → count_true (bits_of n 0) ≡ 0
count_none zero = refl
count_none (suc n) = ap (λ r. 0 + r) (count_none n)

count-bitmap : (n : ℕ) (bs : List Bool) → length bs ≤ n → count_true (bits_of n (bitmap bs)) ≡ count_true bs
count-bitmap n [] h = count_none n
count-bitmap zero (b ∷ bs) h = absurd (omega arith)
count-bitmap (suc n) (b ∷ bs) h =
    let ih = count-bitmap n bs (omega arith) in
    λ i. cond (low_bit b (bitmap bs) i) 1 0 + (ap (λ x. count_true (bits_of n x)) (high_bits b (bitmap bs)) ∙ ih) i

-- a bitmap has as many set bits as were true
pub bits_set-bitmap : (bs : List Bool) → length bs ≤ 32 → bits_set (bitmap bs) ≡ count_true bs
unfolding bits_set
bits_set-bitmap bs h = count-bitmap 32 bs h

-- the set bits of a number are among its low bits
pub bits_set-low : (n x : ℕ) → n ≤ 32 → x < 2 ^ n → bits_set x ≡ count_true (bits_of n x)
bits_set-low n x h l = ap bits_set (sym (bitmap-bits_of n x l)) ∙ bits_set-bitmap (bits_of n x) (omega (arith, length-bits_of n x))

-- the bitmap 0 has no set bit
pub no_bits : (bs : List Bool) → bitmap bs ≡ 0 → count_true bs ≡ 0
no_bits [] e = refl
no_bits (true ∷ bs) e = absurd (omega arith)
no_bits (false ∷ bs) e = let ih = no_bits bs (omega arith) in omega arith

-- and no set bit makes the bitmap 0
pub some_bits : (bs : List Bool) → count_true bs ≡ 0 → bitmap bs ≡ 0
some_bits [] e = refl
some_bits (true ∷ bs) e = absurd (omega arith)
some_bits (false ∷ bs) e = let ih = some_bits bs (omega arith) in omega arith

-- ---- words

-- what is left of bytes are bytes
pub IsBytes-drop : (n : ℕ) (bytes : List ℕ) → IsBytes bytes → IsBytes (drop n bytes)
IsBytes-drop n bytes h i = rw get_or-drop (h (n + i))

-- and what is taken
pub IsBytes-take : (n : ℕ) (bytes : List ℕ) → IsBytes bytes → IsBytes (take n bytes)
IsBytes-take n bytes h i =
    elim (cases_lt i n) [
      | inl lt ↦ rw (get_or-take n bytes i 0 lt) (h i)
      | inr le ↦ rw (get_or_past (take n bytes) i 0 (omega (arith, length-take n bytes))) (omega arith)
    ]

-- and two pieces of bytes together
pub IsBytes-append : (a b : List ℕ) → IsBytes a → IsBytes b → IsBytes (a ++ b)
IsBytes-append a b h k i =
    elim (cases_lt i (length a)) [
      | inl lt ↦ rw (get_or_append_left a b 0 i lt) (h i)
      | inr le ↦ rw (get_or-append_right a b (length a) i 0 refl le) (k _)
    ]

-- a word has four bytes
pub length-word : (n : ℕ) → length (word n) ≡ 4
unfolding word
length-word n = refl

-- a number below 2^32 is read from its word
pub first_word-word : (n : ℕ) (rest : List ℕ) → n < 2 ^ 32 → first_word (word n ++ rest) ≡ n
unfolding first_word word
first_word-word n rest h = ap (from_le_bytes w32) (take_at (to_le_bytes w32 n) rest 4 refl) ∙ from_le_bytes-to_le_bytes_4 n h

-- four bytes are the word of the number that is read
pub word-first_word : (bytes : List ℕ) → IsBytes bytes → 4 ≤ length bytes → word (first_word bytes) ≡ take 4 bytes
unfolding first_word word
word-first_word bytes h l = le_bytes_4 (take 4 bytes) (from_le_bytes w32 (take 4 bytes)) (omega (arith, length-take 4 bytes)) (IsBytes-take 4 bytes h) refl

-- which is below 2^32
pub first_word-lt : (bytes : List ℕ) → IsBytes bytes → first_word bytes < 2 ^ 32
unfolding first_word
first_word-lt bytes h = let k = IsBytes-take 4 bytes h in omega (arith, k 0, k 1, k 2, k 3)

-- a word and what is behind it
pub word_taken : (bytes : List ℕ) → IsBytes bytes → 4 ≤ length bytes → bytes ≡ word (first_word bytes) ++ drop 4 bytes
word_taken bytes h l = sym (take-append-drop 4 bytes) ∙ ap (λ f. f ++ drop 4 bytes) (sym (word-first_word bytes h l))

count-ones : (n x : ℕ) → x < 2 ^ n → count_true (bits_of n x) ≡ ones x
unfolding ones
count-ones zero x h = ap ones (let z : 0 ≡ x = omega arith in z)
count-ones (suc n) x h =
    let p = pow-suc 2 n in
    let ih = count-ones n (x / 2) (omega arith) in
    let e = two_values x in
    let s = ones_step x in omega arith

-- what `count_ones` gives
pub bits_set-count_ones : (x : ℕ) → x < 2 ^ 32 → bits_set x ≡ ones x
unfolding bits_set
bits_set-count_ones x h = count-ones 32 x h
