-- Parts of a key: the bits from one place on up to another.
use Rattle.std.specs.Prelude.{◌≡◌, ℕ, zero, suc, ◌+◌, ◌≤◌, [], ◌∷◌, ◌++◌, length, take, drop, ◌-◌, ◌^◌, ◌<◌, Some, slice_get, ◌%◌, false, replicate}
use Rattle.std.proofs.Common.{refl, ap, arith, length-drop, length-take, sym, ◌∙◌, length-append, append_assoc, Bool}
use Rattle.std.proofs.lemmas.List.{drop-take}
use Rattle.prefix_model.specs.Keys.{KeyBits, number, low_bits}
use Rattle.prefix_model.specs.Positions.{data_places}
use Rattle.prefix_model.proofs.KeyLists.{take_take}
use Rattle.prefix_model.proofs.KeyPlaces.{place_at, low_bits-number, part-lt}
use Rattle.prefix_model.proofs.KeyNumbers.{number-low_bits}
use Rattle.prefix_model.proofs.Fronts.{take_front}

pub take_parts : (xs : KeyBits) (d len : ℕ) → d ≤ len → take d xs ++ drop d (take len xs) ≡ take len xs
take_parts xs zero len l = refl
take_parts [] (suc d) zero l = refl
take_parts [] (suc d) (suc len) l = refl
take_parts (x ∷ xs) (suc d) zero l = absurd (omega arith)
take_parts (x ∷ xs) (suc d) (suc len) l = ap (λ rest. x ∷ rest) (take_parts xs d len (omega arith))

-- five bits of a key
pub piece_five : (bits : KeyBits) (d : ℕ) → d + 5 ≤ length bits → length (drop d (take (d + 5) bits)) ≡ 5
piece_five bits d l = let a = length-drop d (take (d + 5) bits) in let b = length-take (d + 5) bits in omega (arith, a, b)

-- the first bits of a part of a key
pub part_front : (xs : KeyBits) (d n len : ℕ) → d + n ≤ len → drop d (take (d + n) xs) ≡ take n (drop d (take len xs))
part_front xs d n len l = ap (drop d) (sym (take_take xs (d + n) len l)) ∙ drop-take d n (take len xs)

-- the place of a part of a key, by its length and number
pub part_at : (xs : KeyBits) (d len n : ℕ) → d ≤ len → len < d + 5 → len ≤ length xs → n ≡ 2 ^ (len - d) - 1 + number (drop d (take len xs)) → slice_get data_places n ≡ Some (drop d (take len xs))
part_at xs d len n order few within e =
    let a = length-drop d (take len xs) in
    let b = length-take len xs in
    ap (slice_get data_places) e ∙ place_at (drop d (take len xs)) (len - d) (omega (arith, a, b)) (omega arith)

-- the five bits behind a node's key
pub five_bits : (xs : KeyBits) (d n : ℕ) → d + 5 ≤ length xs → n ≡ number (drop d (take (d + 5) xs)) → low_bits 5 n ≡ drop d (take (d + 5) xs)
five_bits xs d n within e =
    let a = length-drop d (take (d + 5) xs) in
    let b = length-take (d + 5) xs in
    let five : 5 ≡ length (drop d (take (d + 5) xs)) = omega (arith, a, b) in
    (λ j. low_bits (five j) (e j)) ∙ low_bits-number (drop d (take (d + 5) xs))

pub five_below : (xs : KeyBits) (d n : ℕ) → n ≡ number (drop d (take (d + 5) xs)) → n < 32
five_below xs d n e = let l = part-lt xs d (d + 5) 5 (omega arith) in omega (arith, e, l)

pub number_five : (b : ℕ) → b < 32 → number (low_bits 5 b) ≡ b
number_five b l = number-low_bits 5 b ∙ (let z : b % 2 ^ 5 ≡ b = omega arith in z)

-- the first bits of the key of a child
pub child_key : (p c ys : KeyBits) (d m : ℕ) → length p ≡ d → length c ≡ 5 → ys ≡ p ++ (c ++ replicate m false) → take (d + 5) ys ≡ p ++ c
child_key p c ys d m size five e =
    let a = length-append p c in
    let n : d + 5 ≡ length (p ++ c) = omega (arith, a, size, five) in
    (λ j. take (n j) ((e ∙ sym (append_assoc p c (replicate m false))) j)) ∙ take_front (p ++ c) (replicate m false)

pub taken_length : (bits : KeyBits) (d w : ℕ) → length bits ≡ w → d ≤ w → length (take d bits) ≡ d
taken_length bits d w whole order = let t = length-take d bits in omega (arith, t, whole, order)

drop_next_suc : (bits : KeyBits) (n len : ℕ) (b : Bool) → slice_get bits n ≡ Some b → n < len → drop n (take len bits) ≡ b ∷ drop (suc n) (take len bits)
drop_next_suc [] n len b e l = absurd (cc)
drop_next_suc (x ∷ bits) n zero b e l = absurd (omega arith)
drop_next_suc (x ∷ bits) zero (suc len) b e l = let h : x ≡ b = cc in ap (λ y. y ∷ take len bits) h
drop_next_suc (x ∷ bits) (suc n) (suc len) b e l = drop_next_suc bits n len b e (omega arith)

pub drop_next : (bits : KeyBits) (n len : ℕ) (b : Bool) → slice_get bits n ≡ Some b → n < len → drop n (take len bits) ≡ b ∷ drop (n + 1) (take len bits)
drop_next bits n len b e l = drop_next_suc bits n len b e l ∙ ap (λ k. b ∷ drop k (take len bits)) (let one : suc n ≡ n + 1 = omega arith in one)
