-- Kept positions below a position, and those right below it.
use Rattle.std.specs.Prelude.{◌≡◌, ℕ, zero, suc, ◌+◌, ◌*◌, ◌/◌, ◌%◌, Bool, true, false, List, [], ◌∷◌, ◌++◌, length, map, take, drop}
use Rattle.std.proofs.Common.{refl, sym, ap, ◌∙◌, arith, append_assoc, length-append, length-drop, length-take}
use Rattle.std.specs.FinMap.{contains_key}
use Rattle.std.proofs.lemmas.List.{take-append-drop}
use Rattle.prefix_model.specs.Keys.{KeyBits, keys_of_length}
use Rattle.prefix_model.specs.Positions.{PositionSet, bitmap, child_bits, child_places}
use Rattle.prefix_model.specs.Pruning.{IsClosed, HasNoneBelow, BareHasNoneBelow}

-- ---- a bitmap that is 0

split_zero : (xs ys : List Bool) → bitmap (xs ++ ys) ≡ 0 → (bitmap xs ≡ 0) × (bitmap ys ≡ 0)
split_zero [] ys e = (refl, e)
split_zero (true ∷ xs) ys e = absurd (omega (arith, e))
split_zero (false ∷ xs) ys e = let rest = split_zero xs ys (omega (arith, e)) in let front = rest.0 in (omega (arith, front), rest.1)

join_zero : (xs ys : List Bool) → bitmap xs ≡ 0 → bitmap ys ≡ 0 → bitmap (xs ++ ys) ≡ 0
join_zero [] ys e f = f
join_zero (true ∷ xs) ys e f = absurd (omega (arith, e))
join_zero (false ∷ xs) ys e f = let rest = join_zero xs ys (omega (arith, e)) f in omega (arith, rest)

twice : (test : KeyBits → Bool) (f : KeyBits → KeyBits) (xs : List KeyBits) → map test (map f xs) ≡ map (λ k. test (f k)) xs
twice test f [] = refl
twice test f (x ∷ xs) = ap (λ bs. test (f x) ∷ bs) (twice test f xs)

halves : (test : KeyBits → Bool) (f g : KeyBits → KeyBits) (xs ys : List KeyBits) → map test (map f xs ++ map g ys) ≡ map (λ k. test (f k)) xs ++ map (λ k. test (g k)) ys
halves test f g [] ys = twice test g ys
halves test f g (x ∷ xs) ys = ap (λ bs. test (f x) ∷ bs) (halves test f g xs ys)

both_halves : (n : ℕ) (test : KeyBits → Bool) → bitmap (map test (keys_of_length (suc n))) ≡ 0 → (bitmap (map (λ k. test (false ∷ k)) (keys_of_length n)) ≡ 0) × (bitmap (map (λ k. test (true ∷ k)) (keys_of_length n)) ≡ 0)
both_halves n test e =
    split_zero (map (λ k. test (false ∷ k)) (keys_of_length n)) (map (λ k. test (true ∷ k)) (keys_of_length n))
    (ap bitmap (sym (halves test (λ k. false ∷ k) (λ k. true ∷ k) (keys_of_length n) (keys_of_length n))) ∙ e)

none_passes : (n : ℕ) (test : KeyBits → Bool) → bitmap (map test (keys_of_length n)) ≡ 0 → (c : KeyBits) → length c ≡ n → test c ≡ false
none_passes zero test e [] l = of (test []) e
  where
    of : (b : Bool) → bitmap (b ∷ []) ≡ 0 → b ≡ false
    of true z = absurd (omega (arith, z))
    of false z = refl
none_passes zero test e (b ∷ c) l = absurd (omega (arith, l))
none_passes (suc n) test e [] l = absurd (omega (arith, l))
none_passes (suc n) test e (false ∷ c) l = none_passes n (λ k. test (false ∷ k)) (both_halves n test e).0 c (omega (arith, l))
none_passes (suc n) test e (true ∷ c) l = none_passes n (λ k. test (true ∷ k)) (both_halves n test e).1 c (omega (arith, l))

no_bit : (n : ℕ) (test : KeyBits → Bool) → ((c : KeyBits) → length c ≡ n → test c ≡ false) → bitmap (map test (keys_of_length n)) ≡ 0
no_bit zero test h = ap (λ b. bitmap (b ∷ [])) (h [] refl)
no_bit (suc n) test h =
    ap bitmap (halves test (λ k. false ∷ k) (λ k. true ∷ k) (keys_of_length n) (keys_of_length n))
    ∙ join_zero (map (λ k. test (false ∷ k)) (keys_of_length n)) (map (λ k. test (true ∷ k)) (keys_of_length n))
    (no_bit n (λ k. test (false ∷ k)) (λ c l. h (false ∷ c) (omega (arith, l))))
    (no_bit n (λ k. test (true ∷ k)) (λ c l. h (true ∷ c) (omega (arith, l))))

-- ---- positions above a kept one

-- the position so many fives above a kept one is kept
above : (kept : PositionSet) → IsClosed kept → (n : ℕ) (p r : KeyBits) → length r ≡ 5 * n → contains_key kept (p ++ r) ≡ true → contains_key kept p ≡ true
above kept closed zero p [] l e = ap (contains_key kept) (sym (none_behind p)) ∙ e
  where
    none_behind : (k : KeyBits) → k ++ [] ≡ k
    none_behind [] = refl
    none_behind (b ∷ k) = ap (λ l. b ∷ l) (none_behind k)
above kept closed zero p (b ∷ r) l e = absurd (omega (arith, l))
above kept closed (suc n) p r l e =
    let front = take 5 r in
    let rest = drop 5 r in
    let a = length-take 5 r in
    let b = length-drop 5 r in
    let whole : (p ++ front) ++ rest ≡ p ++ r = append_assoc p front rest ∙ ap (λ k. p ++ k) (take-append-drop 5 r) in
    closed.above p front (omega (arith, a, l)) (above kept closed n (p ++ front) rest (omega (arith, b, l)) (ap (contains_key kept) whole ∙ e))

none_below : (kept : PositionSet) (p : KeyBits) → IsClosed kept → length p % 5 ≡ 0 → child_bits (contains_key kept) p ≡ 0 → HasNoneBelow kept p
unfolding child_places
none_below kept p closed five none q some = of (contains_key kept (p ++ q)) refl
  where
    of : (b : Bool) → contains_key kept (p ++ q) ≡ b → b ≡ false
    of false e = refl
    of true e =
        let size = length-append p q in
        let deep = closed.lengths (p ++ q) e in
        let front = take 5 q in
        let rest = drop 5 q in
        let a = length-take 5 q in
        let b = length-drop 5 q in
        let whole : (p ++ front) ++ rest ≡ p ++ q = append_assoc p front rest ∙ ap (λ k. p ++ k) (take-append-drop 5 q) in
        let there = above kept closed (length rest / 5) (p ++ front) rest (omega (arith, b, size, deep, five, some)) (ap (contains_key kept) whole ∙ e) in
        let not_there = none_passes 5 (λ c. contains_key kept (p ++ c)) none front (omega (arith, a, size, deep, five, some)) in
        absurd (let both = sym there ∙ not_there in cc)

none_right_below : (kept : PositionSet) (p : KeyBits) → HasNoneBelow kept p → child_bits (contains_key kept) p ≡ 0
unfolding child_places
none_right_below kept p none = no_bit 5 (λ c. contains_key kept (p ++ c)) (λ c l. none c (omega (arith, l)))

pub bare_has_none_below : BareHasNoneBelow
bare_has_none_below kept p closed five = (none_below kept p closed five, none_right_below kept p)
