-- Fronts of keys.
use Rattle.std.specs.Prelude.{◌≡◌, ℕ, zero, suc, ◌+◌, ◌%◌, ◌<◌, ◌≤◌, ◌&&◌, Bool, true, false, [], ◌∷◌, ◌++◌, length, take, drop, Some, slice_get}
use Rattle.std.proofs.Common.{refl, sym, ap, ◌∙◌, subst, arith, length-append, length-take, append_assoc}
use Rattle.prefix_model.specs.Keys.{KeyBits, key_cmp, same_bit, same_key}
use Rattle.prefix_model.specs.Masks.{begins_with}
use Rattle.prefix_model.proofs.KeyLemmas.{both_true}

pub same_bit_of : (a b : Bool) → same_bit a b ≡ true → a ≡ b
same_bit_of true true e = refl
same_bit_of true false e = cc
same_bit_of false true e = cc
same_bit_of false false e = refl

pub front_append : (p s : KeyBits) → begins_with p (p ++ s) ≡ true
front_append [] s = refl
front_append (true ∷ p) s = front_append p s
front_append (false ∷ p) s = front_append p s

pub front_itself : (p : KeyBits) → begins_with p p ≡ true
front_itself [] = refl
front_itself (true ∷ p) = front_itself p
front_itself (false ∷ p) = front_itself p

-- what follows a front
pub record Follows (p k : KeyBits) : Type 0 where
  pub rest : KeyBits
  pub whole : k ≡ p ++ rest

pub follows : (p k : KeyBits) → begins_with p k ≡ true → Follows p k
follows [] k e = record { rest = k; whole = refl }
follows (b ∷ p) [] e = cc
follows (b ∷ p) (c ∷ k) e =
    let both = both_true _ _ e in
    let f = follows p k both.1 in
    let h = sym (same_bit_of b c both.0) in record { rest = f.rest; whole = λ i. h i ∷ f.whole i }

pub take_drop : (n : ℕ) (p : KeyBits) → p ≡ take n p ++ drop n p
take_drop zero p = refl
take_drop (suc n) [] = refl
take_drop (suc n) (b ∷ p) = ap (λ r. b ∷ r) (take_drop n p)

pub append_none : (p : KeyBits) → p ++ [] ≡ p
append_none [] = refl
append_none (b ∷ p) = ap (λ r. b ∷ r) (append_none p)

pub take_front : (p s : KeyBits) → take (length p) (p ++ s) ≡ p
take_front [] s = refl
take_front (b ∷ p) s = ap (λ r. b ∷ r) (take_front p s)

pub drop_front : (p s : KeyBits) → drop (length p) (p ++ s) ≡ s
drop_front [] s = refl
drop_front (b ∷ p) s = drop_front p s

-- ---- fronts and lengths

pub front_take : (p k : KeyBits) → begins_with p k ≡ true → take (length p) k ≡ p
front_take p k e = let f = follows p k e in ap (take (length p)) f.whole ∙ take_front p f.rest

pub front_of_all : (n : ℕ) (k : KeyBits) → begins_with (take n k) k ≡ true
front_of_all zero k = refl
front_of_all (suc n) [] = refl
front_of_all (suc n) (true ∷ k) = front_of_all n k
front_of_all (suc n) (false ∷ k) = front_of_all n k

pub front_from : (p k : KeyBits) → take (length p) k ≡ p → begins_with p k ≡ true
front_from p k e = subst (λ q. begins_with q k ≡ true) e (front_of_all (length p) k)

pub front_length : (p k : KeyBits) → begins_with p k ≡ true → length p ≤ length k
front_length p k e = let f = follows p k e in let l = ap length f.whole ∙ length-append p f.rest in omega (arith, l)

pub front_both : (p q k : KeyBits) → begins_with p q ≡ true → begins_with q k ≡ true → begins_with p k ≡ true
front_both p q k e f =
    let a = follows p q e in
    let b = follows q k f in
    let w : k ≡ p ++ (a.rest ++ b.rest) = b.whole ∙ ap (λ x. x ++ b.rest) a.whole ∙ append_assoc p a.rest b.rest in
    subst (λ x. begins_with p x ≡ true) (sym w) (front_append p (a.rest ++ b.rest))

-- a front of the first n bits that is no longer than m is a front of the first m
pub front_within : (p bits : KeyBits) (n m : ℕ) → length p ≤ m → begins_with p (take n bits) ≡ true → begins_with p (take m bits) ≡ true
front_within [] bits n m l e = refl
front_within (b ∷ p) bits n zero l e = absurd (omega (arith, l))
front_within (b ∷ p) bits zero (suc m) l e = cc
front_within (b ∷ p) [] (suc n) (suc m) l e = cc
front_within (b ∷ p) (c ∷ bits) (suc n) (suc m) l e =
    let both : (same_bit b c ≡ true) × (begins_with p (take n bits) ≡ true) = both_true _ _ e in
    let r = front_within p bits n m (omega (arith, l)) both.1 in
    λ i. both.0 i && r i

pub taken_front : (bits : KeyBits) (n m : ℕ) → n ≤ m → begins_with (take n bits) (take m bits) ≡ true
taken_front bits n m l = let t = length-take n bits in front_within (take n bits) bits n m (omega (arith, l, t)) (front_itself (take n bits))

same_bits : (a b c : Bool) → same_bit a c ≡ true → same_bit b c ≡ true → same_bit a b ≡ true
same_bits true true c e f = refl
same_bits true false true e f = cc
same_bits true false false e f = cc
same_bits false true true e f = cc
same_bits false true false e f = cc
same_bits false false c e f = refl

-- of two fronts of one key the shorter is a front of the other
pub front_of_front : (q n k : KeyBits) → begins_with q k ≡ true → begins_with n k ≡ true → length q ≤ length n → begins_with q n ≡ true
front_of_front [] n k e f l = refl
front_of_front (a ∷ q) [] k e f l = absurd (omega (arith, l))
front_of_front (a ∷ q) (b ∷ n) [] e f l = cc
front_of_front (a ∷ q) (b ∷ n) (c ∷ k) e f l =
    let x : (same_bit a c ≡ true) × (begins_with q k ≡ true) = both_true _ _ e in
    let y : (same_bit b c ≡ true) × (begins_with n k ≡ true) = both_true _ _ f in
    let s = same_bits a b c x.0 y.0 in
    let r = front_of_front q n k x.1 y.1 (omega (arith, l)) in
    λ i. s i && r i

pub front_cut : (p bits : KeyBits) (n : ℕ) → length p ≤ n → begins_with p bits ≡ true → begins_with p (take n bits) ≡ true
front_cut p bits n l e =
    let t = length-take n bits in
    let m = front_length p bits e in
    front_of_front p (take n bits) bits e (front_of_all n bits) (omega (arith, t, m, l))

pub take_next : (xs : KeyBits) (i : ℕ) (b : Bool) → slice_get xs i ≡ Some b → take (i + 1) xs ≡ take i xs ++ b ∷ []
take_next xs i b e = ap (λ n. take n xs) (let s : i + 1 ≡ suc i = omega arith in s) ∙ next xs i b e
  where
    next : (xs : KeyBits) (i : ℕ) (b : Bool) → slice_get xs i ≡ Some b → take (suc i) xs ≡ take i xs ++ b ∷ []
    next [] i b e = cc
    next (x ∷ xs) zero b e = let h : x ≡ b = cc in λ i. h i ∷ []
    next (x ∷ xs) (suc i) b e = ap (λ r. x ∷ r) (next xs i b e)

-- ---- keys with a common front

-- keys with one front
pub same_key-front : (p q s : KeyBits) → same_key (p ++ q) (p ++ s) ≡ same_key q s
same_key-front [] q s = refl
same_key-front (true ∷ p) q s = same_key-front p q s
same_key-front (false ∷ p) q s = same_key-front p q s

pub cmp_front : (p s t : KeyBits) → key_cmp (p ++ s) (p ++ t) ≡ key_cmp s t
cmp_front [] s t = refl
cmp_front (true ∷ p) s t = cmp_front p s t
cmp_front (false ∷ p) s t = cmp_front p s t

pub front_front : (p q s : KeyBits) → begins_with (p ++ q) (p ++ s) ≡ begins_with q s
front_front [] q s = refl
front_front (true ∷ p) q s = front_front p q s
front_front (false ∷ p) q s = front_front p q s

-- keys with fronts of one length
pub same_parts : (p q s t : KeyBits) → length p ≡ length q → p ++ s ≡ q ++ t → (p ≡ q) × (s ≡ t)
same_parts [] [] s t l e = (refl, e)
same_parts [] (b ∷ q) s t l e = absurd (omega arith)
same_parts (a ∷ p) [] s t l e = absurd (omega arith)
same_parts (a ∷ p) (b ∷ q) s t l e =
    let head : a ≡ b = cc in
    let tail : p ++ s ≡ q ++ t = cc in
    let rest = same_parts p q s t (omega arith) tail in
    ((λ i. head i ∷ rest.0 i), rest.1)

pub same_front : (p q s t : KeyBits) → length p % 5 ≡ 0 → length q % 5 ≡ 0 → length s < 5 → length t < 5 → p ++ s ≡ q ++ t → (p ≡ q) × (s ≡ t)
same_front p q s t lp lq ls lt e =
    let l = length-append p s in
    let m = length-append q t in
    let n = ap length e in
    same_parts p q s t (omega (arith, l, m, n)) e
