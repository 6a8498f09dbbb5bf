-- The test of a node's depth as one comparison.
use Rattle.std.proofs.Common.{◌≡◌, ℕ, zero, suc, ◌+◌, ◌-◌, ◌/◌, ◌%◌, ◌^◌, ◌<◌, ◌≤◌, Bool, true, false, eqb, ltb, leb, List, [], ◌∷◌, length, map, refl, sym, ap, ◌∙◌, arith}
use Rattle.std.specs.Prelude.{◌&&◌, ◌||◌}
use Rattle.std.specs.List.{list_any, list_all}
use Rattle.std.proofs.lemmas.Bool.{ltb-true, lt-ltb, le-ltb, leb-true, le-leb, eqb-true, eqb-false}
use Rattle.std.proofs.Math.Nat.{pow-suc}
use Rattle.prefix_model.specs.Keys.{KeyBits}
use Rattle.prefix_model.specs.Positions.{data_places, bits_of}
use Rattle.prefix_model.specs.FirstCause.{marked, is_too_deep}
use Rattle.prefix_model.proofs.KeyLemmas.{both_true, both_ways, or_assoc}

same_order : (a b x y : ℕ) → (a ≤ b → x ≤ y) → (x ≤ y → a ≤ b) → leb a b ≡ leb x y
same_order a b x y f g = both_ways (leb a b) (leb x y) (λ e. le-leb x y (f (leb-true a b e))) (λ e. le-leb a b (g (leb-true x y e)))

half_power : (n x : ℕ) → leb (2 ^ suc n) x ≡ leb (2 ^ n) (x / 2)
half_power n x = let p = pow-suc 2 n in same_order (2 ^ suc n) x (2 ^ n) (x / 2) (λ h. omega arith) (λ h. omega arith)

-- whether a bit is set where a test is true
abbrev any_both : List Bool → List Bool → Bool
any_both [] bs = false
any_both (t ∷ ts) [] = false
any_both (t ∷ ts) (b ∷ bs) = (b && t) || any_both ts bs

any_marked : (test : KeyBits → Bool) (ps : List KeyBits) (bs : List Bool) → list_any test (marked ps bs) ≡ any_both (map test ps) bs
any_marked test [] bs = refl
any_marked test (p ∷ ps) [] = refl
any_marked test (p ∷ ps) (true ∷ bs) = ap (λ r. test p || r) (any_marked test ps bs)
any_marked test (p ∷ ps) (false ∷ bs) = any_marked test ps bs

all_true : List Bool → Bool
all_true [] = true
all_true (t ∷ ts) = t && all_true ts

low_or_high : (x : ℕ) → (eqb (x % 2) 1 || leb 1 (x / 2)) ≡ leb 1 x
low_or_high x = both_ways _ (leb 1 x) (λ e. le-leb 1 x (go (eqb (x % 2) 1) (leb 1 (x / 2)) refl refl e)) (λ e. back (leb-true 1 x e) (eqb (x % 2) 1) refl)
  where
    go : (a b : Bool) → eqb (x % 2) 1 ≡ a → leb 1 (x / 2) ≡ b → (a || b) ≡ true → 1 ≤ x
    go true b p q e = let o = eqb-true (x % 2) 1 p in omega arith
    go false true p q e = let o = leb-true 1 (x / 2) q in omega arith
    go false false p q e = cc

    back : 1 ≤ x → (a : Bool) → eqb (x % 2) 1 ≡ a → (a || leb 1 (x / 2)) ≡ true
    back l true e = refl
    back l false e = let n = eqb-false (x % 2) 1 e in le-leb 1 (x / 2) (omega arith)

any_high : (ts : List Bool) (x : ℕ) → all_true ts ≡ true → (any_both ts (bits_of (length ts) x) || leb (2 ^ length ts) x) ≡ leb 1 x
unfolding all_true
any_high [] x h = refl
any_high (t ∷ ts) x h =
    let parts = both_true t (all_true ts) h in
    let ih = any_high ts (x / 2) parts.1 in
    sym (or_assoc (eqb (x % 2) 1 && t) (any_both ts (bits_of (length ts) (x / 2))) (leb (2 ^ suc (length ts)) x))
    ∙ (λ i. (both_same (eqb (x % 2) 1) t parts.0 i) || (any_both ts (bits_of (length ts) (x / 2)) || half_power (length ts) x i))
    ∙ ap (λ r. eqb (x % 2) 1 || r) ih
    ∙ low_or_high x
  where
    both_same : (b t : Bool) → t ≡ true → (b && t) ≡ b
    both_same true t e = e
    both_same false t e = refl

-- the tests are false up to a place, and true from there on
abbrev first_true : List Bool → ℕ
first_true [] = 0
first_true (true ∷ ts) = 0
first_true (false ∷ ts) = suc (first_true ts)

abbrev rises : List Bool → Bool
rises [] = true
rises (true ∷ ts) = all_true ts
rises (false ∷ ts) = rises ts

any_from : (ts : List Bool) (x : ℕ) → rises ts ≡ true → (any_both ts (bits_of (length ts) x) || leb (2 ^ length ts) x) ≡ leb (2 ^ first_true ts) x
unfolding all_true
any_from [] x h = refl
any_from (true ∷ ts) x h = any_high (true ∷ ts) x h
any_from (false ∷ ts) x h =
    (λ i. (and_false (eqb (x % 2) 1) i || any_both ts (bits_of (length ts) (x / 2))) || half_power (length ts) x i)
    ∙ any_from ts (x / 2) h
    ∙ sym (half_power (first_true ts) x)
  where
    and_false : (b : Bool) → (b && false) ≡ false
    and_false true = refl
    and_false false = refl

tests : ℕ → List Bool
tests room = map (λ p. ltb room (length p)) data_places

shifted : (w d k : ℕ) → d ≤ w → ltb w (d + k) ≡ ltb (w - d) k
shifted w d k h = both_ways (ltb w (d + k)) (ltb (w - d) k) (λ e. lt-ltb (w - d) k (let l = ltb-true w (d + k) e in omega arith)) (λ e. lt-ltb w (d + k) (let l = ltb-true (w - d) k e in omega arith))

tests_are : (w d : ℕ) → d ≤ w → map (λ p. ltb w (d + length p)) data_places ≡ tests (w - d)
unfolding tests
tests_are w d h = go data_places
  where
    go : (ps : List KeyBits) → map (λ p. ltb w (d + length p)) ps ≡ map (λ p. ltb (w - d) (length p)) ps
    go [] = refl
    go (p ∷ ps) = λ i. shifted w d (length p) h i ∷ go ps i

deep_is : (w d x : ℕ) → d ≤ w → is_too_deep w d x ≡ (any_both (tests (w - d)) (bits_of 31 x) || leb (2 ^ 31) x)
unfolding is_too_deep
deep_is w d x h =
    ap (λ b. b || (list_any (λ p. ltb w (d + length p)) (marked data_places (bits_of 31 x)) || leb (2 ^ 31) x)) (le-ltb w d h)
    ∙ ap (λ r. r || leb (2 ^ 31) x) (any_marked (λ p. ltb w (d + length p)) data_places (bits_of 31 x) ∙ ap (λ ts. any_both ts (bits_of 31 x)) (tests_are w d h))

-- the first data bits that are too many
abbrev pub limit : ℕ → ℕ
limit zero = 2
limit (suc zero) = 8
limit (suc (suc zero)) = 128
limit (suc (suc (suc zero))) = 32768
limit (suc (suc (suc (suc n)))) = 2147483648

all_short : (room : ℕ) (ps : List KeyBits) (bs : List Bool) → list_all (λ p. ltb (length p) 5) ps ≡ true → 4 ≤ room → any_both (map (λ p. ltb room (length p)) ps) bs ≡ false
all_short room [] bs h l = refl
all_short room (p ∷ ps) [] h l = refl
all_short room (p ∷ ps) (b ∷ bs) h l =
    let parts = both_true (ltb (length p) 5) _ h in
    let s = ltb-true (length p) 5 parts.0 in
    (λ i. (b && le-ltb room (length p) (omega arith) i) || all_short room ps bs parts.1 l i) ∙ none b
  where
    none : (b : Bool) → ((b && false) || false) ≡ false
    none true = refl
    none false = refl

by_room : (room x : ℕ) → (any_both (tests room) (bits_of 31 x) || leb (2 ^ 31) x) ≡ leb (limit room) x
unfolding tests data_places all_true
by_room zero x = any_from (tests 0) x refl
by_room (suc zero) x = any_from (tests 1) x refl
by_room (suc (suc zero)) x = any_from (tests 2) x refl
by_room (suc (suc (suc zero))) x = any_from (tests 3) x refl
by_room (suc (suc (suc (suc n)))) x = ap (λ r. r || leb (2 ^ 31) x) (all_short (suc (suc (suc (suc n)))) data_places (bits_of 31 x) refl (omega arith))

pub deep_limit : (w d x : ℕ) → d ≤ w → is_too_deep w d x ≡ leb (limit (w - d)) x
deep_limit w d x h = deep_is w d x h ∙ by_room (w - d) x

pub deep_above : (w d x : ℕ) → w < d → is_too_deep w d x ≡ true
unfolding is_too_deep
deep_above w d x h = ap (λ b. b || (list_any (λ p. ltb w (d + length p)) (marked data_places (bits_of 31 x)) || leb (2 ^ 31) x)) (lt-ltb w d h)

pub limit_large : (n : ℕ) → 4 ≤ n → limit n ≡ 2147483648
limit_large zero h = absurd (omega arith)
limit_large (suc zero) h = absurd (omega arith)
limit_large (suc (suc zero)) h = absurd (omega arith)
limit_large (suc (suc (suc zero))) h = absurd (omega arith)
limit_large (suc (suc (suc (suc n)))) h = refl
