-- Words by their bits: masks, shifts, and words each of whose bits is one or another bit of a word.
--     Shows y z ss      bit b of z is set where one of the bits of y is set that stand at place b of ss
use Rattle.std.specs.Prelude.{◌≡◌, ℕ, zero, suc, ◌+◌, ◌-◌, ◌*◌, ◌/◌, ◌%◌, ◌^◌, ◌<◌, ◌≤◌, ◌==◌, ◌&&◌, ◌⊎◌, min, max, nat_lt, not, Bool, true, false, cond, List, [], ◌∷◌, ◌++◌, map, take, drop, replicate, bit_and, bit_or}
use Rattle.std.specs.Int.{bit_at}
use Rattle.std.specs.List.{range_with_len}
use Rattle.std.proofs.Common.{refl, sym, ap, ◌∙◌, arith, get_or, inl, inr, length-take}
use Rattle.std.proofs.lemmas.Nat.{shr-shr, shr_split, pow_pos}
use Rattle.std.proofs.lemmas.Bool.{cases_lt}
use Rattle.std.proofs.lemmas.Bool.Decides.{nat_tests}
use Rattle.std.proofs.lemmas.Nat.Bits.{bit_at-lt, bit_at-zero, bit_at_lowest, bit_at-suc, bit_at_and, bit_at_or, bit_at_above, bit_at_cat_low, bit_at_cat_high}
use Rattle.std.proofs.lemmas.List.FromFn.{get_or-map-range_with_len, length-map-range_with_len}
use Rattle.std.proofs.lemmas.List.{get_or-drop, get_or-take, get_or-replicate, get_or_append_left, get_or-append_right, get_or_past, length-replicate}
use borrow.Author.Tests.{ltb-true}
use Rattle.prefix_model.specs.Positions.{bits_of}
use Rattle.prefix_model.specs.Bits.{any_set, in_level}
use Rattle.prefix_model.proofs.KeyLemmas.{and_false, both_true}

-- ---- tests on numbers

pub less : (a b : ℕ) → a < b → nat_lt a b ≡ true
less a b h = grind (arith, nat_tests)

pub not_less : (a b : ℕ) → b ≤ a → nat_lt a b ≡ false
not_less a b h = grind (arith, nat_tests)

-- ---- shifts

pub bit_at_shr : (z k b : ℕ) → bit_at (z / 2 ^ k) b ≡ bit_at z (k + b)
bit_at_shr z k b = ap (λ n. n % 2) (shr-shr z k b)

pub bit_at_low : (n w b : ℕ) → b < w → bit_at (n % 2 ^ w) b ≡ bit_at n b
bit_at_low n w b l = sym (bit_at_cat_low (n / 2 ^ w) w (n % 2 ^ w) b l) ∙ ap (λ x. bit_at x b) (shr_split n w)

bare : (z k : ℕ) → z * 2 ^ k ≡ z * 2 ^ k + 0
bare z k = omega arith

pub bit_at_shl_low : (z k b : ℕ) → b < k → b < 32 → bit_at (z * 2 ^ k % 4294967296) b ≡ 0
bit_at_shl_low z k b l m = bit_at_low (z * 2 ^ k) 32 b m ∙ ap (λ n. bit_at n b) (bare z k) ∙ bit_at_cat_low z k 0 b l ∙ bit_at-zero b

pub bit_at_shl_high : (z k b : ℕ) → k ≤ b → b < 32 → bit_at (z * 2 ^ k % 4294967296) b ≡ bit_at z (b - k)
bit_at_shl_high z k b l m = bit_at_low (z * 2 ^ k) 32 b m ∙ ap (λ n. bit_at n b) (bare z k) ∙ bit_at_cat_high z k 0 b (pow_pos k) l

pub bit_at_shl_above : (z k b : ℕ) → 32 ≤ b → bit_at (z * 2 ^ k % 4294967296) b ≡ 0
bit_at_shl_above z k b l = bit_at_above (z * 2 ^ k % 4294967296) 32 b (omega arith) l

-- ---- one number below a limit, or past it

pub below_or_past : (b n : ℕ) → (b < n) ⊎ (n ≤ b)
below_or_past b n = cases_lt b n

pub max_zero : (x : ℕ) → max x 0 ≡ x
max_zero x = grind arith

min_one : (x : ℕ) → x < 2 → min x 1 ≡ x
min_one x l = grind arith

min_zero : (x : ℕ) → min x 0 ≡ 0
min_zero x = grind arith

-- a bit under a mask
pub under_mask : (x : ℕ) (t : Bool) → x < 2 → min x (cond t 1 0) ≡ cond t x 0
under_mask x true l = min_one x l
under_mask x false l = min_zero x

-- ---- words each of whose bits shows bits of another

unfoldable pub Shows : ℕ → ℕ → List (List ℕ) → Type 0
Shows y z ss = (b : ℕ) → bit_at z b ≡ any_set y (get_or ss b [])

-- each bit itself
abbrev pub itself : List (List ℕ)
itself = map (λ b. b ∷ []) (range_with_len 0 32)

pub past_listed : (f : ℕ → List ℕ) (b : ℕ) → 32 ≤ b → get_or (map f (range_with_len 0 32)) b [] ≡ []
past_listed f b l = let n = length-map-range_with_len f 0 32 in get_or_past (map f (range_with_len 0 32)) b [] (omega (arith, n, l))

pub shows_itself : (y : ℕ) → y < 2 ^ 32 → Shows y y itself
unfolding Shows
shows_itself y fits b = elim (below_or_past b 32) [
  | inl l ↦ sym (max_zero (bit_at y b)) ∙ ap (any_set y) (sym (get_or-map-range_with_len (λ b. b ∷ []) 0 32 b b [] l (omega arith)))
  | inr l ↦ bit_at_above y 32 b fits l ∙ ap (any_set y) (sym (past_listed (λ b. b ∷ []) b l))
]

abbrev pub masked : List (List ℕ) → List Bool → List (List ℕ)
masked [] ms = []
masked (s ∷ ss) [] = []
masked (s ∷ ss) (m ∷ ms) = cond m s [] ∷ masked ss ms

get_or_masked : (ss : List (List ℕ)) (ms : List Bool) (b : ℕ) → get_or (masked ss ms) b [] ≡ cond (get_or ms b false) (get_or ss b []) []
get_or_masked [] ms b = elim (get_or ms b false) as (λ t. get_or {A = List ℕ} [] b [] ≡ cond t (get_or [] b []) []) [ true ↦ refl | false ↦ get_or_past [] b [] (omega arith) ]
get_or_masked (s ∷ ss) [] b = get_or_past [] b [] (omega arith) ∙ ap (λ t. cond t (get_or (s ∷ ss) b []) []) (sym (get_or_past [] b false (omega arith)))
get_or_masked (s ∷ ss) (m ∷ ms) zero = refl
get_or_masked (s ∷ ss) (m ∷ ms) (suc b) = get_or_masked ss ms b

get_or_bits : (n x b : ℕ) → x < 2 ^ n → get_or (bits_of n x) b false ≡ (bit_at x b == 1)
get_or_bits zero x b l =
    let z : x ≡ 0 = omega (arith, l) in
    get_or_past [] b false (omega arith) ∙ ap (λ d. d == 1) (sym (ap (λ k. bit_at k b) z ∙ bit_at-zero b))
get_or_bits (suc n) x zero l = ap (λ d. d == 1) (sym (bit_at_lowest x))
get_or_bits (suc n) x (suc b) l = get_or_bits n (x / 2) b (omega (arith, l)) ∙ ap (λ d. d == 1) (sym (bit_at-suc x b))

min_bit : (x d : ℕ) → x < 2 → d < 2 → min x d ≡ cond (d == 1) x 0
min_bit x zero l m = min_zero x
min_bit x (suc zero) l m = min_one x l
min_bit x (suc (suc d)) l m = absurd (omega arith)

pub any_cond : (y : ℕ) (t : Bool) (s : List ℕ) → any_set y (cond t s []) ≡ cond t (any_set y s) 0
any_cond y true s = refl
any_cond y false s = refl

pub shows_and : (y z m : ℕ) (ss : List (List ℕ)) → m < 2 ^ 32 → Shows y z ss → Shows y (bit_and z m) (masked ss (bits_of 32 m))
unfolding Shows
shows_and y z m ss fits h b =
    bit_at_and z m b ∙ min_bit (bit_at z b) (bit_at m b) (bit_at-lt z b) (bit_at-lt m b)
    ∙ (λ j. cond (sym (get_or_bits 32 m b fits) j) (h b j) 0)
    ∙ sym (ap (any_set y) (get_or_masked ss (bits_of 32 m) b) ∙ any_cond y (get_or (bits_of 32 m) b false) (get_or ss b []))

abbrev pub either : List (List ℕ) → List (List ℕ) → List (List ℕ)
either [] ts = ts
either (s ∷ ss) [] = s ∷ ss
either (s ∷ ss) (t ∷ ts) = (s ++ t) ∷ either ss ts

any_append : (y : ℕ) (s t : List ℕ) → any_set y (s ++ t) ≡ max (any_set y s) (any_set y t)
any_append y [] t = grind arith
any_append y (b ∷ s) t = let r = any_append y s t in grind arith

append_none : (s : List ℕ) → s ++ [] ≡ s
append_none [] = refl
append_none (x ∷ s) = ap (λ r. x ∷ r) (append_none s)

get_or_either : (ss ts : List (List ℕ)) (b : ℕ) → get_or (either ss ts) b [] ≡ get_or ss b [] ++ get_or ts b []
get_or_either [] ts b = ap (λ s. s ++ get_or ts b []) (sym (get_or_past [] b [] (omega arith)))
get_or_either (s ∷ ss) [] b = sym (ap (λ t. get_or (s ∷ ss) b [] ++ t) (get_or_past [] b [] (omega arith)) ∙ append_none (get_or (s ∷ ss) b []))
get_or_either (s ∷ ss) (t ∷ ts) zero = refl
get_or_either (s ∷ ss) (t ∷ ts) (suc b) = get_or_either ss ts b

pub shows_or : (y z w : ℕ) (ss ts : List (List ℕ)) → Shows y z ss → Shows y w ts → Shows y (bit_or z w) (either ss ts)
unfolding Shows
shows_or y z w ss ts h k b =
    bit_at_or z w b ∙ (λ j. max (h b j) (k b j)) ∙ sym (any_append y (get_or ss b []) (get_or ts b []))
    ∙ ap (any_set y) (sym (get_or_either ss ts b))

pub shows_shr : (y z k : ℕ) (ss : List (List ℕ)) → Shows y z ss → Shows y (z / 2 ^ k) (drop k ss)
unfolding Shows
shows_shr y z k ss h b = bit_at_shr z k b ∙ h (k + b) ∙ ap (any_set y) (sym (get_or-drop k ss b []))

abbrev pub raised : ℕ → List (List ℕ) → List (List ℕ)
raised k ss = take 32 (replicate k [] ++ ss)

raised_low : (k b : ℕ) (ss : List (List ℕ)) → b < k → b < 32 → get_or (raised k ss) b [] ≡ []
raised_low k b ss l m =
    get_or-take 32 (replicate k [] ++ ss) b [] m ∙ get_or_append_left (replicate k []) ss [] b (let n = length-replicate {A = List ℕ} k [] in omega (arith, n, l))
    ∙ get_or-replicate k b [] [] l

raised_high : (k b : ℕ) (ss : List (List ℕ)) → k ≤ b → b < 32 → get_or (raised k ss) b [] ≡ get_or ss (b - k) []
raised_high k b ss l m = get_or-take 32 (replicate k [] ++ ss) b [] m ∙ get_or-append_right (replicate k []) ss k b [] (length-replicate k []) l

raised_past : (k b : ℕ) (ss : List (List ℕ)) → 32 ≤ b → get_or (raised k ss) b [] ≡ []
raised_past k b ss l = let n = length-take 32 (replicate k [] ++ ss) in get_or_past (raised k ss) b [] (omega (arith, n, l))

pub shows_shl : (y z k : ℕ) (ss : List (List ℕ)) → Shows y z ss → Shows y (z * 2 ^ k % 4294967296) (raised k ss)
unfolding Shows
shows_shl y z k ss h b = elim (below_or_past b 32) [
  | inl within ↦ elim (below_or_past b k) [
    | inl low ↦ bit_at_shl_low z k b low within ∙ ap (any_set y) (sym (raised_low k b ss low within))
    | inr high ↦ bit_at_shl_high z k b high within ∙ h (b - k) ∙ ap (any_set y) (sym (raised_high k b ss high within))
  ]
  | inr past ↦ bit_at_shl_above z k b past ∙ ap (any_set y) (sym (raised_past k b ss past))
]

-- what a word shows, where it is one bit or none
pub shown : (y z : ℕ) (ss : List (List ℕ)) (f : ℕ → List ℕ) → Shows y z ss → ss ≡ map f (range_with_len 0 32) → ((b : ℕ) → 32 ≤ b → f b ≡ []) → (b : ℕ) → bit_at z b ≡ any_set y (f b)
unfolding Shows
shown y z ss f h e past b = elim (below_or_past b 32) [
  | inl l ↦ h b ∙ ap (λ xs. any_set y (get_or xs b [])) e ∙ ap (any_set y) (get_or-map-range_with_len f 0 32 b b [] l (omega arith))
  | inr l ↦ h b ∙ ap (λ xs. any_set y (get_or xs b [])) e ∙ ap (any_set y) (past_listed f b l ∙ sym (past b l))
]

-- ---- one bit or none, by a test

one_or_none : (y x : ℕ) (t : Bool) → any_set y (cond t (x ∷ []) []) ≡ cond t (bit_at y x) 0
one_or_none y x true = max_zero (bit_at y x)
one_or_none y x false = refl

pub shown_one : (y z : ℕ) (ss : List (List ℕ)) (test : ℕ → Bool) (f : ℕ → ℕ) → Shows y z ss → ss ≡ map (λ b. cond (test b) (f b ∷ []) []) (range_with_len 0 32)
    → ((b : ℕ) → 32 ≤ b → test b ≡ false) → (b : ℕ) → bit_at z b ≡ cond (test b) (bit_at y (f b)) 0
shown_one y z ss test f h e past b =
    shown y z ss (λ n. cond (test n) (f n ∷ []) []) h e (λ n l. ap (λ t. cond t (f n ∷ []) []) (past n l)) b ∙ one_or_none y (f b) (test b)

one_of_bit : (d : ℕ) → d < 2 → d ≡ cond (d == 1) 1 0
one_of_bit zero l = refl
one_of_bit (suc zero) l = refl
one_of_bit (suc (suc d)) l = absurd (omega arith)

-- the bits of a constant
pub const_bits : (m : ℕ) (test : ℕ → Bool) → m < 2 ^ 32 → bits_of 32 m ≡ map test (range_with_len 0 32) → ((b : ℕ) → 32 ≤ b → test b ≡ false) → (b : ℕ) → bit_at m b ≡ cond (test b) 1 0
const_bits m test fits e past b = elim (below_or_past b 32) [
  | inl l ↦ one_of_bit (bit_at m b) (bit_at-lt m b) ∙ ap (λ t. cond t 1 0) (sym (get_or_bits 32 m b fits) ∙ ap (λ xs. get_or xs b false) e ∙ get_or-map-range_with_len test 0 32 b b false l (omega arith))
  | inr l ↦ bit_at_above m 32 b fits l ∙ ap (λ t. cond t 1 0) (sym (past b l))
]

-- ---- levels

pub in_level-true : (l b : ℕ) → 2 ^ l ≤ b + 1 → b + 1 < 2 ^ suc l → in_level l b ≡ true
in_level-true l b low high = λ j. not (not_less (b + 1) (2 ^ l) low j) && less (b + 1) (2 ^ suc l) high j

pub in_level-below : (l b : ℕ) → b + 1 < 2 ^ l → in_level l b ≡ false
in_level-below l b low = λ j. not (less (b + 1) (2 ^ l) low j) && nat_lt (b + 1) (2 ^ suc l)

pub in_level-above : (l b : ℕ) → 2 ^ suc l ≤ b + 1 → in_level l b ≡ false
in_level-above l b high = ap (λ t. not (nat_lt (b + 1) (2 ^ l)) && t) (not_less (b + 1) (2 ^ suc l) high) ∙ and_false _

not_true : (a : Bool) → not a ≡ true → a ≡ false
not_true true e = cc
not_true false e = refl

pub level_low : (l b : ℕ) → in_level l b ≡ true → 2 ^ l ≤ b + 1
level_low l b e = at_least (b + 1) (2 ^ l) (not_true _ (both_true _ _ e).0)
  where
    at_least : (a c : ℕ) → nat_lt a c ≡ false → c ≤ a
    at_least a c h = grind (arith, nat_tests)

pub level_high : (l b : ℕ) → in_level l b ≡ true → b + 1 < 2 ^ suc l
level_high l b e = ltb-true _ _ (both_true _ _ e).1
