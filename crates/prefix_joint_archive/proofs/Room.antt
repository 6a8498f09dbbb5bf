-- How many positions a table has.
use Rattle.std.proofs.Common.{◌≡◌, ℕ, suc, inl, inr, ◌<◌, ◌+◌, ◌*◌, ◌/◌, ◌%◌, ◌≤◌, ◌==◌, Bool, true, false, cond, List, [], ◌∷◌, ◌++◌, length, map, refl, sym, ap, ◌∙◌, subst, arith}
use Rattle.std.specs.declared.cmp.Ordering.TheVariants.{Less, Equal, Greater}
use Rattle.std.specs.Ordering.{match_ordering, nat_cmp, ordering_then}
use Rattle.std.specs.Cmp.{nat_cmp_is}
use Rattle.std.specs.List.{AllByRecursion, filter, flat_map}
use Rattle.std.specs.List.Sorted.{IsStrictlySortedBy}
use Rattle.std.proofs.lemmas.Bool.{eqb-true, cases_lt}
use Rattle.std.specs.FinMap as of
use Rattle.std.proofs.Common.{◌||◌}
use Rattle.std.proofs.lemmas.List.{length-map}
use Rattle.prefix_model.proofs.KeyLemmas.{or_true, same_key-itself, stands_in-keys}
use Rattle.prefix_joint_archive.specs.Compacting.{CountsPositions}
use native.Mathlib.Nat.{suc-mul}
use Rattle.prefix_model.specs.Keys.{KeyBits, key_cmp, prefixes, same_key, shorter_first, stands_in}
use Rattle.prefix_model.specs.Positions.{with_key, in_order, has_node_length, positions_of_key, positions, positions_in}
use Rattle.prefix_model.proofs.Archive.Levels.{lists_positions}

longer : KeyBits → ℕ
longer [] = 0
longer (b ∷ k) = 1

-- how many keys of a list are not empty
bits_below : List KeyBits → ℕ
bits_below [] = 0
bits_below (k ∷ ks) = longer k + bits_below ks

below-with_key : (k : KeyBits) (ls : List KeyBits) → bits_below (with_key k ls) ≤ longer k + bits_below ls
unfolding bits_below
below-with_key k [] = omega arith
below-with_key k (l ∷ ls) =
    let ih = below-with_key k ls in
    elim (shorter_first k l) as (λ t. bits_below (match_ordering t (k ∷ (l ∷ ls)) (l ∷ ls) (l ∷ with_key k ls)) ≤ longer k + (longer l + bits_below ls)) [ Less ↦ omega arith | Equal ↦ omega arith | Greater ↦ omega arith ]

below-in_order : (ls : List KeyBits) → bits_below (in_order ls) ≤ bits_below ls
unfolding bits_below
below-in_order [] = omega arith
below-in_order (l ∷ ls) = let ih = below-in_order ls in omega (arith, below-with_key l (in_order ls))

below-append : (xs ys : List KeyBits) → bits_below (xs ++ ys) ≡ bits_below xs + bits_below ys
unfolding bits_below
below-append [] ys = omega arith
below-append (x ∷ xs) ys = let ih = below-append xs ys in omega arith

not_before : (p : KeyBits) → shorter_first p [] ≡ Less → ⊥
not_before [] h = cc
not_before (b ∷ p) h =
    let g : Greater ≡ nat_cmp (suc (length p)) 0 = nat_cmp_is (suc (length p)) 0 Greater (omega arith) in
    let k : Greater ≡ Less = ap (λ t. ordering_then t (key_cmp (b ∷ p) [])) g ∙ h in cc

-- behind the first of keys in order none is empty
none_empty : (p : KeyBits) (ps : List KeyBits) → AllByRecursion (λ q. shorter_first p q ≡ Less) ps → bits_below ps ≡ length ps
unfolding bits_below longer
none_empty p [] h = refl
none_empty [] ([] ∷ ps) (a, h) = absurd (not_before [] a)
none_empty (b ∷ p) ([] ∷ ps) (a, h) = absurd (not_before (b ∷ p) a)
none_empty p ((b ∷ q) ∷ ps) (a, h) = let ih = none_empty p ps h in omega arith

one_empty : (ps : List KeyBits) → IsStrictlySortedBy shorter_first ps → length ps ≤ 1 + bits_below ps
unfolding IsStrictlySortedBy bits_below
one_empty [] h = omega arith
one_empty (p ∷ ps) (a, h) = let e = none_empty p ps a in omega arith

tick : ℕ → ℕ
tick n = cond (n % 5 == 0) 1 0

tick_is : (n : ℕ) → tick n + (n + 4) / 5 ≡ n / 5 + 1
unfolding tick
tick_is n = go (n % 5 == 0) refl
  where
    go : (b : Bool) → (n % 5 == 0) ≡ b → cond b 1 0 + (n + 4) / 5 ≡ n / 5 + 1
    go true p = let e : n % 5 ≡ 0 = eqb-true (n % 5) 0 p in omega arith
    go false p =
        let some : 0 < n % 5 = elim (cases_lt 0 (n % 5)) [ inl l ↦ l | inr z ↦ absurd (let e : n % 5 ≡ 0 = omega arith in let k : true ≡ false = sym (ap (λ t. t == 0) e) ∙ p in cc) ] in
        omega arith

-- how many keys of a list have a length that, with d more bits, is a multiple of five
ticks : ℕ → List KeyBits → ℕ
ticks d [] = 0
ticks d (q ∷ qs) = tick (length q + d) + ticks d qs

ticks-behind : (d : ℕ) (b : Bool) (qs : List KeyBits) → ticks d (map (λ q. b ∷ q) qs) ≡ ticks (d + 1) qs
unfolding ticks
ticks-behind d b [] = refl
ticks-behind d b (q ∷ qs) = let e : suc (length q) + d ≡ length q + (d + 1) = omega arith in ap tick e ⊕ ticks-behind d b qs
  where
    infixl 20 ◌⊕◌
    ◌⊕◌ : {a b c d : ℕ} → a ≡ b → c ≡ d → a + c ≡ b + d
    e ⊕ f = λ i. e i + f i

ticks_are : (d : ℕ) (k : KeyBits) → ticks d (prefixes k) + (d + 4) / 5 ≡ (length k + d) / 5 + 1
unfolding ticks
ticks_are d [] = let z : 0 + d ≡ d = omega arith in let e : tick (0 + d) ≡ tick d = ap tick z in let t = tick_is d in omega arith
ticks_are d (b ∷ k) =
    let z : 0 + d ≡ d = omega arith in
    let e : tick (0 + d) ≡ tick d = ap tick z in
    let t = tick_is d in
    let m = ticks-behind d b (prefixes k) in
    let ih = ticks_are (d + 1) k in omega arith

one_more : (b : Bool) (q : KeyBits) (ks : List KeyBits) → bits_below ((b ∷ q) ∷ ks) ≡ 1 + bits_below ks
unfolding bits_below longer
one_more b q ks = refl

-- the keys of node length behind a bit
below-behind : (b : Bool) (qs : List KeyBits) → bits_below (filter has_node_length (map (λ q. b ∷ q) qs)) ≡ ticks 1 qs
unfolding bits_below ticks tick longer
below-behind b [] = refl
below-behind b (q ∷ qs) = go (below-behind b qs) (has_node_length (b ∷ q)) refl
  where
    one : suc (length q) ≡ length q + 1
    one = omega arith

    go : bits_below (filter has_node_length (map (λ x. b ∷ x) qs)) ≡ ticks 1 qs → (t : Bool) → has_node_length (b ∷ q) ≡ t → bits_below (cond t ((b ∷ q) ∷ filter has_node_length (map (λ x. b ∷ x) qs)) (filter has_node_length (map (λ x. b ∷ x) qs))) ≡ cond ((length q + 1) % 5 == 0) 1 0 + ticks 1 qs
    go ih true p =
        let e : ((length q + 1) % 5 == 0) ≡ true = ap (λ n. n % 5 == 0) (sym one) ∙ p in
        one_more b q (filter has_node_length (map (λ x. b ∷ x) qs)) ∙ (ap (λ n. 1 + n) ih ∙ ap (λ (t : Bool). cond t 1 0 + ticks 1 qs) (sym e))
    go ih false p =
        let e : ((length q + 1) % 5 == 0) ≡ false = ap (λ n. n % 5 == 0) (sym one) ∙ p in
        let z : ticks 1 qs ≡ 0 + ticks 1 qs = omega arith in
        ih ∙ (z ∙ ap (λ (t : Bool). cond t 1 0 + ticks 1 qs) (sym e))

few_of_key : (k : KeyBits) → bits_below (positions_of_key k) ≤ length k / 5
unfolding bits_below longer
few_of_key [] = omega arith
few_of_key (b ∷ k) = let e = below-behind b (prefixes k) in let t = ticks_are 1 k in omega arith

few_of_keys : (w : ℕ) (ks : List KeyBits) → AllByRecursion (λ k. length k ≤ w) ks → bits_below (flat_map positions_of_key ks) ≤ length ks * (w / 5)
unfolding bits_below
few_of_keys w [] h = omega arith
few_of_keys w (k ∷ ks) (a, h) =
    let ih = few_of_keys w ks h in
    let f = few_of_key k in
    let le : length k / 5 ≤ w / 5 = omega arith in
    let m : suc (length ks) * (w / 5) ≡ length ks * (w / 5) + w / 5 = suc-mul (length ks) (w / 5) in
    omega (arith, below-append (positions_of_key k) (flat_map positions_of_key ks), m)

-- one position for the root, and at most as many for each key as its width has multiples of five
pub positions_few : (w : ℕ) (ks : List KeyBits) → AllByRecursion (λ k. length k ≤ w) ks → length (positions ks) ≤ 1 + length ks * (w / 5)
unfolding bits_below longer
positions_few w ks h =
    let a = one_empty (positions ks) (lists_positions ks).ordered in
    let b = below-in_order ([] ∷ flat_map positions_of_key ks) in
    let c = few_of_keys w ks h in omega arith

short_of : (w : ℕ) (ks : List KeyBits) → ((q : KeyBits) → stands_in ks q ≡ true → length q ≤ w) → AllByRecursion (λ k. length k ≤ w) ks
short_of w [] f = tt
short_of w (k ∷ ks) f = (f k (ap (λ b. b || stands_in ks k) (same_key-itself k)), short_of w ks (λ q h. f q (ap (λ b. same_key q k || b) h ∙ or_true (same_key q k))))

pub counts_positions : (V : Type 0) → CountsPositions V
counts_positions V w m width =
    let h = positions_few w (of.keys m) (short_of w (of.keys m) (λ q h. width q (sym (stands_in-keys m q) ∙ h))) in
    let e : length (of.keys m) ≡ of.len m = length-map (of.entries m) (λ e. e.0) ∙ sym (of.len-entries m) in
    subst (λ n. length (positions_in m) ≤ 1 + n * (w / 5)) e h
