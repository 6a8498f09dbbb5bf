-- Keys and lists of keys: equality, members, filters and prefixes.
use Rattle.std.specs.Prelude.{is_some, ◌&&◌, ◌||◌, ◌≡◌, Bool, true, false}
use Rattle.std.specs.List.{list_any, flat_map, AllByRecursion}
use Rattle.std.specs.declared.cmp.Ordering.{Ordering}
use Rattle.std.specs.declared.cmp.Ordering.TheVariants.{Less, Equal, Greater}
use Rattle.std.specs.Ordering.{eq_by_cmp, is_eq, is_lt}
use Rattle.std.specs.Cmp.{IsTotalOrder, tied_itself}
use Rattle.std.specs.FinMap as map_of
use Rattle.std.specs.FinMap.{IsAntisymmetric}
use Rattle.std.proofs.Common.{◌⊎◌, cond, not, T, List, [], ◌∷◌, ◌++◌, length, map, filter, refl, sym, ap, ◌∙◌, inl, inr}
use Rattle.prefix_model.specs.Keys.{KeyBits, key_cmp, same_key, stands_in, keys_of_length, prefixes}
use Rattle.prefix_model.specs.Tables.{KeyMap}
use Rattle.prefix_model.proofs.Order.{key_exact, key_total}

-- ---- tests

-- two tests hold together where both hold
pub both_true : (a b : Bool) → (a && b) ≡ true → (a ≡ true) × (b ≡ true)
both_true true b e = (refl, e)
both_true false b e = cc

pub not_false : (b : Bool) → not b ≡ false → b ≡ true
not_false true e = refl
not_false false e = cc

-- tests that imply each other agree
pub both_ways : (a b : Bool) → (a ≡ true → b ≡ true) → (b ≡ true → a ≡ true) → a ≡ b
both_ways true b there back = sym (there refl)
both_ways false true there back = back refl
both_ways false false there back = refl

-- one of two tests holds
pub or_cases : (a b : Bool) → (a || b) ≡ true → (a ≡ true) ⊎ (b ≡ true)
or_cases true b e = inl refl
or_cases false b e = inr e

-- laws of tests
pub or_true : (b : Bool) → (b || true) ≡ true
or_true true = refl
or_true false = refl

pub or_false : (a : Bool) → (a || false) ≡ a
or_false true = refl
or_false false = refl

pub or_assoc : (a b c : Bool) → (a || (b || c)) ≡ ((a || b) || c)
or_assoc true b c = refl
or_assoc false b c = refl

pub or_swap : (a b c : Bool) → (a || (b || c)) ≡ (b || (a || c))
or_swap true true c = refl
or_swap true false c = refl
or_swap false b c = refl

-- the same of tests that are facts
pub holds_both : (a b : Bool) → T a → T b → T (a && b)
holds_both true b p q = q
holds_both false b p q = p

pub holds_first : (a b : Bool) → T (a && b) → T a
holds_first true b p = tt
holds_first false b p = p

pub holds_second : (a b : Bool) → T (a && b) → T b
holds_second true b p = p
holds_second false b p = absurd p

-- what an order says, as a test and as an equation
pub lt_to_less : (r : Ordering) → T (is_lt r) → r ≡ Less
lt_to_less Less p = refl
lt_to_less Equal p = absurd p
lt_to_less Greater p = absurd p

-- and of ties
pub eq_to_equal : (r : Ordering) → is_eq r ≡ true → r ≡ Equal
eq_to_equal Less e = cc
eq_to_equal Equal e = refl
eq_to_equal Greater e = cc

-- ---- lists

-- tests that agree find alike
pub any_same : {A : Type 0} (f g : A → Bool) (xs : List A) → ((x : A) → f x ≡ g x) → list_any f xs ≡ list_any g xs
any_same f g [] h = refl
any_same f g (x ∷ xs) h = λ i. h x i || any_same f g xs h i

-- what is found in one list behind another
pub any_append : {A : Type 0} (test : A → Bool) (xs ys : List A) → list_any test (xs ++ ys) ≡ (list_any test xs || list_any test ys)
any_append test [] ys = refl
any_append test (x ∷ xs) ys = ap (λ b. test x || b) (any_append test xs ys) ∙ or_assoc (test x) _ _

-- what is found in a mapped list
pub any_map : {A B : Type 0} (test : B → Bool) (f : A → B) (xs : List A) → list_any test (map f xs) ≡ list_any (λ x. test (f x)) xs
any_map test f [] = refl
any_map test f (x ∷ xs) = ap (λ b. test (f x) || b) (any_map test f xs)

any_false : (ps : List KeyBits) → list_any (λ (p : KeyBits). false) ps ≡ false
any_false [] = refl
any_false (p ∷ ps) = any_false ps

-- what holds in both lists holds in one behind the other
pub all_append : {A : Type 0} (P : A → Type 0) (xs ys : List A) → AllByRecursion P xs → AllByRecursion P ys → AllByRecursion P (xs ++ ys)
all_append P [] ys h k = k
all_append P (x ∷ xs) ys h k = (h.0, all_append P xs ys h.1 k)

-- what holds of each image
pub all_map : {A B : Type 0} (P : B → Type 0) (f : A → B) (xs : List A) → ((x : A) → P (f x)) → AllByRecursion P (map f xs)
all_map P f [] h = tt
all_map P f (x ∷ xs) h = (h x, all_map P f xs h)

-- what holds in a list holds of what is left of it
pub all_filter : {A : Type 0} (P : A → Type 0) (p : A → Bool) (xs : List A) → AllByRecursion P xs → AllByRecursion P (filter p xs)
all_filter P p [] h = tt
all_filter P p (x ∷ xs) h = elim (p x) as (λ t. AllByRecursion P (cond t (x ∷ filter p xs) (filter p xs))) [ true ↦ (h.0, all_filter P p xs h.1) | false ↦ all_filter P p xs h.1 ]

-- two maps are one
pub map_map : {A B C : Type 0} (g : B → C) (f : A → B) (xs : List A) → map g (map f xs) ≡ map (λ x. g (f x)) xs
map_map g f [] = refl
map_map g f (x ∷ xs) = ap (λ r. g (f x) ∷ r) (map_map g f xs)

-- ---- keys

-- keys that test as one are equal
pub same_key-same : (k l : KeyBits) → same_key k l ≡ true → k ≡ l
same_key-same [] [] e = refl
same_key-same [] (b ∷ l) e = cc
same_key-same (a ∷ k) [] e = cc
same_key-same (true ∷ k) (true ∷ l) e = ap (λ r. true ∷ r) (same_key-same k l e)
same_key-same (true ∷ k) (false ∷ l) e = cc
same_key-same (false ∷ k) (true ∷ l) e = cc
same_key-same (false ∷ k) (false ∷ l) e = ap (λ r. false ∷ r) (same_key-same k l e)

-- and a key tests as itself
pub same_key-itself : (k : KeyBits) → same_key k k ≡ true
same_key-itself [] = refl
same_key-itself (true ∷ k) = same_key-itself k
same_key-itself (false ∷ k) = same_key-itself k

-- a total order in which only equal keys tie tests keys for equality
pub tests_same : (R : KeyBits → KeyBits → Ordering) → IsTotalOrder R → IsAntisymmetric R → (q p : KeyBits) → eq_by_cmp R q p ≡ same_key q p
tests_same R o exact q p = both_ways (eq_by_cmp R q p) (same_key q p)
    (λ e. ap (same_key q) (sym (exact q p (eq_to_equal _ e))) ∙ same_key-itself q)
    (λ e. ap (λ l. eq_by_cmp R q l) (sym (same_key-same q p e)) ∙ ap is_eq (tied_itself o q))

-- ---- lists of keys

-- a member of one list is one of it and another
pub in_left : (xs ys : List KeyBits) (q : KeyBits) → stands_in xs q ≡ true → stands_in (xs ++ ys) q ≡ true
in_left xs ys q h = any_append (same_key q) xs ys ∙ ap (λ b. b || stands_in ys q) h

-- and of the other
pub in_right : (xs ys : List KeyBits) (q : KeyBits) → stands_in ys q ≡ true → stands_in (xs ++ ys) q ≡ true
in_right xs ys q h = any_append (same_key q) xs ys ∙ ap (λ b. stands_in xs q || b) h ∙ or_true (stands_in xs q)

-- a member of two lists is one of either
pub in_either : (xs ys : List KeyBits) (q : KeyBits) → stands_in (xs ++ ys) q ≡ true → (stands_in xs q ≡ true) ⊎ (stands_in ys q ≡ true)
in_either xs ys q h = or_cases _ _ (sym (any_append (same_key q) xs ys) ∙ h)

-- what passes the test stays
pub filter_in : (p : KeyBits → Bool) (xs : List KeyBits) (q : KeyBits) → p q ≡ true → stands_in xs q ≡ true → stands_in (filter p xs) q ≡ true
filter_in p [] q e h = cc
filter_in p (x ∷ xs) q e h =
    elim (or_cases (same_key q x) (stands_in xs q) h) [
      | inl same ↦ ap (λ b. stands_in (cond b (x ∷ filter p xs) (filter p xs)) q) (ap p (sym (same_key-same q x same)) ∙ e) ∙ ap (λ b. b || stands_in (filter p xs) q) same
      | inr later ↦ let ih = filter_in p xs q e later in elim (p x) as (λ b. stands_in (cond b (x ∷ filter p xs) (filter p xs)) q ≡ true) [ true ↦ ap (λ b. same_key q x || b) ih ∙ or_true (same_key q x) | false ↦ ih ]
    ]

-- and what stays passes it
pub filter_out : (p : KeyBits → Bool) (xs : List KeyBits) (q : KeyBits) → stands_in (filter p xs) q ≡ true → (p q ≡ true) × (stands_in xs q ≡ true)
filter_out p [] q h = cc
filter_out p (x ∷ xs) q h =
    elim (p x) as (λ b. p x ≡ b → stands_in (cond b (x ∷ filter p xs) (filter p xs)) q ≡ true → (p q ≡ true) × ((same_key q x || stands_in xs q) ≡ true)) [
      | true ↦ λ e k. elim (or_cases (same_key q x) (stands_in (filter p xs) q) k) [
        | inl same ↦ (ap p (same_key-same q x same) ∙ e, ap (λ b. b || stands_in xs q) same)
        | inr later ↦ let ih = filter_out p xs q later in (ih.0, ap (λ b. same_key q x || b) ih.1 ∙ or_true (same_key q x))
      ]
      | false ↦ λ e k. let ih = filter_out p xs q k in (ih.0, ap (λ b. same_key q x || b) ih.1 ∙ or_true (same_key q x))
    ] refl h

-- what g gives for a member is a member
pub flat_map_in : (g : KeyBits → List KeyBits) (ks : List KeyBits) (k q : KeyBits) → stands_in ks k ≡ true → stands_in (g k) q ≡ true → stands_in (flat_map g ks) q ≡ true
flat_map_in g [] k q h e = cc
flat_map_in g (x ∷ ks) k q h e =
    elim (or_cases (same_key k x) (stands_in ks k) h) [
      | inl same ↦ in_left (g x) (flat_map g ks) q (ap (λ l. stands_in (g l) q) (sym (same_key-same k x same)) ∙ e)
      | inr later ↦ in_right (g x) (flat_map g ks) q (flat_map_in g ks k q later e)
    ]

-- and each comes from a member
pub flat_map_out : (g : KeyBits → List KeyBits) (ks : List KeyBits) (q : KeyBits) → stands_in (flat_map g ks) q ≡ true → (k : KeyBits) × (stands_in ks k ≡ true) × (stands_in (g k) q ≡ true)
flat_map_out g [] q h = absurd cc
flat_map_out g (x ∷ ks) q h =
    elim (in_either (g x) (flat_map g ks) q h) [
      | inl here ↦ (x, ap (λ b. b || stands_in ks x) (same_key-itself x), here)
      | inr later ↦ let ih = flat_map_out g ks q later in (ih.0, ap (λ b. same_key ih.0 x || b) ih.1 ∙ or_true (same_key ih.0 x), ih.2)
    ]

-- lists with the same members have the same members behind them
pub flat_map_same : (g : KeyBits → List KeyBits) (ks ls : List KeyBits) → ((q : KeyBits) → stands_in ks q ≡ stands_in ls q) → (q : KeyBits) → stands_in (flat_map g ks) q ≡ stands_in (flat_map g ls) q
flat_map_same g ks ls same q = both_ways _ _ (one ks ls same) (one ls ks (λ k. sym (same k)))
  where
    one : (ks ls : List KeyBits) → ((q : KeyBits) → stands_in ks q ≡ stands_in ls q) → stands_in (flat_map g ks) q ≡ true → stands_in (flat_map g ls) q ≡ true
    one ks ls same h = let k = flat_map_out g ks q h in flat_map_in g ls k.0 q (sym (same k.0) ∙ k.1) k.2

-- a key stands among the keys of its length
pub among : (k : KeyBits) → stands_in (keys_of_length (length k)) k ≡ true
among [] = refl
among (false ∷ k) = half k (keys_of_length (length k)) (among k)
  where
    half : (k : KeyBits) (ks : List KeyBits) → stands_in ks k ≡ true → stands_in (map (λ l. false ∷ l) ks ++ map (λ l. true ∷ l) ks) (false ∷ k) ≡ true
    half k ks h =
        any_append (same_key (false ∷ k)) (map (λ l. false ∷ l) ks) (map (λ l. true ∷ l) ks)
        ∙ ap (λ c. c || stands_in (map (λ l. true ∷ l) ks) (false ∷ k)) (any_map (same_key (false ∷ k)) (λ l. false ∷ l) ks ∙ h)
among (true ∷ k) = half k (keys_of_length (length k)) (among k)
  where
    half : (k : KeyBits) (ks : List KeyBits) → stands_in ks k ≡ true → stands_in (map (λ l. false ∷ l) ks ++ map (λ l. true ∷ l) ks) (true ∷ k) ≡ true
    half k ks h =
        any_append (same_key (true ∷ k)) (map (λ l. false ∷ l) ks) (map (λ l. true ∷ l) ks)
        ∙ ap (λ c. stands_in (map (λ l. false ∷ l) ks) (true ∷ k) || c) (any_map (same_key (true ∷ k)) (λ l. true ∷ l) ks ∙ h)
        ∙ or_true (stands_in (map (λ l. false ∷ l) ks) (true ∷ k))

-- a front of a key is one of its prefixes
pub prefixes_in : (q r : KeyBits) → stands_in (prefixes (q ++ r)) q ≡ true
prefixes_in [] [] = refl
prefixes_in [] (b ∷ r) = refl
prefixes_in (false ∷ q) r = any_map (same_key (false ∷ q)) (λ p. false ∷ p) (prefixes (q ++ r)) ∙ prefixes_in q r
prefixes_in (true ∷ q) r = any_map (same_key (true ∷ q)) (λ p. true ∷ p) (prefixes (q ++ r)) ∙ prefixes_in q r

-- and each prefix is a front
pub prefixes_out : (k q : KeyBits) → stands_in (prefixes k) q ≡ true → (r : KeyBits) × (k ≡ q ++ r)
prefixes_out k [] h = (k, refl)
prefixes_out [] (a ∷ q) h = absurd cc
prefixes_out (false ∷ k) (false ∷ q) h = let ih = prefixes_out k q (sym (any_map (same_key (false ∷ q)) (λ p. false ∷ p) (prefixes k)) ∙ h) in (ih.0, ap (λ l. false ∷ l) ih.1)
prefixes_out (true ∷ k) (true ∷ q) h = let ih = prefixes_out k q (sym (any_map (same_key (true ∷ q)) (λ p. true ∷ p) (prefixes k)) ∙ h) in (ih.0, ap (λ l. true ∷ l) ih.1)
prefixes_out (false ∷ k) (true ∷ q) h = let e = sym h ∙ any_map (same_key (true ∷ q)) (λ p. false ∷ p) (prefixes k) ∙ any_false (prefixes k) in absurd cc
prefixes_out (true ∷ k) (false ∷ q) h = let e = sym h ∙ any_map (same_key (false ∷ q)) (λ p. true ∷ p) (prefixes k) ∙ any_false (prefixes k) in absurd cc

-- the keys of a table are those at which it holds something
pub stands_in-keys : {V : Type 0} (m : KeyMap V) (q : KeyBits) → stands_in (map_of.keys m) q ≡ is_some (map_of.get m q)
stands_in-keys m q = sym (map_of.contains_key-keys m q ∙ any_same _ _ (map_of.keys m) (λ p. tests_same key_cmp key_total key_exact q p))

-- ---- the tests of walks

pub and_false : (a : Bool) → (a && false) ≡ false
and_false true = refl
and_false false = refl

pub and_true : (a : Bool) → (a && true) ≡ a
and_true true = refl
and_true false = refl
