-- Lists of keys in order are known by their members.
use Rattle.std.proofs.Common.{◌≡◌, ℕ, zero, suc, ◌<◌, Bool, true, false, cond, eqb, T, List, [], ◌∷◌, ◌++◌, length, map, filter, refl, sym, ap, ◌∙◌, subst, arith, Option, Some, None}
use Rattle.std.specs.Prelude.{is_some, ◌||◌}
use Rattle.std.specs.List.{list_any, AllByRecursion}
use Rattle.std.specs.declared.cmp.Ordering.{Ordering}
use Rattle.std.specs.declared.cmp.Ordering.TheVariants.{Less, Equal, Greater}
use Rattle.std.specs.Ordering.{eq_by_cmp, is_lt, nat_cmp, ordering_then, match_ordering}
use Rattle.std.specs.FinMap.{find, put, is_sorted}
use Rattle.std.specs.FinMap.Entries.{by_order}
use Rattle.std.specs.FinMap.Entries.{below_all, is_some-find, is_sorted-put, find-put, same_entries}
use Rattle.std.proofs.lemmas.Bool.{lt-ltb, le-ltb, eq-eqb}
use Rattle.prefix_model.specs.Keys.{KeyBits, key_cmp, shorter_first, stands_in, keys_of_length}
use Rattle.prefix_model.specs.Positions.{with_key, in_order}
use Rattle.prefix_model.proofs.KeyLemmas.{holds_both, all_append, all_filter, tests_same, any_same}
use Rattle.prefix_model.proofs.Order.{shorter_total, shorter_exact}

-- ---- lists in order

-- the entries of a set of keys
abbrev pub marks : List KeyBits → List (KeyBits × Unit {0})
marks ks = map (λ k. (k, tt)) ks

-- by length and then in key order, without repeats
abbrev pub IsOrdered : List KeyBits → Type 0
IsOrdered ks = T (is_sorted shorter_first (marks ks))

keys_of_marks : (ks : List KeyBits) → map (λ e. e.0) (marks ks) ≡ ks
keys_of_marks [] = refl
keys_of_marks (k ∷ ks) = ap (λ r. k ∷ r) (keys_of_marks ks)

-- a key is found where it stands
pub found : (ks : List KeyBits) (q : KeyBits) → is_some (find shorter_first q (marks ks)) ≡ stands_in ks q
found ks q = is_some-find shorter_first q (marks ks) ∙ ap (list_any (eq_by_cmp shorter_first q)) (keys_of_marks ks) ∙ any_same _ _ ks (λ p. tests_same shorter_first shorter_total shorter_exact q p)

-- lists in order with the same members are equal
pub same_keys : (xs ys : List KeyBits) → IsOrdered xs → IsOrdered ys → ((q : KeyBits) → stands_in xs q ≡ stands_in ys q) → xs ≡ ys
same_keys xs ys h k same =
    sym (keys_of_marks xs) ∙ ap (map (λ e. e.0)) (same_entries shorter_first shorter_total shorter_exact (marks xs) (marks ys) h k (λ q. unit_same _ _ (found xs q ∙ same q ∙ sym (found ys q)))) ∙ keys_of_marks ys
  where
    unit_same : (x y : Option (Unit {0})) → is_some x ≡ is_some y → x ≡ y
    unit_same None None e = refl
    unit_same None (Some u) e = cc
    unit_same (Some u) None e = cc
    unit_same (Some u) (Some v) e = refl

put_added : (k : KeyBits) (ks : List KeyBits) → marks (with_key k ks) ≡ put shorter_first k tt (marks ks)
put_added k [] = refl
put_added k (l ∷ ls) =
    elim (shorter_first k l) as (λ r. marks (match_ordering r (k ∷ l ∷ ls) (l ∷ ls) (l ∷ with_key k ls)) ≡ by_order r ((k, tt) ∷ (l, tt) ∷ marks ls) ((l, tt) ∷ marks ls) ((l, tt) ∷ put shorter_first k tt (marks ls))) [
      | Less ↦ refl
      | Equal ↦ refl
      | Greater ↦ ap (λ r. (l, tt) ∷ r) (put_added k ls)
    ]

-- `in_order` puts in order
pub ordered : (ks : List KeyBits) → IsOrdered (in_order ks)
ordered [] = tt
ordered (k ∷ ks) = subst (λ es. T (is_sorted shorter_first es)) (sym (put_added k (in_order ks))) (is_sorted-put shorter_first shorter_total k tt (marks (in_order ks)) (ordered ks))

-- and keeps the members
pub in_order_has : (ks : List KeyBits) (q : KeyBits) → stands_in (in_order ks) q ≡ stands_in ks q
in_order_has [] q = refl
in_order_has (k ∷ ks) q =
    sym (found (with_key k (in_order ks)) q)
    ∙ ap (λ es. is_some (find shorter_first q es)) (put_added k (in_order ks))
    ∙ ap is_some (find-put shorter_first shorter_total q k tt (marks (in_order ks)))
    ∙ some_cond (eq_by_cmp shorter_first q k) _
    ∙ (λ i. tests_same shorter_first shorter_total shorter_exact q k i || (found (in_order ks) q ∙ in_order_has ks q) i)
  where
    some_cond : (b : Bool) (o : Option (Unit {0})) → is_some (cond b (Some tt) o) ≡ (b || is_some o)
    some_cond true o = refl
    some_cond false o = refl

-- ---- rising lists

-- each stands before all that follow
abbrev pub Rising : (KeyBits → KeyBits → Ordering) → List KeyBits → Type 0
Rising R [] = Unit {0}
Rising R (k ∷ ks) = AllByRecursion (λ l. R k l ≡ Less) ks × Rising R ks

-- each of the first stands before each of the others
abbrev pub Before : (KeyBits → KeyBits → Ordering) → List KeyBits → List KeyBits → Type 0
Before R xs ys = AllByRecursion (λ x. AllByRecursion (λ y. R x y ≡ Less) ys) xs

-- two such lists, where each of the first stands before each of the second
pub rising_append : (R : KeyBits → KeyBits → Ordering) (xs ys : List KeyBits) → Rising R xs → Rising R ys → Before R xs ys → Rising R (xs ++ ys)
rising_append R [] ys h k b = k
rising_append R (x ∷ xs) ys h k b = (all_append (λ l. R x l ≡ Less) xs ys h.0 b.0, rising_append R xs ys h.1 k b.1)

-- what is left of such a list
pub rising_filter : (R : KeyBits → KeyBits → Ordering) (p : KeyBits → Bool) (xs : List KeyBits) → Rising R xs → Rising R (filter p xs)
rising_filter R p [] h = tt
rising_filter R p (x ∷ xs) h = elim (p x) as (λ b. Rising R (cond b (x ∷ filter p xs) (filter p xs))) [ true ↦ (all_filter (λ l. R x l ≡ Less) p xs h.0, rising_filter R p xs h.1) | false ↦ rising_filter R p xs h.1 ]

-- such a list is in order
pub is_ordered : (ks : List KeyBits) → Rising shorter_first ks → IsOrdered ks
is_ordered [] h = tt
is_ordered (k ∷ ks) h = holds_both _ _ (all_below k ks h.0) (is_ordered ks h.1)
  where
    all_below : (k : KeyBits) (ls : List KeyBits) → AllByRecursion (λ l. shorter_first k l ≡ Less) ls → T (below_all shorter_first k (marks ls))
    all_below k [] h = tt
    all_below k (l ∷ ls) h = holds_both _ _ (subst (λ r. T (is_lt r)) (sym h.0) tt) (all_below k ls h.1)

bit_below : (b : Bool) (k : KeyBits) (ls : List KeyBits) → AllByRecursion (λ l. key_cmp k l ≡ Less) ls → AllByRecursion (λ l. key_cmp (b ∷ k) l ≡ Less) (map (λ l. b ∷ l) ls)
bit_below b k [] h = tt
bit_below true k (l ∷ ls) h = (h.0, bit_below true k ls h.1)
bit_below false k (l ∷ ls) h = (h.0, bit_below false k ls h.1)

rising_bit : (b : Bool) (ks : List KeyBits) → Rising key_cmp ks → Rising key_cmp (map (λ k. b ∷ k) ks)
rising_bit b [] h = tt
rising_bit b (k ∷ ks) h = (bit_below b k ks h.0, rising_bit b ks h.1)

before_bits : (ks ls : List KeyBits) → Before key_cmp (map (λ k. false ∷ k) ks) (map (λ k. true ∷ k) ls)
before_bits [] ls = tt
before_bits (k ∷ ks) ls = (row ls, before_bits ks ls)
  where
    row : (ls : List KeyBits) → AllByRecursion (λ l. key_cmp (false ∷ k) l ≡ Less) (map (λ l. true ∷ l) ls)
    row [] = tt
    row (l ∷ ls) = (refl, row ls)

rising_keys : (n : ℕ) → Rising key_cmp (keys_of_length n)
rising_keys zero = (tt, tt)
rising_keys (suc n) = rising_append key_cmp _ _ (rising_bit false (keys_of_length n) (rising_keys n)) (rising_bit true (keys_of_length n) (rising_keys n)) (before_bits (keys_of_length n) (keys_of_length n))

-- all have this length
abbrev pub OfLength : ℕ → List KeyBits → Type 0
OfLength n ks = AllByRecursion (λ k. length k ≡ n) ks

lengths_bit : (n : ℕ) (b : Bool) (ks : List KeyBits) → OfLength n ks → OfLength (suc n) (map (λ k. b ∷ k) ks)
lengths_bit n b [] h = tt
lengths_bit n b (k ∷ ks) h = (ap suc h.0, lengths_bit n b ks h.1)

-- the keys of n bits have n bits
pub lengths_keys : (n : ℕ) → OfLength n (keys_of_length n)
lengths_keys zero = (refl, tt)
lengths_keys (suc n) = all_append (λ k. length k ≡ suc n) _ _ (lengths_bit n false (keys_of_length n) (lengths_keys n)) (lengths_bit n true (keys_of_length n) (lengths_keys n))

nat_same : (a b : ℕ) → a ≡ b → nat_cmp a b ≡ Equal
nat_same a b e = λ i. cond (le-ltb a b (omega arith) i) Less (cond (eq-eqb a b e i) Equal Greater)

nat_less : (a b : ℕ) → a < b → nat_cmp a b ≡ Less
nat_less a b l = ap (λ c. cond c Less (cond (eqb a b) Equal Greater)) (lt-ltb a b l)

of_one_length : (n : ℕ) (ks : List KeyBits) → OfLength n ks → Rising key_cmp ks → Rising shorter_first ks
of_one_length n [] h r = tt
of_one_length n (k ∷ ks) h r = (row ks h.1 r.0, of_one_length n ks h.1 r.1)
  where
    row : (ls : List KeyBits) → OfLength n ls → AllByRecursion (λ l. key_cmp k l ≡ Less) ls → AllByRecursion (λ l. shorter_first k l ≡ Less) ls
    row [] h r = tt
    row (l ∷ ls) g r = ((λ i. ordering_then (nat_same (length k) (length l) (h.0 ∙ sym g.0) i) (key_cmp k l)) ∙ r.0, row ls g.1 r.1)

-- and rise
pub rising_length : (n : ℕ) → Rising shorter_first (keys_of_length n)
rising_length n = of_one_length n (keys_of_length n) (lengths_keys n) (rising_keys n)

-- shorter keys stand before longer ones
pub shorter_before : (n : ℕ) (xs ys : List KeyBits) → AllByRecursion (λ x. length x < n) xs → OfLength n ys → Before shorter_first xs ys
shorter_before n [] ys h k = tt
shorter_before n (x ∷ xs) ys h k = (row ys k, shorter_before n xs ys h.1 k)
  where
    row : (ys : List KeyBits) → OfLength n ys → AllByRecursion (λ y. shorter_first x y ≡ Less) ys
    row [] k = tt
    row (y ∷ ys) k = (ap (λ r. ordering_then r (key_cmp x y)) (nat_less (length x) (length y) (subst (λ l. length x < l) (sym k.0) h.0)), row ys k.1)
