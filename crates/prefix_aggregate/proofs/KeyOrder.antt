-- Lists of keys in key order are known by their members.
use Rattle.std.proofs.Common.{◌≡◌, ℕ, Bool, true, false, cond, T, List, [], ◌∷◌, length, map, filter, refl, sym, ap, ◌∙◌, subst, Option, Some, None}
use Rattle.std.specs.Prelude.{is_some, ◌||◌, nat_le}
use Rattle.std.specs.List.{list_any, AllByRecursion}
use Rattle.std.specs.declared.cmp.Ordering.TheVariants.{Less, Equal, Greater}
use Rattle.std.specs.Ordering.{eq_by_cmp, is_lt, match_ordering}
use Rattle.std.specs.FinMap as fin
use Rattle.std.specs.FinMap.{find, put, is_sorted}
use Rattle.std.specs.FinMap.Entries.{by_order}
use Rattle.std.specs.FinMap.Entries.{below_all, is_some-find, is_sorted-put, find-put, same_entries}
use Rattle.prefix_model.specs.Keys.{KeyBits, key_cmp, shorter_first, stands_in}
use Rattle.prefix_model.specs.Positions.{PositionSet}
use Rattle.prefix_model.proofs.KeyLemmas.{holds_both, holds_first, holds_second, lt_to_less, tests_same, any_same, filter_in, filter_out}
use Rattle.prefix_model.proofs.Order.{key_total, key_exact, shorter_total, shorter_exact}
use Rattle.prefix_model.proofs.Archive.Ordered.{Rising, rising_filter}
use Rattle.prefix_aggregate.specs.ChangeSets.{in_place, in_key_order, node_positions}

abbrev pub marks : List KeyBits → List (KeyBits × Unit {0})
marks ks = map (λ k. (k, tt)) ks

abbrev pub IsOrdered : List KeyBits → Type 0
IsOrdered ks = T (is_sorted key_cmp (marks ks))

keys_of_marks : (ks : List KeyBits) → map (λ e. e.0) (marks ks) ≡ ks
keys_of_marks [] = refl
keys_of_marks (k ∷ ks) = ap (λ r. k ∷ r) (keys_of_marks ks)

found : (ks : List KeyBits) (q : KeyBits) → is_some (find key_cmp q (marks ks)) ≡ stands_in ks q
found ks q = is_some-find key_cmp q (marks ks) ∙ ap (list_any (eq_by_cmp key_cmp q)) (keys_of_marks ks) ∙ any_same _ _ ks (λ p. tests_same key_cmp key_total key_exact q p)

pub same_keys : (xs ys : List KeyBits) → IsOrdered xs → IsOrdered ys → ((q : KeyBits) → stands_in xs q ≡ stands_in ys q) → xs ≡ ys
same_keys xs ys h k same =
    sym (keys_of_marks xs) ∙ ap (map (λ e. e.0)) (same_entries key_cmp key_total key_exact (marks xs) (marks ys) h k (λ q. unit_same _ _ (found xs q ∙ same q ∙ sym (found ys q)))) ∙ keys_of_marks ys
  where
    unit_same : (x y : Option (Unit {0})) → is_some x ≡ is_some y → x ≡ y
    unit_same None None e = refl
    unit_same None (Some u) e = cc
    unit_same (Some u) None e = cc
    unit_same (Some u) (Some v) e = refl

put_added : (k : KeyBits) (ks : List KeyBits) → marks (in_place k ks) ≡ put key_cmp k tt (marks ks)
put_added k [] = refl
put_added k (l ∷ ls) =
    elim (key_cmp k l) as (λ r. marks (match_ordering r (k ∷ l ∷ ls) (l ∷ ls) (l ∷ in_place k ls)) ≡ by_order r ((k, tt) ∷ (l, tt) ∷ marks ls) ((l, tt) ∷ marks ls) ((l, tt) ∷ put key_cmp k tt (marks ls))) [
      | Less ↦ refl
      | Equal ↦ refl
      | Greater ↦ ap (λ r. (l, tt) ∷ r) (put_added k ls)
    ]

ordered : (ks : List KeyBits) → IsOrdered (in_key_order ks)
ordered [] = tt
ordered (k ∷ ks) = subst (λ es. T (is_sorted key_cmp es)) (sym (put_added k (in_key_order ks))) (is_sorted-put key_cmp key_total k tt (marks (in_key_order ks)) (ordered ks))

in_order_has : (ks : List KeyBits) (q : KeyBits) → stands_in (in_key_order ks) q ≡ stands_in ks q
in_order_has [] q = refl
in_order_has (k ∷ ks) q =
    sym (found (in_place k (in_key_order ks)) q)
    ∙ ap (λ es. is_some (find key_cmp q es)) (put_added k (in_key_order ks))
    ∙ ap is_some (find-put key_cmp key_total q k tt (marks (in_key_order ks)))
    ∙ some_cond (eq_by_cmp key_cmp q k) _
    ∙ (λ i. tests_same key_cmp key_total key_exact q k i || (found (in_key_order ks) q ∙ in_order_has ks q) i)
  where
    some_cond : (b : Bool) (o : Option (Unit {0})) → is_some (cond b (Some tt) o) ≡ (b || is_some o)
    some_cond true o = refl
    some_cond false o = refl

-- a rising list is in order
pub is_ordered : (ks : List KeyBits) → Rising key_cmp ks → IsOrdered ks
is_ordered [] h = tt
is_ordered (k ∷ ks) h = holds_both _ _ (all_below k ks h.0) (is_ordered ks h.1)
  where
    all_below : (k : KeyBits) (ls : List KeyBits) → AllByRecursion (λ l. key_cmp k l ≡ Less) ls → T (below_all key_cmp k (marks ls))
    all_below k [] h = tt
    all_below k (l ∷ ls) h = holds_both _ _ (subst (λ r. T (is_lt r)) (sym h.0) tt) (all_below k ls h.1)

-- what is left of a list in order
filter_ordered : (p : KeyBits → Bool) (ks : List KeyBits) → IsOrdered ks → IsOrdered (filter p ks)
filter_ordered p ks h = is_ordered (filter p ks) (rising_filter key_cmp p ks (rising ks h))
  where
    all_less : (k : KeyBits) (ls : List KeyBits) → T (below_all key_cmp k (marks ls)) → AllByRecursion (λ l. key_cmp k l ≡ Less) ls
    all_less k [] h = tt
    all_less k (l ∷ ls) h = (lt_to_less (key_cmp k l) (holds_first _ _ h), all_less k ls (holds_second _ _ h))

    rising : (ks : List KeyBits) → IsOrdered ks → Rising key_cmp ks
    rising [] h = tt
    rising (k ∷ ks) h = (all_less k ks (holds_first _ _ h), rising ks (holds_second _ _ h))

kept_keys : (kept : PositionSet) (q : KeyBits) → stands_in (fin.keys kept) q ≡ fin.contains_key kept q
kept_keys kept q = sym (fin.contains_key-keys kept q ∙ any_same _ _ (fin.keys kept) (λ p. tests_same shorter_first shorter_total shorter_exact q p))

pub positions_ordered : (w : ℕ) (kept : PositionSet) → IsOrdered (node_positions w kept)
positions_ordered w kept = filter_ordered (λ p. nat_le (length p) w) (in_key_order (fin.keys kept)) (ordered (fin.keys kept))

pub positions_in : (w : ℕ) (kept : PositionSet) (q : KeyBits) → fin.contains_key kept q ≡ true → nat_le (length q) w ≡ true → stands_in (node_positions w kept) q ≡ true
positions_in w kept q h l = filter_in (λ p. nat_le (length p) w) (in_key_order (fin.keys kept)) q l (in_order_has (fin.keys kept) q ∙ kept_keys kept q ∙ h)

pub positions_out : (w : ℕ) (kept : PositionSet) (q : KeyBits) → stands_in (node_positions w kept) q ≡ true → (nat_le (length q) w ≡ true) × (fin.contains_key kept q ≡ true)
positions_out w kept q h =
    let parts = filter_out (λ p. nat_le (length p) w) (in_key_order (fin.keys kept)) q h in
    (parts.0, sym (kept_keys kept q) ∙ sym (in_order_has (fin.keys kept) q) ∙ parts.1)
