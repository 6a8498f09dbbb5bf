-- Entries in key order.
use Rattle.std.proofs.Common.{◌≡◌, Bool, true, false, T, List, [], ◌∷◌, ◌++◌, ap, ◌∙◌, sym, Option, Some, None}
use Rattle.std.specs.FinMap as map
use Rattle.std.specs.FinMap.{is_sorted}
use Rattle.std.specs.FinMap.Entries.{below_all}
use Rattle.prefix_model.specs.Keys.{KeyBits, key_cmp}
use Rattle.prefix_model.specs.LeastTable.{entry, below, with_halves}
use Rattle.prefix_model.proofs.Order.{key_total, key_exact}
use Rattle.prefix_model.proofs.KeyLemmas.{holds_both, holds_first, holds_second}

module _ {V : Type 0} where
  nil_below : (b : Bool) (es : List (KeyBits × V)) → T (below_all key_cmp [] (below b es))
  nil_below b [] = tt
  nil_below b (e ∷ es) = nil_below b es

  false_below : (k : KeyBits) (es : List (KeyBits × V)) → T (below_all key_cmp (false ∷ k) (below true es))
  false_below k [] = tt
  false_below k (e ∷ es) = false_below k es

  below_same : (b : Bool) (k : KeyBits) (es : List (KeyBits × V)) → T (below_all key_cmp k es) → T (below_all key_cmp (b ∷ k) (below b es))
  below_same b k [] h = tt
  below_same true k (e ∷ es) h = holds_both _ _ (holds_first _ _ h) (below_same true k es (holds_second _ _ h))
  below_same false k (e ∷ es) h = holds_both _ _ (holds_first _ _ h) (below_same false k es (holds_second _ _ h))

  below_both : (k : KeyBits) (es fs : List (KeyBits × V)) → T (below_all key_cmp k es) → T (below_all key_cmp k fs) → T (below_all key_cmp k (es ++ fs))
  below_both k [] fs p q = q
  below_both k (e ∷ es) fs p q = holds_both _ _ (holds_first _ _ p) (below_both k es fs (holds_second _ _ p) q)

  sorted_below : (b : Bool) (es : List (KeyBits × V)) → T (is_sorted key_cmp es) → T (is_sorted key_cmp (below b es))
  sorted_below b [] h = tt
  sorted_below b (e ∷ es) h = holds_both _ _ (below_same b e.0 es (holds_first _ _ h)) (sorted_below b es (holds_second _ _ h))

  sorted_halves : (es fs : List (KeyBits × V)) → T (is_sorted key_cmp es) → T (is_sorted key_cmp fs) → T (is_sorted key_cmp (below false es ++ below true fs))
  sorted_halves [] fs p q = sorted_below true fs q
  sorted_halves (e ∷ es) fs p q =
      holds_both _ _ (below_both (false ∷ e.0) (below false es) (below true fs) (below_same false e.0 es (holds_first _ _ p)) (false_below e.0 fs)) (sorted_halves es fs (holds_second _ _ p) q)

  -- a key and its halves are in key order
  pub sorted_with_halves : (x : Option V) (es fs : List (KeyBits × V)) → T (is_sorted key_cmp es) → T (is_sorted key_cmp fs) → T (is_sorted key_cmp (with_halves x es fs))
  sorted_with_halves None es fs p q = sorted_halves es fs p q
  sorted_with_halves (Some x) es fs p q = holds_both _ _ (below_both [] (below false es) (below true fs) (nil_below false es) (nil_below true fs)) (sorted_halves es fs p q)

  -- and so is one entry
  pub sorted_entry : (x : Option V) → T (is_sorted key_cmp (entry x))
  sorted_entry None = tt
  sorted_entry (Some x) = tt

  -- the table of entries in key order lists them
  pub entries-from_entries : (es : List (KeyBits × V)) → T (is_sorted key_cmp es) → map.entries (map.from_entries {R = key_cmp} es) ≡ es
  entries-from_entries es h =
      ap map.entries (map.same_map key_total key_exact (map.from_entries es) (map.from_sorted es) (λ q. map.get-from_entries key_total es q ∙ sym (map.get-from_sorted key_cmp es q h)))
      ∙ map.entries-from_sorted key_cmp es h
