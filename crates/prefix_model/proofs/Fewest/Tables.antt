-- The theorems on the least table.
use Rattle.std.proofs.Common.{Option, ◌≡◌, ℕ, suc, ◌+◌, ◌≤◌, Bool, true, false, cond, List, [], ◌∷◌, length, refl, sym, ap, ◌∙◌, arith, None}
use Rattle.std.specs.Prelude.{is_some}
use Rattle.std.specs.declared.cmp.Ordering.{Ordering}
use Rattle.std.specs.Cmp.{IsTotalOrder}
use Rattle.std.specs.FinMap as map
use Rattle.std.specs.FinMap.{IsAntisymmetric}
use Rattle.prefix_model.specs.Keys.{KeyBits, key_cmp}
use Rattle.prefix_model.specs.Tables.{KeyMap, Values, answer, SameAnswers}
use Rattle.prefix_model.specs.Candidates.{candidates}
use Rattle.prefix_model.specs.LeastTable.{placed, least_table}
use Rattle.prefix_model.specs.LeastLaws.{KeepsAnswers, HasFewest, IsCanonical, KeepsWidth, IsNoLarger, IsStable, ServesWithFewest, ServesBelowEach}
use Rattle.prefix_model.proofs.Order.{key_total}
use Rattle.prefix_model.proofs.Entries.{held}
use Rattle.prefix_model.proofs.Fewest.Serving.{Serves, hole_unserved, placed_serves, same_values}
use Rattle.prefix_model.proofs.Fewest.Count.{credit_offers, credit-none, placed_count, bound}
use Rattle.prefix_model.proofs.Fewest.Alike.{placed_alike, placed_short}

no_more : (b : Bool) (a n : ℕ) → a ≤ n → cond b a (a + 1) ≤ suc n
no_more true a n h = omega arith
no_more false a n h = omega arith

module _ {V : Type 0} where
  -- a table's entries hold what it does
  held-entries : (m : KeyMap V) (q : KeyBits) → held (map.entries m) q ≡ map.get m q
  held-entries m q = sym (map.get-entries m q)

  -- a table of entries holds what they do
  pub get-from_entries : (es : List (KeyBits × V)) (q : KeyBits) → map.get (map.from_entries {R = key_cmp} es) q ≡ held es q
  get-from_entries es q = map.get-from_entries key_total es q

  len-from_entries : (es : List (KeyBits × V)) → map.len (map.from_entries {R = key_cmp} es) ≤ length es
  len-from_entries [] = omega (arith, map.len-empty key_cmp V)
  len-from_entries (e ∷ es) =
      rw (map.len-insert key_total (map.from_entries {R = key_cmp} es) e.0 e.1) (no_more (map.contains_key (map.from_entries {R = key_cmp} es) e.0) _ _ (len-from_entries es))

module _ {V : Type 0} {cmp : V → V → Ordering} (o : IsTotalOrder cmp) (exact : IsAntisymmetric cmp) where
  -- the least table answers as the table
  pub keeps_answers : KeepsAnswers cmp
  keeps_answers w m k l =
      sym (placed_serves o exact w None (answer m) (λ _. refl) k l)
      ∙ sym (same_values (map.get (least_table cmp w m)) (held (placed cmp w (answer m) None)) (get-from_entries (placed cmp w (answer m) None)) None k)

  -- nothing with the same answers has fewer keys, of whatever length they are
  fewest_of_all : (w : ℕ) (m n : KeyMap V) → SameAnswers w m n → map.len (least_table cmp w m) ≤ map.len n
  fewest_of_all w m n same =
      let es = placed cmp w (answer m) None in
      let serves : Serves w None (held (map.entries n)) (answer m) = λ k l. same_values (held (map.entries n)) (map.get n) (held-entries n) None k ∙ sym (same k l) in
      omega (arith, len-from_entries es, placed_count o exact w None (answer m), bound o exact w None (answer m) (map.entries n) serves, credit-none cmp (candidates cmp w (answer m)), map.len-entries n)

  -- and has the fewest entries
  pub has_fewest : HasFewest cmp
  has_fewest w m n width same = fewest_of_all w m n (λ k l. keeps_answers w m k l ∙ same k l)

  -- tables with the same answers have one least table
  pub is_canonical : IsCanonical cmp
  is_canonical w m n same = ap map.from_entries (placed_alike cmp w (answer m) (answer n) None same)

  -- no key of it is longer than an address
  pub keeps_width : KeepsWidth cmp
  keeps_width w m q e = placed_short cmp w (answer m) None q (sym (ap is_some (get-from_entries (placed cmp w (answer m) None) q)) ∙ e)

  -- it has no more entries than the table
  pub is_no_larger : IsNoLarger cmp
  is_no_larger w m = fewest_of_all w m m (λ k l. refl)

  -- and is its own least table
  pub is_stable : IsStable cmp
  is_stable w m = is_canonical w (least_table cmp w m) m (λ k l. sym (keeps_answers w m k l))

  serves_with_fewest : (n : ℕ) (f : Values V) (v : Option V) → ServesWithFewest cmp n f v
  serves_with_fewest n f v = record {
    not_under_value = λ e i es s. hole_unserved cmp n v (held es) f e i s;
    serves = placed_serves o exact n v f;
    fewest = λ es s. omega (arith, placed_count o exact n v f, bound o exact n v f es s);
    at_candidate = λ l e t. let c = credit_offers cmp (candidates cmp n f) l v _ e t in omega (arith, c, placed_count o exact n v f, placed_count o exact n None f, credit-none cmp (candidates cmp n f));
    elsewhere = λ l e t. let c = credit_offers cmp (candidates cmp n f) l v _ e t in omega (arith, c, placed_count o exact n v f, placed_count o exact n None f, credit-none cmp (candidates cmp n f));
  }

  -- the step by which it has the fewest
  pub serves_below_each : ServesBelowEach cmp
  serves_below_each = serves_with_fewest
