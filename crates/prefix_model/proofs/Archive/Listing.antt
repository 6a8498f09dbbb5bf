-- A trie's keys and values in order, and the table of them.
use Rattle.std.proofs.Common.{◌≡◌, ℕ, zero, suc, ◌+◌, true, false, T, List, [], ◌∷◌, length, sym, ap, ◌∙◌, arith}
use Rattle.std.specs.FinMap as map
use Rattle.std.specs.FinMap.{is_sorted}
use Rattle.prefix_model.specs.Keys.{KeyBits, key_cmp}
use Rattle.prefix_model.specs.Tables.{KeyMap}
use Rattle.prefix_model.specs.LeastTable.{entry, with_halves}
use Rattle.prefix_model.proofs.Order.{key_exact, key_total}
use Rattle.prefix_model.proofs.SortedEntries.{sorted_entry, sorted_with_halves}
use Rattle.prefix_model.proofs.Entries.{held, held-with_halves_nil, held-with_halves_false, held-with_halves_true, held-entry, held-entry_cons, length-with_halves, length-entry}
use Rattle.prefix_model.proofs.Archive.Places.{Trie}
use Rattle.prefix_model.proofs.Archive.Count.{mark, count, Narrow}

module _ {V : Type 0} where
  -- the keys of at most n bits, in key order
  abbrev pub listing : ℕ → Trie V → List (KeyBits × V)
  listing zero f = entry (f [])
  listing (suc n) f = with_halves (f []) (listing n (λ k. f (false ∷ k))) (listing n (λ k. f (true ∷ k)))

  sorted_listing : (n : ℕ) (f : Trie V) → T (is_sorted key_cmp (listing n f))
  sorted_listing zero f = sorted_entry (f [])
  sorted_listing (suc n) f = sorted_with_halves (f []) _ _ (sorted_listing n (λ k. f (false ∷ k))) (sorted_listing n (λ k. f (true ∷ k)))

  held-listing : (n : ℕ) (f : Trie V) → Narrow n f → (q : KeyBits) → held (listing n f) q ≡ f q
  held-listing zero f h [] = held-entry (f [])
  held-listing zero f h (b ∷ q) = held-entry_cons (f []) b q ∙ sym (h (b ∷ q) (omega arith))
  held-listing (suc n) f h [] = held-with_halves_nil (f []) (listing n (λ k. f (false ∷ k))) (listing n (λ k. f (true ∷ k)))
  held-listing (suc n) f h (false ∷ q) = held-with_halves_false (f []) (listing n (λ k. f (false ∷ k))) (listing n (λ k. f (true ∷ k))) q ∙ held-listing n (λ k. f (false ∷ k)) (λ k l. h (false ∷ k) (omega arith)) q
  held-listing (suc n) f h (true ∷ q) = held-with_halves_true (f []) (listing n (λ k. f (false ∷ k))) (listing n (λ k. f (true ∷ k))) q ∙ held-listing n (λ k. f (true ∷ k)) (λ k l. h (true ∷ k) (omega arith)) q

  length-listing : (n : ℕ) (f : Trie V) → length (listing n f) ≡ count n f
  length-listing zero f = length-entry (f [])
  length-listing (suc n) f =
      length-with_halves (f []) (listing n (λ k. f (false ∷ k))) (listing n (λ k. f (true ∷ k)))
      ∙ (λ i. mark (f []) + (length-listing n (λ k. f (false ∷ k)) i + length-listing n (λ k. f (true ∷ k)) i))

  -- the table that holds what a trie does
  pub table_of : ℕ → Trie V → KeyMap V
  table_of w f = map.from_sorted (listing w f)

  -- and holds it
  pub get-table_of : (w : ℕ) (f : Trie V) → Narrow w f → map.get (table_of w f) ≡ f
  unfolding table_of
  get-table_of w f h = λ i q. (map.get-from_sorted key_cmp (listing w f) q (sorted_listing w f) ∙ held-listing w f h q) i

  -- a table has as many entries as its trie counts
  pub count_entries : (w : ℕ) (m : KeyMap V) → Narrow w (map.get m) → length (map.entries m) ≡ count w (map.get m)
  unfolding table_of
  count_entries w m h =
      ap (λ (t : KeyMap V). length (map.entries t)) (map.same_map key_total key_exact m (table_of w (map.get m)) (λ q. sym (λ i. get-table_of w (map.get m) h i q)))
      ∙ ap length (map.entries-from_sorted key_cmp (listing w (map.get m)) (sorted_listing w (map.get m))) ∙ length-listing w (map.get m)
