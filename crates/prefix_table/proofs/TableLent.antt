-- A table, where one of its values is lent for writing.
use Rattle.std.specs.Prelude.{◌≡◌, ℕ, zero, suc, ◌+◌, ◌<◌, true, cond, List, [], ◌∷◌, length, is_some, slice_get}
use Rattle.std.proofs.Common.{refl, sym, ap, ◌∙◌, arith}
use Rattle.std.specs.FinMap as map
use Rattle.prefix_model.specs.Keys.{KeyBits}
use Rattle.prefix_model.proofs.Order.{key_total}
use Rattle.prefix_blocks.specs.Blocks.{with_item}
use Rattle.prefix_table.specs.NodeLists.{block}
use Rattle.prefix_table.specs.TableLends.{with_value}
use Rattle.prefix_table.specs.Tries.{by_number, all_keys, table_view, IsTrie}
use Rattle.prefix_table.specs.Writes.{IsValueAt}
use Rattle.prefix_table.specs.declared.trie.Trie.{Trie}
use Rattle.prefix_table.proofs.TrieViews.{get_entry}
use Rattle.prefix_table.proofs.PositionLaws.{kept_same_set, entries_stored}

some_within : {A : Type 0} (xs : List A) (p : ℕ) → p < length xs → is_some (slice_get xs p) ≡ true
some_within [] p l = absurd (omega arith)
some_within (x ∷ xs) zero l = refl
some_within (x ∷ xs) (suc p) l = some_within xs p (omega arith)

module _ {T : Type 0} where
  abbrev pub lent : Trie T → ℕ → ℕ → T → Trie T
  lent t at place w = record t { values = with_item t.values at place w }

  pub lent_view : (t : Trie T) → IsTrie t → (key : KeyBits) (at place : ℕ) → IsValueAt t key at place → (w : T) → table_view (lent t at place w) ≡ with_value (table_view t) key w
  unfolding table_view
  lent_view t trie key at place is w =
      let stored = is.written w in
      let entries = entries_stored t (lent t at place w) trie stored.trie key w stored.held in
      let kept = kept_same_set t (lent t at place w) trie stored.trie stored.kept in
      λ j. record { entries = entries j; kept = kept j; places = map.from_entries (by_number (λ q. is.numbers w q j) all_keys) }

  pub lent_value : (t : Trie T) → IsTrie t → (key : KeyBits) (at place : ℕ) → IsValueAt t key at place → map.get (table_view t).entries key ≡ slice_get (block t.values.lists at) place
  lent_value t trie key at place is = get_entry t trie key ∙ is.value

  pub lent_len : (t : Trie T) → IsTrie t → (key : KeyBits) (at place : ℕ) → IsValueAt t key at place → (w : T) → map.len (table_view t).entries ≡ map.len (table_view (lent t at place w)).entries
  lent_len t trie key at place is w =
      let stored = is.written w in
      let there : map.contains_key (table_view t).entries key ≡ true = ap is_some (lent_value t trie key at place is) ∙ some_within (block t.values.lists at) place is.within in
      sym (ap map.len (entries_stored t (lent t at place w) trie stored.trie key w stored.held)
      ∙ map.len-insert key_total (table_view t).entries key w ∙ ap (λ b. cond b (map.len (table_view t).entries) (map.len (table_view t).entries + 1)) there)
