-- Sets of positions: those of one more key, and what a trie keeps.
use Rattle.std.specs.Prelude.{◌≡◌, ℕ, ◌%◌, ◌≤◌, ◌==◌, ◌||◌, Bool, true, false, cond, [], ◌∷◌, ◌++◌, length, take, drop, Option, Some, None, is_some}
use Rattle.std.proofs.Common.{refl, sym, ap, ◌∙◌, arith, length-append, length-take}
use Rattle.std.specs.Option.{option_map}
use Rattle.std.specs.List.{list_any}
use Rattle.std.specs.Ordering.{eq_by_cmp}
use Rattle.std.specs.FinMap as map
use Rattle.std.proofs.lemmas.List.{take-append-drop}
use borrow.Author.Tests.{eqb-true}
use Rattle.prefix_model.specs.Keys.{KeyBits, shorter_first, stands_in, prefixes, same_key}
use Rattle.prefix_model.specs.Positions.{PositionSet, with_positions, positions_of_key, has_node_length}
use Rattle.prefix_model.proofs.Building.{get_with, tie_any}
use Rattle.prefix_model.proofs.KeyLemmas.{filter_in, filter_out, prefixes_in, prefixes_out, tests_same, same_key-same}
use Rattle.prefix_model.proofs.Order.{shorter_exact, shorter_total, key_total, key_exact}
use Rattle.prefix_table.specs.Tries.{node_at, is_kept, held, table_view, IsTrie}
use Rattle.prefix_table.specs.declared.trie.Node.{Node}
use Rattle.prefix_table.specs.declared.trie.Trie.{Trie}
use Rattle.prefix_table.proofs.TrieViews.{get_kept, get_entry}
use Rattle.prefix_model.proofs.KeyLists.{tied-same_key}

-- ---- the positions of a key whose node is there

is_there : (o : Option (Unit {0})) → is_some o ≡ true → o ≡ Some tt
is_there None e = cc
is_there (Some u) e = refl

-- a prefix is the front of its length
prefix_front : (k q r : KeyBits) → k ≡ q ++ r → (take (length q) k ≡ q) × (length q ≤ length k)
prefix_front k q r e = (ap (take (length q)) e ∙ take-front q r, omega (arith, ap length e, length-append q r))
  where
    take-front : (p s : KeyBits) → take (length p) (p ++ s) ≡ p
    take-front [] s = refl
    take-front (b ∷ p) s = ap (λ t. b ∷ t) (take-front p s)

-- where each position of the key is kept, the kept positions stay
pub all_kept : (kept : PositionSet) (k : KeyBits) → ((l : ℕ) → l % 5 ≡ 0 → l ≤ length k → map.contains_key kept (take l k) ≡ true) → with_positions kept k ≡ kept
all_kept kept k there = map.same_map shorter_total shorter_exact _ _ (λ q. get_with kept (positions_of_key k) q ∙ of q (list_any (eq_by_cmp shorter_first q) (positions_of_key k)) refl)
  where
    of : (q : KeyBits) (b : Bool) → list_any (eq_by_cmp shorter_first q) (positions_of_key k) ≡ b → cond b (Some tt) (map.get kept q) ≡ map.get kept q
    of q false e = refl
    of q true e =
        let parts = filter_out has_node_length (prefixes k) q (sym (tie_any q (positions_of_key k)) ∙ e) in
        let rest = prefixes_out k q parts.1 in
        let front = prefix_front k q rest.0 rest.1 in
        let at_five : length q % 5 ≡ 0 = eqb-true (length q % 5) 0 parts.0 in
        sym (is_there (map.get kept q) (ap (map.contains_key kept) (sym front.0) ∙ there (length q) at_five front.1))

-- ---- one more of the positions of a key

pub with_one_of : (kept : PositionSet) (k : KeyBits) (d : ℕ) → d % 5 ≡ 0 → d ≤ length k → with_positions (map.insert kept (take d k) tt) k ≡ with_positions kept k
with_one_of kept k d five within = map.same_map shorter_total shorter_exact _ _ (λ q.
    get_with (map.insert kept (take d k) tt) (positions_of_key k) q
    ∙ ap (cond (list_any (eq_by_cmp shorter_first q) (positions_of_key k)) (Some tt)) (map.get-insert shorter_total kept (take d k) tt q)
    ∙ of q (eq_by_cmp shorter_first q (take d k)) refl
    ∙ sym (get_with kept (positions_of_key k) q))
  where
    r : KeyBits
    r = take d k

    size : length r ≡ d
    size = let t = length-take d k in omega (arith, t)

    stands : stands_in (positions_of_key k) r ≡ true
    stands = filter_in has_node_length (prefixes k) r (ap (λ n. n % 5 == 0) size ∙ ap (λ n. n == 0) five)
        (ap (λ l. stands_in (prefixes l) r) (sym (take-append-drop d k)) ∙ prefixes_in r (drop d k))

    of : (q : KeyBits) (b : Bool) → eq_by_cmp shorter_first q r ≡ b
        → cond (list_any (eq_by_cmp shorter_first q) (positions_of_key k)) (Some tt) (cond b (Some tt) (map.get kept q))
        ≡ cond (list_any (eq_by_cmp shorter_first q) (positions_of_key k)) (Some tt) (map.get kept q)
    of q false e = refl
    of q true e =
        let q_is : q ≡ r = same_key-same q r (sym (tests_same shorter_first shorter_total shorter_exact q r) ∙ e) in
        let there : list_any (eq_by_cmp shorter_first q) (positions_of_key k) ≡ true = tie_any q (positions_of_key k) ∙ ap (stands_in (positions_of_key k)) q_is ∙ stands in
        ap (λ b. cond b (Some tt) (Some tt)) there ∙ sym (ap (λ b. cond b (Some tt) (map.get kept q)) there)

by_test : (o : Option Node) (p : Option (Unit {0})) → is_some o ≡ is_some p → ◌≡◌ {A = Option (Unit {0})} (option_map (λ _. tt) o) p
by_test None None e = refl
by_test (Some n) (Some u) e = refl
by_test None (Some u) e = absurd cc
by_test (Some n) None e = absurd cc

contains_insert : (kept : PositionSet) (r q : KeyBits) → map.contains_key (map.insert kept r tt) q ≡ (same_key q r || map.contains_key kept q)
contains_insert kept r q = ap is_some (map.get-insert shorter_total kept r tt q) ∙ ap (λ b. is_some (cond b (Some tt) (map.get kept q))) (tests_same shorter_first shorter_total shorter_exact q r) ∙ of (same_key q r)
  where
    of : (b : Bool) → is_some (cond b (Some tt) (map.get kept q)) ≡ (b || map.contains_key kept q)
    of true = refl
    of false = refl

module _ {T : Type 0} where
  -- what is kept, told by a test
  pub kept_told : (t : Trie T) → IsTrie t → (kept : PositionSet) → ((q : KeyBits) → is_kept t q ≡ map.contains_key kept q) → (table_view t).kept ≡ kept
  kept_told t trie kept told = map.same_map shorter_total shorter_exact _ _ (λ q. get_kept t trie q ∙ by_test (node_at t q) (map.get kept q) (told q))

  pub kept_test : (t : Trie T) → IsTrie t → (q : KeyBits) → map.contains_key (table_view t).kept q ≡ is_kept t q
  kept_test t trie q = ap is_some (get_kept t trie q) ∙ same_test (node_at t q)
    where
      same_test : (o : Option Node) → is_some (option_map {U = Unit {0}} (λ _. tt) o) ≡ is_some o
      same_test None = refl
      same_test (Some n) = refl

  pub kept_same_set : (t t' : Trie T) → IsTrie t → IsTrie t' → ((q : KeyBits) → is_kept t' q ≡ is_kept t q) → (table_view t').kept ≡ (table_view t).kept
  kept_same_set t t' trie trie' alike = kept_told t' trie' (table_view t).kept (λ q. alike q ∙ sym (kept_test t trie q))

  pub kept_added : (t t' : Trie T) → IsTrie t → IsTrie t' → (r : KeyBits) → ((q : KeyBits) → is_kept t' q ≡ (same_key q r || is_kept t q)) → (table_view t').kept ≡ map.insert (table_view t).kept r tt
  kept_added t t' trie trie' r told = kept_told t' trie' (map.insert (table_view t).kept r tt) (λ q.
      told q ∙ ap (λ b. same_key q r || b) (sym (kept_test t trie q)) ∙ sym (contains_insert (table_view t).kept r q))

  -- what is held, told at each key
  pub entries_same : (t t' : Trie T) → IsTrie t → IsTrie t' → ((k : KeyBits) → held t' k ≡ held t k) → (table_view t').entries ≡ (table_view t).entries
  entries_same t t' trie trie' told = map.same_map key_total key_exact _ _ (λ k. get_entry t' trie' k ∙ told k ∙ sym (get_entry t trie k))

  pub entries_stored : (t t' : Trie T) → IsTrie t → IsTrie t' → (key : KeyBits) (v : T) → ((k : KeyBits) → held t' k ≡ cond (same_key k key) (Some v) (held t k)) → (table_view t').entries ≡ map.insert (table_view t).entries key v
  entries_stored t t' trie trie' key v told = map.same_map key_total key_exact _ _ (λ k.
      get_entry t' trie' k ∙ told k
      ∙ sym (map.get-insert key_total (table_view t).entries key v k ∙ (λ j. cond (tied-same_key k key j) (Some v) (get_entry t trie k j))))

  pub entries_removed : (t t' : Trie T) → IsTrie t → IsTrie t' → (key : KeyBits) → ((k : KeyBits) → held t' k ≡ cond (same_key k key) None (held t k)) → (table_view t').entries ≡ map.remove (table_view t).entries key
  entries_removed t t' trie trie' key told = map.same_map key_total key_exact _ _ (λ k.
      get_entry t' trie' k ∙ told k
      ∙ sym (map.get-remove key_total (table_view t).entries key k ∙ (λ j. cond (tied-same_key k key j) None (get_entry t trie k j))))
