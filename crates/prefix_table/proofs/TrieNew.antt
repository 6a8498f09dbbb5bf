-- A trie with nothing but its root.
use Rattle.std.specs.Prelude.{◌≡◌, ℕ, ◌*◌, ◌/◌, Bool, cond, [], ◌∷◌, length, take, drop, Option, Some, None}
use Rattle.std.proofs.Common.{refl, sym, ap, ◌∙◌, subst, arith, lit≤, lit<}
use Rattle.std.specs.Option.{option_and_then, option_map}
use Rattle.std.specs.FinMap as map
use Rattle.std.specs.Int.{bit_at}
use Rattle.std.proofs.lemmas.Nat.Bits.{bit_at-zero}
use Rattle.std.proofs.lemmas.Option.{same_Some}
use lib.Count.{ones}
use Rattle.prefix_model.specs.Keys.{KeyBits, key_cmp, shorter_first, same_key, number}
use Rattle.prefix_model.specs.Positions.{root_alone}
use Rattle.prefix_model.proofs.KeyLemmas.{tests_same}
use Rattle.prefix_model.proofs.Order.{key_exact, key_total, shorter_exact, shorter_total}
use Rattle.prefix_blocks.specs.Blocks.{BlocksView}
use Rattle.prefix_table.specs.NodeLists.{items_of}
use Rattle.prefix_table.specs.Tries.{child, value_of, bit_of, node_below, node_at, held, table_view, IsTrie, IsNode}
use Rattle.prefix_table.specs.declared.trie.Node.{Node}
use Rattle.prefix_table.specs.declared.trie.Trie.{Trie}
use Rattle.prefix_model.proofs.Bitmaps.SlotLaws.{picked_clear}
use Rattle.prefix_table.proofs.TrieViews.{get_entry, get_kept}

abbrev pub bare : Node
bare = record { data_bits = 0; child_bits = 0; values = 0; children = 0 }

module _ {T : Type 0} where
  abbrev pub new_trie : BlocksView Node → BlocksView T → Trie T
  new_trie nodes values = record { root = bare; nodes = nodes; values = values }

  pub no_child : (t : Trie T) (n : Node) (c : ℕ) → n.child_bits ≡ 0 → child t n c ≡ None
  no_child t n c none = picked_clear n.child_bits (items_of t.nodes.lists n.child_bits n.children) c (λ one.
      let z = ap (λ b. bit_at b c) none in let e = bit_at-zero c in omega (arith, one, z, e))

  pub no_value : (t : Trie T) (n : Node) (c : ℕ) → n.data_bits ≡ 0 → value_of t n c ≡ None
  no_value t n c none = picked_clear n.data_bits (items_of t.values.lists n.data_bits n.values) c (λ one.
      let z = ap (λ b. bit_at b c) none in let e = bit_at-zero c in omega (arith, one, z, e))

  -- a node with no child has nothing below
  pub nothing_below : (t : Trie T) (n : Node) (b : Bool) (p : KeyBits) → n.child_bits ≡ 0 → node_below t n (b ∷ p) ≡ None
  unfolding node_below
  nothing_below t n a [] none = refl
  nothing_below t n a (b ∷ []) none = refl
  nothing_below t n a (b ∷ c ∷ []) none = refl
  nothing_below t n a (b ∷ c ∷ d ∷ []) none = refl
  nothing_below t n a (b ∷ c ∷ d ∷ e ∷ p) none = ap (option_and_then (λ m. node_below t m p)) (no_child t n (number (a ∷ b ∷ c ∷ d ∷ e ∷ [])) none)

  only_root : (t : Trie T) → t.root.child_bits ≡ 0 → (p : KeyBits) (n : Node) → node_at t p ≡ Some n → (p ≡ []) × (t.root ≡ n)
  unfolding node_below
  only_root t none [] n e = (refl, same_Some t.root n e)
  only_root t none (b ∷ p) n e = let gone = nothing_below t t.root b p none in absurd cc

  pub new_is_trie : (nodes : BlocksView Node) (values : BlocksView T) → IsTrie (new_trie nodes values)
  unfolding ones
  new_is_trie nodes values = record {
    each = λ p n e. let only = only_root t refl p n e in subst (IsNode t p) only.1 (subst (λ q. IsNode t q bare) (sym only.0) node);
    own_children = λ p q n m e f some other same. (only_root t refl p n e).0 ∙ sym (only_root t refl q m f).0;
    own_values = λ p q n m e f some other same. (only_root t refl p n e).0 ∙ sym (only_root t refl q m f).0;
  }
    where
      t : Trie T
      t = new_trie nodes values

      node : IsNode t [] bare
      node = record { depth_within = lit≤ tt; data_within = lit< tt; child_within = lit< tt; values_within = lit< tt; children_within = lit< tt; values = refl; children = refl }

  held_of_new : (nodes : BlocksView Node) (values : BlocksView T) (k : KeyBits) → held (new_trie nodes values) k ≡ None
  held_of_new nodes values k = of (node_at (new_trie nodes values) (take (length k / 5 * 5) k)) refl
    where
      of : (o : Option Node) → node_at (new_trie nodes values) (take (length k / 5 * 5) k) ≡ o → option_and_then (λ n. value_of (new_trie nodes values) n (bit_of (drop (length k / 5 * 5) k))) o ≡ None
      of None e = refl
      of (Some n) e = no_value (new_trie nodes values) n _ (λ j. (sym (only_root (new_trie nodes values) refl _ n e).1 j).data_bits)

  pub entries_of_new : (nodes : BlocksView Node) (values : BlocksView T) → (table_view (new_trie nodes values)).entries ≡ map.empty
  entries_of_new nodes values = map.same_map key_total key_exact _ _ (λ k.
      get_entry (new_trie nodes values) (new_is_trie nodes values) k ∙ held_of_new nodes values k ∙ sym (map.get-empty key_cmp k))

  kept_by_key : (nodes : BlocksView Node) (values : BlocksView T) (p : KeyBits) → ◌≡◌ {A = Option (Unit {0})} (option_map (λ _. tt) (node_at (new_trie nodes values) p)) (cond (same_key p []) (Some tt) None)
  unfolding node_below
  kept_by_key nodes values [] = refl
  kept_by_key nodes values (b ∷ p) = ap (option_map (λ _. tt)) (nothing_below (new_trie nodes values) bare b p refl)

  pub kept_of_new : (nodes : BlocksView Node) (values : BlocksView T) → (table_view (new_trie nodes values)).kept ≡ root_alone
  kept_of_new nodes values = map.same_map shorter_total shorter_exact _ _ (λ p.
      get_kept (new_trie nodes values) (new_is_trie nodes values) p
      ∙ kept_by_key nodes values p
      ∙ sym (map.get-insert shorter_total map.empty [] tt p ∙ (λ j. cond (tests_same shorter_first shorter_total shorter_exact p [] j) (Some tt) (map.get-empty shorter_first p j))))
