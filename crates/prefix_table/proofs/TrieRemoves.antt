-- Values taken away, and nodes that have nothing in them.
use Rattle.std.specs.Prelude.{◌≡◌, ◌≢◌, ℕ, zero, suc, ◌+◌, ◌-◌, ◌/◌, ◌%◌, ◌^◌, ◌<◌, ◌≤◌, ◌==◌, ◌&&◌, ◌⊎◌, not, Bool, true, false, cond, [], ◌*◌, ◌++◌, length, take, drop, Option, Some, None, is_some, IsSome}
use Rattle.std.proofs.Common.{refl, sym, ap, ◌∙◌, subst, arith, append_assoc, length-drop, length-take, inl, inr}
use Rattle.std.specs.FinMap as map
use Rattle.std.specs.Int.{bit_at}
use Rattle.std.proofs.lemmas.Nat.Bits.{bit_at-zero}
use Rattle.std.proofs.lemmas.Bool.Decides.{eqb_tells}
use Rattle.prefix_model.specs.Keys.{KeyBits, number, same_key, shorter_first}
use Rattle.prefix_model.specs.Tables.{KeyMap}
use Rattle.prefix_model.specs.Positions.{PositionSet}
use Rattle.prefix_model.proofs.KeyLemmas.{tests_same, same_key-itself}
use Rattle.prefix_model.proofs.Order.{key_exact, key_total, shorter_exact, shorter_total}
use Rattle.prefix_model.specs.Pruning.{is_bare, prune, prune_steps}
use Rattle.prefix_table.specs.Tries.{child, child_number, bit_of, node_at, number_at, numbered, held, is_kept, table_view, IsTrie}
use Rattle.prefix_table.specs.Writes.{IsTaken, IsCut, IsBareChild, IsRemoved, IsPruned, IsRemovedBelow, IsRemovedPruned}
use Rattle.prefix_table.specs.declared.trie.Node.{Node}
use Rattle.prefix_table.specs.declared.trie.Trie.{Trie}
use Rattle.prefix_model.proofs.KeyLists.{Same, same_or_other, tied-same_key, take_take}
use Rattle.prefix_model.proofs.KeyLists.Same.{same, other}
use Rattle.prefix_table.proofs.TrieViews.{get_entry}
use Rattle.prefix_table.proofs.TrieWays.{number_tells}
use Rattle.prefix_model.proofs.Fronts.{append_none}
use Rattle.prefix_model.proofs.KeyPieces.{piece_five, take_parts}
use Rattle.prefix_table.proofs.TrieReads.{stored_nowhere, child_told, no_child_told, way_number, way_step, none_below, same_node, data_bits_are, child_bits_are}
use Rattle.prefix_table.proofs.PositionLaws.{kept_told, kept_test, kept_same_set, entries_same, entries_removed}

-- what is not there is not missed
pub remove_absent : {V : Type 0} (m : KeyMap V) (k : KeyBits) → map.get m k ≡ None → map.remove m k ≡ m
remove_absent {V} m k none = map.same_map key_total key_exact _ _ (λ q.
    map.get-remove key_total m k q ∙ ap (λ b. cond b None (map.get m q)) (tied-same_key q k) ∙ of q (same_or_other q k))
  where
    of : (q : KeyBits) → Same q k → cond (same_key q k) None (map.get m q) ≡ map.get m q
    of q (same e) = ap (λ b. cond b None (map.get m q)) (ap (λ l. same_key l k) e ∙ same_key-itself k) ∙ sym (ap (map.get m) e ∙ none)
    of q (other differ) = ap (λ b. cond b None (map.get m q)) differ

pub remove_absent_position : (kept : PositionSet) (k : KeyBits) → map.get kept k ≡ None → map.remove kept k ≡ kept
remove_absent_position kept k none = map.same_map shorter_total shorter_exact _ _ (λ q.
    map.get-remove shorter_total kept k q ∙ ap (λ b. cond b None (map.get kept q)) (tests_same shorter_first shorter_total shorter_exact q k) ∙ of q (same_or_other q k))
  where
    of : (q : KeyBits) → Same q k → cond (same_key q k) None (map.get kept q) ≡ map.get kept q
    of q (same e) = ap (λ b. cond b None (map.get kept q)) (ap (λ l. same_key l k) e ∙ same_key-itself k) ∙ sym (ap (map.get kept) e ∙ none)
    of q (other differ) = ap (λ b. cond b None (map.get kept q)) differ

pub contains_remove : (kept : PositionSet) (r q : KeyBits) → map.contains_key (map.remove kept r) q ≡ (not (same_key q r) && map.contains_key kept q)
contains_remove kept r q = ap is_some (map.get-remove shorter_total kept r q) ∙ ap (λ b. is_some (cond b None (map.get kept q))) (tests_same shorter_first shorter_total shorter_exact q r) ∙ of (same_key q r)
  where
    of : (b : Bool) → is_some (cond {A = Option (Unit {0})} b None (map.get kept q)) ≡ (not b && map.contains_key kept q)
    of true = refl
    of false = refl

module _ {T : Type 0} where
  -- ---- values

  pub removed_none : (t : Trie T) → IsTrie t → (key : KeyBits) → held t key ≡ None → IsRemoved t t key None
  removed_none t trie key none =
      let absent = get_entry t trie key ∙ none in
      record { trie = trie; value = sym absent; entries = sym (remove_absent (table_view t).entries key absent); kept = refl }

  pub removed_some : (t t' : Trie T) → IsTrie t → (key : KeyBits) (x : T) → IsTaken t t' key x → IsRemoved t t' key (Some x)
  removed_some t t' trie key x taken = record {
    trie = taken.trie;
    value = sym (get_entry t trie key ∙ taken.was);
    entries = entries_removed t t' trie taken.trie key taken.held;
    kept = kept_same_set t t' trie taken.trie taken.kept;
  }

  -- ---- nodes

  pub pruned_absent : (t : Trie T) → IsTrie t → (p : KeyBits) → node_at t p ≡ None → IsPruned t t p
  pruned_absent t trie p none = record {
    trie = trie;
    entries = refl;
    kept = sym (of (is_bare (map.get (table_view t).entries) (map.contains_key (table_view t).kept) p));
  }
    where
      of : (b : Bool) → cond b (map.remove (table_view t).kept p) (table_view t).kept ≡ (table_view t).kept
      of true = remove_absent_position (table_view t).kept p (absent (node_at t p) none (map.get (table_view t).kept p) (get_kept_test t trie p))
        where
          get_kept_test : (u : Trie T) → IsTrie u → (q : KeyBits) → is_some (map.get (table_view u).kept q) ≡ is_kept u q
          get_kept_test u trie_u q = kept_test u trie_u q

          absent : (o : Option Node) → o ≡ None → (x : Option (Unit {0})) → is_some x ≡ is_some o → x ≡ None
          absent o e None test = refl
          absent o e (Some y) test = absurd (let z = ap is_some e in cc)
      of false = refl

  pub bare_test : (t : Trie T) → IsTrie t → (p : KeyBits) (n : Node) → node_at t p ≡ Some n
      → is_bare (map.get (table_view t).entries) (map.contains_key (table_view t).kept) p ≡ ((n.data_bits == 0) && (n.child_bits == 0))
  bare_test t trie p n at = λ j. (sym (data_bits_are t trie p n at) j == 0) && (sym (child_bits_are t trie p n at) j == 0)

  pub pruned_full : (t : Trie T) → IsTrie t → (p : KeyBits) (n : Node) → node_at t p ≡ Some n → ((n.data_bits ≡ 0) × (n.child_bits ≡ 0) → ⊥) → IsPruned t t p
  pruned_full t trie p n at full = record {
    trie = trie;
    entries = refl;
    kept = sym (ap (λ b. cond b (map.remove (table_view t).kept p) (table_view t).kept) (bare_test t trie p n at ∙ no));
  }
    where
      no : ((n.data_bits == 0) && (n.child_bits == 0)) ≡ false
      no = of (eqb_tells n.data_bits 0) (eqb_tells n.child_bits 0)
        where
          of : (((n.data_bits == 0) ≡ true) × (n.data_bits ≡ 0)) ⊎ (((n.data_bits == 0) ≡ false) × (n.data_bits ≢ 0)) → (((n.child_bits == 0) ≡ true) × (n.child_bits ≡ 0)) ⊎ (((n.child_bits == 0) ≡ false) × (n.child_bits ≢ 0))
              → ((n.data_bits == 0) && (n.child_bits == 0)) ≡ false
          of (inr more) c = ap (λ b. b && (n.child_bits == 0)) more.0
          of (inl none) (inr more) = (λ j. none.0 j && more.0 j)
          of (inl none) (inl none_too) = absurd (full (none.1, none_too.1))

  pub pruned_bare : (t t' : Trie T) → IsTrie t → (p : KeyBits) (n : Node) → node_at t p ≡ Some n → n.data_bits ≡ 0 → n.child_bits ≡ 0 → IsCut t t' p → IsPruned t t' p
  pruned_bare t t' trie p n at no_data no_children cut = record {
    trie = cut.trie;
    entries = entries_same t t' trie cut.trie cut.held;
    kept = kept_told t' cut.trie (map.remove (table_view t).kept p) (λ q. cut.kept q ∙ ap (λ b. not (same_key q p) && b) (sym (kept_test t trie q)) ∙ sym (contains_remove (table_view t).kept p q))
        ∙ sym (ap (λ b. cond b (map.remove (table_view t).kept p) (table_view t).kept) (bare_test t trie p n at ∙ (λ k. (no_data k == 0) && (no_children k == 0))));
  }

  -- ---- a child on the way to a key

  pub record Child (t : Trie T) (bits : KeyBits) (d slot a : ℕ) (n : Node) : Type 0 where
    pub node : Node
    pub is_child : child t n slot ≡ Some node
    pub here : node_at t (take (d + 5) bits) ≡ Some node
    pub named : number_at t (take (d + 5) bits) ≡ Some a

  pub child_here : (t : Trie T) → IsTrie t → (bits : KeyBits) (d at slot a : ℕ) (n : Node) → d + 5 ≤ length bits → number_at t (take d bits) ≡ Some at → numbered t at ≡ Some n → slot ≡ number (drop d (take (d + 5) bits))
      → Some a ≡ cond (bit_at n.child_bits slot == 1) (Some (child_number n slot)) None → Child t bits d slot a n
  child_here t trie bits d at slot a n within way e is found =
      let here = same_node t trie (take d bits) at n way e in
      let has = child_told t (take d bits) n slot a (trie.each (take d bits) n here) found in
      let at_piece = ap (child t n) (sym is) ∙ has.is_child in
      record {
        node = has.node;
        is_child = has.is_child;
        here = way_step t bits d n within here ∙ at_piece;
        named = way_number t bits d n has.node within here at_piece ∙ ap Some (ap (child_number n) (sym is) ∙ sym has.number);
      }

  pub no_child_here : (t : Trie T) → IsTrie t → (bits : KeyBits) (d at slot : ℕ) (n : Node) → d + 5 ≤ length bits → number_at t (take d bits) ≡ Some at → numbered t at ≡ Some n → slot ≡ number (drop d (take (d + 5) bits))
      → None ≡ cond (bit_at n.child_bits slot == 1) (Some (child_number n slot)) None → node_at t (take (d + 5) bits) ≡ None
  no_child_here t trie bits d at slot n within way e is found =
      way_step t bits d n within (same_node t trie (take d bits) at n way e) ∙ ap (child t n) (sym is) ∙ no_child_told t n slot found

  -- ---- a value taken away at the end of the way

  pub removed_at : (t t' : Trie T) (bits : KeyBits) (len at depth slot : ℕ) → len ≤ length bits → depth ≤ len → number_at t (take depth bits) ≡ Some at → len < depth + 5 → slot ≡ 2 ^ (len - depth) - 1 + number (drop depth (take len bits)) → (r : Option T)
      → ((p s : KeyBits) → number_at t p ≡ Some at → length s < 5 → bit_of s ≡ slot → IsRemoved t t' (p ++ s) r) → IsRemoved t t' (take len bits) r
  removed_at t t' bits len at depth slot within from here short is r done =
      let s = drop depth (take len bits) in
      let a = length-drop depth (take len bits) in
      let b = length-take len bits in
      let size : length s ≡ len - depth = omega (arith, a, b, within) in
      let bit : bit_of s ≡ slot = ap (λ k. 2 ^ k - 1 + number s) size ∙ sym is in
      subst (λ (k : KeyBits). IsRemoved t t' k r) (take_parts bits depth len from) (done (take depth bits) s here (omega (arith, size, from, short)) bit)

  -- ---- the way to a key, from the deepest position up

  steps_none : (m : KeyMap T) (kept : PositionSet) (k : KeyBits) (n d : ℕ) → n ≡ 0 → kept ≡ prune_steps m kept k n d
  steps_none m kept k zero d none = refl
  steps_none m kept k (suc n) d none = absurd (omega (arith, none))

  -- positions that are not kept are not taken away
  steps_absent : (t : Trie T) → IsTrie t → (bits : KeyBits) (len n d : ℕ) → len ≤ length bits → d + 5 * n ≤ len → (0 < n → node_at t (take (d + 5) bits) ≡ None)
      → prune_steps (table_view t).entries (table_view t).kept (take len bits) n d ≡ (table_view t).kept
  steps_absent t trie bits len zero d whole within none = refl
  steps_absent t trie bits len (suc n) d whole within none =
      let m = (table_view t).entries in
      let kept = (table_view t).kept in
      let here = none (omega arith) in
      ap (λ s. prune m s (take (d + 5) (take len bits))) (steps_absent t trie bits len n (d + 5) whole (omega (arith, within)) (λ more. next here (omega (arith, more, within, whole))))
      ∙ ap (prune m kept) (take_take bits (d + 5) len (omega (arith, within)))
      ∙ sym (pruned_absent t trie (take (d + 5) bits) here).kept
    where
      next : node_at t (take (d + 5) bits) ≡ None → (d + 5) + 5 ≤ length bits → node_at t (take ((d + 5) + 5) bits) ≡ None
      next here more = ap (node_at t) (sym (take_parts bits (d + 5) ((d + 5) + 5) (omega arith))) ∙ none_below t 1 (take (d + 5) bits) (drop (d + 5) (take ((d + 5) + 5) bits)) here (piece_five bits (d + 5) more)

  pub removed_here : (t t' : Trie T) (bits : KeyBits) (len depth : ℕ) (r : Option T) → depth % 5 ≡ 0 → depth ≤ len → len < depth + 5 → IsRemoved t t' (take len bits) r
      → ((q s : KeyBits) → take depth bits ≡ q ++ s → number_at t' q ≡ number_at t q) → IsRemovedBelow t t' bits len depth r
  removed_here t t' bits len depth r five from short done numbers = record {
    trie = done.trie;
    value = done.value;
    entries = done.entries;
    kept = λ n is. done.kept ∙ steps_none (table_view t').entries (table_view t).kept (take len bits) n depth (omega (arith, is, five, from, short));
    numbers = numbers;
  }

  pub removed_nowhere : (t : Trie T) → IsTrie t → (bits : KeyBits) (len depth : ℕ) → len ≤ length bits → depth % 5 ≡ 0 → depth + 5 ≤ len → node_at t (take (depth + 5) bits) ≡ None → IsRemovedBelow t t bits len depth None
  removed_nowhere t trie bits len depth whole five down none =
      let absent = get_entry t trie (take len bits) ∙ stored_nowhere t bits depth len five down whole none in
      record {
        trie = trie;
        value = sym absent;
        entries = sym (remove_absent (table_view t).entries (take len bits) absent);
        kept = λ n is. sym (steps_absent t trie bits len n depth whole (omega (arith, is, five)) (λ _. none));
        numbers = λ q r e. refl;
      }

  -- the node right below was pruned
  pub removed_child : (t t1 t2 : Trie T) (bits : KeyBits) (len depth : ℕ) (r : Option T) → depth % 5 ≡ 0 → depth + 5 ≤ len → IsRemovedBelow t t1 bits len (depth + 5) r → IsPruned t1 t2 (take (depth + 5) bits)
      → ((q s : KeyBits) → take depth bits ≡ q ++ s → number_at t2 q ≡ number_at t1 q) → IsRemovedBelow t t2 bits len depth r
  removed_child t t1 t2 bits len depth r five down below done numbers = record {
    trie = done.trie;
    value = below.value;
    entries = done.entries ∙ below.entries;
    kept = kept;
    numbers = λ q s e. numbers q s e ∙ below.numbers q (s ++ drop depth (take (depth + 5) bits)) (sym (take_parts bits depth (depth + 5) (omega arith)) ∙ ap (λ l. l ++ drop depth (take (depth + 5) bits)) e ∙ append_assoc q s (drop depth (take (depth + 5) bits)));
  }
    where
      kept : (n : ℕ) → n ≡ len / 5 - depth / 5 → (table_view t2).kept ≡ prune_steps (table_view t2).entries (table_view t).kept (take len bits) n depth
      kept zero is = absurd (omega (arith, is, five, down))
      kept (suc n) is =
          done.kept
          ∙ (λ j. prune (sym done.entries j) (below.kept n (omega (arith, is, five, down)) j) (sym (take_take bits (depth + 5) len down) j))
          ∙ ap (λ m. prune (table_view t2).entries (prune_steps m (table_view t).kept (take len bits) n (depth + 5)) (take (depth + 5) (take len bits))) (sym done.entries)

  -- a child on the way stays in its place while nodes below it are taken away
  pub record StillThere (t1 : Trie T) (bits : KeyBits) (depth at child_at : ℕ) : Type 0 where
    pub child : number_at t1 (take (depth + 5) bits) ≡ Some child_at
    pub here : number_at t1 (take depth bits) ≡ Some at

  pub still_there : (t t1 : Trie T) (bits : KeyBits) (len depth at child_at : ℕ) (r : Option T) → number_at t (take depth bits) ≡ Some at → number_at t (take (depth + 5) bits) ≡ Some child_at → IsRemovedBelow t t1 bits len (depth + 5) r → StillThere t1 bits depth at child_at
  still_there t t1 bits len depth at child_at r here child below = record {
    child = below.numbers (take (depth + 5) bits) [] (sym (append_none _)) ∙ child;
    here = below.numbers (take depth bits) (drop depth (take (depth + 5) bits)) (sym (take_parts bits depth (depth + 5) (omega arith))) ∙ here;
  }

  pub bare_child : (t1 : Trie T) → IsTrie t1 → (bits : KeyBits) (depth at child_at slot : ℕ) (leaf n : Node) → StillThere t1 bits depth at child_at → depth + 5 ≤ length bits → slot ≡ number (drop depth (take (depth + 5) bits))
      → numbered t1 child_at ≡ Some leaf → numbered t1 at ≡ Some n → (leaf.data_bits ≡ 0) × (leaf.child_bits ≡ 0) → IsBareChild t1 n slot
  bare_child t1 trie bits depth at child_at slot leaf n still within is e f empty = record {
    leaf = leaf;
    is_child = ap (child t1 n) is ∙ sym (way_step t1 bits depth n within (same_node t1 trie (take depth bits) at n still.here f)) ∙ same_node t1 trie (take (depth + 5) bits) child_at leaf still.child e;
    no_data = empty.0;
    no_children = empty.1;
  }

  pub removed_all : (t t' : Trie T) (bits : KeyBits) (len : ℕ) (r : Option T) → len ≤ length bits → IsRemovedBelow t t' bits len 0 r → IsRemovedPruned t t' (take len bits) r
  removed_all t t' bits len r whole below = record {
    trie = below.trie;
    value = below.value;
    entries = below.entries;
    kept = below.kept (length (take len bits) / 5) (let size = length-take len bits in omega (arith, size, whole));
  }

  -- ---- whether the way goes on

  -- a position that is not kept has no number
  pub goes_not : (t : Trie T) → IsTrie t → (p : KeyBits) → is_kept t p ≡ false → IsSome (number_at t p) → ⊥
  goes_not t trie p none some = of (number_at t p) refl some
    where
      of : (o : Option ℕ) → number_at t p ≡ o → IsSome o → ⊥
      of None e h = cc
      of (Some a) e h = let k = sym (ap is_some (number_tells t trie p a e).1.here) ∙ none in cc

  pub cut_gone : (t t' : Trie T) (p : KeyBits) → IsCut t t' p → is_kept t' p ≡ false
  cut_gone t t' p cut = cut.kept p ∙ ap (λ b. not b && is_kept t p) (same_key-itself p)

  -- a node with a child on the way stays
  pub pruned_way : (t : Trie T) → IsTrie t → (bits : KeyBits) (d : ℕ) → d + 5 ≤ length bits → (a : ℕ) → number_at t (take d bits) ≡ Some a → IsSome (number_at t (take (d + 5) bits)) → IsPruned t t (take d bits)
  pruned_way t trie bits d within a here goes =
      let k = number_tells t trie (take d bits) a here in
      pruned_full t trie (take d bits) k.0 k.1.here (λ z. goes_not t trie (take (d + 5) bits) (ap is_some (way_step t bits d k.0 within k.1.here ∙ no_child k.0 z.1)) goes)
    where
      no_child : (n : Node) → n.child_bits ≡ 0 → child t n (number (drop d (take (d + 5) bits))) ≡ None
      no_child n none =
          let slot = number (drop d (take (d + 5) bits)) in
          no_child_told t n slot (sym (ap (λ b. cond (bit_at b slot == 1) (Some (child_number n slot)) None) none ∙ ap (λ k. cond (k == 1) (Some (child_number n slot)) None) (bit_at-zero slot)))
