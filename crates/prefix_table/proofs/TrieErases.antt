-- All that begins with a key taken away, and the way to it pruned.
use Rattle.std.specs.Prelude.{◌≡◌, ◌≢◌, ℕ, zero, suc, ◌+◌, ◌-◌, ◌*◌, ◌/◌, ◌%◌, ◌<◌, ◌≤◌, ◌==◌, ◌&&◌, ◌||◌, ◌⊎◌, not, Bool, true, false, cond, [], ◌∷◌, ◌++◌, length, take, drop, Option, Some, None, is_some}
use Rattle.std.proofs.Common.{refl, sym, ap, ◌∙◌, subst, arith, length-append, length-take, length-drop, inl, inr}
use Rattle.std.specs.FinMap as map
use Rattle.std.proofs.lemmas.Bool.{ne_eqb}
use Rattle.std.proofs.lemmas.Bool.Decides.{eqb_tells}
use Rattle.prefix_model.specs.Keys.{KeyBits, number, low_bits, same_key}
use Rattle.prefix_model.specs.Tables.{KeyMap}
use Rattle.prefix_model.specs.Positions.{PositionSet}
use Rattle.prefix_model.proofs.KeyLemmas.{same_key-itself}
use Rattle.prefix_model.proofs.Fronts.{front_append, front_itself, follows, append_none}
use Rattle.prefix_model.specs.Masks.{begins_with}
use Rattle.prefix_model.proofs.Order.{key_exact, key_total, shorter_exact, shorter_total}
use Rattle.prefix_model.specs.Pruning.{is_bare, prune, prune_steps, pruned, without_below, kept_outside}
use Rattle.prefix_table.specs.Tries.{node_at, number_at, held, is_kept, table_view, IsTrie, IsWayEnd}
use Rattle.prefix_table.specs.Writes.{IsCleared, IsKeyCleared}
use Rattle.prefix_table.specs.declared.trie.Node.{Node}
use Rattle.prefix_table.specs.declared.trie.Trie.{Trie}
use Rattle.prefix_model.proofs.KeyLists.{Same, same_or_other}
use Rattle.prefix_model.proofs.KeyPlaces.{low_bits-number}
use Rattle.prefix_model.proofs.KeyLists.Same.{same, other}
use Rattle.prefix_table.proofs.TrieWays.{below-off, node_root}
use Rattle.prefix_model.proofs.KeyPieces.{take_parts}
use Rattle.prefix_table.proofs.TrieReads.{held_nowhere, none_below}
use Rattle.prefix_table.proofs.TrieViews.{get_entry}
use Rattle.prefix_table.proofs.TrieRemoves.{remove_absent, remove_absent_position, contains_remove, bare_test}
use Rattle.prefix_table.proofs.TrieClears.{bare_bits, no_length}
use Rattle.prefix_table.proofs.PositionLaws.{kept_told, kept_test}

-- ---- what begins with a key

data Begins (q key : KeyBits) : Type 0 where
  begins : begins_with key q ≡ true → (r : KeyBits) → q ≡ key ++ r → Begins q key
  outside : begins_with key q ≡ false → ((r : KeyBits) → q ≢ key ++ r) → Begins q key

begins_or_not : (q key : KeyBits) → Begins q key
begins_or_not q key = of (begins_with key q) refl
  where
    of : (b : Bool) → begins_with key q ≡ b → Begins q key
    of true e = let parts = follows key q e in begins e parts.rest parts.whole
    of false e = outside e (λ r z. let yes = ap (begins_with key) z ∙ front_append key r in cc)

outside_test : (kept : PositionSet) (key q : KeyBits) → map.contains_key (kept_outside kept key) q ≡ cond (not (begins_with key q) || (length q == 0)) (map.contains_key kept q) false
outside_test kept key q =
    ap is_some (map.get-retain_keys kept (λ l. not (begins_with key l) || (length l == 0)) q (λ x e. ap (λ l. not (begins_with key l) || (length l == 0)) (sym (shorter_exact q x e))))
    ∙ of (not (begins_with key q) || (length q == 0))
  where
    of : (b : Bool) → is_some (cond b (map.get kept q) None) ≡ cond b (map.contains_key kept q) false
    of true = refl
    of false = refl

module _ {T : Type 0} where
  -- ---- the clearing, in terms of the key

  pub key_cleared : (t t' : Trie T) → IsTrie t → (bits : KeyBits) (len at depth path : ℕ) → len ≤ length bits → IsWayEnd t bits len at depth → len < depth + 5 → path ≡ number (drop depth (take len bits))
      → ((p : KeyBits) → number_at t p ≡ Some at → IsCleared t t' p (p ++ low_bits (len - depth) path)) → IsKeyCleared t t' (take len bits)
  key_cleared t t' trie bits len at depth path within way short is done = record {
    trie = cleared.trie;
    held_below = cleared.held_below;
    kept_below = λ r some. cleared.kept_below r (λ e.
        let z = ap length e in let a = length-append (take len bits) r in let b = length-take len bits in let c = length-take depth bits in omega (arith, z, a, b, c, some, within, from));
    held_else = cleared.held_else;
    kept_else = cleared.kept_else;
  }
    where
      s : KeyBits
      s = drop depth (take len bits)

      from : depth ≤ len
      from = way.from

      size : length s ≡ len - depth
      size = let a = length-drop depth (take len bits) in let b = length-take len bits in omega (arith, a, b, within)

      whole : take depth bits ++ low_bits (len - depth) path ≡ take len bits
      whole = (λ j. take depth bits ++ low_bits (sym size j) (is j)) ∙ ap (λ k. take depth bits ++ k) (low_bits-number s) ∙ take_parts bits depth len from

      cleared : IsCleared t t' (take depth bits) (take len bits)
      cleared = subst (λ (k : KeyBits). IsCleared t t' (take depth bits) k) whole (done (take depth bits) way.here)

  pub key_absent : (t : Trie T) → IsTrie t → (bits : KeyBits) (len at depth : ℕ) → len ≤ length bits → IsWayEnd t bits len at depth → depth + 5 ≤ len → IsKeyCleared t t (take len bits)
  key_absent t trie bits len at depth within way down = record {
    trie = trie;
    held_below = λ r. ap (held t) (sym (parts r)) ∙ held_nowhere t q (piece ++ r) at_five none;
    kept_below = λ r some. ap is_some (ap (node_at t) (sym (parts r)) ∙ gone (piece ++ r) (length (piece ++ r) % 5) refl);
    held_else = λ k out. refl;
    kept_else = λ q out. refl;
  }
    where
      q : KeyBits
      q = take (depth + 5) bits

      piece : KeyBits
      piece = drop (depth + 5) (take len bits)

      none : node_at t q ≡ None
      none = way.ends down

      at_five : length q % 5 ≡ 0
      at_five = let a = length-take (depth + 5) bits in let f = way.at_five in omega (arith, a, f, down, within)

      append_three : (x y z : KeyBits) → (x ++ y) ++ z ≡ x ++ (y ++ z)
      append_three [] y z = refl
      append_three (b ∷ x) y z = ap (λ k. b ∷ k) (append_three x y z)

      parts : (r : KeyBits) → q ++ (piece ++ r) ≡ take len bits ++ r
      parts r = sym (append_three q piece r) ∙ ap (λ k. k ++ r) (take_parts bits (depth + 5) len down)

      gone : (r : KeyBits) (k : ℕ) → length r % 5 ≡ k → node_at t (q ++ r) ≡ None
      gone r zero e = none_below t (length r / 5) q r none (omega (arith, e))
      gone r (suc k) e = below-off t t.root (q ++ r) (λ z. let a = length-append q r in omega (arith, a, z, e, at_five))

  -- ---- entries

  pub erased_entries : (t t1 : Trie T) → IsTrie t → (key : KeyBits) → IsKeyCleared t t1 key → (table_view t1).entries ≡ without_below (table_view t).entries key
  erased_entries t t1 trie key cleared = map.same_map key_total key_exact _ _ (λ q.
      get_entry t1 cleared.trie q ∙ of q (begins_or_not q key)
      ∙ sym (map.get-retain_keys (table_view t).entries (λ l. not (begins_with key l)) q (λ x e. ap (λ l. not (begins_with key l)) (sym (key_exact q x e)))))
    where
      of : (q : KeyBits) → Begins q key → held t1 q ≡ cond (not (begins_with key q)) (map.get (table_view t).entries q) None
      of q (begins it_does r e) = ap (held t1) e ∙ cleared.held_below r ∙ ap (λ b. cond (not b) (map.get (table_view t).entries q) None) (sym it_does)
      of q (outside it_not out) = cleared.held_else q out ∙ sym (get_entry t trie q) ∙ ap (λ b. cond (not b) (map.get (table_view t).entries q) None) (sym it_not)

  -- ---- kept positions

  -- at every position but the key itself
  erased_kept : (t t1 : Trie T) → IsTrie t → (key : KeyBits) → IsKeyCleared t t1 key → (q : KeyBits) → (q ≡ key → (length key ≡ 0) ⊎ (length key % 5 ≢ 0)) → is_kept t1 q ≡ map.contains_key (kept_outside (table_view t).kept key) q
  erased_kept t t1 trie key cleared q free = of (begins_or_not q key) ∙ sym (outside_test (table_view t).kept key q)
    where
      Goal : Type 0
      Goal = is_kept t1 q ≡ cond (not (begins_with key q) || (length q == 0)) (map.contains_key (table_view t).kept q) false

      at_key : begins_with key q ≡ true → q ≡ key → ((length key ≡ 0) ⊎ (length key % 5 ≢ 0)) → Goal
      at_key it_does e (inl none) =
          let empty : q ≡ [] = e ∙ no_length key none in
          let short : (length q == 0) ≡ true = ap (λ k. length k == 0) empty in
          ap (is_kept t1) empty ∙ ap is_some (node_root t1)
          ∙ sym ((λ j. cond (not (it_does j) || short j) (map.contains_key (table_view t).kept q) false) ∙ kept_test t trie q ∙ ap (is_kept t) empty ∙ ap is_some (node_root t))
      at_key it_does e (inr off) =
          ap is_some (below-off t1 t1.root q (λ z. off (ap (λ k. length k % 5) (sym e) ∙ z)))
          ∙ sym (pick (not (begins_with key q) || (length q == 0)))
        where
          absent : map.contains_key (table_view t).kept q ≡ false
          absent = kept_test t trie q ∙ ap is_some (below-off t t.root q (λ z. off (ap (λ k. length k % 5) (sym e) ∙ z)))

          pick : (b : Bool) → cond b (map.contains_key (table_view t).kept q) false ≡ false
          pick true = absent
          pick false = refl

      of : Begins q key → Goal
      of (outside it_not out) = cleared.kept_else q out ∙ sym (kept_test t trie q) ∙ ap (λ b. cond (not b || (length q == 0)) (map.contains_key (table_view t).kept q) false) (sym it_not)
      of (begins it_does [] e) = at_key it_does (e ∙ append_none key) (free (e ∙ append_none key))
      of (begins it_does (b ∷ r) e) =
          let a = length-append key (b ∷ r) in
          let z = ap length e in
          let some : length q ≢ 0 = (λ w. omega (arith, w, z, a)) in
          ap (is_kept t1) e ∙ cleared.kept_below (b ∷ r) (λ w. omega (arith, w))
          ∙ sym (λ j. cond (not (it_does j) || ne_eqb (length q) 0 some j) (map.contains_key (table_view t).kept q) false)

  -- the first step of the pruning takes the key itself
  first_step : (t t1 : Trie T) → IsTrie t → (key : KeyBits) → IsKeyCleared t t1 key → length key ≢ 0 → prune (table_view t1).entries (table_view t1).kept key ≡ prune (table_view t1).entries (kept_outside (table_view t).kept key) key
  first_step t t1 trie key cleared some = left (node_at t1 key) refl ∙ sym right
    where
      K : PositionSet
      K = kept_outside (table_view t).kept key

      not_there : map.contains_key K key ≡ false
      not_there = outside_test (table_view t).kept key key ∙ (λ j. cond (not (mine j) || ne_eqb (length key) 0 some j) (map.contains_key (table_view t).kept key) false)
        where
          mine : begins_with key key ≡ true
          mine = front_itself key

      absent : (o : Option (Unit {0})) → is_some o ≡ false → o ≡ None
      absent None e = refl
      absent (Some u) e = absurd cc

      right : prune (table_view t1).entries K key ≡ K
      right = of (is_bare (map.get (table_view t1).entries) (map.contains_key K) key)
        where
          of : (b : Bool) → cond b (map.remove K key) K ≡ K
          of true = remove_absent_position K key (absent (map.get K key) not_there)
          of false = refl

      elsewhere : (q : KeyBits) → same_key q key ≡ false → is_kept t1 q ≡ map.contains_key K q
      elsewhere q differ = erased_kept t t1 trie key cleared q (λ e. absurd (let yes = ap (λ k. same_key k key) e ∙ same_key-itself key in cc))

      removed : map.remove (table_view t1).kept key ≡ K
      removed = map.same_map shorter_total shorter_exact _ _ (λ q. alike (map.get (map.remove (table_view t1).kept key) q) (map.get K q) (contains_remove (table_view t1).kept key q ∙ of q (same_or_other q key)))
        where
          alike : (a b : Option (Unit {0})) → is_some a ≡ is_some b → a ≡ b
          alike None None e = refl
          alike (Some u) (Some v) e = refl
          alike None (Some v) e = absurd cc
          alike (Some u) None e = absurd cc

          of : (q : KeyBits) → Same q key → (not (same_key q key) && map.contains_key (table_view t1).kept q) ≡ map.contains_key K q
          of q (same e) = ap (λ b. not b && map.contains_key (table_view t1).kept q) (ap (λ k. same_key k key) e ∙ same_key-itself key) ∙ sym (ap (map.contains_key K) e ∙ not_there)
          of q (other differ) = ap (λ b. not b && map.contains_key (table_view t1).kept q) differ ∙ kept_test t1 cleared.trie q ∙ elsewhere q differ

      left : (o : Option Node) → node_at t1 key ≡ o → prune (table_view t1).entries (table_view t1).kept key ≡ K
      left (Some n) at =
          let bare = bare_bits t1 cleared.trie key n at cleared.held_below (λ r away. cleared.kept_below r (λ z. away (ap (λ k. key ++ k) (no_length r z) ∙ append_none key))) in
          ap (λ b. cond b (map.remove (table_view t1).kept key) (table_view t1).kept) (bare_test t1 cleared.trie key n at ∙ (λ j. (bare.0 j == 0) && (bare.1 j == 0)))
          ∙ removed
      left None at = of (is_bare (map.get (table_view t1).entries) (map.contains_key (table_view t1).kept) key)
        where
          gone : map.get (table_view t1).kept key ≡ None
          gone = absent (map.get (table_view t1).kept key) (kept_test t1 cleared.trie key ∙ ap is_some at)

          unchanged : map.remove (table_view t1).kept key ≡ (table_view t1).kept
          unchanged = remove_absent_position (table_view t1).kept key gone

          of : (b : Bool) → cond b (map.remove (table_view t1).kept key) (table_view t1).kept ≡ K
          of true = removed
          of false = sym unchanged ∙ removed

  steps_alike : (m : KeyMap T) (K1 K2 : PositionSet) (key : KeyBits) (n d : ℕ) → length key ≡ d + 5 * suc n → prune m K1 key ≡ prune m K2 key → prune_steps m K1 key (suc n) d ≡ prune_steps m K2 key (suc n) d
  steps_alike m K1 K2 key zero d size e =
      let whole : take (d + 5) key ≡ key = take_whole key (d + 5) (omega (arith, size)) in
      ap (prune m K1) whole ∙ e ∙ ap (prune m K2) (sym whole)
    where
      take_whole : (k : KeyBits) (n : ℕ) → length k ≡ n → take n k ≡ k
      take_whole [] zero z = refl
      take_whole [] (suc n) z = refl
      take_whole (b ∷ k) zero z = absurd (omega arith)
      take_whole (b ∷ k) (suc n) z = ap (λ l. b ∷ l) (take_whole k n (omega arith))
  steps_alike m K1 K2 key (suc n) d size e = ap (λ kept. prune m kept (take (d + 5) key)) (steps_alike m K1 K2 key n (d + 5) (omega (arith, size)) e)

  pub erased_pruned : (t t1 : Trie T) → IsTrie t → (key : KeyBits) → IsKeyCleared t t1 key → pruned (table_view t1).entries (table_view t1).kept key ≡ pruned (table_view t1).entries (kept_outside (table_view t).kept key) key
  erased_pruned t t1 trie key cleared = of (eqb_tells (length key) 0) (length key % 5) refl
    where
      all_same : ((length key ≡ 0) ⊎ (length key % 5 ≢ 0)) → pruned (table_view t1).entries (table_view t1).kept key ≡ pruned (table_view t1).entries (kept_outside (table_view t).kept key) key
      all_same free = ap (λ kept. pruned (table_view t1).entries kept key) (kept_told t1 cleared.trie (kept_outside (table_view t).kept key) (λ q. erased_kept t t1 trie key cleared q (λ e. free)))

      steps : (n : ℕ) → length key / 5 ≡ n → length key ≢ 0 → length key % 5 ≡ 0 → pruned (table_view t1).entries (table_view t1).kept key ≡ pruned (table_view t1).entries (kept_outside (table_view t).kept key) key
      steps zero e some five = absurd (omega (arith, e, some, five))
      steps (suc n) e some five =
          ap (λ k. prune_steps (table_view t1).entries (table_view t1).kept key k 0) e
          ∙ steps_alike (table_view t1).entries (table_view t1).kept (kept_outside (table_view t).kept key) key n 0 (omega (arith, e, five)) (first_step t t1 trie key cleared some)
          ∙ ap (λ k. prune_steps (table_view t1).entries (kept_outside (table_view t).kept key) key k 0) (sym e)

      of : (((length key == 0) ≡ true) × (length key ≡ 0)) ⊎ (((length key == 0) ≡ false) × (length key ≢ 0)) → (m : ℕ) → length key % 5 ≡ m → pruned (table_view t1).entries (table_view t1).kept key ≡ pruned (table_view t1).entries (kept_outside (table_view t).kept key) key
      of (inl none) m e = all_same (inl none.1)
      of (inr some) zero e = steps (length key / 5) refl some.1 e
      of (inr some) (suc m) e = all_same (inr (λ z. omega (arith, e, z)))

  -- the key itself is not stored any more
  pub erased_same : (t t1 : Trie T) (key : KeyBits) → IsKeyCleared t t1 key → map.remove (table_view t1).entries key ≡ (table_view t1).entries
  erased_same t t1 key cleared = remove_absent (table_view t1).entries key (get_entry t1 cleared.trie key ∙ ap (held t1) (sym (append_none key)) ∙ cleared.held_below [])
