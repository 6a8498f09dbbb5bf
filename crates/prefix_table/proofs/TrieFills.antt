-- A node filled with all its values.
use Rattle.std.specs.Prelude.{◌≡◌, ◌≢◌, ℕ, ◌+◌, ◌*◌, ◌/◌, ◌%◌, ◌^◌, ◌<◌, ◌≤◌, Bool, true, false, cond, List, [], ◌++◌, length, map, take, drop, Option, Some, None, is_some}
use Rattle.std.proofs.Common.{refl, sym, ap, ◌∙◌, arith, length-take}
use Rattle.std.specs.Option.{unwrap_or}
use Rattle.std.specs.FinMap as map_of
use Rattle.std.proofs.lemmas.List.{take-append-drop}
use lib.Count.{ones}
use Rattle.prefix_model.specs.Keys.{KeyBits, same_key, stands_in}
use Rattle.prefix_model.specs.Positions.{with_positions}
use Rattle.prefix_model.specs.Building.{insert_all}
use Rattle.prefix_model.proofs.Building.{get-insert_all}
use Rattle.prefix_model.proofs.KeyLemmas.{same_key-itself}
use Rattle.prefix_model.proofs.Order.{key_total, key_exact}
use Rattle.prefix_blocks.specs.Blocks.{BlocksView}
use Rattle.prefix_table.specs.NodeLists.{ListsOf, block, items_of}
use Rattle.prefix_model.specs.Slots.{picked}
use Rattle.prefix_table.specs.Tries.{bit_of, node_at, number_at, held, table_view, IsTrie}
use Rattle.prefix_table.specs.Writes.{with_node, IsSameTrie, IsWayMade}
use Rattle.prefix_table.specs.Fills.{node_entries, IsFilled, IsNodeEntered, IsNodeRefused}
use Rattle.prefix_table.specs.declared.trie.Node.{Node}
use Rattle.prefix_table.specs.declared.trie.Trie.{Trie}
use Rattle.prefix_model.proofs.KeyLists.{Same, same_or_other, not_same}
use Rattle.prefix_model.proofs.KeyLists.Same.{same, other}
use Rattle.prefix_model.proofs.Bitmaps.SlotLaws.{ones_some}
use Rattle.prefix_table.proofs.StoreLaws.{get_same, block_some}
use Rattle.prefix_table.proofs.TrieWays.{items_some}
use Rattle.prefix_table.proofs.TrieViews.{get_entry}
use Rattle.prefix_table.proofs.TrieChanges.{items_other, nodes_same, changed_trie, held_same, IsReady, written, number_above}
use Rattle.prefix_table.proofs.TrieWrites.{front_of, rest_of, rest_short, with_node-values, which_same, kept_same}
use Rattle.prefix_table.proofs.TrieInserts.{same_alike, way_kept}
use Rattle.prefix_table.proofs.PositionLaws.{kept_same_set, entries_same}
use Rattle.prefix_table.proofs.FillEntries.{entries_held, entry_stands}

abbrev pub filled_node : Node → ℕ → ℕ → Node
filled_node n bits b = record n { data_bits = bits; values = b }

-- a list that stands in a block stands in no new one
not_new : {A : Type 0} (lists : ListsOf A) (b : ℕ) → map_of.get lists b ≡ None → (bits at : ℕ) → length (items_of lists bits at) ≡ ones bits → bits ≢ 0 → at ≢ b
not_new {A} lists b fresh bits at count some z =
    let held_length = ap length (items_some lists bits at some) in
    let there : map_of.get lists at ≡ Some (block lists at) = block_some lists at (λ none. ones_some bits some (sym count ∙ held_length ∙ none)) in
    let gone = ap (map_of.get lists) z ∙ fresh in
    let e : ◌≡◌ {A = Option (List A)} (Some (block lists at)) None = sym there ∙ gone in cc

module _ {T : Type 0} where
  -- a list of values in a new block
  pub record IsNewList (old new : ListsOf T) (bits b : ℕ) (vs : List T) : Type 0 where
    pub lists : new ≡ map_of.insert old b vs
    pub fresh : map_of.get old b ≡ None
    pub some : bits ≢ 0
    pub count : length vs ≡ ones bits

  new_items : (old new : ListsOf T) (bits b : ℕ) (vs : List T) → IsNewList old new bits b vs → items_of new bits b ≡ vs
  new_items old new bits b vs l = items_some new bits b l.some ∙ ap (λ o. unwrap_or o []) (ap (λ m. map_of.get m b) l.lists ∙ get_same old b vs)

  fill_ready : (t : Trie T) → IsTrie t → (p : KeyBits) (n : Node) (bits b : ℕ) (vs : List T) (v : BlocksView T) → node_at t p ≡ Some n → bits < 2 ^ 31 → b < 2 ^ 32 → IsNewList t.values.lists v.lists bits b vs
      → IsReady t (record t { values = v }) p (filled_node n bits b)
  fill_ready t trie p n bits b vs v at small range l =
      let node = trie.each p n at in
      record {
        root = refl;
        node = record {
          depth_within = node.depth_within;
          data_within = small;
          child_within = node.child_within;
          values_within = range;
          children_within = node.children_within;
          values = ap length (new_items t.values.lists v.lists bits b vs l) ∙ l.count;
          children = node.children;
        };
        children = λ q m e apart. refl;
        values = λ q m e apart. ap (λ lists. items_of lists m.data_bits m.values) l.lists ∙ items_other t.values.lists b m.data_bits m.values vs (away q m e);
        own_children = λ q m e apart some more z. apart (trie.own_children q p m n e at some more z);
        own_values = λ q m e apart some more. away q m e some;
      }
    where
      away : (q : KeyBits) (m : Node) → node_at t q ≡ Some m → m.data_bits ≢ 0 → m.values ≢ b
      away q m e some = not_new t.values.lists b l.fresh m.data_bits m.values (trie.each q m e).values some

  pub filled : (t : Trie T) → IsTrie t → (p : KeyBits) (a : ℕ) (n : Node) (bits b : ℕ) (vs : List T) (v : BlocksView T) → number_at t p ≡ Some a → node_at t p ≡ Some n → bits < 2 ^ 31 → b < 2 ^ 32 → IsNewList t.values.lists v.lists bits b vs
      → IsFilled t (with_node (record t { values = v }) a (filled_node n bits b)) p bits vs
  filled t trie p a n bits b vs v named at small range l =
      let n' = filled_node n bits b in
      let t1 : Trie T = record t { values = v } in
      let t' = with_node t1 a n' in
      let w = written t t1 trie p a n' named (fill_ready t trie p n bits b vs v at small range l) in
      let nodes = nodes_same t t' p n n' at w.changed (λ c l. w.children c) in
      let items : items_of t'.values.lists bits b ≡ vs = ap (λ (view : BlocksView T). items_of view.lists bits b) (with_node-values t1 a n') ∙ new_items t.values.lists v.lists bits b vs l in
      record {
        trie = changed_trie t t' trie p n' w.changed (which_same t t' p n' nodes);
        kept = kept_same t t' p n n' at nodes;
        held = λ k. held_same t t' p n' w.changed nodes k
            ∙ ap (λ vs. cond (same_key (take (length k / 5 * 5) k) p) (picked bits vs (bit_of (drop (length k / 5 * 5) k))) (held t k)) items;
        numbers = λ q r x e h.
            number_above t t' p n n' at w.changed (λ u l. nodes u ∙ ap (λ c. cond c (Some n') (node_at t u)) (not_same u p (λ z. let y = ap length z in omega (arith, y, l)))) q r e ∙ h;
      }

  -- ---- what a contract sees

  -- at a place of the node stands its value, and elsewhere what stood there
  entries_filled : (t t' : Trie T) → IsTrie t → IsTrie t' → (p : KeyBits) (bits : ℕ) (vs : List T) → length p % 5 ≡ 0 → ((s : KeyBits) → length s < 5 → held t (p ++ s) ≡ None)
      → ((k : KeyBits) → held t' k ≡ cond (same_key (take (length k / 5 * 5) k) p) (picked bits vs (bit_of (drop (length k / 5 * 5) k))) (held t k))
      → ((s : KeyBits) → length s < 5 → held t' (p ++ s) ≡ picked bits vs (bit_of s))
      → (table_view t').entries ≡ insert_all (table_view t).entries (node_entries p bits vs)
  entries_filled t t' trie trie' p bits vs five none told here = map_of.same_map key_total key_exact _ _ (λ k.
      get_entry t' trie' k ∙ at k (stands_in (keys_of es) k) refl
      ∙ sym (get-insert_all (held t') es (table_view t).entries (entries_held p (held t') bits vs here) k ∙ ap (cond (stands_in (keys_of es) k) (held t' k)) (get_entry t trie k)))
    where
      es : List (KeyBits × T)
      es = node_entries p bits vs

      keys_of : List (KeyBits × T) → List KeyBits
      keys_of es = map (λ e. e.0) es

      -- a key that is none of theirs
      else : (k : KeyBits) → stands_in (keys_of es) k ≡ false → Same (take (length k / 5 * 5) k) p → cond (same_key (take (length k / 5 * 5) k) p) (picked bits vs (bit_of (drop (length k / 5 * 5) k))) (held t k) ≡ held t k
      else k out (other differ) = ap (λ b. cond b (picked bits vs (bit_of (drop (length k / 5 * 5) k))) (held t k)) differ
      else k out (same e) =
          ap (λ b. cond b (picked bits vs (bit_of d)) (held t k)) (ap (λ l. same_key l p) e ∙ same_key-itself p)
          ∙ by_value (picked bits vs (bit_of d)) refl
          ∙ sym (ap (held t) whole ∙ none d (rest_short k))
        where
          d : KeyBits
          d = drop (length k / 5 * 5) k

          whole : k ≡ p ++ d
          whole = sym (take-append-drop (length k / 5 * 5) k) ∙ ap (λ f. f ++ d) e

          by_value : (o : Option T) → picked bits vs (bit_of d) ≡ o → picked bits vs (bit_of d) ≡ None
          by_value None z = z
          by_value (Some v) z = absurd (let yes : stands_in (keys_of es) k ≡ true = ap (stands_in (keys_of es)) whole ∙ entry_stands p bits vs d v (rest_short k) z in cc)

      at : (k : KeyBits) (b : Bool) → stands_in (keys_of es) k ≡ b → held t' k ≡ cond (stands_in (keys_of es) k) (held t' k) (held t k)
      at k true e = ap (λ b. cond b (held t' k) (held t k)) (sym e)
      at k false e = told k ∙ else k e (same_or_other (take (length k / 5 * 5) k) p) ∙ ap (λ b. cond b (held t' k) (held t k)) (sym e)

  -- room was made, then the nodes on the way, and then the last of them was filled
  pub node_entered : (t t1 t2 t3 : Trie T) → IsTrie t → IsSameTrie t t1 → (bits : KeyBits) (len at2 depth2 : ℕ) → len ≤ length bits → len % 5 ≡ 0 → ((s : KeyBits) → length s < 5 → held t (take len bits ++ s) ≡ None)
      → IsWayMade t1 t2 bits len at2 depth2 → len < depth2 + 5 → (data_bits : ℕ) (vs : List T) → ((p : KeyBits) → number_at t2 p ≡ Some at2 → IsFilled t2 t3 p data_bits vs) → IsNodeEntered t t3 (take len bits) data_bits vs
  node_entered t t1 t2 t3 trie roomy bits len at2 depth2 within five none made short data_bits vs done =
      let p = take len bits in
      let size = length-take len bits in
      let from = made.way.from in
      let deep = made.way.at_five in
      let last : depth2 ≡ len = omega (arith, from, deep, five, short) in
      let fill = done p (ap (λ d. number_at t2 (take d bits)) (sym last) ∙ made.way.here) in
      let alike = same_alike t t1 roomy in
      let trie1 = alike.trie trie in
      let lp : length p % 5 ≡ 0 = omega (arith, size, five, within) in
      let told : (k : KeyBits) → held t3 k ≡ cond (same_key (take (length k / 5 * 5) k) p) (picked data_bits vs (bit_of (drop (length k / 5 * 5) k))) (held t k) =
      (λ k. fill.held k ∙ ap (cond (same_key (take (length k / 5 * 5) k) p) (picked data_bits vs (bit_of (drop (length k / 5 * 5) k)))) (made.held k ∙ alike.held k)) in
      record {
        trie = fill.trie;
        entries = entries_filled t t3 trie fill.trie p data_bits vs lp none told (λ s ls. at_place p s lp ls (told (p ++ s)));
        kept =
            kept_same_set t2 t3 made.trie fill.trie fill.kept
            ∙ sym (way_kept t2 made.trie bits len at2 depth2 within made.way short)
            ∙ made.kept
            ∙ ap (λ kept. with_positions kept p) (kept_same_set t t1 trie trie1 (λ q. ap is_some (alike.nodes q)));
        numbers = λ q r a e h. fill.numbers q r a e (made.numbers q r a e (alike.numbers q ∙ h));
      }
    where
      at_place : (p s : KeyBits) → length p % 5 ≡ 0 → length s < 5 → {o : Option T} → o ≡ cond (same_key (take (length (p ++ s) / 5 * 5) (p ++ s)) p) (picked data_bits vs (bit_of (drop (length (p ++ s) / 5 * 5) (p ++ s)))) (held t (p ++ s)) → o ≡ picked data_bits vs (bit_of s)
      at_place p s lp ls {o} e =
          e ∙ (λ j. cond (same_key (front_of p s lp ls j) p) (picked data_bits vs (bit_of (rest_of p s lp ls j))) (held t (p ++ s)))
          ∙ ap (λ b. cond b (picked data_bits vs (bit_of s)) (held t (p ++ s))) (same_key-itself p)

  -- room was made twice
  pub same_twice : (t t1 t2 : Trie T) → IsSameTrie t t1 → IsSameTrie t1 t2 → IsSameTrie t t2
  same_twice t t1 t2 first second = record { root = second.root ∙ first.root; nodes = second.nodes ∙ first.nodes; values = second.values ∙ first.values }

  pub node_refused : (t t1 : Trie T) → IsTrie t → IsSameTrie t t1 → (p : KeyBits) → IsNodeRefused t t1 p
  node_refused t t1 trie roomy p =
      let alike = same_alike t t1 roomy in
      let trie1 = alike.trie trie in
      record {
        trie = trie1;
        unchanged = record { entries = entries_same t t1 trie trie1 alike.held; kept = kept_same_set t t1 trie trie1 (λ q. ap is_some (alike.nodes q)) };
        numbers = λ q r a e h. alike.numbers q ∙ h;
      }

-- a node further down stands five bits or more below
pub five_down : (len depth : ℕ) → len % 5 ≡ 0 → depth % 5 ≡ 0 → depth ≤ len → len ≢ depth → depth + 5 ≤ len
five_down len depth a b up differ = omega (arith, a, b, up, differ)
