-- A value and a node added to a trie, and taken away.
use Rattle.std.specs.Prelude.{◌≡◌, ◌≢◌, ℕ, ◌+◌, ◌-◌, ◌*◌, ◌/◌, ◌%◌, ◌^◌, ◌<◌, ◌≤◌, ◌==◌, ◌||◌, ◌&&◌, not, ◌⊎◌, Bool, true, false, cond, [], ◌∷◌, ◌++◌, length, take, drop, Option, Some, None, is_some, slice_get, slice_set}
use Rattle.std.proofs.Common.{refl, sym, ap, ◌∙◌, subst, arith, length-append, length-drop, inl, inr, lit<}
use Rattle.std.specs.Option.{option_and_then}
use Rattle.std.specs.Int.{bit_at}
use Rattle.std.proofs.Math.Seq.{take-append_seam}
use Rattle.std.proofs.lemmas.Option.{same_Some}
use Rattle.std.proofs.lemmas.List.{take-append-drop, take-append-le}
use Rattle.std.proofs.lemmas.Bool.Decides.{eqb_tells}
use lib.Count.{ones}
use Rattle.std.specs.FinMap as map
use Rattle.prefix_model.specs.Keys.{KeyBits, number, low_bits, same_key}
use Rattle.prefix_model.specs.Positions.{data_places}
use Rattle.prefix_model.proofs.KeyNumbers.{length-low_bits}
use Rattle.prefix_model.proofs.KeyLemmas.{same_key-itself, or_true}
use Rattle.prefix_blocks.specs.Blocks.{BlocksView, with_item}
use Rattle.prefix_table.specs.NodeLists.{block, items_of}
use Rattle.prefix_model.specs.Slots.{picked, place}
use Rattle.prefix_table.specs.Tries.{child, value_of, child_number, number_below, bit_of, node_at, number_at, held, is_kept, IsNode, IsTrie}
use Rattle.prefix_table.specs.Writes.{with_node, IsChanged, IsAdded, IsStored, IsTaken, IsCut, IsBareChild, IsValueAt}
use Rattle.prefix_table.specs.declared.trie.Node.{Node}
use Rattle.prefix_table.specs.declared.trie.Trie.{Trie}
use Rattle.prefix_model.proofs.Bitmaps.SlotLaws.{picked_clear, picked-place, set_within, ones-set, place-lt, length-set_at, picked-set_same, picked-set_other}
use Rattle.prefix_model.proofs.KeyLists.{Same, same_or_other, not_same, not_one}
use Rattle.prefix_model.proofs.KeyPlaces.{place_at}
use Rattle.prefix_model.proofs.KeyLists.Same.{same, other}
use Rattle.prefix_table.proofs.StoreLaws.{place_set, ones_within, IsGrownIn, IsApart, grown_other, grown_count, grown_picked, IsShrunkIn, shrunk_other, shrunk_count, shrunk_picked}
use Rattle.prefix_table.proofs.TrieWays.{number_tells, is_child, items_some, bits_some, child_below, child_number_below, kept_length, node_root}
use Rattle.prefix_model.proofs.Fronts.{append_none, drop_front}
use Rattle.prefix_table.proofs.TrieReads.{held_here, place_held}
use Rattle.prefix_table.proofs.TrieNew.{bare, no_child, no_value}
use Rattle.prefix_table.proofs.TrieChanges.{items_other, block_same, longer, nodes_same, nodes_linked, IsLinked, Which, changed_trie, held_same, held_linked, IsReady, IsWritten, written, number_above}
use Rattle.prefix_model.proofs.KeyPieces.{number_five}
use Rattle.prefix_table.proofs.TrieChanges.Which.{changed, stayed, new_bare}

-- ---- a key by its position and what follows

pub place_told : (s d : KeyBits) → length s < 5 → length d < 5 → bit_of s ≡ bit_of d → s ≡ d
place_told s d ls ld e = same_Some s d (sym (place_at s (length s) refl ls) ∙ ap (slice_get data_places) e ∙ place_at d (length d) refl ld)

pub front_of : (p s : KeyBits) → length p % 5 ≡ 0 → length s < 5 → take (length (p ++ s) / 5 * 5) (p ++ s) ≡ p
front_of p s lp ls = let whole = length-append p s in ap (λ d. take d (p ++ s)) (let depth : length (p ++ s) / 5 * 5 ≡ length p = omega (arith, whole, lp, ls) in depth) ∙ take-append_seam p s

pub rest_of : (p s : KeyBits) → length p % 5 ≡ 0 → length s < 5 → drop (length (p ++ s) / 5 * 5) (p ++ s) ≡ s
rest_of p s lp ls = let whole = length-append p s in ap (λ d. drop d (p ++ s)) (let depth : length (p ++ s) / 5 * 5 ≡ length p = omega (arith, whole, lp, ls) in depth) ∙ drop_front p s

pub rest_short : (k : KeyBits) → length (drop (length k / 5 * 5) k) < 5
rest_short k = let a = length-drop (length k / 5 * 5) k in omega (arith, a)

-- whether a key is that of a place of a node, by its position and its bit
pub key_told : (k p s : KeyBits) → length p % 5 ≡ 0 → length s < 5 → same_key k (p ++ s) ≡ cond (same_key (take (length k / 5 * 5) k) p) (bit_of (drop (length k / 5 * 5) k) == bit_of s) false
key_told k p s lp ls = of (same_or_other (take (length k / 5 * 5) k) p) (eqb_tells (bit_of (drop (length k / 5 * 5) k)) (bit_of s))
  where
    q : KeyBits
    q = take (length k / 5 * 5) k

    d : KeyBits
    d = drop (length k / 5 * 5) k

    of : Same q p → (((bit_of d == bit_of s) ≡ true) × (bit_of d ≡ bit_of s)) ⊎ (((bit_of d == bit_of s) ≡ false) × (bit_of d ≢ bit_of s)) → same_key k (p ++ s) ≡ cond (same_key q p) (bit_of d == bit_of s) false
    of (other differ) b = not_same k (p ++ s) (λ z. not_one q p differ (ap (λ l. take (length l / 5 * 5) l) z ∙ front_of p s lp ls)) ∙ sym (ap (λ t. cond t (bit_of d == bit_of s) false) differ)
    of (same e) (inl here) =
        let ends = place_told d s (rest_short k) ls here.1 in
        let whole : k ≡ p ++ s = sym (take-append-drop (length k / 5 * 5) k) ∙ (λ j. e j ++ ends j) in
        ap (λ l. same_key l (p ++ s)) whole ∙ same_key-itself (p ++ s) ∙ sym (ap (λ t. cond t (bit_of d == bit_of s) false) (ap (λ l. same_key l p) e ∙ same_key-itself p) ∙ here.0)
    of (same e) (inr away) =
        not_same k (p ++ s) (λ z. away.1 (ap bit_of (ap (λ l. drop (length l / 5 * 5) l) z ∙ rest_of p s lp ls)))
        ∙ sym (ap (λ t. cond t (bit_of d == bit_of s) false) (ap (λ l. same_key l p) e ∙ same_key-itself p) ∙ away.0)

-- a key that is at most as long as p, and that p and more begin with
front_of_front : (p s q r : KeyBits) → p ++ s ≡ q ++ r → length q ≤ length p → p ≡ q ++ drop (length q) p
front_of_front p s q r e short =
    let front : q ≡ take (length q) p = sym (take-append_seam q r) ∙ ap (take (length q)) (sym e) ∙ take-append-le (length q) p s short in
    sym (take-append-drop (length q) p) ∙ ap (λ f. f ++ drop (length q) p) (sym front)

abbrev pub more_data : Node → ℕ → ℕ → Node
more_data n slot b = record n { data_bits = n.data_bits + 2 ^ slot; values = b }

abbrev pub more_children : Node → ℕ → ℕ → Node
more_children n slot b = record n { child_bits = n.child_bits + 2 ^ slot; children = b }

abbrev pub less_data : Node → ℕ → Node
less_data n m = record n { data_bits = m }

abbrev pub less_children : Node → ℕ → Node
less_children n m = record n { child_bits = m }

module _ {T : Type 0} where
  pub with_node-values : (t : Trie T) (a : ℕ) (n : Node) → (with_node t a n).values ≡ t.values
  with_node-values t a n = of (a == 0)
    where
      of : (b : Bool) → (cond b (record t { root = n }) (record t { nodes = with_item t.nodes ((a - 1) / 32) ((a - 1) % 32) n })).values ≡ t.values
      of true = refl
      of false = refl

  -- what is held, where one place of a node is set to x
  pub held_told : (t t' : Trie T) (p s : KeyBits) (n n' : Node) (x : Option T) → length s < 5 → node_at t p ≡ Some n
      → ((k : KeyBits) → held t' k ≡ cond (same_key (take (length k / 5 * 5) k) p) (value_of t' n' (bit_of (drop (length k / 5 * 5) k))) (held t k))
      → ((b : ℕ) → value_of t' n' b ≡ cond (b == bit_of s) x (value_of t n b))
      → (k : KeyBits) → held t' k ≡ cond (same_key k (p ++ s)) x (held t k)
  held_told t t' p s n n' x ls at all place_is k =
      all k ∙ of (same_or_other q p) ∙ ap (λ b. cond b x (held t k)) (sym (key_told k p s (kept_length t p n at) ls))
    where
      q : KeyBits
      q = take (length k / 5 * 5) k

      d : KeyBits
      d = drop (length k / 5 * 5) k

      of : Same q p → cond (same_key q p) (value_of t' n' (bit_of d)) (held t k) ≡ cond (cond (same_key q p) (bit_of d == bit_of s) false) x (held t k)
      of (other differ) = ap (λ b. cond b (value_of t' n' (bit_of d)) (held t k)) differ ∙ ap (λ b. cond (cond b (bit_of d == bit_of s) false) x (held t k)) (sym differ)
      of (same e) =
          let here : same_key q p ≡ true = ap (λ l. same_key l p) e ∙ same_key-itself p in
          let old : held t k ≡ value_of t n (bit_of d) = ap (option_and_then (λ m. value_of t m (bit_of d))) (ap (node_at t) e ∙ at) in
          ap (λ b. cond b (value_of t' n' (bit_of d)) (held t k)) here ∙ place_is (bit_of d) ∙ ap (cond (bit_of d == bit_of s) x) (sym old)
          ∙ ap (λ b. cond (cond b (bit_of d == bit_of s) false) x (held t k)) (sym here)

  -- each node after a change that adds none
  pub which_same : (t t' : Trie T) (p : KeyBits) (n' : Node) → ((q : KeyBits) → node_at t' q ≡ cond (same_key q p) (Some n') (node_at t q)) → (q : KeyBits) (m : Node) → node_at t' q ≡ Some m → Which t t' p n' q m
  which_same t t' p n' nodes q m e = of (same_or_other q p)
    where
      of : Same q p → Which t t' p n' q m
      of (same z) = changed z (same_Some m n' (sym e ∙ nodes q ∙ ap (λ b. cond b (Some n') (node_at t q)) (ap (λ l. same_key l p) z ∙ same_key-itself p)))
      of (other differ) = stayed (not_one q p differ) (ap (λ b. cond b (Some n') (node_at t q)) (sym differ) ∙ sym (nodes q) ∙ e)

  pub kept_same : (t t' : Trie T) (p : KeyBits) (n n' : Node) → node_at t p ≡ Some n → ((q : KeyBits) → node_at t' q ≡ cond (same_key q p) (Some n') (node_at t q)) → (q : KeyBits) → is_kept t' q ≡ is_kept t q
  kept_same t t' p n n' at nodes q = ap is_some (nodes q) ∙ of (same_or_other q p)
    where
      of : Same q p → is_some (cond (same_key q p) (Some n') (node_at t q)) ≡ is_some (node_at t q)
      of (same z) = ap (λ b. is_some (cond b (Some n') (node_at t q))) (ap (λ l. same_key l p) z ∙ same_key-itself p) ∙ sym (ap is_some (ap (node_at t) z ∙ at))
      of (other differ) = ap (λ b. is_some (cond b (Some n') (node_at t q))) differ

  -- ---- the numbers of nodes, where values change

  valued_number : (t : Trie T) (v : BlocksView T) (n : Node) (z : ℕ) (p : KeyBits) → number_below (record t { values = v }) n z p ≡ number_below t n z p
  unfolding number_below
  valued_number t v n z [] = refl
  valued_number t v n z (a ∷ []) = refl
  valued_number t v n z (a ∷ b ∷ []) = refl
  valued_number t v n z (a ∷ b ∷ c ∷ []) = refl
  valued_number t v n z (a ∷ b ∷ c ∷ d ∷ []) = refl
  valued_number t v n z (a ∷ b ∷ c ∷ d ∷ e ∷ p) =
      of (child t n (number (a ∷ b ∷ c ∷ d ∷ e ∷ []))) (λ m. valued_number t v m (child_number n (number (a ∷ b ∷ c ∷ d ∷ e ∷ []))) p)
    where
      k : ℕ
      k = child_number n (number (a ∷ b ∷ c ∷ d ∷ e ∷ []))

      of : (o : Option Node) → ((m : Node) → number_below (record t { values = v }) m k p ≡ number_below t m k p) → option_and_then (λ m. number_below (record t { values = v }) m k p) o ≡ option_and_then (λ m. number_below t m k p) o
      of None rest = refl
      of (Some m) rest = rest m

  above_place : (t : Trie T) → IsTrie t → (p s q r : KeyBits) (n : Node) (x : ℕ) → node_at t p ≡ Some n → length s < 5 → p ++ s ≡ q ++ r → number_at t q ≡ Some x → length q ≤ length p
  above_place t trie p s q r n x at ls e h =
      let found = number_tells t trie q x h in
      let lq = kept_length t q found.0 found.1.here in
      let lp = kept_length t p n at in
      let a = length-append p s in
      let b = length-append q r in
      let same = ap length e in
      omega (arith, lq, lp, a, b, same, ls)

  -- ---- a value added

  value_ready : (t : Trie T) → IsTrie t → (p : KeyBits) (n : Node) (slot b : ℕ) (value : T) (v : BlocksView T) → node_at t p ≡ Some n → slot < 31 → bit_at n.data_bits slot ≡ 0 → b < 2 ^ 32
      → IsGrownIn t.values.lists v.lists n.data_bits n.values b slot value → IsReady t (record t { values = v }) p (more_data n slot b)
  value_ready t trie p n slot b value v at small clear range g =
      let node = trie.each p n at in
      record {
        root = refl;
        node = record {
          depth_within = node.depth_within;
          data_within = set_within n.data_bits slot 31 clear node.data_within small;
          child_within = node.child_within;
          values_within = range;
          children_within = node.children_within;
          values = grown_count t.values.lists v.lists n.data_bits n.values b slot value g clear node.values;
          children = node.children;
        };
        children = λ q m e apart. refl;
        values = λ q m e apart. (away q m e apart).items;
        own_children = λ q m e apart some more z. apart (trie.own_children q p m n e at some more z);
        own_values = λ q m e apart some more. (away q m e apart).other_block some;
      }
    where
      away : (q : KeyBits) (m : Node) → node_at t q ≡ Some m → q ≢ p → IsApart t.values.lists v.lists m.data_bits m.values b
      away q m e apart = grown_other t.values.lists v.lists n.data_bits n.values b slot value g m.data_bits m.values (trie.each q m e).values (λ some more z. apart (trie.own_values q p m n e at some more z))

  pub value_added : (t : Trie T) → IsTrie t → (p s : KeyBits) (a : ℕ) (n : Node) (slot b : ℕ) (value : T) (v : BlocksView T) → number_at t p ≡ Some a → node_at t p ≡ Some n → length s < 5 → bit_of s ≡ slot → slot < 31 → bit_at n.data_bits slot ≡ 0 → b < 2 ^ 32
      → IsGrownIn t.values.lists v.lists n.data_bits n.values b slot value → IsStored t (with_node (record t { values = v }) a (more_data n slot b)) (p ++ s) value
  value_added t trie p s a n slot b value v named at ls is small clear range g =
      let n' = more_data n slot b in
      let t1 : Trie T = record t { values = v } in
      let t' = with_node t1 a n' in
      let w = written t t1 trie p a n' named (value_ready t trie p n slot b value v at small clear range g) in
      let nodes = nodes_same t t' p n n' at w.changed (λ c l. w.children c) in
      record {
        trie = changed_trie t t' trie p n' w.changed (which_same t t' p n' nodes);
        kept = kept_same t t' p n n' at nodes;
        held = held_told t t' p s n n' (Some value) ls at (held_same t t' p n' w.changed nodes) (λ j.
            ap (λ (view : BlocksView T). picked n'.data_bits (items_of view.lists n'.data_bits n'.values) j) (with_node-values t1 a n')
            ∙ grown_picked t.values.lists v.lists n.data_bits n.values b slot value g clear (trie.each p n at).values j
            ∙ ap (λ k. cond (j == k) (Some value) (value_of t n j)) (sym is));
        numbers = λ q r x e h.
            number_above t t' p n n' at w.changed (λ u l. nodes u ∙ ap (λ c. cond c (Some n') (node_at t u)) (not_same u p (λ z. let y = ap length z in omega (arith, y, l))))
            q (drop (length q) p) (front_of_front p s q r e (above_place t trie p s q r n x at ls e h)) ∙ h;
      }

  -- ---- a node added

  pub child_ready : (t : Trie T) → IsTrie t → (p : KeyBits) (n : Node) (slot b : ℕ) (nodes : BlocksView Node) → node_at t p ≡ Some n → slot < 32 → bit_at n.child_bits slot ≡ 0 → b < 2 ^ 32
      → IsGrownIn t.nodes.lists nodes.lists n.child_bits n.children b slot bare → IsReady t (record t { nodes = nodes }) p (more_children n slot b)
  child_ready t trie p n slot b nodes at small clear range g =
      let node = trie.each p n at in
      record {
        root = refl;
        node = record {
          depth_within = node.depth_within;
          data_within = node.data_within;
          child_within = set_within n.child_bits slot 32 clear node.child_within small;
          values_within = node.values_within;
          children_within = range;
          values = node.values;
          children = grown_count t.nodes.lists nodes.lists n.child_bits n.children b slot bare g clear node.children;
        };
        children = λ q m e apart. (away q m e apart).items;
        values = λ q m e apart. refl;
        own_children = λ q m e apart some more. (away q m e apart).other_block some;
        own_values = λ q m e apart some more z. apart (trie.own_values q p m n e at some more z);
      }
    where
      away : (q : KeyBits) (m : Node) → node_at t q ≡ Some m → q ≢ p → IsApart t.nodes.lists nodes.lists m.child_bits m.children b
      away q m e apart = grown_other t.nodes.lists nodes.lists n.child_bits n.children b slot bare g m.child_bits m.children (trie.each q m e).children (λ some more z. apart (trie.own_children q p m n e at some more z))

  pub child_added : (t : Trie T) → IsTrie t → (p : KeyBits) (a : ℕ) (n : Node) (slot b number_is : ℕ) (nodes : BlocksView Node) → number_at t p ≡ Some a → node_at t p ≡ Some n → length p ≤ 120 → slot < 32 → bit_at n.child_bits slot ≡ 0 → b < 2 ^ 32
      → number_is ≡ b * 32 + place n.child_bits slot + 1
      → IsGrownIn t.nodes.lists nodes.lists n.child_bits n.children b slot bare → IsAdded t (with_node (record t { nodes = nodes }) a (more_children n slot b)) (p ++ low_bits 5 slot) number_is
  child_added t trie p a n slot b number_is nodes named at short small clear range is g = record {
    trie = changed_trie t t' trie p n' w.changed which;
    leaf = λ m e. (let is_bare = same_Some m bare (sym e ∙ leaf_at) in (ap (λ (l : Node). l.child_bits) is_bare, ap (λ (l : Node). l.data_bits) is_bare));
    named = child_number_below t' p (low_bits 5 slot) n' bare (length-low_bits 5 slot) here below ∙ ap Some (ap (child_number n') (number_five slot small) ∙ ap (λ k. b * 32 + k + 1) (place_set n.child_bits slot) ∙ sym is);
    kept = kept;
    held = λ k. held_linked t t' p n' (low_bits 5 slot) (Some bare) w.changed all (λ j. ap (option_and_then (λ m. value_of t m j)) nothing) (λ j. no_value t' bare j refl) k ∙ held_is k (same_or_other (take (length k / 5 * 5) k) p);
    values = with_node-values t1 a n';
    numbers = λ q s x e h. number_above t t' p n n' at w.changed shallower q (drop (length q) p) (front_of_front p (low_bits 5 slot) q s e (not_longer q s x e h)) ∙ h;
  }
    where
      n' : Node
      n' = more_children n slot b

      t1 : Trie T
      t1 = record t { nodes = nodes }

      t' : Trie T
      t' = with_node t1 a n'

      r : KeyBits
      r = p ++ low_bits 5 slot

      w : IsWritten t t1 t' p n'
      w = written t t1 trie p a n' named (child_ready t trie p n slot b nodes at small clear range g)

      picks : (j : ℕ) → child t' n' j ≡ cond (j == slot) (Some bare) (child t n j)
      picks j = w.children j ∙ grown_picked t.nodes.lists nodes.lists n.child_bits n.children b slot bare g clear (trie.each p n at).children j

      nothing : node_at t r ≡ None
      nothing = child_below t p (low_bits 5 slot) n (length-low_bits 5 slot) at ∙ ap (child t n) (number_five slot small)
          ∙ picked_clear n.child_bits (items_of t.nodes.lists n.child_bits n.children) slot (λ one. omega (arith, one, clear))

      linked : IsLinked t t' p n n' (low_bits 5 slot) (Some bare)
      linked = record {
        five = length-low_bits 5 slot;
        children = λ j l. picks j ∙ ap (λ k. cond (j == k) (Some bare) (child t n j)) (sym (number_five slot small));
        bare_before = λ j. ap (option_and_then (λ m. child t m j)) nothing;
        bare_after = λ j. no_child t' bare j refl;
      }

      all : (q : KeyBits) → node_at t' q ≡ cond (same_key q p) (Some n') (cond (same_key q r) (Some bare) (node_at t q))
      all = nodes_linked t t' p n n' (low_bits 5 slot) (Some bare) at w.changed linked

      here : node_at t' p ≡ Some n'
      here = all p ∙ ap (λ c. cond c (Some n') (cond (same_key p r) (Some bare) (node_at t p))) (same_key-itself p)

      shallower : (u : KeyBits) → length u < length p → node_at t' u ≡ node_at t u
      shallower u l =
          all u
          ∙ ap (λ c. cond c (Some n') (cond (same_key u r) (Some bare) (node_at t u))) (not_same u p (λ z. let y = ap length z in omega (arith, y, l)))
          ∙ ap (λ c. cond c (Some bare) (node_at t u)) (not_same u r (λ z. let y = ap length z in let f = length-append p (low_bits 5 slot) in omega (arith, y, f, l)))

      not_longer : (q s : KeyBits) (x : ℕ) → r ≡ q ++ s → number_at t q ≡ Some x → length q ≤ length p
      not_longer q [] x e h =
          let found = number_tells t trie q x h in
          let none = ap (node_at t) (sym (append_none q) ∙ sym e) ∙ nothing in
          absurd (let z : Some found.0 ≡ None = sym found.1.here ∙ none in cc)
      not_longer q (d ∷ s) x e h =
          let found = number_tells t trie q x h in
          let lq = kept_length t q found.0 found.1.here in
          let lp = kept_length t p n at in
          let five = length-low_bits 5 slot in
          let f = length-append p (low_bits 5 slot) in
          let g' = length-append q (d ∷ s) in
          let same = ap length e in
          omega (arith, lq, lp, five, f, g', same)

      off : same_key r p ≡ false
      off = not_same r p (longer p (low_bits 5 slot) (length-low_bits 5 slot))

      leaf_at : node_at t' r ≡ Some bare
      leaf_at = all r ∙ (λ j. cond (off j) (Some n') (cond (same_key-itself r j) (Some bare) (node_at t r)))

      below : child t' n' (number (low_bits 5 slot)) ≡ Some bare
      below = sym (child_below t' p (low_bits 5 slot) n' (length-low_bits 5 slot) here) ∙ leaf_at

      which : (q : KeyBits) (m : Node) → node_at t' q ≡ Some m → Which t t' p n' q m
      which q m e = of (same_or_other q p) (same_or_other q r)
        where
          of : Same q p → Same q r → Which t t' p n' q m
          of (same z) y = changed z (same_Some m n' (sym e ∙ ap (node_at t') z ∙ here))
          of (other differ) (same z) =
              let is_bare = same_Some m bare (sym e ∙ ap (node_at t') z ∙ leaf_at) in
              let size = ap length z in
              let whole = length-append p (low_bits 5 slot) in
              let five = length-low_bits 5 slot in
              new_bare (omega (arith, size, whole, five, short)) (ap (λ (l : Node). l.data_bits) is_bare) (ap (λ (l : Node). l.child_bits) is_bare)
              (rw is_bare (lit< tt)) (rw is_bare (lit< tt))
          of (other differ) (other apart) =
              stayed (not_one q p differ) (sym (all q ∙ (λ j. cond (differ j) (Some n') (cond (apart j) (Some bare) (node_at t q)))) ∙ e)

      kept : (q : KeyBits) → is_kept t' q ≡ (same_key q r || is_kept t q)
      kept q = ap is_some (all q) ∙ of (same_or_other q p) (same_or_other q r)
        where
          of : Same q p → Same q r → is_some (cond (same_key q p) (Some n') (cond (same_key q r) (Some bare) (node_at t q))) ≡ (same_key q r || is_kept t q)
          of (same z) y =
              ap (λ c. is_some (cond c (Some n') (cond (same_key q r) (Some bare) (node_at t q)))) (ap (λ l. same_key l p) z ∙ same_key-itself p)
              ∙ sym (ap (λ o. same_key q r || is_some o) (ap (node_at t) z ∙ at) ∙ or_true (same_key q r))
          of (other differ) (same z) =
              let yes : same_key q r ≡ true = ap (λ l. same_key l r) z ∙ same_key-itself r in
              (λ j. is_some (cond (differ j) (Some n') (cond (yes j) (Some bare) (node_at t q)))) ∙ ap (λ c. c || is_kept t q) (sym yes)
          of (other differ) (other apart) =
              (λ j. is_some (cond (differ j) (Some n') (cond (apart j) (Some bare) (node_at t q)))) ∙ ap (λ c. c || is_kept t q) (sym apart)

      held_is : (k : KeyBits) → Same (take (length k / 5 * 5) k) p → cond (same_key (take (length k / 5 * 5) k) p) (value_of t' n' (bit_of (drop (length k / 5 * 5) k))) (held t k) ≡ held t k
      held_is k (other differ) = ap (λ c. cond c (value_of t' n' (bit_of (drop (length k / 5 * 5) k))) (held t k)) differ
      held_is k (same z) =
          ap (λ c. cond c (value_of t' n' (bit_of (drop (length k / 5 * 5) k))) (held t k)) (ap (λ l. same_key l p) z ∙ same_key-itself p)
          ∙ ap (λ (view : BlocksView T). picked n.data_bits (items_of view.lists n.data_bits n.values) (bit_of (drop (length k / 5 * 5) k))) (with_node-values t1 a n')
          ∙ sym (ap (option_and_then (λ m. value_of t m (bit_of (drop (length k / 5 * 5) k)))) (ap (node_at t) z ∙ at))

-- where a bit is clear, fewer are set than there are
pub ones_below : (bits slot n : ℕ) → bit_at bits slot ≡ 0 → bits < 2 ^ n → slot < n → n ≤ 32 → ones bits < 32
ones_below bits slot n clear within small most =
    let more = set_within bits slot n clear within small in
    let l = ones_within n (bits + 2 ^ slot) more in
    let e = ones-set bits slot clear in
    omega (arith, l, e, most)

module _ {T : Type 0} where
  -- ---- a value replaced

  set_items : (t : Trie T) (n : Node) (slot : ℕ) (value : T) → bit_at n.data_bits slot ≡ 1
      → items_of (map.insert t.values.lists n.values (slice_set (block t.values.lists n.values) (place n.data_bits slot) value)) n.data_bits n.values ≡ slice_set (items_of t.values.lists n.data_bits n.values) (place n.data_bits slot) value
  set_items t n slot value set =
      let some = bits_some n.data_bits slot set in
      let items = slice_set (block t.values.lists n.values) (place n.data_bits slot) value in
      items_some (map.insert t.values.lists n.values items) n.data_bits n.values some ∙ block_same t.values.lists n.values items
      ∙ ap (λ xs. slice_set xs (place n.data_bits slot) value) (sym (items_some t.values.lists n.data_bits n.values some))

  replaced_changed : (t : Trie T) → IsTrie t → (p : KeyBits) (n : Node) (slot : ℕ) (value : T) → node_at t p ≡ Some n → bit_at n.data_bits slot ≡ 1
      → IsChanged t (record t { values = with_item t.values n.values (place n.data_bits slot) value }) p n
  replaced_changed t trie p n slot value at set = record {
    root = root (same_or_other [] p);
    node = record {
      depth_within = node.depth_within;
      data_within = node.data_within;
      child_within = node.child_within;
      values_within = node.values_within;
      children_within = node.children_within;
      values = ap length (set_items t n slot value set) ∙ length-set_at (items_of t.values.lists n.data_bits n.values) (place n.data_bits slot) value ∙ node.values;
      children = node.children;
    };
    others = λ q m e apart. record {
      children = λ c l. children q m e c (same_or_other (q ++ low_bits 5 c) p) l;
      child_count = refl;
      values = items_other t.values.lists n.values m.data_bits m.values (slice_set (block t.values.lists n.values) (place n.data_bits slot) value) (λ some z. apart (trie.own_values q p m n e at some (bits_some n.data_bits slot set) z));
      own_children = λ some more z. apart (trie.own_children q p m n e at some more z);
      own_values = λ some more z. apart (trie.own_values q p m n e at some more z);
    };
  }
    where
      node : IsNode t p n
      node = trie.each p n at

      root : Same [] p → t.root ≡ cond (same_key [] p) n t.root
      root (same z) = same_Some t.root n (sym (node_root t) ∙ ap (node_at t) z ∙ at) ∙ ap (λ b. cond b n t.root) (sym (ap (λ k. same_key k p) z ∙ same_key-itself p))
      root (other differ) = ap (λ b. cond b n t.root) (sym differ)

      children : (q : KeyBits) (m : Node) → node_at t q ≡ Some m → (c : ℕ) → Same (q ++ low_bits 5 c) p → c < 32 → child t m c ≡ cond (same_key (q ++ low_bits 5 c) p) (Some n) (child t m c)
      children q m e c (other differ) l = ap (λ b. cond b (Some n) (child t m c)) (sym differ)
      children q m e c (same z) l =
          ap (child t m) (sym (number_five c l)) ∙ sym (child_below t q (low_bits 5 c) m (length-low_bits 5 c) e) ∙ ap (node_at t) z ∙ at
          ∙ ap (λ b. cond b (Some n) (child t m c)) (sym (ap (λ k. same_key k p) z ∙ same_key-itself p))

  pub value_replaced : (t : Trie T) → IsTrie t → (p s : KeyBits) (n : Node) (slot : ℕ) (value : T) → node_at t p ≡ Some n → length s < 5 → bit_of s ≡ slot → bit_at n.data_bits slot ≡ 1
      → IsStored t (record t { values = with_item t.values n.values (place n.data_bits slot) value }) (p ++ s) value
  value_replaced t trie p s n slot value at ls is set =
      let t' : Trie T = record t { values = with_item t.values n.values (place n.data_bits slot) value } in
      let ch = replaced_changed t trie p n slot value at set in
      let nodes = nodes_same t t' p n n at ch (λ c l. refl) in
      record {
        trie = changed_trie t t' trie p n ch (which_same t t' p n nodes);
        kept = kept_same t t' p n n at nodes;
        held = held_told t t' p s n n (Some value) ls at (held_same t t' p n ch nodes) (λ j.
            ap (λ items. picked n.data_bits items j) (set_items t n slot value set) ∙ picks j (eqb_tells j slot) ∙ ap (λ k. cond (j == k) (Some value) (value_of t n j)) (sym is));
        numbers = λ q r x e h. valued_number t (with_item t.values n.values (place n.data_bits slot) value) t.root 0 q ∙ h;
      }
    where
      within : place n.data_bits slot < length (items_of t.values.lists n.data_bits n.values)
      within = let l = place-lt n.data_bits slot set in let e = (trie.each p n at).values in omega (arith, l, e)

      picks : (j : ℕ) → (((j == slot) ≡ true) × (j ≡ slot)) ⊎ (((j == slot) ≡ false) × (j ≢ slot))
          → picked n.data_bits (slice_set (items_of t.values.lists n.data_bits n.values) (place n.data_bits slot) value) j ≡ cond (j == slot) (Some value) (value_of t n j)
      picks j (inl here) =
          ap (picked n.data_bits (slice_set (items_of t.values.lists n.data_bits n.values) (place n.data_bits slot) value)) here.1
          ∙ picked-set_same n.data_bits (items_of t.values.lists n.data_bits n.values) slot value set within
          ∙ ap (λ b. cond b (Some value) (value_of t n j)) (sym here.0)
      picks j (inr away) = picked-set_other n.data_bits (items_of t.values.lists n.data_bits n.values) slot value j set away.1 ∙ ap (λ b. cond b (Some value) (value_of t n j)) (sym away.0)

  -- ---- a value taken away

  pub value_left : (t : Trie T) → IsTrie t → (p : KeyBits) (n : Node) (slot m : ℕ) (x : T) (v : BlocksView T) → node_at t p ≡ Some n → bit_at n.data_bits slot ≡ 1
      → IsShrunkIn t.values.lists v.lists n.data_bits n.values m slot x → IsReady t (record t { values = v }) p (less_data n m)
  value_left t trie p n slot m x v at set s =
      let node = trie.each p n at in
      let some = bits_some n.data_bits slot set in
      let sum = s.split.bits_are in
      record {
        root = refl;
        node = record {
          depth_within = node.depth_within;
          data_within = (let l = node.data_within in omega (arith, l, sum));
          child_within = node.child_within;
          values_within = node.values_within;
          children_within = node.children_within;
          values = shrunk_count t.values.lists v.lists n.data_bits n.values m slot x s node.values;
          children = node.children;
        };
        children = λ q k e apart. refl;
        values = λ q k e apart. shrunk_other t.values.lists v.lists n.data_bits n.values m slot x s k.data_bits k.values (λ more z. apart (trie.own_values q p k n e at more some z));
        own_children = λ q k e apart more other_some z. apart (trie.own_children q p k n e at more other_some z);
        own_values = λ q k e apart more other_some z. apart (trie.own_values q p k n e at more some z);
      }

  pub value_taken : (t : Trie T) → IsTrie t → (p s : KeyBits) (a : ℕ) (n : Node) (slot m : ℕ) (x : T) (v : BlocksView T) → number_at t p ≡ Some a → node_at t p ≡ Some n → length s < 5 → bit_of s ≡ slot → bit_at n.data_bits slot ≡ 1 → value_of t n slot ≡ Some x
      → IsShrunkIn t.values.lists v.lists n.data_bits n.values m slot x → IsTaken t (with_node (record t { values = v }) a (less_data n m)) (p ++ s) x
  value_taken t trie p s a n slot m x v named at ls is set read shrunk =
      let n' = less_data n m in
      let t1 : Trie T = record t { values = v } in
      let t' = with_node t1 a n' in
      let w = written t t1 trie p a n' named (value_left t trie p n slot m x v at set shrunk) in
      let nodes = nodes_same t t' p n n' at w.changed (λ c l. w.children c) in
      record {
        trie = changed_trie t t' trie p n' w.changed (which_same t t' p n' nodes);
        kept = kept_same t t' p n n' at nodes;
        held = held_told t t' p s n n' None ls at (held_same t t' p n' w.changed nodes) (λ j.
            ap (λ (view : BlocksView T). picked n'.data_bits (items_of view.lists n'.data_bits n'.values) j) (with_node-values t1 a n')
            ∙ shrunk_picked t.values.lists v.lists n.data_bits n.values m slot x shrunk (trie.each p n at).values j
            ∙ ap (λ k. cond (j == k) None (value_of t n j)) (sym is));
        was = held_here t p s n (kept_length t p n at) ls at ∙ ap (value_of t n) is ∙ read;
      }

  -- ---- a node taken away that has nothing in it

  pub child_left : (t : Trie T) → IsTrie t → (p : KeyBits) (n : Node) (slot m : ℕ) (leaf : Node) (nodes : BlocksView Node) → node_at t p ≡ Some n → bit_at n.child_bits slot ≡ 1
      → IsShrunkIn t.nodes.lists nodes.lists n.child_bits n.children m slot leaf → IsReady t (record t { nodes = nodes }) p (less_children n m)
  child_left t trie p n slot m leaf nodes at set s =
      let node = trie.each p n at in
      let some = bits_some n.child_bits slot set in
      let sum = s.split.bits_are in
      record {
        root = refl;
        node = record {
          depth_within = node.depth_within;
          data_within = node.data_within;
          child_within = (let l = node.child_within in omega (arith, l, sum));
          values_within = node.values_within;
          children_within = node.children_within;
          values = node.values;
          children = shrunk_count t.nodes.lists nodes.lists n.child_bits n.children m slot leaf s node.children;
        };
        children = λ q k e apart. shrunk_other t.nodes.lists nodes.lists n.child_bits n.children m slot leaf s k.child_bits k.children (λ more z. apart (trie.own_children q p k n e at more some z));
        values = λ q k e apart. refl;
        own_children = λ q k e apart more other_some z. apart (trie.own_children q p k n e at more some z);
        own_values = λ q k e apart more other_some z. apart (trie.own_values q p k n e at more other_some z);
      }

  pub child_cut : (t : Trie T) → IsTrie t → (p : KeyBits) (a : ℕ) (n : Node) (slot m : ℕ) (leaf : Node) (nodes : BlocksView Node) → number_at t p ≡ Some a → node_at t p ≡ Some n → slot < 32 → bit_at n.child_bits slot ≡ 1 → child t n slot ≡ Some leaf
      → leaf.data_bits ≡ 0 → leaf.child_bits ≡ 0
      → IsShrunkIn t.nodes.lists nodes.lists n.child_bits n.children m slot leaf → IsCut t (with_node (record t { nodes = nodes }) a (less_children n m)) (p ++ low_bits 5 slot)
  child_cut t trie p a n slot m leaf nodes named at small set read no_data no_children s = record {
    trie = changed_trie t t' trie p n' w.changed which;
    kept = kept;
    held = λ k. held_linked t t' p n' (low_bits 5 slot) None w.changed all (λ j. ap (option_and_then (λ l. value_of t l j)) leaf_at ∙ no_value t leaf j no_data) (λ j. refl) k ∙ held_is k (same_or_other (take (length k / 5 * 5) k) p);
  }
    where
      n' : Node
      n' = less_children n m

      t1 : Trie T
      t1 = record t { nodes = nodes }

      t' : Trie T
      t' = with_node t1 a n'

      r : KeyBits
      r = p ++ low_bits 5 slot

      w : IsWritten t t1 t' p n'
      w = written t t1 trie p a n' named (child_left t trie p n slot m leaf nodes at set s)

      leaf_at : node_at t r ≡ Some leaf
      leaf_at = child_below t p (low_bits 5 slot) n (length-low_bits 5 slot) at ∙ ap (child t n) (number_five slot small) ∙ read

      linked : IsLinked t t' p n n' (low_bits 5 slot) None
      linked = record {
        five = length-low_bits 5 slot;
        children = λ j l. w.children j ∙ shrunk_picked t.nodes.lists nodes.lists n.child_bits n.children m slot leaf s (trie.each p n at).children j ∙ ap (λ k. cond (j == k) None (child t n j)) (sym (number_five slot small));
        bare_before = λ j. ap (option_and_then (λ l. child t l j)) leaf_at ∙ no_child t leaf j no_children;
        bare_after = λ j. refl;
      }

      all : (q : KeyBits) → node_at t' q ≡ cond (same_key q p) (Some n') (cond (same_key q r) None (node_at t q))
      all = nodes_linked t t' p n n' (low_bits 5 slot) None at w.changed linked

      off : same_key p r ≡ false
      off = not_same p r (λ z. longer p (low_bits 5 slot) (length-low_bits 5 slot) (sym z))

      which : (q : KeyBits) (k : Node) → node_at t' q ≡ Some k → Which t t' p n' q k
      which q k e = of (same_or_other q p) (same_or_other q r)
        where
          of : Same q p → Same q r → Which t t' p n' q k
          of (same z) y = changed z (same_Some k n' (sym e ∙ all q ∙ ap (λ b. cond b (Some n') (cond (same_key q r) None (node_at t q))) (ap (λ l. same_key l p) z ∙ same_key-itself p)))
          of (other differ) (same z) =
              let yes : same_key q r ≡ true = ap (λ l. same_key l r) z ∙ same_key-itself r in
              let gone : node_at t' q ≡ None = all q ∙ (λ j. cond (differ j) (Some n') (cond (yes j) None (node_at t q))) in
              absurd cc
          of (other differ) (other apart) = stayed (not_one q p differ) (sym (all q ∙ (λ j. cond (differ j) (Some n') (cond (apart j) None (node_at t q)))) ∙ e)

      kept : (q : KeyBits) → is_kept t' q ≡ (not (same_key q r) && is_kept t q)
      kept q = ap is_some (all q) ∙ of (same_or_other q p) (same_or_other q r)
        where
          of : Same q p → Same q r → is_some (cond (same_key q p) (Some n') (cond (same_key q r) None (node_at t q))) ≡ (not (same_key q r) && is_kept t q)
          of (same z) y =
              ap (λ c. is_some (cond c (Some n') (cond (same_key q r) None (node_at t q)))) (ap (λ l. same_key l p) z ∙ same_key-itself p)
              ∙ sym ((λ j. not (same_key (z j) r) && is_some (node_at t (z j))) ∙ (λ j. not (off j) && is_some (at j)))
          of (other differ) (same z) =
              let yes : same_key q r ≡ true = ap (λ l. same_key l r) z ∙ same_key-itself r in
              (λ j. is_some (cond (differ j) (Some n') (cond (yes j) None (node_at t q)))) ∙ ap (λ c. not c && is_kept t q) (sym yes)
          of (other differ) (other apart) =
              (λ j. is_some (cond (differ j) (Some n') (cond (apart j) None (node_at t q)))) ∙ ap (λ c. not c && is_kept t q) (sym apart)

      held_is : (k : KeyBits) → Same (take (length k / 5 * 5) k) p → cond (same_key (take (length k / 5 * 5) k) p) (value_of t' n' (bit_of (drop (length k / 5 * 5) k))) (held t k) ≡ held t k
      held_is k (other differ) = ap (λ c. cond c (value_of t' n' (bit_of (drop (length k / 5 * 5) k))) (held t k)) differ
      held_is k (same z) =
          ap (λ c. cond c (value_of t' n' (bit_of (drop (length k / 5 * 5) k))) (held t k)) (ap (λ l. same_key l p) z ∙ same_key-itself p)
          ∙ ap (λ (view : BlocksView T). picked n.data_bits (items_of view.lists n.data_bits n.values) (bit_of (drop (length k / 5 * 5) k))) (with_node-values t1 a n')
          ∙ sym (ap (option_and_then (λ l. value_of t l (bit_of (drop (length k / 5 * 5) k)))) (ap (node_at t) z ∙ at))

  pub child_set : (t : Trie T) (n : Node) (slot : ℕ) → IsBareChild t n slot → bit_at n.child_bits slot ≡ 1
  child_set t n slot bare_child = (is_child t n slot bare_child.leaf bare_child.is_child).set

module _ {T : Type 0} where
  -- ---- where a value stands

  pub value_stands : (t : Trie T) → IsTrie t → (p s : KeyBits) (n : Node) (slot place_is : ℕ) → node_at t p ≡ Some n → length s < 5 → bit_of s ≡ slot → bit_at n.data_bits slot ≡ 1 → place_is ≡ place n.data_bits slot
      → IsValueAt t (p ++ s) n.values place_is
  value_stands t trie p s n slot place_is at ls is set place_of =
      let some = bits_some n.data_bits slot set in
      let items = items_some t.values.lists n.data_bits n.values some in
      record {
        within = place_held t.values.lists n.data_bits n.values slot place_is set (trie.each p n at).values place_of;
        value = held_here t p s n (kept_length t p n at) ls at ∙ ap (value_of t n) is
            ∙ picked-place n.data_bits (items_of t.values.lists n.data_bits n.values) slot
            ∙ ap (λ k. cond (k == 1) (slice_get (items_of t.values.lists n.data_bits n.values) (place n.data_bits slot)) None) set
            ∙ (λ j. slice_get (items j) (sym place_of j));
        written = λ w. subst (λ (k : ℕ). IsStored t (record t { values = with_item t.values n.values k w }) (p ++ s) w) (sym place_of) (value_replaced t trie p s n slot w at ls is set);
        numbers = λ w q. valued_number t (with_item t.values n.values place_is w) t.root 0 q;
      }

module _ {T : Type 0} where
  -- ---- the nodes after the two removals

  pub record IsStill (t t' : Trie T) (p : KeyBits) : Type 0 where
    pub node : Node
    pub changed : IsChanged t t' p node
    pub nodes : (u : KeyBits) → length u < length p → node_at t' u ≡ node_at t u

  pub value_still : (t : Trie T) → IsTrie t → (p : KeyBits) (a : ℕ) (n : Node) (slot m : ℕ) (x : T) (v : BlocksView T) → number_at t p ≡ Some a → node_at t p ≡ Some n → bit_at n.data_bits slot ≡ 1
      → IsShrunkIn t.values.lists v.lists n.data_bits n.values m slot x → IsStill t (with_node (record t { values = v }) a (less_data n m)) p
  value_still t trie p a n slot m x v named at set shrunk =
      let n' = less_data n m in
      let t1 : Trie T = record t { values = v } in
      let t' = with_node t1 a n' in
      let w = written t t1 trie p a n' named (value_left t trie p n slot m x v at set shrunk) in
      let nodes = nodes_same t t' p n n' at w.changed (λ c l. w.children c) in
      record {
        node = n';
        changed = w.changed;
        nodes = λ u l. nodes u ∙ ap (λ b. cond b (Some n') (node_at t u)) (not_same u p (λ z. let y = ap length z in omega (arith, y, l)));
      }

  pub child_still : (t : Trie T) → IsTrie t → (p : KeyBits) (a : ℕ) (n : Node) (slot m : ℕ) (leaf : Node) (nodes : BlocksView Node) → number_at t p ≡ Some a → node_at t p ≡ Some n → slot < 32 → bit_at n.child_bits slot ≡ 1 → child t n slot ≡ Some leaf
      → leaf.data_bits ≡ 0 → leaf.child_bits ≡ 0 → IsShrunkIn t.nodes.lists nodes.lists n.child_bits n.children m slot leaf → IsStill t (with_node (record t { nodes = nodes }) a (less_children n m)) p
  child_still t trie p a n slot m leaf nodes named at small set read no_data no_children s =
      let n' = less_children n m in
      let t1 : Trie T = record t { nodes = nodes } in
      let t' = with_node t1 a n' in
      let r = low_bits 5 slot in
      let w = written t t1 trie p a n' named (child_left t trie p n slot m leaf nodes at set s) in
      let leaf_at = child_below t p r n (length-low_bits 5 slot) at ∙ ap (child t n) (number_five slot small) ∙ read in
      let linked : IsLinked t t' p n n' r None = record {
        five = length-low_bits 5 slot;
        children = λ j l. w.children j ∙ shrunk_picked t.nodes.lists nodes.lists n.child_bits n.children m slot leaf s (trie.each p n at).children j ∙ ap (λ k. cond (j == k) None (child t n j)) (sym (number_five slot small));
        bare_before = λ j. ap (option_and_then (λ l. child t l j)) leaf_at ∙ no_child t leaf j no_children;
        bare_after = λ j. refl;
      } in
      let all = nodes_linked t t' p n n' r None at w.changed linked in
      record {
        node = n';
        changed = w.changed;
        nodes = λ u l. all u
            ∙ ap (λ b. cond b (Some n') (cond (same_key u (p ++ r)) None (node_at t u))) (not_same u p (λ z. let y = ap length z in omega (arith, y, l)))
            ∙ ap (λ b. cond b None (node_at t u)) (not_same u (p ++ r) (λ z. let y = ap length z in let e = length-append p r in omega (arith, y, e, l)));
      }
