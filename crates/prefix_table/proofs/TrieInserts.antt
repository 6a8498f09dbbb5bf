-- The steps of an insertion: room first, then nodes, then the value.
use Rattle.std.specs.Prelude.{◌≡◌, ◌≢◌, ℕ, ◌+◌, ◌-◌, ◌*◌, ◌/◌, ◌%◌, ◌^◌, ◌<◌, ◌≤◌, true, cond, [], ◌∷◌, ◌++◌, length, take, drop, Option, Some, None, is_some, Result, Ok, Err}
use Rattle.std.proofs.Common.{refl, sym, ap, ◌∙◌, subst, arith, length-append, length-drop, length-take}
use Rattle.std.proofs.Math.Seq.{take-append_seam}
use Rattle.std.specs.Option.{option_and_then}
use Rattle.std.specs.FinMap as map
use lib.Count.{ones}
use Rattle.std.specs.Int.{bit_at}
use Rattle.prefix_model.proofs.Bitmaps.SlotLaws.{picked_clear, ones_zero}
use Rattle.prefix_model.specs.Keys.{KeyBits, number, low_bits, same_key}
use Rattle.prefix_model.specs.Positions.{with_positions}
use Rattle.prefix_blocks.specs.Sizes.{cells_needed}
use Rattle.prefix_table.specs.NodeLists.{items_of}
use Rattle.prefix_table.specs.Tries.{child, value_of, child_number, bit_of, node_below, number_below, node_at, number_at, numbered, held, is_kept, table_view, IsTrie, IsWayEnd}
use Rattle.prefix_table.specs.Writes.{IsAdded, IsStored, IsWayMade, IsSameTrie, IsInserted, IsEntered, IsValueAt}
use Rattle.prefix_model.specs.Slots.{place}
use Rattle.prefix_table.proofs.TrieWrites.{value_stands}
use Rattle.prefix_table.specs.declared.trie.Node.{Node}
use Rattle.prefix_table.specs.declared.trie.Trie.{Trie}
use Rattle.prefix_table.proofs.TrieWays.{number_tells, kept_length, InOrder, order_of}
use Rattle.prefix_table.proofs.TrieWays.InOrder.{less, alike, more}
use Rattle.prefix_table.proofs.TrieReads.{held_here, same_node, way_step, stored_nowhere, none_below}
use Rattle.prefix_model.proofs.KeyPieces.{take_parts, piece_five}
use Rattle.prefix_model.proofs.KeyLists.{take_take}
use Rattle.prefix_table.proofs.TrieNew.{no_child}
use Rattle.prefix_table.proofs.TrieChanges.{five_bits}
use Rattle.prefix_table.proofs.TrieViews.{get_entry}
use Rattle.prefix_table.proofs.PositionLaws.{all_kept, with_one_of, kept_added, kept_same_set, kept_test, entries_same, entries_stored}

pub next_position : (bits : KeyBits) (d slot : ℕ) → d + 5 ≤ length bits → slot ≡ number (drop d (take (d + 5) bits)) → take d bits ++ low_bits 5 slot ≡ take (d + 5) bits
next_position bits d slot l is =
    ap (λ k. take d bits ++ k) (ap (low_bits 5) is ∙ five_bits (drop d (take (d + 5) bits)) (piece_five bits d l)) ∙ take_parts bits d (d + 5) (omega arith)

pub cells_of_none : (bits : ℕ) → bits ≡ 0 → cells_needed (ones bits) ≡ 1
unfolding cells_needed
cells_of_none bits none = ap (λ b. cells_needed (ones b)) none ∙ ap cells_needed ones_zero

pub cells_of_leaf : (n : Node) → n.child_bits ≡ 0 → cells_needed (ones n.child_bits) ≡ 1
unfolding cells_needed
cells_of_leaf n none = ap (λ b. cells_needed (ones b)) none ∙ ap cells_needed ones_zero

-- ---- where only room was made

module _ {T : Type 0} where
  abbrev pub roomy : Trie T → ℕ → ℕ → Trie T
  roomy t a b = record { root = t.root; nodes = record { lists = t.nodes.lists; room = a }; values = record { lists = t.values.lists; room = b } }

  roomy_is : (t t' : Trie T) → IsSameTrie t t' → t' ≡ roomy t t'.nodes.room t'.values.room
  roomy_is t t' same = λ j. record {
    root = same.root j;
    nodes = record { lists = same.nodes j; room = t'.nodes.room };
    values = record { lists = same.values j; room = t'.values.room };
  }

  roomy_below : (t : Trie T) (x y : ℕ) (n : Node) (p : KeyBits) → node_below (roomy t x y) n p ≡ node_below t n p
  unfolding node_below
  roomy_below t x y n [] = refl
  roomy_below t x y n (a ∷ []) = refl
  roomy_below t x y n (a ∷ b ∷ []) = refl
  roomy_below t x y n (a ∷ b ∷ c ∷ []) = refl
  roomy_below t x y n (a ∷ b ∷ c ∷ d ∷ []) = refl
  roomy_below t x y n (a ∷ b ∷ c ∷ d ∷ e ∷ p) = of (child t n (number (a ∷ b ∷ c ∷ d ∷ e ∷ []))) (λ m. roomy_below t x y m p)
    where
      of : (o : Option Node) → ((m : Node) → node_below (roomy t x y) m p ≡ node_below t m p) → option_and_then (λ m. node_below (roomy t x y) m p) o ≡ option_and_then (λ m. node_below t m p) o
      of None rest = refl
      of (Some m) rest = rest m

  roomy_number : (t : Trie T) (x y : ℕ) (n : Node) (z : ℕ) (p : KeyBits) → number_below (roomy t x y) n z p ≡ number_below t n z p
  unfolding number_below
  roomy_number t x y n z [] = refl
  roomy_number t x y n z (a ∷ []) = refl
  roomy_number t x y n z (a ∷ b ∷ []) = refl
  roomy_number t x y n z (a ∷ b ∷ c ∷ []) = refl
  roomy_number t x y n z (a ∷ b ∷ c ∷ d ∷ []) = refl
  roomy_number t x y n z (a ∷ b ∷ c ∷ d ∷ e ∷ p) =
      of (child t n (number (a ∷ b ∷ c ∷ d ∷ e ∷ []))) (λ m. roomy_number t x y m (child_number n (number (a ∷ b ∷ c ∷ d ∷ e ∷ []))) p)
    where
      k : ℕ
      k = child_number n (number (a ∷ b ∷ c ∷ d ∷ e ∷ []))

      of : (o : Option Node) → ((m : Node) → number_below (roomy t x y) m k p ≡ number_below t m k p) → option_and_then (λ m. number_below (roomy t x y) m k p) o ≡ option_and_then (λ m. number_below t m k p) o
      of None rest = refl
      of (Some m) rest = rest m

  pub record IsAlike (t t' : Trie T) : Type 0 where
    pub nodes : (p : KeyBits) → node_at t' p ≡ node_at t p
    pub numbers : (p : KeyBits) → number_at t' p ≡ number_at t p
    pub held : (k : KeyBits) → held t' k ≡ held t k
    pub trie : IsTrie t → IsTrie t'

  pub same_alike : (t t' : Trie T) → IsSameTrie t t' → IsAlike t t'
  same_alike t t' same = subst (λ (u : Trie T). IsAlike t u) (sym (roomy_is t t' same)) (record {
    nodes = nodes;
    numbers = λ p. roomy_number t x y t.root 0 p;
    held = λ k. ap (option_and_then (λ n. value_of t n (bit_of (drop (length k / 5 * 5) k)))) (nodes (take (length k / 5 * 5) k));
    trie = λ trie. record {
      each = λ p n e. (let node = trie.each p n (sym (nodes p) ∙ e) in record {
        depth_within = node.depth_within;
        data_within = node.data_within;
        child_within = node.child_within;
        values_within = node.values_within;
        children_within = node.children_within;
        values = node.values;
        children = node.children;
      });
      own_children = λ p q n m e f. trie.own_children p q n m (sym (nodes p) ∙ e) (sym (nodes q) ∙ f);
      own_values = λ p q n m e f. trie.own_values p q n m (sym (nodes p) ∙ e) (sym (nodes q) ∙ f);
    };
  })
    where
      x : ℕ
      x = t'.nodes.room

      y : ℕ
      y = t'.values.room

      nodes : (p : KeyBits) → node_at (roomy t x y) p ≡ node_at t p
      nodes p = roomy_below t x y t.root p

  pub same_way : (t t' : Trie T) → IsSameTrie t t' → (bits : KeyBits) (len at depth : ℕ) → IsWayEnd t bits len at depth → IsWayEnd t' bits len at depth
  same_way t t' same bits len at depth way =
      let alike = same_alike t t' same in
      record { from = way.from; at_five = way.at_five; here = alike.numbers (take depth bits) ∙ way.here; ends = λ down. alike.nodes (take (depth + 5) bits) ∙ way.ends down }

  pub same_numbered : (t t' : Trie T) → IsSameTrie t t' → (a : ℕ) → numbered t' a ≡ numbered t a
  same_numbered t t' same a = ap (λ (u : Trie T). numbered u a) (roomy_is t t' same)

  -- ---- nodes on the way to a key

  pub way_node : (t : Trie T) → IsTrie t → (bits : KeyBits) (len at depth : ℕ) → IsWayEnd t bits len at depth → (n : Node) → numbered t at ≡ Some n → node_at t (take depth bits) ≡ Some n
  way_node t trie bits len at depth way n e = same_node t trie (take depth bits) at n way.here e

  -- the slot of the next node is clear
  pub way_clear : (t : Trie T) → IsTrie t → (bits : KeyBits) (len at depth slot : ℕ) → len ≤ length bits → IsWayEnd t bits len at depth → depth + 5 ≤ len → slot ≡ number (drop depth (take (depth + 5) bits)) → (n : Node) → numbered t at ≡ Some n
      → child t n slot ≡ None
  way_clear t trie bits len at depth slot within way down is n e =
      ap (child t n) is ∙ sym (way_step t bits depth n (omega arith) (way_node t trie bits len at depth way n e)) ∙ way.ends down

  -- one more node on the way
  pub way_longer : (t0 t t' : Trie T) → IsTrie t → (bits : KeyBits) (len at depth at' : ℕ) → len ≤ length bits → depth + 5 ≤ len → IsWayMade t0 t bits len at depth → IsAdded t t' (take (depth + 5) bits) at' → IsWayMade t0 t' bits len at' (depth + 5)
  way_longer t0 t t' trie bits len at depth at' within down made added = record {
    trie = added.trie;
    kept =
        ap (λ kept. with_positions kept (take len bits)) (kept_added t t' trie added.trie (take (depth + 5) bits) added.kept ∙ ap (λ r. map.insert (table_view t).kept r tt) (sym (take_take bits (depth + 5) len down)))
        ∙ with_one_of (table_view t).kept (take len bits) (depth + 5) (let five = made.way.at_five in omega (arith, five)) (let l = length-take len bits in omega (arith, l))
        ∙ made.kept;
    held = λ k. added.held k ∙ made.held k;
    values = added.values ∙ made.values;
    way = record {
      from = down;
      at_five = (let five = made.way.at_five in omega (arith, five));
      here = added.named;
      ends = λ more.
          let leaf = number_tells t' added.trie (take (depth + 5) bits) at' added.named in
          way_step t' bits (depth + 5) leaf.0 (omega (arith, more)) leaf.1.here ∙ no_child t' leaf.0 _ (added.leaf leaf.0 leaf.1.here).0;
    };
    numbers = λ q r a e h. further q r a e (made.numbers q r a e h);
  }
    where
      further : (q r : KeyBits) (a : ℕ) → take len bits ≡ q ++ r → number_at t q ≡ Some a → number_at t' q ≡ Some a
      further q r a e h =
          let size = ap length e in
          let x = length-take len bits in
          let y = length-append q r in
          let n = length q in
          let within_key : n ≤ len = omega (arith, size, x, y) in
          let front : take n bits ≡ q = sym (take_take bits n len within_key) ∙ ap (take n) e ∙ take-append_seam q r in
          added.numbers q (drop n (take (depth + 5) bits)) a
          (sym (take_parts bits n (depth + 5) (short n front within_key (number_tells t trie q a h).1.here (order_of (depth + 5) n))) ∙ ap (λ f. f ++ drop n (take (depth + 5) bits)) front) h
        where
          short : (n : ℕ) → take n bits ≡ q → n ≤ len → {m : Node} → node_at t q ≡ Some m → InOrder (depth + 5) n → n ≤ depth + 5
          short n front within_key here (alike z) = omega (arith, z)
          short n front within_key here (more z) = omega (arith, z)
          short n front within_key {m} here (less z) =
              let five = made.way.at_five in
              let lq = kept_length t q m here in
              let x = length-take n bits in
              let size = ap length front in
              let b = length-drop (depth + 5) (take n bits) in
              let gone = none_below t ((n - (depth + 5)) / 5) (take (depth + 5) bits) (drop (depth + 5) (take n bits)) (made.way.ends down) (omega (arith, b, x, size, five, lq, z, within, within_key)) in
              let none = ap (node_at t) (sym front ∙ sym (take_parts bits (depth + 5) n (omega (arith, z)))) ∙ gone in
              absurd (let y : Some m ≡ None = sym here ∙ none in cc)

  pub leaf_bits : (t' : Trie T) (r : KeyBits) (t : Trie T) (a : ℕ) → IsAdded t t' r a → (n : Node) → numbered t' a ≡ Some n → (n.child_bits ≡ 0) × (n.data_bits ≡ 0)
  leaf_bits t' r t a added n e = added.leaf n (same_node t' added.trie r a n added.named e)

  pub way_nothing : (t : Trie T) (bits : KeyBits) (len at depth : ℕ) → IsTrie t → IsWayEnd t bits len at depth → IsWayMade t t bits len at depth
  way_nothing t bits len at depth trie way = record { trie = trie; kept = refl; held = λ k. refl; values = refl; way = way; numbers = λ q r a e h. h }

  -- ---- the positions of a key whose node is there

  pub way_kept : (t : Trie T) → IsTrie t → (bits : KeyBits) (len at depth : ℕ) → len ≤ length bits → IsWayEnd t bits len at depth → len < depth + 5 → with_positions (table_view t).kept (take len bits) ≡ (table_view t).kept
  way_kept t trie bits len at depth within way short = all_kept (table_view t).kept (take len bits) (λ l five low.
      let b = length-take len bits in
      let below : l ≤ depth = (let d = way.at_five in omega (arith, d, b)) in
      let front : take l (take len bits) ≡ take l bits = take_take bits l len (omega (arith, b)) in
      kept_test t trie (take l (take len bits)) ∙ ap (is_kept t) front ∙ higher l below five (node_at t (take l bits)) refl)
    where
      higher : (l : ℕ) → l ≤ depth → l % 5 ≡ 0 → (o : Option Node) → node_at t (take l bits) ≡ o → is_some o ≡ true
      higher l below five (Some n) e = refl
      higher l below five None e =
          let from = way.from in
          let d = way.at_five in
          let piece = drop l (take depth bits) in
          let a = length-drop l (take depth bits) in
          let b = length-take depth bits in
          let gone = none_below t ((depth - l) / 5) (take l bits) piece e (omega (arith, a, b, d, from, within)) in
          let none = ap (node_at t) (sym (take_parts bits l depth below)) ∙ gone in
          let tells = number_tells t trie (take depth bits) at way.here in
          let some = tells.1.here in
          absurd (cc)

  -- ---- what a contract sees of the steps

  entered_there : (t t' : Trie T) → IsTrie t → (bits : KeyBits) (len at depth : ℕ) → len ≤ length bits → IsWayEnd t bits len at depth → len < depth + 5 → (v : T) (result : Result (Option T) T) → IsInserted t t' (take len bits) v result → IsEntered t t' (take len bits) v result
  entered_there t t' trie bits len at depth within way short v (Ok b) done = record {
    trie = done.trie;
    before = done.before ∙ sym (get_entry t trie (take len bits));
    entries = entries_stored t t' trie done.trie (take len bits) v done.stored;
    kept = kept_same_set t t' trie done.trie done.kept ∙ sym (way_kept t trie bits len at depth within way short);
    handed_back = tt;
    unchanged = tt;
    new_key = tt;
    numbers = done.numbers;
  }
  entered_there t t' trie bits len at depth within way short v (Err x) done = record {
    trie = done.trie;
    before = tt;
    entries = tt;
    kept = tt;
    handed_back = done.handed_back;
    unchanged = record { entries = entries_same t t' trie done.trie done.unchanged; kept = kept_same_set t t' trie done.trie done.kept };
    new_key = get_entry t trie (take len bits) ∙ done.new_key;
    numbers = done.numbers;
  }

  pub entered : (t t' : Trie T) → IsTrie t → (bits : KeyBits) (len at depth slot : ℕ) → len ≤ length bits → IsWayEnd t bits len at depth → len < depth + 5 → slot ≡ 2 ^ (len - depth) - 1 + number (drop depth (take len bits)) → (v : T) (result : Result (Option T) T)
      → ((p s : KeyBits) → number_at t p ≡ Some at → length s < 5 → bit_of s ≡ slot → IsInserted t t' (p ++ s) v result) → IsEntered t t' (take len bits) v result
  entered t t' trie bits len at depth slot within way short is v result done =
      let s = drop depth (take len bits) in
      let a = length-drop depth (take len bits) in
      let b = length-take len bits in
      let from = way.from in
      let size : length s ≡ len - depth = omega (arith, a, b, within) in
      let bit : bit_of s ≡ slot = ap (λ k. 2 ^ k - 1 + number s) size ∙ sym is in
      entered_there t t' trie bits len at depth within way short v result
      (subst (λ (k : KeyBits). IsInserted t t' k v result) (take_parts bits depth len from) (done (take depth bits) s way.here (omega (arith, size, from, short)) bit))

  -- a value stored behind new nodes
  pub entered_below : (t t1 t2 t3 : Trie T) → IsTrie t → IsSameTrie t t1 → (bits : KeyBits) (len at depth at2 depth2 slot : ℕ) → len ≤ length bits → IsWayEnd t bits len at depth → depth + 5 ≤ len → IsWayMade t1 t2 bits len at2 depth2 → len < depth2 + 5
      → slot ≡ 2 ^ (len - depth2) - 1 + number (drop depth2 (take len bits)) → (v : T)
      → ((p s : KeyBits) → number_at t2 p ≡ Some at2 → length s < 5 → bit_of s ≡ slot → IsStored t2 t3 (p ++ s) v) → IsEntered t t3 (take len bits) v (Ok None)
  entered_below t t1 t2 t3 trie same bits len at depth at2 depth2 slot within way down made short is v done =
      let s = drop depth2 (take len bits) in
      let a = length-drop depth2 (take len bits) in
      let b = length-take len bits in
      let from = made.way.from in
      let size : length s ≡ len - depth2 = omega (arith, a, b, within) in
      let bit : bit_of s ≡ slot = ap (λ k. 2 ^ k - 1 + number s) size ∙ sym is in
      let stored = subst (λ (k : KeyBits). IsStored t2 t3 k v) (take_parts bits depth2 len from) (done (take depth2 bits) s made.way.here (omega (arith, size, from, short)) bit) in
      let alike = same_alike t t1 same in
      let trie1 = alike.trie trie in
      record {
        trie = stored.trie;
        before = sym (get_entry t trie (take len bits) ∙ stored_nowhere t bits depth len way.at_five down within (way.ends down));
        entries = entries_stored t t3 trie stored.trie (take len bits) v (λ k. stored.held k ∙ ap (cond (same_key k (take len bits)) (Some v)) (made.held k ∙ alike.held k));
        kept =
            kept_same_set t2 t3 made.trie stored.trie stored.kept
            ∙ sym (way_kept t2 made.trie bits len at2 depth2 within made.way short)
            ∙ made.kept
            ∙ ap (λ kept. with_positions kept (take len bits)) (kept_same_set t t1 trie trie1 (λ q. ap is_some (alike.nodes q)));
        handed_back = tt;
        unchanged = tt;
        new_key = tt;
        numbers = λ q r a e h. stored.numbers q r a e (made.numbers q r a e (alike.numbers q ∙ h));
      }

  pub refused_below : (t t1 : Trie T) → IsTrie t → IsSameTrie t t1 → (bits : KeyBits) (len at depth : ℕ) → len ≤ length bits → IsWayEnd t bits len at depth → depth + 5 ≤ len → (v : T) → IsEntered t t1 (take len bits) v (Err v)
  refused_below t t1 trie same bits len at depth within way down v =
      let alike = same_alike t t1 same in
      let trie1 = alike.trie trie in
      record {
        trie = trie1;
        before = tt;
        entries = tt;
        kept = tt;
        handed_back = refl;
        unchanged = record { entries = entries_same t t1 trie trie1 alike.held; kept = kept_same_set t t1 trie trie1 (λ q. ap is_some (alike.nodes q)) };
        new_key = get_entry t trie (take len bits) ∙ stored_nowhere t bits depth len way.at_five down within (way.ends down);
        numbers = λ q r a e h. alike.numbers q ∙ h;
      }

  -- ---- a value stored in its node

  pub inserted_new : (t t1 t2 : Trie T) → IsSameTrie t t1 → (key : KeyBits) (v : T) → IsStored t1 t2 key v → held t key ≡ None → IsInserted t t2 key v (Ok None)
  inserted_new t t1 t2 same key v stored none =
      let alike = same_alike t t1 same in
      record {
        trie = stored.trie;
        kept = λ q. stored.kept q ∙ ap is_some (alike.nodes q);
        before = sym none;
        stored = λ k. stored.held k ∙ ap (cond (same_key k key) (Some v)) (alike.held k);
        handed_back = tt;
        unchanged = tt;
        new_key = tt;
        numbers = λ q r a e h. stored.numbers q r a e (alike.numbers q ∙ h);
      }

  pub inserted_refused : (t t1 : Trie T) → IsTrie t → IsSameTrie t t1 → (key : KeyBits) (v : T) → held t key ≡ None → IsInserted t t1 key v (Err v)
  inserted_refused t t1 trie same key v none =
      let alike = same_alike t t1 same in
      record {
        trie = alike.trie trie;
        kept = λ q. ap is_some (alike.nodes q);
        before = tt;
        stored = tt;
        handed_back = refl;
        unchanged = alike.held;
        new_key = none;
        numbers = λ q r a e h. alike.numbers q ∙ h;
      }

  pub inserted_over : (t t2 : Trie T) (key : KeyBits) (v before : T) → IsStored t t2 key v → held t key ≡ Some before → IsInserted t t2 key v (Ok (Some before))
  inserted_over t t2 key v before stored some = record {
    trie = stored.trie;
    kept = stored.kept;
    before = sym some;
    stored = stored.held;
    handed_back = tt;
    unchanged = tt;
    new_key = tt;
    numbers = stored.numbers;
  }

  pub nothing_held : (t : Trie T) → IsTrie t → (p s : KeyBits) (a slot : ℕ) (n : Node) → number_at t p ≡ Some a → numbered t a ≡ Some n → length s < 5 → bit_of s ≡ slot → bit_at n.data_bits slot ≢ 1 → held t (p ++ s) ≡ None
  nothing_held t trie p s a slot n named e short is clear =
      let here = same_node t trie p a n named e in
      held_here t p s n (kept_length t p n here) short here ∙ ap (value_of t n) is ∙ picked_clear n.data_bits (items_of t.values.lists n.data_bits n.values) slot clear

  pub something_held : (t : Trie T) → IsTrie t → (p s : KeyBits) (a slot : ℕ) (n : Node) (x : T) → number_at t p ≡ Some a → numbered t a ≡ Some n → length s < 5 → bit_of s ≡ slot → value_of t n slot ≡ Some x → held t (p ++ s) ≡ Some x
  something_held t trie p s a slot n x named e short is some =
      let here = same_node t trie p a n named e in
      held_here t p s n (kept_length t p n here) short here ∙ ap (value_of t n) is ∙ some

  pub value_found : (t : Trie T) → IsTrie t → (bits : KeyBits) (len at depth slot place_is : ℕ) (n : Node) → len ≤ length bits → IsWayEnd t bits len at depth → len < depth + 5 → slot ≡ 2 ^ (len - depth) - 1 + number (drop depth (take len bits))
      → numbered t at ≡ Some n → bit_at n.data_bits slot ≡ 1 → place_is ≡ place n.data_bits slot → IsValueAt t (take len bits) n.values place_is
  value_found t trie bits len at depth slot place_is n within way short is e set place_of =
      let s = drop depth (take len bits) in
      let a = length-drop depth (take len bits) in
      let b = length-take len bits in
      let from = way.from in
      let size : length s ≡ len - depth = omega (arith, a, b, within) in
      let bit : bit_of s ≡ slot = ap (λ k. 2 ^ k - 1 + number s) size ∙ sym is in
      subst (λ (k : KeyBits). IsValueAt t k n.values place_is) (take_parts bits depth len from)
      (value_stands t trie (take depth bits) s n slot place_is (way_node t trie bits len at depth way n e) (omega (arith, size, from, short)) bit set place_of)
