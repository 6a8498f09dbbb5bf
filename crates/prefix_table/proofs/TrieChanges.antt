-- One node of a trie changed: what the nodes and the values are then.
use Rattle.std.specs.Prelude.{◌≡◌, ◌≢◌, ℕ, zero, suc, ◌+◌, ◌-◌, ◌*◌, ◌/◌, ◌%◌, ◌^◌, ◌<◌, ◌≤◌, ◌==◌, ◌⊎◌, Bool, true, false, cond, List, [], ◌++◌, length, take, drop, count_ones, Option, Some, None, is_some, IsSome, slice_get, slice_set}
use Rattle.std.specs.Option.{option_and_then, unwrap_or}
use Rattle.std.specs.Cmp.{nat_cmp_total, unsigned_tied}
use Rattle.std.specs.FinMap as map_of
use Rattle.std.proofs.Common.{refl, sym, ap, ◌∙◌, subst, arith, length-append, inl, inr, lit<}
use Rattle.std.proofs.lemmas.Option.{same_Some}
use Rattle.std.proofs.lemmas.Bool.{ne_eqb}
use Rattle.std.proofs.lemmas.Bool.Decides.{eqb_tells}
use lib.Count.{ones}
use Rattle.prefix_model.specs.Keys.{KeyBits, number, low_bits, same_key}
use Rattle.prefix_model.specs.Slots.{picked, place}
use Rattle.prefix_model.proofs.KeyNumbers.{length-low_bits}
use Rattle.prefix_model.proofs.KeyLemmas.{same_key-itself}
use Rattle.prefix_model.proofs.Bitmaps.SlotLaws.{picked-set_same, picked-set_other, place-lt, length-set_at}
use Rattle.prefix_model.proofs.KeyLists.{Same, same_or_other, not_same, not_one}
use Rattle.prefix_model.proofs.Fronts.{same_parts}
use Rattle.prefix_model.proofs.KeyPlaces.{low_bits-number}
use Rattle.prefix_model.proofs.KeyLists.Same.{same, other}
use Rattle.prefix_model.proofs.KeyPieces.{number_five}
use Rattle.prefix_blocks.specs.Blocks.{with_item}
use Rattle.prefix_table.specs.NodeLists.{ListsOf, block, items_of}
use Rattle.prefix_table.specs.Tries.{child, child_number, value_of, bit_of, node_at, number_at, numbered, held, IsNode, IsTrie}
use Rattle.prefix_table.specs.Writes.{with_node, IsChanged}
use Rattle.prefix_table.specs.declared.trie.Node.{Node}
use Rattle.prefix_table.specs.declared.trie.Trie.{Trie}
use Rattle.prefix_table.proofs.TrieWays.{Steps, steps-node_at, below-step, below-off, split, number-off, number-step, number_zero, step_number, child_below, kept_length, node_root, numbered_later, IsChild, is_child, not_zero, items_some, place_small, slot_small, Stands, stands_at}
use Rattle.prefix_table.proofs.TrieWays.Standing.{at_root, at_child}
use Rattle.prefix_table.proofs.TrieWays.Split.{top, under}

pub longer : (p c : KeyBits) → length c ≡ 5 → (p ++ c) ≢ p
longer p c five e = let a = length-append p c in let z = ap length e in omega (arith, a, z, five)

pub same_ends : (q c p d : KeyBits) → length c ≡ 5 → length d ≡ 5 → q ++ c ≡ p ++ d → (q ≡ p) × (c ≡ d)
same_ends q c p d five_c five_d e =
    let a = length-append q c in let b = length-append p d in let z = ap length e in
    same_parts q p c d (omega (arith, a, b, z, five_c, five_d)) e

pub five_bits : (c : KeyBits) → length c ≡ 5 → low_bits 5 (number c) ≡ c
five_bits c five = (λ j. low_bits (sym five j) (number c)) ∙ low_bits-number c

-- ---- one list of a store changed

pub block_same : {A : Type 0} (lists : ListsOf A) (at : ℕ) (items : List A) → block (map_of.insert lists at items) at ≡ items
block_same lists at items = ap (λ o. unwrap_or o []) (map_of.get-insert nat_cmp_total lists at items at ∙ ap (λ b. cond b (Some items) (map_of.get lists at)) (unsigned_tied at at ∙ alike at))
  where
    alike : (a : ℕ) → (a == a) ≡ true
    alike a = elim (eqb_tells a a) [ inl here ↦ here.0 | inr differ ↦ absurd (differ.1 refl) ]

pub block_other : {A : Type 0} (lists : ListsOf A) (at b : ℕ) (items : List A) → b ≢ at → block (map_of.insert lists at items) b ≡ block lists b
block_other lists at b items differ = ap (λ o. unwrap_or o []) (map_of.get-insert nat_cmp_total lists at items b ∙ ap (λ t. cond t (Some items) (map_of.get lists b)) (unsigned_tied b at ∙ ne_eqb b at differ))

pub items_other : {A : Type 0} (lists : ListsOf A) (at bits b : ℕ) (items : List A) → (bits ≢ 0 → b ≢ at) → items_of (map_of.insert lists at items) bits b ≡ items_of lists bits b
items_other lists at bits b items differ = elim (eqb_tells bits 0) [
  | inl none ↦ (λ j. items_of (map_of.insert lists at items) (none.1 j) b) ∙ (λ j. items_of lists (sym none.1 j) b)
  | inr some ↦ items_some (map_of.insert lists at items) bits b some.1 ∙ block_other lists at b items (differ some.1) ∙ sym (items_some lists bits b some.1)
]

module _ {T : Type 0} where
  -- ---- the nodes after a change

  -- a node stays, and its children too
  steps_same : (t t' : Trie T) (p : KeyBits) (n n' : Node) → node_at t p ≡ Some n → IsChanged t t' p n' → ((c : ℕ) → c < 32 → child t' n' c ≡ child t n c)
      → Steps t' (λ q. cond (same_key q p) (Some n') (node_at t q))
  steps_same t t' p n n' at ch mine = record {
    root = root (same_key [] p) refl;
    step = λ q c five. step q c five (same_or_other q p);
    off = λ q off. ap (λ b. cond b (Some n') (node_at t q)) (not_same q p (λ e. off (ap (λ k. length k % 5) e ∙ kept_length t p n at))) ∙ below-off t t.root q off;
  }
    where
      root : (b : Bool) → same_key [] p ≡ b → cond (same_key [] p) (Some n') (node_at t []) ≡ Some t'.root
      root b e = ap (λ o. cond (same_key [] p) (Some n') o) (node_root t) ∙ pull (same_key [] p) ∙ ap Some (sym ch.root)
        where
          pull : (b : Bool) → cond b (Some n') (Some t.root) ≡ Some (cond b n' t.root)
          pull true = refl
          pull false = refl

      step : (q c : KeyBits) → length c ≡ 5 → Same q p → cond (same_key (q ++ c) p) (Some n') (node_at t (q ++ c)) ≡ option_and_then (λ m. child t' m (number c)) (cond (same_key q p) (Some n') (node_at t q))
      step q c five (same e) =
          let yes = ap (λ k. same_key k p) e ∙ same_key-itself p in
          let no : same_key (q ++ c) p ≡ false = not_same (q ++ c) p (λ z. longer p c five (ap (λ k. k ++ c) (sym e) ∙ z)) in
          ap (λ b. cond b (Some n') (node_at t (q ++ c))) no ∙ child_below t q c n five (ap (node_at t) e ∙ at)
          ∙ sym (mine (number c) (slot_small c five)) ∙ ap (λ b. option_and_then (λ m. child t' m (number c)) (cond b (Some n') (node_at t q))) (sym yes)
      step q c five (other differ) = of (node_at t q) refl ∙ ap (λ b. option_and_then (λ m. child t' m (number c)) (cond b (Some n') (node_at t q))) (sym differ)
        where
          of : (o : Option Node) → node_at t q ≡ o → cond (same_key (q ++ c) p) (Some n') (node_at t (q ++ c)) ≡ option_and_then (λ m. child t' m (number c)) (node_at t q)
          of None z =
              let gone : node_at t (q ++ c) ≡ None = below-step t t.root q c five ∙ ap (option_and_then (λ m. child t m (number c))) z in
              let no : same_key (q ++ c) p ≡ false = not_same (q ++ c) p (λ y. let some = ap (node_at t) y ∙ at in cc) in
              ap (λ b. cond b (Some n') (node_at t (q ++ c))) no ∙ gone ∙ sym (ap (option_and_then (λ m. child t' m (number c))) z)
          of (Some m) z =
              let kept = ch.others q m z (not_one q p differ) in
              (λ j. cond (same_key (q ++ sym (five_bits c five) j) p) (Some n') (child_below t q c m five z j))
              ∙ sym (kept.children (number c) (slot_small c five)) ∙ sym (ap (option_and_then (λ k. child t' k (number c))) z)

  pub nodes_same : (t t' : Trie T) (p : KeyBits) (n n' : Node) → node_at t p ≡ Some n → IsChanged t t' p n' → ((c : ℕ) → c < 32 → child t' n' c ≡ child t n c)
      → (q : KeyBits) → node_at t' q ≡ cond (same_key q p) (Some n') (node_at t q)
  nodes_same t t' p n n' at ch mine = steps-node_at t' (λ q. cond (same_key q p) (Some n') (node_at t q)) (steps_same t t' p n n' at ch mine)

  -- a node stays, and its child at the slot of c is x, which has no child
  pub record IsLinked (t t' : Trie T) (p : KeyBits) (n n' : Node) (c : KeyBits) (x : Option Node) : Type 0 where
    pub five : length c ≡ 5
    pub children : (b : ℕ) → b < 32 → child t' n' b ≡ cond (b == number c) x (child t n b)
    pub bare_before : (b : ℕ) → option_and_then (λ m. child t m b) (node_at t (p ++ c)) ≡ None
    pub bare_after : (b : ℕ) → option_and_then (λ m. child t' m b) x ≡ None

  steps_linked : (t t' : Trie T) (p : KeyBits) (n n' : Node) (r : KeyBits) (x : Option Node) → node_at t p ≡ Some n → IsChanged t t' p n' → IsLinked t t' p n n' r x
      → Steps t' (λ q. cond (same_key q p) (Some n') (cond (same_key q (p ++ r)) x (node_at t q)))
  steps_linked t t' p n n' r x at ch linked = record {
    root = root;
    step = λ q c five. step q c five (same_or_other q p);
    off = off;
  }
    where
      f : KeyBits → Option Node
      f q = cond (same_key q p) (Some n') (cond (same_key q (p ++ r)) x (node_at t q))

      top : same_key [] (p ++ r) ≡ false
      top = not_same [] (p ++ r) (λ e. let a = length-append p r in let z = ap length e in let five = linked.five in omega (arith, a, z, five))

      root : f [] ≡ Some t'.root
      root = (λ j. cond (same_key [] p) (Some n') (cond (top j) x (node_root t j))) ∙ pull (same_key [] p) ∙ ap Some (sym ch.root)
        where
          pull : (b : Bool) → cond b (Some n') (Some t.root) ≡ Some (cond b n' t.root)
          pull true = refl
          pull false = refl

      -- where q is neither
      else_is : (q : KeyBits) → same_key q p ≡ false → same_key q (p ++ r) ≡ false → f q ≡ node_at t q
      else_is q a b = (λ j. cond (a j) (Some n') (cond (b j) x (node_at t q)))

      off : (q : KeyBits) → length q % 5 ≢ 0 → f q ≡ None
      off q out =
          let lp = kept_length t p n at in
          let a = length-append p r in
          let five = linked.five in
          else_is q (not_same q p (λ e. out (ap (λ k. length k % 5) e ∙ lp)))
          (not_same q (p ++ r) (λ e. let z = ap length e in out (let y : length q % 5 ≡ 0 = omega (arith, z, a, five, lp) in y)))
          ∙ below-off t t.root q out

      step : (q c : KeyBits) → length c ≡ 5 → Same q p → f (q ++ c) ≡ option_and_then (λ m. child t' m (number c)) (f q)
      step q c five (same e) =
          let here : f q ≡ Some n' = ap (λ b. cond b (Some n') (cond (same_key q (p ++ r)) x (node_at t q))) (ap (λ k. same_key k p) e ∙ same_key-itself p) in
          let no : same_key (q ++ c) p ≡ false = not_same (q ++ c) p (λ z. longer p c five (ap (λ k. k ++ c) (sym e) ∙ z)) in
          ap (λ b. cond b (Some n') (cond (same_key (q ++ c) (p ++ r)) x (node_at t (q ++ c)))) no
          ∙ (λ j. cond (slot j) x (child_below t q c n five (ap (node_at t) e ∙ at) j))
          ∙ sym (linked.children (number c) (slot_small c five)) ∙ sym (ap (option_and_then (λ m. child t' m (number c))) here)
        where
          slot : same_key (q ++ c) (p ++ r) ≡ (number c == number r)
          slot = elim (same_or_other (q ++ c) (p ++ r)) [
            | same z ↦ (let ends = same_ends q c p r five linked.five z in ap (λ k. same_key k (p ++ r)) z ∙ same_key-itself (p ++ r) ∙ sym (one (number c) (number r) (ap number ends.1)))
            | other differ ↦ differ ∙ sym (ne_eqb (number c) (number r) (λ z.
                let c_is : c ≡ r = sym (five_bits c five) ∙ ap (low_bits 5) z ∙ five_bits r linked.five in
                not_one (q ++ c) (p ++ r) differ (λ j. e j ++ c_is j)))
          ]
            where
              one : (a b : ℕ) → a ≡ b → (a == b) ≡ true
              one a b z = elim (eqb_tells a b) [ inl here ↦ here.0 | inr apart ↦ absurd (apart.1 z) ]
      step q c five (other differ) = under (same_or_other q (p ++ r))
        where
          under : Same q (p ++ r) → f (q ++ c) ≡ option_and_then (λ m. child t' m (number c)) (f q)
          under (same e) =
              let here : f q ≡ x = (λ j. cond (differ j) (Some n') (cond (same_key q (p ++ r)) x (node_at t q))) ∙ ap (λ b. cond b x (node_at t q)) (ap (λ k. same_key k (p ++ r)) e ∙ same_key-itself (p ++ r)) in
              let a = length-append p r in
              let b = length-append q c in
              let five_r = linked.five in
              let y = ap length e in
              else_is (q ++ c) (not_same (q ++ c) p (λ z. let w = ap length z in omega (arith, a, b, w, y, five, five_r))) (not_same (q ++ c) (p ++ r) (λ z. let w = ap length z in omega (arith, a, b, w, y, five, five_r)))
              ∙ ap (λ k. node_at t (k ++ c)) e ∙ below-step t t.root (p ++ r) c five ∙ linked.bare_before (number c)
              ∙ sym (ap (option_and_then (λ m. child t' m (number c))) here ∙ linked.bare_after (number c))
          under (other apart) =
              of (node_at t q) refl ∙ sym (ap (option_and_then (λ m. child t' m (number c))) (else_is q differ apart))
            where
              no_link : same_key (q ++ c) (p ++ r) ≡ false
              no_link = not_same (q ++ c) (p ++ r) (λ z. not_one q p differ (same_ends q c p r five linked.five z).0)

              of : (o : Option Node) → node_at t q ≡ o → f (q ++ c) ≡ option_and_then (λ m. child t' m (number c)) (node_at t q)
              of None z =
                  let gone : node_at t (q ++ c) ≡ None = below-step t t.root q c five ∙ ap (option_and_then (λ m. child t m (number c))) z in
                  let no : same_key (q ++ c) p ≡ false = not_same (q ++ c) p (λ y. let some = ap (node_at t) y ∙ at in cc) in
                  else_is (q ++ c) no no_link ∙ gone ∙ sym (ap (option_and_then (λ m. child t' m (number c))) z)
              of (Some m) z =
                  let kept = ch.others q m z (not_one q p differ) in
                  ap (λ b. cond (same_key (q ++ c) p) (Some n') (cond b x (node_at t (q ++ c)))) no_link
                  ∙ (λ j. cond (same_key (q ++ sym (five_bits c five) j) p) (Some n') (child_below t q c m five z j))
                  ∙ sym (kept.children (number c) (slot_small c five)) ∙ sym (ap (option_and_then (λ k. child t' k (number c))) z)

  pub nodes_linked : (t t' : Trie T) (p : KeyBits) (n n' : Node) (r : KeyBits) (x : Option Node) → node_at t p ≡ Some n → IsChanged t t' p n' → IsLinked t t' p n n' r x
      → (q : KeyBits) → node_at t' q ≡ cond (same_key q p) (Some n') (cond (same_key q (p ++ r)) x (node_at t q))
  nodes_linked t t' p n n' r x at ch linked = steps-node_at t' (λ q. cond (same_key q p) (Some n') (cond (same_key q (p ++ r)) x (node_at t q))) (steps_linked t t' p n n' r x at ch linked)

  -- ---- the invariant after a change: each node is the changed one, or one that stayed, or a bare one that is new

  pub data Which (t t' : Trie T) (p : KeyBits) (n' : Node) (q : KeyBits) (m : Node) : Type 0 where
    changed : q ≡ p → m ≡ n' → Which t t' p n' q m
    stayed : q ≢ p → node_at t q ≡ Some m → Which t t' p n' q m
    new_bare : length q ≤ 125 → m.data_bits ≡ 0 → m.child_bits ≡ 0 → m.values < 2 ^ 32 → m.children < 2 ^ 32 → Which t t' p n' q m

  pub changed_trie : (t t' : Trie T) → IsTrie t → (p : KeyBits) (n' : Node) → IsChanged t t' p n' → ((q : KeyBits) (m : Node) → node_at t' q ≡ Some m → Which t t' p n' q m) → IsTrie t'
  unfolding ones
  changed_trie t t' trie p n' ch which = record {
    each = λ q m e. each q m (which q m e);
    own_children = λ q u m k e f some more blocks. children q u m k (which q m e) (which u k f) some more blocks;
    own_values = λ q u m k e f some more blocks. values q u m k (which q m e) (which u k f) some more blocks;
  }
    where
      each : (q : KeyBits) (m : Node) → Which t t' p n' q m → IsNode t' q m
      each q m (changed e is) = subst (λ k. IsNode t' q k) (sym is) (subst (λ r. IsNode t' r n') (sym e) ch.node)
      each q m (stayed apart old) =
          let node = trie.each q m old in
          let kept = ch.others q m old apart in
          record {
            depth_within = node.depth_within;
            data_within = node.data_within;
            child_within = node.child_within;
            values_within = node.values_within;
            children_within = node.children_within;
            values = ap length kept.values ∙ node.values;
            children = kept.child_count ∙ node.children;
          }
      each q m (new_bare short no_data no_child values children) = record {
        depth_within = short;
        data_within = rw no_data (lit< tt);
        child_within = rw no_child (lit< tt);
        values_within = values;
        children_within = children;
        values = (λ j. length (items_of t'.values.lists (no_data j) m.values)) ∙ ap count_ones (sym no_data);
        children = (λ j. length (items_of t'.nodes.lists (no_child j) m.children)) ∙ ap count_ones (sym no_child);
      }

      children : (q u : KeyBits) (m k : Node) → Which t t' p n' q m → Which t t' p n' u k → m.child_bits ≢ 0 → k.child_bits ≢ 0 → m.children ≡ k.children → q ≡ u
      children q u m k (changed e is) (changed f same_is) some more blocks = e ∙ sym f
      children q u m k (changed e is) (stayed apart old) some more blocks =
          absurd ((ch.others u k old apart).own_children more (λ z. some (ap (λ (l : Node). l.child_bits) is ∙ z)) (sym blocks ∙ ap (λ (l : Node). l.children) is))
      children q u m k (stayed apart old) (changed f is) some more blocks =
          absurd ((ch.others q m old apart).own_children some (λ z. more (ap (λ (l : Node). l.child_bits) is ∙ z)) (blocks ∙ ap (λ (l : Node). l.children) is))
      children q u m k (stayed apart old) (stayed apart_u old_u) some more blocks = trie.own_children q u m k old old_u some more blocks
      children q u m k (new_bare short no_data no_child v c) w some more blocks = absurd (some no_child)
      children q u m k (changed e is) (new_bare short no_data no_child v c) some more blocks = absurd (more no_child)
      children q u m k (stayed apart old) (new_bare short no_data no_child v c) some more blocks = absurd (more no_child)

      values : (q u : KeyBits) (m k : Node) → Which t t' p n' q m → Which t t' p n' u k → m.data_bits ≢ 0 → k.data_bits ≢ 0 → m.values ≡ k.values → q ≡ u
      values q u m k (changed e is) (changed f same_is) some more blocks = e ∙ sym f
      values q u m k (changed e is) (stayed apart old) some more blocks =
          absurd ((ch.others u k old apart).own_values more (λ z. some (ap (λ (l : Node). l.data_bits) is ∙ z)) (sym blocks ∙ ap (λ (l : Node). l.values) is))
      values q u m k (stayed apart old) (changed f is) some more blocks =
          absurd ((ch.others q m old apart).own_values some (λ z. more (ap (λ (l : Node). l.data_bits) is ∙ z)) (blocks ∙ ap (λ (l : Node). l.values) is))
      values q u m k (stayed apart old) (stayed apart_u old_u) some more blocks = trie.own_values q u m k old old_u some more blocks
      values q u m k (new_bare short no_data no_child v c) w some more blocks = absurd (some no_data)
      values q u m k (changed e is) (new_bare short no_data no_child v c) some more blocks = absurd (more no_data)
      values q u m k (stayed apart old) (new_bare short no_data no_child v c) some more blocks = absurd (more no_data)

  -- ---- what is held after a change

  -- where the nodes stay, but for values of the changed one
  pub held_same : (t t' : Trie T) (p : KeyBits) (n' : Node) → IsChanged t t' p n' → ((q : KeyBits) → node_at t' q ≡ cond (same_key q p) (Some n') (node_at t q))
      → (k : KeyBits) → held t' k ≡ cond (same_key (take (length k / 5 * 5) k) p) (value_of t' n' (bit_of (drop (length k / 5 * 5) k))) (held t k)
  held_same t t' p n' ch nodes k =
      ap (option_and_then (λ m. value_of t' m b)) (nodes q) ∙ of (same_or_other q p)
    where
      q : KeyBits
      q = take (length k / 5 * 5) k

      b : ℕ
      b = bit_of (drop (length k / 5 * 5) k)

      old : (o : Option Node) → node_at t q ≡ o → q ≢ p → option_and_then (λ m. value_of t' m b) o ≡ option_and_then (λ m. value_of t m b) o
      old None e apart = refl
      old (Some m) e apart = ap (λ items. picked m.data_bits items b) (ch.others q m e apart).values

      of : Same q p → option_and_then (λ m. value_of t' m b) (cond (same_key q p) (Some n') (node_at t q)) ≡ cond (same_key q p) (value_of t' n' b) (held t k)
      of (same e) =
          let here : same_key q p ≡ true = ap (λ r. same_key r p) e ∙ same_key-itself p in
          ap (λ s. option_and_then (λ m. value_of t' m b) (cond s (Some n') (node_at t q))) here ∙ ap (λ s. cond s (value_of t' n' b) (held t k)) (sym here)
      of (other differ) =
          ap (λ s. option_and_then (λ m. value_of t' m b) (cond s (Some n') (node_at t q))) differ
          ∙ old (node_at t q) refl (not_one q p differ)
          ∙ ap (λ s. cond s (value_of t' n' b) (held t k)) (sym differ)

  pub held_linked : (t t' : Trie T) (p : KeyBits) (n' : Node) (r : KeyBits) (x : Option Node) → IsChanged t t' p n' → ((q : KeyBits) → node_at t' q ≡ cond (same_key q p) (Some n') (cond (same_key q (p ++ r)) x (node_at t q)))
      → ((b : ℕ) → option_and_then (λ m. value_of t m b) (node_at t (p ++ r)) ≡ None) → ((b : ℕ) → option_and_then (λ m. value_of t' m b) x ≡ None)
      → (k : KeyBits) → held t' k ≡ cond (same_key (take (length k / 5 * 5) k) p) (value_of t' n' (bit_of (drop (length k / 5 * 5) k))) (held t k)
  held_linked t t' p n' r x ch nodes before after k =
      ap (option_and_then (λ m. value_of t' m b)) (nodes q) ∙ of (same_or_other q p)
    where
      q : KeyBits
      q = take (length k / 5 * 5) k

      b : ℕ
      b = bit_of (drop (length k / 5 * 5) k)

      old : (o : Option Node) → node_at t q ≡ o → q ≢ p → option_and_then (λ m. value_of t' m b) o ≡ option_and_then (λ m. value_of t m b) o
      old None e apart = refl
      old (Some m) e apart = ap (λ items. picked m.data_bits items b) (ch.others q m e apart).values

      under : q ≢ p → Same q (p ++ r) → option_and_then (λ m. value_of t' m b) (cond (same_key q (p ++ r)) x (node_at t q)) ≡ held t k
      under apart (same e) =
          ap (λ s. option_and_then (λ m. value_of t' m b) (cond s x (node_at t q))) (ap (λ s. same_key s (p ++ r)) e ∙ same_key-itself (p ++ r))
          ∙ after b ∙ sym (ap (λ s. option_and_then (λ m. value_of t m b) (node_at t s)) e ∙ before b)
      under apart (other differ) = ap (λ s. option_and_then (λ m. value_of t' m b) (cond s x (node_at t q))) differ ∙ old (node_at t q) refl apart

      of : Same q p → option_and_then (λ m. value_of t' m b) (cond (same_key q p) (Some n') (cond (same_key q (p ++ r)) x (node_at t q))) ≡ cond (same_key q p) (value_of t' n' b) (held t k)
      of (same e) =
          let here : same_key q p ≡ true = ap (λ r. same_key r p) e ∙ same_key-itself p in
          ap (λ s. option_and_then (λ m. value_of t' m b) (cond s (Some n') (cond (same_key q (p ++ r)) x (node_at t q)))) here ∙ ap (λ s. cond s (value_of t' n' b) (held t k)) (sym here)
      of (other differ) =
          ap (λ s. option_and_then (λ m. value_of t' m b) (cond s (Some n') (cond (same_key q (p ++ r)) x (node_at t q)))) differ
          ∙ under (not_one q p differ) (same_or_other q (p ++ r))
          ∙ ap (λ s. cond s (value_of t' n' b) (held t k)) (sym differ)

  -- ---- a node written in its place, after its own blocks were changed

  -- In t1 the blocks of n' are changed, and those of the other nodes are as in t.
  pub record IsReady (t t1 : Trie T) (p : KeyBits) (n' : Node) : Type 0 where
    pub root : t1.root ≡ t.root
    pub node : IsNode t1 p n'
    pub children : (q : KeyBits) (m : Node) → node_at t q ≡ Some m → q ≢ p → items_of t1.nodes.lists m.child_bits m.children ≡ items_of t.nodes.lists m.child_bits m.children
    pub values : (q : KeyBits) (m : Node) → node_at t q ≡ Some m → q ≢ p → items_of t1.values.lists m.data_bits m.values ≡ items_of t.values.lists m.data_bits m.values
    pub own_children : (q : KeyBits) (m : Node) → node_at t q ≡ Some m → q ≢ p → m.child_bits ≢ 0 → n'.child_bits ≢ 0 → m.children ≢ n'.children
    pub own_values : (q : KeyBits) (m : Node) → node_at t q ≡ Some m → q ≢ p → m.data_bits ≢ 0 → n'.data_bits ≢ 0 → m.values ≢ n'.values

  pub record IsWritten (t t1 t' : Trie T) (p : KeyBits) (n' : Node) : Type 0 where
    pub changed : IsChanged t t' p n'
    pub children : (c : ℕ) → child t' n' c ≡ child t1 n' c

  written_root : (t t1 : Trie T) (n' : Node) → IsReady t t1 [] n' → IsWritten t t1 (record t1 { root = n' }) [] n'
  written_root t t1 n' ready = record {
    changed = record {
      root = refl;
      node = record {
        depth_within = ready.node.depth_within;
        data_within = ready.node.data_within;
        child_within = ready.node.child_within;
        values_within = ready.node.values_within;
        children_within = ready.node.children_within;
        values = ready.node.values;
        children = ready.node.children;
      };
      others = λ q m e apart. record {
        children = λ c l. ap (λ items. picked m.child_bits items c) (ready.children q m e apart) ∙ ap (λ b. cond b (Some n') (child t m c)) (sym (not_same (q ++ low_bits 5 c) [] (λ z.
            let a = length-append q (low_bits 5 c) in let b = length-low_bits 5 c in let y = ap length z in omega (arith, a, b, y))));
        child_count = ap length (ready.children q m e apart);
        values = ready.values q m e apart;
        own_children = ready.own_children q m e apart;
        own_values = ready.own_values q m e apart;
      };
    };
    children = λ c. refl;
  }

  written_child : (t t1 : Trie T) → IsTrie t → (q0 c0 : KeyBits) (m0 n n' : Node) → length c0 ≡ 5 → node_at t q0 ≡ Some m0 → child t m0 (number c0) ≡ Some n → IsReady t t1 (q0 ++ c0) n'
      → IsWritten t t1 (record t1 { nodes = with_item t1.nodes m0.children (place m0.child_bits (number c0)) n' }) (q0 ++ c0) n'
  written_child t t1 trie q0 c0 m0 n n' five above below ready = record {
    changed = record {
      root = ready.root ∙ ap (λ b. cond b n' t.root) (sym (not_same [] p (λ z. let a = length-append q0 c0 in let y = ap length z in omega (arith, a, y, five))));
      node = record {
        depth_within = ready.node.depth_within;
        data_within = ready.node.data_within;
        child_within = ready.node.child_within;
        values_within = ready.node.values_within;
        children_within = ready.node.children_within;
        values = ready.node.values;
        children = ap length (items_other t1.nodes.lists m0.children n'.child_bits n'.children set not_mine) ∙ ready.node.children;
      };
      others = λ q m e apart. record {
        children = λ c l. children q m e apart c l (same_or_other q q0);
        child_count = count q m e apart (same_or_other q q0);
        values = ready.values q m e apart;
        own_children = ready.own_children q m e apart;
        own_values = ready.own_values q m e apart;
      };
    };
    children = λ c. ap (λ items. picked n'.child_bits items c) (items_other t1.nodes.lists m0.children n'.child_bits n'.children set not_mine);
  }
    where
      p : KeyBits
      p = q0 ++ c0

      known : IsChild t m0 (number c0) n
      known = is_child t m0 (number c0) n below

      up : q0 ≢ p
      up z = longer q0 c0 five (sym z)

      old_items : items_of t1.nodes.lists m0.child_bits m0.children ≡ items_of t.nodes.lists m0.child_bits m0.children
      old_items = ready.children q0 m0 above up

      set : List Node
      set = slice_set (block t1.nodes.lists m0.children) (place m0.child_bits (number c0)) n'

      not_mine : n'.child_bits ≢ 0 → n'.children ≢ m0.children
      not_mine some z = ready.own_children q0 m0 above up known.some some (sym z)

      -- the children of the node above
      set_items : items_of (map_of.insert t1.nodes.lists m0.children set) m0.child_bits m0.children ≡ slice_set (items_of t.nodes.lists m0.child_bits m0.children) (place m0.child_bits (number c0)) n'
      set_items =
          items_some (map_of.insert t1.nodes.lists m0.children set) m0.child_bits m0.children known.some
          ∙ block_same t1.nodes.lists m0.children set
          ∙ ap (λ items. slice_set items (place m0.child_bits (number c0)) n') (sym (items_some t1.nodes.lists m0.child_bits m0.children known.some) ∙ old_items)

      within : place m0.child_bits (number c0) < length (items_of t.nodes.lists m0.child_bits m0.children)
      within = let l = place-lt m0.child_bits (number c0) known.set in let e = (trie.each q0 m0 above).children in omega (arith, l, e)

      -- those of a node that is not above
      same_items : (q : KeyBits) (m : Node) → node_at t q ≡ Some m → q ≢ p → q ≢ q0 → items_of (map_of.insert t1.nodes.lists m0.children set) m.child_bits m.children ≡ items_of t.nodes.lists m.child_bits m.children
      same_items q m e apart away =
          items_other t1.nodes.lists m0.children m.child_bits m.children set (λ some z. away (trie.own_children q q0 m m0 e above some known.some z))
          ∙ ready.children q m e apart

      children : (q : KeyBits) (m : Node) → node_at t q ≡ Some m → q ≢ p → (c : ℕ) → c < 32 → Same q q0
          → picked m.child_bits (items_of (map_of.insert t1.nodes.lists m0.children set) m.child_bits m.children) c ≡ cond (same_key (q ++ low_bits 5 c) p) (Some n') (child t m c)
      children q m e apart c l (other differ) =
          let away = not_one q q0 differ in
          ap (λ items. picked m.child_bits items c) (same_items q m e apart away)
          ∙ ap (λ b. cond b (Some n') (child t m c)) (sym (not_same (q ++ low_bits 5 c) p (λ z. away (same_ends q (low_bits 5 c) q0 c0 (length-low_bits 5 c) five z).0)))
      children q m e apart c l (same z) =
          let is : m ≡ m0 = same_Some m m0 (sym e ∙ ap (node_at t) z ∙ above) in
          (λ j. picked (is j).child_bits (items_of (map_of.insert t1.nodes.lists m0.children set) (is j).child_bits (is j).children) c)
          ∙ ap (λ items. picked m0.child_bits items c) set_items
          ∙ at (eqb_tells c (number c0))
          ∙ (λ j. cond (same_key (sym z j ++ low_bits 5 c) p) (Some n') (child t (sym is j) c))
        where
          at : (((c == number c0) ≡ true) × (c ≡ number c0)) ⊎ (((c == number c0) ≡ false) × (c ≢ number c0))
              → picked m0.child_bits (slice_set (items_of t.nodes.lists m0.child_bits m0.children) (place m0.child_bits (number c0)) n') c ≡ cond (same_key (q0 ++ low_bits 5 c) p) (Some n') (child t m0 c)
          at (inl here) =
              ap (picked m0.child_bits (slice_set (items_of t.nodes.lists m0.child_bits m0.children) (place m0.child_bits (number c0)) n')) here.1
              ∙ picked-set_same m0.child_bits (items_of t.nodes.lists m0.child_bits m0.children) (number c0) n' known.set within
              ∙ ap (λ b. cond b (Some n') (child t m0 c)) (sym (ap (λ k. same_key (q0 ++ k) p) (ap (low_bits 5) here.1 ∙ five_bits c0 five) ∙ same_key-itself p))
          at (inr away) =
              picked-set_other m0.child_bits (items_of t.nodes.lists m0.child_bits m0.children) (number c0) n' c known.set away.1
              ∙ ap (λ b. cond b (Some n') (child t m0 c)) (sym (not_same (q0 ++ low_bits 5 c) p (λ y.
              let ends = same_ends q0 (low_bits 5 c) q0 c0 (length-low_bits 5 c) five y in
              away.1 (sym (number_five c l) ∙ ap number ends.1))))

      count : (q : KeyBits) (m : Node) → node_at t q ≡ Some m → q ≢ p → Same q q0
          → length (items_of (map_of.insert t1.nodes.lists m0.children set) m.child_bits m.children) ≡ length (items_of t.nodes.lists m.child_bits m.children)
      count q m e apart (other differ) = ap length (same_items q m e apart (not_one q q0 differ))
      count q m e apart (same z) =
          let is : m ≡ m0 = same_Some m m0 (sym e ∙ ap (node_at t) z ∙ above) in
          (λ j. length (items_of (map_of.insert t1.nodes.lists m0.children set) (is j).child_bits (is j).children))
          ∙ ap length set_items ∙ length-set_at (items_of t.nodes.lists m0.child_bits m0.children) (place m0.child_bits (number c0)) n'
          ∙ (λ j. length (items_of t.nodes.lists (sym is j).child_bits (sym is j).children))

  pub written : (t t1 : Trie T) → IsTrie t → (p : KeyBits) (a : ℕ) (n' : Node) → number_at t p ≡ Some a → IsReady t t1 p n' → IsWritten t t1 (with_node t1 a n') p n'
  written t t1 trie p a n' named ready = of (stands_at t p a named)
    where
      of : Stands t p a → IsWritten t t1 (with_node t1 a n') p n'
      of s = elim s.how [
        | at_root z first is ↦
            subst (λ (b : ℕ). IsWritten t t1 (with_node t1 b n') p n') (sym first)
            (subst (λ (q : KeyBits). IsWritten t t1 (record t1 { root = n' }) q n') (sym z) (written_root t t1 n' (subst (λ (q : KeyBits). IsReady t t1 q n') z ready)))
        | at_child q0 c0 m0 five z h y is ↦
            let low = place_small m0.child_bits (number c0) in
            let small = slot_small c0 five in
            let block_is : (a - 1) / 32 ≡ m0.children = omega (arith, is, low, small) in
            let place_is : (a - 1) % 32 ≡ place m0.child_bits (number c0) = omega (arith, is, low, small) in
            let later : a ≢ 0 = (λ w. omega (arith, is, w)) in
            let result : with_node t1 a n' ≡ record t1 { nodes = with_item t1.nodes m0.children (place m0.child_bits (number c0)) n' } =
            ap (λ b. cond b (record t1 { root = n' }) (record t1 { nodes = with_item t1.nodes ((a - 1) / 32) ((a - 1) % 32) n' })) (not_zero a later)
            ∙ (λ j. record t1 { nodes = with_item t1.nodes (block_is j) (place_is j) n' }) in
            subst (λ (t' : Trie T). IsWritten t t1 t' p n') (sym result)
            (subst (λ (q : KeyBits). IsWritten t t1 (record t1 { nodes = with_item t1.nodes m0.children (place m0.child_bits (number c0)) n' }) q n') (sym z)
            (written_child t t1 trie q0 c0 m0 s.node n' five h y (subst (λ (q : KeyBits). IsReady t t1 q n') z ready)))
      ]

  -- the place of the node is still there
  pub still_numbered : (t t1 : Trie T) → IsTrie t → (p : KeyBits) (a : ℕ) (n' : Node) → number_at t p ≡ Some a → IsReady t t1 p n' → IsSome (numbered t1 a)
  still_numbered t t1 trie p a n' named ready = of (stands_at t p a named)
    where
      of : Stands t p a → IsSome (numbered t1 a)
      of s = elim s.how [
        | at_root z first is ↦ ap (λ (b : ℕ). is_some (numbered t1 b)) first
        | at_child q0 c0 m0 five z h y is ↦
            let known = is_child t m0 (number c0) s.node y in
            let low = place_small m0.child_bits (number c0) in
            let small = slot_small c0 five in
            let block_is : (a - 1) / 32 ≡ m0.children = omega (arith, is, low, small) in
            let place_is : (a - 1) % 32 ≡ place m0.child_bits (number c0) = omega (arith, is, low, small) in
            let later : a ≢ 0 = (λ w. omega (arith, is, w)) in
            let items = ready.children q0 m0 h (λ w. longer q0 c0 five (sym z ∙ sym w)) in
            ap is_some (numbered_later t1 a later ∙ (λ j. slice_get (block t1.nodes.lists (block_is j)) (place_is j))
            ∙ ap (λ xs. slice_get xs (place m0.child_bits (number c0))) (sym (items_some t1.nodes.lists m0.child_bits m0.children known.some) ∙ items ∙ items_some t.nodes.lists m0.child_bits m0.children known.some)
            ∙ known.item)
      ]

  -- ---- the numbers of the positions above

  pub number_above : (t t' : Trie T) (p : KeyBits) (n n' : Node) → node_at t p ≡ Some n → IsChanged t t' p n' → ((u : KeyBits) → length u < length p → node_at t' u ≡ node_at t u)
      → (q r : KeyBits) → p ≡ q ++ r → number_at t' q ≡ number_at t q
  number_above t t' p n n' at ch nodes q r whole = of (length q % 5) refl
    where
      size : length p ≡ length q + length r
      size = ap length whole ∙ length-append q r

      later : (u c : KeyBits) → length c ≡ 5 → q ≡ u ++ c → number_at t' q ≡ number_at t q
      later u c five z =
          let a = length-append u c in
          let y = ap length z in
          ap (number_at t') z ∙ number-step t' t'.root 0 u c five ∙ ap (option_and_then (λ m. step_number t' m (number c))) (nodes u (omega (arith, a, y, five, size)))
          ∙ step (node_at t u) refl
          ∙ sym (ap (number_at t) z ∙ number-step t t.root 0 u c five)
        where
          step : (o : Option Node) → node_at t u ≡ o → option_and_then (λ m. step_number t' m (number c)) o ≡ option_and_then (λ m. step_number t m (number c)) o
          step None e = refl
          step (Some m) e =
              let u_not_p : u ≢ p = (λ w. let y = ap length z in let b = length-append u c in let x = ap length w in omega (arith, y, b, x, five, size)) in
              let kept = (ch.others u m e u_not_p).children (number c) (slot_small c five) in
              ap (option_and_then (λ (k : Node). Some (child_number m (number c)))) kept ∙ same_presence (same_or_other (u ++ low_bits 5 (number c)) p)
            where
              same_presence : Same (u ++ low_bits 5 (number c)) p
                  → option_and_then (λ (k : Node). Some (child_number m (number c))) (cond (same_key (u ++ low_bits 5 (number c)) p) (Some n') (child t m (number c))) ≡ option_and_then (λ (k : Node). Some (child_number m (number c))) (child t m (number c))
              same_presence (other differ) = ap (λ b. option_and_then (λ (k : Node). Some (child_number m (number c))) (cond b (Some n') (child t m (number c)))) differ
              same_presence (same w) =
                  let here : child t m (number c) ≡ Some n = sym (child_below t u c m five e) ∙ ap (λ k. node_at t (u ++ k)) (sym (five_bits c five)) ∙ ap (node_at t) w ∙ at in
                  ap (λ b. option_and_then (λ (k : Node). Some (child_number m (number c))) (cond b (Some n') (child t m (number c)))) (ap (λ k. same_key k p) w ∙ same_key-itself p)
                  ∙ sym (ap (option_and_then (λ (k : Node). Some (child_number m (number c)))) here)

      of : (k : ℕ) → length q % 5 ≡ k → number_at t' q ≡ number_at t q
      of zero e = elim (split q e) [
        | top z ↦ ap (number_at t') z ∙ number_zero t' ∙ sym (ap (number_at t) z ∙ number_zero t)
        | under u c five z ↦ later u c five z
      ]
      of (suc k) e =
          let off : length q % 5 ≢ 0 = (λ z. omega (arith, e, z)) in
          number-off t' t'.root 0 q off ∙ sym (number-off t t.root 0 q off)
