-- All that stands below a key taken away.
use Rattle.std.specs.Prelude.{◌≡◌, ◌≢◌, ℕ, zero, suc, ◌+◌, ◌-◌, ◌*◌, ◌/◌, ◌%◌, ◌^◌, ◌<◌, ◌≤◌, ◌==◌, ◌&&◌, not, Bool, true, false, cond, List, [], ◌∷◌, ◌++◌, length, map, Some, None, is_some, slice_get}
use Rattle.std.specs.FinMap as map_of
use Rattle.std.specs.Int.{bit_at}
use Rattle.std.proofs.Common.{refl, sym, ap, ◌∙◌, arith, length-append}
use Rattle.std.proofs.lemmas.Nat.Bits.{bit_at_lowest}
use Rattle.std.proofs.Math.Nat.{mod-eq_of_lt}
use Rattle.prefix_model.specs.Keys.{KeyBits, low_bits, same_key}
use Rattle.prefix_model.specs.Positions.{bitmap, data_places, child_places, child_bits}
use Rattle.prefix_model.proofs.KeyNumbers.{length-low_bits, number-low_bits, low_bits-append}
use Rattle.prefix_model.proofs.KeyLemmas.{same_key-itself}
use Rattle.prefix_model.proofs.Bitmaps.SlotLaws.{shifted_one}
use Rattle.prefix_model.proofs.KeyLists.{Same, same_or_other, not_same, not_one}
use Rattle.prefix_model.proofs.KeyLists.Same.{same, other}
use Rattle.prefix_model.proofs.Fronts.{append_none}
use Rattle.prefix_model.proofs.KeyPieces.{number_five}
use Rattle.prefix_model.proofs.Bitmaps.NodeBits.{length_of_children}
use Rattle.prefix_table.specs.Tries.{child, child_number, bit_of, node_at, number_at, numbered, held, is_kept, table_view, IsTrie}
use Rattle.prefix_table.specs.Writes.{IsTaken, IsCut, IsBareChild, IsDropped, IsCleared, with_node}
use Rattle.prefix_table.specs.declared.trie.Node.{Node}
use Rattle.prefix_table.specs.declared.trie.Trie.{Trie}
use Rattle.prefix_blocks.specs.Blocks.{BlocksView}
use Rattle.prefix_table.proofs.StoreLaws.{IsShrunkIn}
use Rattle.prefix_table.proofs.TableCounts.{counted_less}
use Rattle.prefix_table.proofs.PositionLaws.{entries_removed, entries_same}
use Rattle.prefix_table.proofs.TrieWrites.{less_data, less_children, value_still, child_still}
use Rattle.prefix_table.proofs.TrieWays.{kept_length, below-off, number_tells, child_below, child_number_below}
use Rattle.prefix_table.proofs.TrieReads.{same_node, child_told, no_child_told, data_bits_are, child_bits_are, held_nowhere, none_below}
use Rattle.prefix_table.proofs.TrieViews.{get_entry, contains_kept}
use Rattle.prefix_table.proofs.TrieChanges.{longer, number_above}

append_three : (x y z : KeyBits) → (x ++ y) ++ z ≡ x ++ (y ++ z)
append_three [] y z = refl
append_three (b ∷ x) y z = ap (λ k. b ∷ k) (append_three x y z)

bitmap_none : (places : List KeyBits) (test : KeyBits → Bool) → ((b : ℕ) (s : KeyBits) → slice_get places b ≡ Some s → test s ≡ false) → bitmap (map test places) ≡ 0
bitmap_none [] test none = refl
bitmap_none (s ∷ places) test none =
    let first : cond (test s) 1 0 ≡ 0 = ap {B = ℕ} (λ b. cond b 1 0) (none 0 s refl) in
    let rest = bitmap_none places test (λ b t e. none (suc b) t e) in
    omega (arith, first, rest)

-- keys with one front and another next bit
other_half : (k r q : KeyBits) (a b : Bool) → (a ≢ b) → k ++ a ∷ r ≢ (k ++ b ∷ []) ++ q
other_half [] r q a b differ e = differ (let h : a ≡ b = cc in h)
other_half (x ∷ k) r q a b differ e = other_half k r q a b differ (let h : k ++ a ∷ r ≡ (k ++ b ∷ []) ++ q = cc in h)

shorter_half : (k q : KeyBits) (b : Bool) → k ≢ (k ++ b ∷ []) ++ q
shorter_half k q b e = let z = ap length e in let a = length-append (k ++ b ∷ []) q in let c = length-append k (b ∷ []) in omega (arith, z, a, c)

pub no_length : (s : KeyBits) → length s ≡ 0 → s ≡ []
no_length [] e = refl
no_length (b ∷ s) e = absurd (omega arith)

module _ {T : Type 0} where
  -- ---- the numbers of the positions above

  pub value_numbers : (t : Trie T) → IsTrie t → (p : KeyBits) (a : ℕ) (n : Node) (slot m : ℕ) (x : T) (v : BlocksView T) → number_at t p ≡ Some a → node_at t p ≡ Some n → bit_at n.data_bits slot ≡ 1
      → IsShrunkIn t.values.lists v.lists n.data_bits n.values m slot x → (q r : KeyBits) → p ≡ q ++ r → number_at (with_node (record t { values = v }) a (less_data n m)) q ≡ number_at t q
  value_numbers t trie p a n slot m x v named at set shrunk =
      let still = value_still t trie p a n slot m x v named at set shrunk in
      number_above t (with_node (record t { values = v }) a (less_data n m)) p n still.node at still.changed still.nodes

  pub child_numbers : (t : Trie T) → IsTrie t → (p : KeyBits) (a : ℕ) (n : Node) (slot m : ℕ) (leaf : Node) (nodes : BlocksView Node) → number_at t p ≡ Some a → node_at t p ≡ Some n → slot < 32 → bit_at n.child_bits slot ≡ 1 → child t n slot ≡ Some leaf
      → leaf.data_bits ≡ 0 → leaf.child_bits ≡ 0 → IsShrunkIn t.nodes.lists nodes.lists n.child_bits n.children m slot leaf → (q r : KeyBits) → p ≡ q ++ r → number_at (with_node (record t { nodes = nodes }) a (less_children n m)) q ≡ number_at t q
  child_numbers t trie p a n slot m leaf nodes named at small set read no_data no_children s =
      let still = child_still t trie p a n slot m leaf nodes named at small set read no_data no_children s in
      number_above t (with_node (record t { nodes = nodes }) a (less_children n m)) p n still.node at still.changed still.nodes

  -- ---- a node with nothing in it

  pub bare_bits : (t : Trie T) → IsTrie t → (p : KeyBits) (n : Node) → node_at t p ≡ Some n → ((r : KeyBits) → held t (p ++ r) ≡ None) → ((r : KeyBits) → p ++ r ≢ p → is_kept t (p ++ r) ≡ false) → (n.data_bits ≡ 0) × (n.child_bits ≡ 0)
  bare_bits t trie p n at none gone = (
    data_bits_are t trie p n at ∙ bitmap_none data_places (λ s. is_some (map_of.get (table_view t).entries (p ++ s))) (λ b s is. ap is_some (get_entry t trie (p ++ s) ∙ none s)),
    child_bits_are t trie p n at ∙ children,
  )
    where
      five_away : (s : KeyBits) → length s ≡ 5 → p ++ s ≢ p
      five_away s five = longer p s five

      lengths : (b : ℕ) (s : KeyBits) → slice_get child_places b ≡ Some s → length s ≡ 5
      lengths b s is = length_of_children b s is

      children : child_bits (map_of.contains_key (table_view t).kept) p ≡ 0
      children = bitmap_none child_places (λ s. map_of.contains_key (table_view t).kept (p ++ s)) (λ b s is. contains_kept t trie (p ++ s) ∙ gone s (five_away s (lengths b s is)))

  -- ---- a value and both halves below it

  pub cleared_halves : (t t1 t2 t3 : Trie T) (p s : KeyBits) → length p % 5 ≡ 0 → length s < 5 → IsDropped t t1 p (p ++ s) → IsCleared t1 t2 p ((p ++ s) ++ false ∷ []) → IsCleared t2 t3 p ((p ++ s) ++ true ∷ []) → IsCleared t t3 p (p ++ s)
  cleared_halves t t1 t2 t3 p s lp ls dropped left right = record {
    trie = right.trie;
    held_below = held_below;
    kept_below = kept_below;
    held_else = λ k out. right.held_else k (λ r e. out (true ∷ r) (e ∙ append_three key (true ∷ []) r)) ∙ left.held_else k (λ r e. out (false ∷ r) (e ∙ append_three key (false ∷ []) r))
        ∙ dropped.held_else k ∙ ap (λ b. cond b None (held t k)) (not_same k key (λ e. out [] (e ∙ sym (append_none key))));
    kept_else = λ q out. right.kept_else q (λ r e. out (true ∷ r) (e ∙ append_three key (true ∷ []) r)) ∙ left.kept_else q (λ r e. out (false ∷ r) (e ∙ append_three key (false ∷ []) r)) ∙ dropped.kept q;
    numbers = λ q r e. right.numbers q r e ∙ left.numbers q r e ∙ dropped.numbers q r e;
  }
    where
      key : KeyBits
      key = p ++ s

      held_below : (r : KeyBits) → held t3 (key ++ r) ≡ None
      held_below [] =
          ap (held t3) (append_none key) ∙ right.held_else key (λ q. shorter_half key q true) ∙ left.held_else key (λ q. shorter_half key q false)
          ∙ dropped.held_else key ∙ ap (λ b. cond b None (held t key)) (same_key-itself key)
      held_below (true ∷ r) = ap (held t3) (sym (append_three key (true ∷ []) r)) ∙ right.held_below r
      held_below (false ∷ r) =
          right.held_else (key ++ false ∷ r) (λ q. other_half key r q false true (λ z. let y : false ≡ true = z in cc))
          ∙ ap (held t2) (sym (append_three key (false ∷ []) r)) ∙ left.held_below r

      not_p : (b : Bool) (r : KeyBits) → (key ++ b ∷ []) ++ r ≢ p
      not_p b r e = let z = ap length e in let a = length-append (key ++ b ∷ []) r in let c = length-append key (b ∷ []) in let d = length-append p s in omega (arith, z, a, c, d)

      kept_below : (r : KeyBits) → key ++ r ≢ p → is_kept t3 (key ++ r) ≡ false
      kept_below [] away =
          ap (is_kept t3) (append_none key) ∙ right.kept_else key (λ q. shorter_half key q true) ∙ left.kept_else key (λ q. shorter_half key q false) ∙ dropped.kept key
          ∙ ap is_some (below-off t t.root key (λ e. off (s_some (λ z. away (append_none key ∙ (λ j. p ++ z j) ∙ append_none p))) e))
        where
          s_some : (s ≢ []) → length s ≢ 0
          s_some some e = some (no_length s e)

          off : length s ≢ 0 → length key % 5 ≡ 0 → ⊥
          off some e = let a = length-append p s in omega (arith, a, e, lp, ls, some)
      kept_below (true ∷ r) away = ap (is_kept t3) (sym (append_three key (true ∷ []) r)) ∙ right.kept_below r (not_p true r)
      kept_below (false ∷ r) away =
          right.kept_else (key ++ false ∷ r) (λ q. other_half key r q false true (λ z. let y : false ≡ true = z in cc))
          ∙ ap (is_kept t2) (sym (append_three key (false ∷ []) r)) ∙ left.kept_below r (not_p false r)

  -- ---- a child

  pub cleared_child : (t t1 t2 : Trie T) (p c : KeyBits) → length c ≡ 5 → IsCleared t t1 (p ++ c) ((p ++ c) ++ []) → IsCut t1 t2 (p ++ c) → ((q r : KeyBits) → p ≡ q ++ r → number_at t2 q ≡ number_at t1 q) → IsCleared t t2 p (p ++ c)
  cleared_child t t1 t2 p c five inner cut numbers = record {
    trie = cut.trie;
    held_below = λ r. cut.held (key ++ r) ∙ ap (λ k. held t1 (k ++ r)) (sym (append_none key)) ∙ inner.held_below r;
    kept_below = λ r away. cut.kept (key ++ r) ∙ gone r (same_or_other (key ++ r) key);
    held_else = λ k out. cut.held k ∙ inner.held_else k (λ r e. out r (e ∙ ap (λ l. l ++ r) (append_none key)));
    kept_else = λ q out. cut.kept q ∙ ap (λ b. not b && is_kept t1 q) (not_same q key (λ e. out [] (e ∙ sym (append_none key)))) ∙ inner.kept_else q (λ r e. out r (e ∙ ap (λ l. l ++ r) (append_none key)));
    numbers = λ q r e. numbers q r e ∙ inner.numbers q (r ++ c) ((λ j. e j ++ c) ∙ append_three q r c);
  }
    where
      key : KeyBits
      key = p ++ c

      gone : (r : KeyBits) → Same (key ++ r) key → (not (same_key (key ++ r) key) && is_kept t1 (key ++ r)) ≡ false
      gone r (same e) = ap (λ b. not b && is_kept t1 (key ++ r)) (ap (λ k. same_key k key) e ∙ same_key-itself key)
      gone r (other differ) =
          ap (λ b. not b && is_kept t1 (key ++ r)) differ
          ∙ ap (λ k. is_kept t1 (k ++ r)) (sym (append_none key))
          ∙ inner.kept_below r (λ e. not_one (key ++ r) key differ (ap (λ k. k ++ r) (sym (append_none key)) ∙ e))

  pub cleared_absent : (t : Trie T) → IsTrie t → (p c : KeyBits) → length p % 5 ≡ 0 → length c ≡ 5 → node_at t (p ++ c) ≡ None → IsCleared t t p (p ++ c)
  cleared_absent t trie p c lp five none = record {
    trie = trie;
    held_below = λ r. held_nowhere t (p ++ c) r at_five none;
    kept_below = λ r away. ap is_some (gone r (length r % 5) refl);
    held_else = λ k out. refl;
    kept_else = λ q out. refl;
    numbers = λ q r e. refl;
  }
    where
      at_five : length (p ++ c) % 5 ≡ 0
      at_five = let a = length-append p c in omega (arith, a, lp, five)

      gone : (r : KeyBits) (k : ℕ) → length r % 5 ≡ k → node_at t ((p ++ c) ++ r) ≡ None
      gone r zero e = none_below t (length r / 5) (p ++ c) r none (omega (arith, e))
      gone r (suc k) e = below-off t t.root ((p ++ c) ++ r) (λ z. let a = length-append (p ++ c) r in omega (arith, a, z, e, at_five))

  -- ---- values

  pub dropped_some : (t t' : Trie T) (p key : KeyBits) (x : T) → IsTaken t t' key x → ((q r : KeyBits) → p ≡ q ++ r → number_at t' q ≡ number_at t q) → IsDropped t t' p key
  dropped_some t t' p key x taken numbers = record { trie = taken.trie; kept = taken.kept; held_else = taken.held; numbers = numbers }

  pub dropped_none : (t : Trie T) → IsTrie t → (p key : KeyBits) → held t key ≡ None → IsDropped t t p key
  dropped_none t trie p key none = record {
    trie = trie;
    kept = λ q. refl;
    held_else = λ k. of k (same_or_other k key);
    numbers = λ q r e. refl;
  }
    where
      of : (k : KeyBits) → Same k key → held t k ≡ cond (same_key k key) None (held t k)
      of k (same e) = ap (held t) e ∙ none ∙ ap (λ b. cond b None (held t k)) (sym (ap (λ l. same_key l key) e ∙ same_key-itself key))
      of k (other differ) = ap (λ b. cond b None (held t k)) (sym differ)

  -- the node that was cleared may be cut
  pub cleared_bare : (t t1 : Trie T) (p c : KeyBits) (n : Node) (slot a : ℕ) → c ≡ low_bits 5 slot → slot < 32 → IsCleared t t1 (p ++ c) ((p ++ c) ++ []) → number_at t (p ++ c) ≡ Some a → node_at t1 p ≡ Some n → IsBareChild t1 n slot
  cleared_bare t t1 p c n slot a is small inner named at =
      let still = inner.numbers (p ++ c) [] (sym (append_none (p ++ c))) ∙ named in
      let tells = number_tells t1 inner.trie (p ++ c) a still in
      let bare_is = bare_bits t1 inner.trie (p ++ c) tells.0 tells.1.here
      (λ r. ap (λ k. held t1 (k ++ r)) (sym (append_none (p ++ c))) ∙ inner.held_below r)
      (λ r away. ap (λ k. is_kept t1 (k ++ r)) (sym (append_none (p ++ c))) ∙ inner.kept_below r (λ e. away (ap (λ k. k ++ r) (sym (append_none (p ++ c))) ∙ e))) in
      record {
        leaf = tells.0;
        is_child = ap (child t1 n) (sym (number_five slot small)) ∙ sym (child_below t1 p (low_bits 5 slot) n (length-low_bits 5 slot) at) ∙ ap (λ k. node_at t1 (p ++ k)) (sym is) ∙ tells.1.here;
        no_data = bare_is.0;
        no_children = bare_is.1;
      }

last_bit : (x d : ℕ) → d < 2 → low_bits 1 (2 * x + d) ≡ (d == 1) ∷ []
unfolding low_bits
last_bit x d l = ap (λ k. (k == 1) ∷ []) (bit_at_lowest (2 * x + d) ∙ (let e : (2 * x + d) % 2 ≡ d = omega (arith, l) in e))

pub half_key : (p : KeyBits) (level x d : ℕ) → d < 2 → p ++ low_bits (level + 1) (2 * x + d) ≡ (p ++ low_bits level x) ++ (d == 1) ∷ []
half_key p level x d l =
    let half : (2 * x + d) / 2 ^ 1 ≡ x = omega (arith, l) in
    ap (λ k. p ++ k) (low_bits-append level 1 (2 * x + d) ∙ (λ j. low_bits level (half j) ++ last_bit x d l j)) ∙ sym (append_three p (low_bits level x) ((d == 1) ∷ []))

pub left_key : (p : KeyBits) (level x : ℕ) → p ++ low_bits (level + 1) (2 * x) ≡ (p ++ low_bits level x) ++ false ∷ []
left_key p level x = ap (λ y. p ++ low_bits (level + 1) y) (let e : 2 * x ≡ 2 * x + 0 = omega arith in e) ∙ half_key p level x 0 (omega arith)

pub right_key : (p : KeyBits) (level x : ℕ) → p ++ low_bits (level + 1) (2 * x + 1) ≡ (p ++ low_bits level x) ++ true ∷ []
right_key p level x = half_key p level x 1 (omega arith)

pub level_bit : (level x : ℕ) → x < 2 ^ level → bit_of (low_bits level x) ≡ 2 ^ level - 1 + x
level_bit level x l = (λ j. 2 ^ length-low_bits level x j - 1 + (number-low_bits level x ∙ mod-eq_of_lt l) j)

module _ {T : Type 0} where
  pub child_named_at : (t : Trie T) → IsTrie t → (p : KeyBits) (at slot a : ℕ) (n : Node) → number_at t p ≡ Some at → numbered t at ≡ Some n → slot < 32 → Some a ≡ cond (bit_at n.child_bits slot == 1) (Some (child_number n slot)) None
      → number_at t (p ++ low_bits 5 slot) ≡ Some a
  child_named_at t trie p at slot a n named e small found =
      let here = same_node t trie p at n named e in
      let has = child_told t p n slot a (trie.each p n here) found in
      child_number_below t p (low_bits 5 slot) n has.node (length-low_bits 5 slot) here (ap (child t n) (number_five slot small) ∙ has.is_child)
      ∙ ap Some (ap (child_number n) (number_five slot small) ∙ sym has.number)

  pub child_absent_at : (t : Trie T) → IsTrie t → (p : KeyBits) (at slot : ℕ) (n : Node) → number_at t p ≡ Some at → numbered t at ≡ Some n → slot < 32 → None ≡ cond (bit_at n.child_bits slot == 1) (Some (child_number n slot)) None
      → node_at t (p ++ low_bits 5 slot) ≡ None
  child_absent_at t trie p at slot n named e small found =
      child_below t p (low_bits 5 slot) n (length-low_bits 5 slot) (same_node t trie p at n named e) ∙ ap (child t n) (number_five slot small) ∙ no_child_told t n slot found

  pub depth_of : (t : Trie T) → IsTrie t → (p : KeyBits) (a : ℕ) → number_at t p ≡ Some a → (length p % 5 ≡ 0) × (length p ≤ 125)
  depth_of t trie p a named = let tells = number_tells t trie p a named in (kept_length t p tells.0 tells.1.here, (trie.each p tells.0 tells.1.here).depth_within)

  pub still_named : (t t' : Trie T) (p : KeyBits) (a : ℕ) → ((q r : KeyBits) → p ≡ q ++ r → number_at t' q ≡ number_at t q) → number_at t p ≡ Some a → number_at t' p ≡ Some a
  still_named t t' p a numbers named = numbers p [] (sym (append_none p)) ∙ named

  -- the count of entries, where a value was taken away
  pub taken_count : (t t' : Trie T) → IsTrie t → (key : KeyBits) (x : T) (len : ℕ) → IsTaken t t' key x → len ≡ map_of.len (table_view t).entries → len ≡ map_of.len (table_view t').entries + 1
  taken_count t t' trie key x len taken count = counted_less (table_view t).entries (table_view t').entries key x len (get_entry t trie key ∙ taken.was) (entries_removed t t' trie taken.trie key taken.held) count

  pub cut_count : (t t' : Trie T) → IsTrie t → (r : KeyBits) → IsCut t t' r → map_of.len (table_view t).entries ≡ map_of.len (table_view t').entries
  cut_count t t' trie r cut = sym (ap map_of.len (entries_same t t' trie cut.trie cut.held))

pub level_slot : (level x : ℕ) → level < 5 → x < 2 ^ level → bit_of (low_bits level x) ≡ 1 * 2 ^ level % 2 ^ 32 - 1 + x
level_slot level x small within = level_bit level x within ∙ ap (λ k. k - 1 + x) (sym (shifted_one level (omega (arith, small))))

pub twice_power : (n : ℕ) → 2 ^ (n + 1) ≡ 2 * 2 ^ n
twice_power n = ap (λ k. 2 ^ k) (let e : n + 1 ≡ suc n = omega arith in e) ∙ (let e : 2 ^ suc n ≡ 2 * 2 ^ n = omega arith in e)
