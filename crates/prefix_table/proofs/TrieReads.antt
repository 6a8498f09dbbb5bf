-- What reading a node tells of the table, and what the way down to a key finds.
use Rattle.std.specs.Prelude.{◌≡◌, ℕ, zero, suc, ◌+◌, ◌-◌, ◌*◌, ◌/◌, ◌%◌, ◌^◌, ◌<◌, ◌≤◌, ◌==◌, Bool, true, false, cond, List, [], ◌∷◌, ◌++◌, length, map, take, drop, Option, Some, None, IsSome, is_some, slice_get}
use Rattle.std.specs.Option.{option_and_then, unwrap_or}
use Rattle.std.specs.Int.{bit_at}
use Rattle.std.specs.FinMap as map
use Rattle.std.proofs.Common.{refl, sym, ap, ◌∙◌, subst, arith, length-drop, length-take, length-append}
use Rattle.std.proofs.Math.Seq.{take-append_seam}
use Rattle.std.proofs.lemmas.List.{take-append-drop}
use Rattle.std.proofs.lemmas.Bool.{eqb-true}
use Rattle.std.proofs.lemmas.Option.{slice_get_within, same_Some}
use Rattle.std.proofs.lemmas.Nat.Bits.{bit_at-suc, bit_at_lowest}
use lib.Count.{ones}
use Rattle.prefix_model.specs.Keys.{KeyBits, low_bits, number, keys_of_length, prefixes, stands_in}
use Rattle.prefix_model.specs.Positions.{data_places, child_places, bitmap, data_bits, child_bits, has_node_length, positions_of_key}
use Rattle.prefix_model.specs.Slots.{place}
use Rattle.prefix_model.specs.TableViews.{TableView, position_at, HoldsPositions}
use Rattle.prefix_model.proofs.KeyNumbers.{length-low_bits, number-low_bits}
use Rattle.prefix_model.proofs.KeyLemmas.{filter_out, prefixes_out}
use Rattle.prefix_model.proofs.Bitmaps.SlotLaws.{is_some-picked, picked_clear, picked-place, place-lt}
use Rattle.prefix_model.proofs.KeyLists.{slice_get-index_of, places_apart, place_index, take_take}
use Rattle.prefix_model.proofs.KeyPlaces.{places_short, key_at_number}
use Rattle.prefix_model.proofs.KeyPieces.{take_parts, piece_five}
use Rattle.prefix_model.proofs.Fronts.{drop_front, append_none}
use Rattle.prefix_model.proofs.Bitmaps.NodeBits.{places_count}
use Rattle.prefix_table.specs.NodeLists.{ListsOf, block, items_of}
use Rattle.prefix_table.specs.Tries.{child, value_of, child_number, bit_of, node_at, number_at, numbered, held, is_kept, table_view, IsNode, IsTrie}
use Rattle.prefix_table.specs.declared.trie.Node.{Node}
use Rattle.prefix_table.specs.declared.trie.Trie.{Trie}
use Rattle.prefix_table.proofs.TrieWays.{below-step, child_below, child_number_below, kept_length, above_of, number_tells, node_root, items_some, bits_some}
use Rattle.prefix_table.proofs.TrieViews.{get_entry, contains_kept, place_of_number, number_of_place}

-- ---- a bitmap by its bits

digit_of_bit : (d : ℕ) → d < 2 → cond (d == 1) 1 0 ≡ d
digit_of_bit zero l = refl
digit_of_bit (suc zero) l = refl
digit_of_bit (suc (suc d)) l = absurd (omega arith)

pub bitmap_is : (places : List KeyBits) (test : KeyBits → Bool) (bits : ℕ) → bits < 2 ^ length places → ((b : ℕ) (s : KeyBits) → slice_get places b ≡ Some s → test s ≡ (bit_at bits b == 1)) → bitmap (map test places) ≡ bits
bitmap_is [] test bits l h = omega arith
bitmap_is (s ∷ places) test bits l h =
    let within : bits < 2 ^ suc (length places) = l in
    let low = ap (λ b. cond b 1 0) (h 0 s refl) ∙ ap (λ n. cond (n == 1) 1 0) (bit_at_lowest bits) ∙ digit_of_bit (bits % 2) (omega arith) in
    let rest = bitmap_is places test (bits / 2) (omega (arith, within)) (λ b t e. h (suc b) t e ∙ ap (λ n. n == 1) (bit_at-suc bits b)) in
    omega (arith, low, rest)

pub child_at : (b : ℕ) → b < 32 → slice_get (keys_of_length 5) b ≡ Some (low_bits 5 b)
child_at b l =
    let k = low_bits 5 b in
    let n : number k ≡ b = number-low_bits 5 b ∙ (let e : b % 2 ^ 5 ≡ b = omega arith in e) in
    sym (λ i. slice_get (keys_of_length (length-low_bits 5 b i)) (n i)) ∙ key_at_number k

pub place_held : {A : Type 0} (lists : ListsOf A) (bits at slot p : ℕ) → bit_at bits slot ≡ 1 → length (items_of lists bits at) ≡ ones bits → p ≡ place bits slot → p < length (block lists at)
place_held lists bits at slot p set count is =
    let items = items_some lists bits at (bits_some bits slot set) in
    let below = place-lt bits slot set in
    let same_length = ap length items in
    omega (arith, below, count, is, same_length)

module _ {T : Type 0} where
  -- ---- the children of a node

  pub child_some : (t : Trie T) (p : KeyBits) (n : Node) (c : ℕ) → IsNode t p n → is_some (child t n c) ≡ (bit_at n.child_bits c == 1)
  child_some t p n c node = is_some-picked n.child_bits (items_of t.nodes.lists n.child_bits n.children) c node.children

  pub record HasChild (t : Trie T) (n : Node) (c a : ℕ) : Type 0 where
    pub node : Node
    pub is_child : child t n c ≡ Some node
    pub number : a ≡ child_number n c

  -- what the test of a bit tells of the child
  pub child_told : (t : Trie T) (p : KeyBits) (n : Node) (c a : ℕ) → IsNode t p n → Some a ≡ cond (bit_at n.child_bits c == 1) (Some (child_number n c)) None → HasChild t n c a
  child_told t p n c a node e = of (bit_at n.child_bits c == 1) refl (child t n c) refl
    where
      of : (b : Bool) → (bit_at n.child_bits c == 1) ≡ b → (o : Option Node) → child t n c ≡ o → HasChild t n c a
      of false z o h = let none : Some a ≡ None = e ∙ ap (λ b. cond b (Some (child_number n c)) None) z in absurd cc
      of true z None h = let some : is_some (child t n c) ≡ true = child_some t p n c node ∙ z in absurd (let none = ap is_some h in cc)
      of true z (Some m) h = record { node = m; is_child = h; number = same_Some _ _ (e ∙ ap (λ b. cond b (Some (child_number n c)) None) z) }

  pub no_child_told : (t : Trie T) (n : Node) (c : ℕ) → None ≡ cond (bit_at n.child_bits c == 1) (Some (child_number n c)) None → child t n c ≡ None
  no_child_told t n c e = picked_clear n.child_bits (items_of t.nodes.lists n.child_bits n.children) c (λ one.
      let some : None ≡ Some (child_number n c) = e ∙ ap (λ b. cond (b == 1) (Some (child_number n c)) None) one in cc)

  pub same_node : (t : Trie T) → IsTrie t → (p : KeyBits) (a : ℕ) (n : Node) → number_at t p ≡ Some a → numbered t a ≡ Some n → node_at t p ≡ Some n
  same_node t trie p a n e h = let tells = number_tells t trie p a e in tells.1.here ∙ sym tells.1.named ∙ h

  -- ---- the values of a node

  pub value_read : (t : Trie T) (n : Node) (b place_is : ℕ) (x : T) → bit_at n.data_bits b ≡ 1 → place_is ≡ place n.data_bits b → slice_get (block t.values.lists n.values) place_is ≡ Some x → value_of t n b ≡ Some x
  value_read t n b place_is x set is read =
      picked-place n.data_bits (items_of t.values.lists n.data_bits n.values) b
      ∙ ap (λ k. cond (k == 1) (slice_get (items_of t.values.lists n.data_bits n.values) (place n.data_bits b)) None) set
      ∙ (λ j. slice_get (items_some t.values.lists n.data_bits n.values (bits_some n.data_bits b set) j) (sym is j)) ∙ read

  -- ---- the way down to a key

  pub way_step : (t : Trie T) (bits : KeyBits) (d : ℕ) (n : Node) → d + 5 ≤ length bits → node_at t (take d bits) ≡ Some n
      → node_at t (take (d + 5) bits) ≡ child t n (number (drop d (take (d + 5) bits)))
  way_step t bits d n l e =
      let five = piece_five bits d l in
      ap (node_at t) (sym (take_parts bits d (d + 5) (omega arith))) ∙ child_below t (take d bits) (drop d (take (d + 5) bits)) n five e

  pub way_number : (t : Trie T) (bits : KeyBits) (d : ℕ) (n m : Node) → d + 5 ≤ length bits → node_at t (take d bits) ≡ Some n → child t n (number (drop d (take (d + 5) bits))) ≡ Some m
      → number_at t (take (d + 5) bits) ≡ Some (child_number n (number (drop d (take (d + 5) bits))))
  way_number t bits d n m l e h =
      let five = piece_five bits d l in
      ap (number_at t) (sym (take_parts bits d (d + 5) (omega arith))) ∙ child_number_below t (take d bits) (drop d (take (d + 5) bits)) n m five e h

  pub none_below : (t : Trie T) (k : ℕ) (q r : KeyBits) → node_at t q ≡ None → length r ≡ 5 * k → node_at t (q ++ r) ≡ None
  none_below t zero q [] none e = ap (node_at t) (append_none q) ∙ none
  none_below t zero q (b ∷ r) none e = absurd (omega arith)
  none_below t (suc k) q r none e =
      let n = 5 * k in
      let whole = take-append-drop n r in
      let a = length-drop n r in
      let b = length-take n r in
      let rest = none_below t k q (take n r) none (omega (arith, b, e)) in
      ap (λ s. node_at t (q ++ s)) (sym whole) ∙ ap (node_at t) (sym (append_three q (take n r) (drop n r)))
      ∙ below-step t t.root (q ++ take n r) (drop n r) (omega (arith, a, e)) ∙ ap (option_and_then (λ m. child t m (number (drop n r)))) rest
    where
      append_three : (x y z : KeyBits) → (x ++ y) ++ z ≡ x ++ (y ++ z)
      append_three [] y z = refl
      append_three (b ∷ x) y z = ap (λ k. b ∷ k) (append_three x y z)

  -- where no node stands, nothing is held further down
  pub held_nowhere : (t : Trie T) (q r : KeyBits) → length q % 5 ≡ 0 → node_at t q ≡ None → held t (q ++ r) ≡ None
  held_nowhere t q r lq none =
      let k = q ++ r in
      let whole = length-append q r in
      let d = length k / 5 * 5 in
      let front : take (length q) (take d k) ≡ q = take_take k (length q) d (omega (arith, whole, lq)) ∙ take-append_seam q r in
      let parts = take-append-drop (length q) (take d k) in
      let a = length-drop (length q) (take d k) in
      let b = length-take d k in
      let gone = none_below t ((d - length q) / 5) q (drop (length q) (take d k)) none (omega (arith, a, b, whole, lq)) in
      ap (option_and_then (λ n. value_of t n (bit_of (drop d k)))) (ap (node_at t) (sym parts ∙ ap (λ s. s ++ drop (length q) (take d k)) front) ∙ gone)

  -- what is held at a key of a node
  pub held_here : (t : Trie T) (p s : KeyBits) (n : Node) → length p % 5 ≡ 0 → length s < 5 → node_at t p ≡ Some n → held t (p ++ s) ≡ value_of t n (bit_of s)
  held_here t p s n lp ls e =
      let whole = length-append p s in
      let depth : length (p ++ s) / 5 * 5 ≡ length p = omega (arith, whole, lp, ls) in
      (λ j. option_and_then (λ m. value_of t m (bit_of (drop (depth j) (p ++ s)))) (node_at t (take (depth j) (p ++ s))))
      ∙ (λ j. option_and_then (λ m. value_of t m (bit_of (drop_front p s j))) (node_at t (take-append_seam p s j)))
      ∙ ap (option_and_then (λ m. value_of t m (bit_of s))) e

  pub stored_here : (t : Trie T) (bits : KeyBits) (d len : ℕ) (n : Node) → d % 5 ≡ 0 → d ≤ len → len < d + 5 → len ≤ length bits → node_at t (take d bits) ≡ Some n
      → held t (take len bits) ≡ value_of t n (2 ^ (len - d) - 1 + number (drop d (take len bits)))
  stored_here t bits d len n at_five from short within e =
      let s = drop d (take len bits) in
      let a = length-drop d (take len bits) in
      let b = length-take len bits in
      let f = length-take d bits in
      let size : length s ≡ len - d = omega (arith, a, b) in
      let lp : length (take d bits) % 5 ≡ 0 = ap (λ k. k % 5) (let g : length (take d bits) ≡ d = omega (arith, f) in g) ∙ at_five in
      ap (held t) (sym (take_parts bits d len from)) ∙ held_here t (take d bits) s n lp (omega (arith, size)) e
      ∙ ap (λ k. value_of t n (2 ^ k - 1 + number s)) size

  pub stored_nowhere : (t : Trie T) (bits : KeyBits) (d len : ℕ) → d % 5 ≡ 0 → d + 5 ≤ len → len ≤ length bits → node_at t (take (d + 5) bits) ≡ None → held t (take len bits) ≡ None
  stored_nowhere t bits d len at_five down within none =
      let f = length-take (d + 5) bits in
      let size : length (take (d + 5) bits) ≡ d + 5 = omega (arith, f) in
      ap (held t) (sym (take_parts bits (d + 5) len down)) ∙ held_nowhere t (take (d + 5) bits) (drop (d + 5) (take len bits)) (omega (arith, size, at_five)) none

  -- ---- a node of the view

  pub record Seen (t : Trie T) (v : TableView T) (at : ℕ) : Type 0 where
    pub node : Node
    pub named : numbered t at ≡ Some node
    pub limit : at ≤ 2 ^ 37
    pub here : node_at t (position_at v at) ≡ Some node
    pub number : number_at t (position_at v at) ≡ Some at

  pub seen : (t : Trie T) → IsTrie t → (v : TableView T) (i at : ℕ) → table_view t ≡ v → i ≡ at → IsSome (map.get v.places at) → Seen t v i
  seen t trie v i at is same_number some = of (map.get v.places i) refl
    where
      of : (o : Option KeyBits) → map.get v.places i ≡ o → Seen t v i
      of None e = let none = ap is_some e in let there : is_some (map.get v.places i) ≡ true = ap (λ k. is_some (map.get v.places k)) same_number ∙ some in absurd cc
      of (Some p) e =
          let is_number = number_of_place t p i (ap (λ (w : TableView T). map.get w.places i) is ∙ e) in
          let tells = number_tells t trie p i is_number in
          let here : position_at v i ≡ p = ap (λ o. unwrap_or o []) e in
          record {
            node = tells.0;
            named = tells.1.named;
            limit = tells.1.limit;
            here = ap (node_at t) here ∙ tells.1.here;
            number = ap (number_at t) here ∙ is_number;
          }

  pub node_seen : (t : Trie T) (v : TableView T) (at : ℕ) (n : Node) → Seen t v at → numbered t at ≡ Some n → node_at t (position_at v at) ≡ Some n
  node_seen t v at n s e = s.here ∙ sym s.named ∙ e

  pub entry_at : (t : Trie T) → IsTrie t → (p : KeyBits) (n : Node) → node_at t p ≡ Some n → (b : ℕ) (s : KeyBits) → slice_get data_places b ≡ Some s
      → map.get (table_view t).entries (p ++ s) ≡ value_of t n b
  entry_at t trie p n e b s is =
      let short = places_short b s is in
      let bit : bit_of s ≡ b = same_Some _ _ (sym (place_index s short) ∙ slice_get-index_of data_places s b places_apart is) in
      get_entry t trie (p ++ s) ∙ held_here t p s n (kept_length t p n e) short e ∙ ap (value_of t n) bit

  pub data_bits_are : (t : Trie T) → IsTrie t → (p : KeyBits) (n : Node) → node_at t p ≡ Some n → n.data_bits ≡ data_bits (map.get (table_view t).entries) p
  data_bits_are t trie p n e =
      let node = trie.each p n e in
      sym (bitmap_is data_places (λ s. is_some (map.get (table_view t).entries (p ++ s))) n.data_bits
      (let all : n.data_bits < 2 ^ 31 = node.data_within in subst (λ (k : ℕ). n.data_bits < 2 ^ k) (sym places_count) all)
      (λ b s is. ap is_some (entry_at t trie p n e b s is) ∙ is_some-picked n.data_bits (items_of t.values.lists n.data_bits n.values) b node.values))

  pub child_kept : (t : Trie T) → IsTrie t → (p : KeyBits) (n : Node) (b : ℕ) → node_at t p ≡ Some n → b < 32 → map.contains_key (table_view t).kept (p ++ low_bits 5 b) ≡ is_some (child t n b)
  child_kept t trie p n b e l =
      contains_kept t trie (p ++ low_bits 5 b)
      ∙ ap is_some (child_below t p (low_bits 5 b) n (length-low_bits 5 b) e ∙ ap (child t n) (number-low_bits 5 b ∙ (let z : b % 2 ^ 5 ≡ b = omega arith in z)))

  pub child_bits_are : (t : Trie T) → IsTrie t → (p : KeyBits) (n : Node) → node_at t p ≡ Some n → n.child_bits ≡ child_bits (map.contains_key (table_view t).kept) p
  unfolding child_places
  child_bits_are t trie p n e =
      let node = trie.each p n e in
      sym (bitmap_is (keys_of_length 5) (λ c. map.contains_key (table_view t).kept (p ++ c)) n.child_bits node.child_within
      (λ b c is.
      let within = slice_get_within (keys_of_length 5) b c is in
      let named : c ≡ low_bits 5 b = same_Some c (low_bits 5 b) (sym is ∙ child_at b within) in
      ap (λ k. map.contains_key (table_view t).kept (p ++ k)) named ∙ child_kept t trie p n b e within ∙ child_some t p n b node))

  pub child_named : (t : Trie T) → IsTrie t → (p : KeyBits) (n : Node) (b a : ℕ) → node_at t p ≡ Some n → b < 32 → HasChild t n b a → map.get (table_view t).places a ≡ Some (p ++ low_bits 5 b)
  child_named t trie p n b a e l has =
      let bit : number (low_bits 5 b) ≡ b = number-low_bits 5 b ∙ (let z : b % 2 ^ 5 ≡ b = omega arith in z) in
      let there = ap (child t n) bit ∙ has.is_child in
      place_of_number t trie (p ++ low_bits 5 b) a
      (child_number_below t p (low_bits 5 b) n has.node (length-low_bits 5 b) e there ∙ ap Some (ap (child_number n) bit ∙ sym has.number))

  -- ---- the positions of entries are kept

  stored_kept : (t : Trie T) (k q : KeyBits) → is_some (held t k) ≡ true → stands_in (positions_of_key k) q ≡ true → is_kept t q ≡ true
  stored_kept t k q some stands =
      let parts = filter_out has_node_length (prefixes k) q stands in
      let rest = prefixes_out k q parts.1 in
      of rest.0 rest.1 (eqb-true (length q % 5) 0 parts.0) (node_at t q) refl
    where
      of : (r : KeyBits) → k ≡ q ++ r → length q % 5 ≡ 0 → (o : Option Node) → node_at t q ≡ o → is_some o ≡ true
      of r e lq (Some n) h = refl
      of r e lq None h =
          let none : is_some (held t k) ≡ false = ap (λ l. is_some (held t l)) e ∙ ap is_some (held_nowhere t q r lq h) in absurd cc

  pub holds : (t : Trie T) → IsTrie t → HoldsPositions (table_view t)
  holds t trie = record {
    root = contains_kept t trie [] ∙ ap is_some (node_root t);
    named = λ a p h. (let tells = number_tells t trie p a (number_of_place t p a h) in contains_kept t trie p ∙ ap is_some tells.1.here);
    lengths = λ p h. lengths p (node_at t p) refl (sym (contains_kept t trie p) ∙ h);
    above = λ p c five h. contains_kept t trie p ∙ above p c five (node_at t (p ++ c)) refl (sym (contains_kept t trie (p ++ c)) ∙ h);
    stored = λ k q some h. contains_kept t trie q ∙ stored_kept t k q (ap is_some (sym (get_entry t trie k)) ∙ some) h;
  }
    where
      lengths : (p : KeyBits) (o : Option Node) → node_at t p ≡ o → is_some o ≡ true → (length p % 5 ≡ 0) × (length p ≤ 125)
      lengths p None e some = absurd cc
      lengths p (Some n) e some = (kept_length t p n e, (trie.each p n e).depth_within)

      above : (p c : KeyBits) → length c ≡ 5 → (o : Option Node) → node_at t (p ++ c) ≡ o → is_some o ≡ true → is_kept t p ≡ true
      above p c five None e some = absurd cc
      above p c five (Some n) e some = let up = above_of t p c n five e in ap is_some up.here
