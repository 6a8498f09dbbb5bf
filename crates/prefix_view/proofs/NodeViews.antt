-- What the bitmaps of a view choose, and the first entry of it.
use Rattle.std.specs.Prelude.{◌≡◌, ℕ, ◌+◌, ◌%◌, ◌≤◌, ◌&&◌, Bool, true, false, [], ◌++◌, length, take, Option, None, Some, IsSome, is_some, slice_get}
use Rattle.std.proofs.Common.{refl, sym, ap, ◌∙◌, subst, arith, length-append, append_assoc}
use Rattle.std.specs.Int.{bit_at}
use Rattle.std.specs.Option.{option_map}
use Rattle.std.specs.FinMap.{get, contains_key}
use Rattle.prefix_model.specs.Keys.{KeyBits, low_bits}
use Rattle.prefix_model.specs.Tables.{Values}
use Rattle.prefix_model.specs.Positions.{data_places, child_places}
use Rattle.prefix_model.specs.Walks.{begins_with, walk_from, stands_from}
use Rattle.prefix_model.proofs.Fronts.{follows, take_front, front_append, front_both, front_of_front}
use Rattle.prefix_model.proofs.KeyLemmas.{both_true}
use Rattle.prefix_model.proofs.Nodes.{parts, node_above, node_front, node_itself, node_near}
use Rattle.prefix_model.proofs.KeyNumbers.{length-low_bits}
use Rattle.prefix_model.specs.Searches.{in_walk}
use Rattle.prefix_model.specs.Searches as map_search
use Rattle.prefix_model.specs.NodeSearches.{IsChosen, IsFirstOf, StandsBelow}
use Rattle.prefix_model.proofs.Bitmaps.NodeBits.{bit_of_test, digit_set, key_of_bit}
use Rattle.prefix_model.proofs.Walking.Chosen.{first_same, all_chosen, chosen_front, first_place_is, no_place, where_some, where_none}
use Rattle.prefix_model.proofs.Walking.SortedWalks.{walk_none, walk_some}
use Rattle.prefix_model.proofs.Walking.Within.{first_within, none_from}
use Rattle.prefix_model.specs.Views.{Seen, moved, node, held, IsPlace, data_below, children_below}
use Rattle.prefix_view.specs.Iteration.{IsFirst, IsFirstSeen}
use Rattle.prefix_model.proofs.Viewing.ViewBits.{under_some, under_front}

-- ---- answers that may be none

mapped_some : {A B : Type 0} (g : A → B) (o : Option A) (b : Bool) → is_some (option_map g o) ≡ b → is_some o ≡ b
mapped_some g None b e = e
mapped_some g (Some x) b e = e

value_in : {A : Type 0} (o : Option A) → IsSome o → (x : A) × (o ≡ Some x)
value_in None h = cc
value_in (Some x) h = (x, refl)

-- the first is the same of two tables that agree at the chosen keys
first_held : {V : Type 0} (f g : Values V) (C : KeyBits → Type 0) → ((k : KeyBits) → C k → f k ≡ g k) → (o : Option (KeyBits × V)) → IsFirstOf f C o → IsFirstOf g C o
first_held f g C same None h = λ k s c. h k (subst IsSome (sym (same k c)) s) c
first_held f g C same (Some e) h = record {
  stored = sym (same e.0 h.chosen) ∙ h.stored;
  chosen = h.chosen;
  first = λ k s c. h.first k (subst IsSome (sym (same k c)) s) c;
}

module _ {V : Type 0} (v : Seen V) where
  -- ---- the bits

  pub place_of : (b : ℕ) → bit_at (data_below v) b ≡ 1 → (s : KeyBits) × (slice_get data_places b ≡ Some s)
  place_of b e = key_of_bit data_places (λ s. is_some (held v (node v ++ s))) b e

  pub place_held : (b : ℕ) (s : KeyBits) → slice_get data_places b ≡ Some s → bit_at (data_below v) b ≡ 1 → IsSome (held v (node v ++ s))
  place_held b s is e = digit_set _ (sym (bit_of_test data_places (λ t. is_some (held v (node v ++ t))) b s is) ∙ e)

  pub place_stored : (b : ℕ) (s : KeyBits) → slice_get data_places b ≡ Some s → bit_at (data_below v) b ≡ 1 → (begins_with v.place (node v ++ s) ≡ true) × IsSome (get v.entries (node v ++ s))
  place_stored b s is e = under_some v.place (get v.entries) (node v ++ s) (place_held b s is e)

  pub child_held : (c : ℕ) (s : KeyBits) → slice_get child_places c ≡ Some s → bit_at (children_below v) c ≡ 1 → (begins_with v.place (node v ++ s) ≡ true) × (contains_key v.kept (node v ++ s) ≡ true)
  child_held c s is e = both_true _ _ (digit_set _ (sym (bit_of_test child_places (λ t. begins_with v.place (node v ++ t) && contains_key v.kept (node v ++ t)) c s is) ∙ e))

  -- the key of a place fits
  pub place_fits : (w : ℕ) → IsPlace w v → (b : ℕ) (s : KeyBits) → slice_get data_places b ≡ Some s → bit_at (data_below v) b ≡ 1 → length (node v) + length s ≤ w
  place_fits w at b s is e = let l = at.keeps.width (node v ++ s) (place_stored b s is e).1 in let a = length-append (node v) s in omega (arith, l, a)

  -- the node, as the code reads it
  pub key_of_node : (bits rest : KeyBits) (d : ℕ) → bits ≡ v.place ++ rest → d ≡ length (node v) → take d bits ≡ node v
  key_of_node bits rest d e depth =
      let q = parts v.place in
      (λ j. take (depth j) ((e ∙ ap (λ x. x ++ rest) q.whole ∙ append_assoc (node v) q.inner rest) j)) ∙ take_front (node v) (q.inner ++ rest)

  -- a child's position has a node's length
  pub child_five : (c : ℕ) → length (node v ++ low_bits 5 c) % 5 ≡ 0
  child_five c = let a = length-append (node v) (low_bits 5 c) in let l = length-low_bits 5 c in let f = (parts v.place).at_five in omega (arith, a, l, f)

  pub child_deep : (u : Seen V) (c w : ℕ) → IsPlace w u → u ≡ moved v (node v ++ low_bits 5 c) → (length (node u) ≡ length (node v) + 5) × (length (node u) ≤ w)
  child_deep u c w at is =
      let n = ap (λ (x : Seen V). length (node x)) is ∙ ap length (node_itself (node v ++ low_bits 5 c) (child_five c)) in
      let a = length-append (node v) (low_bits 5 c) in
      let l = length-low_bits 5 c in
      let above = node_above u.place in
      let within = at.within in
      (omega (arith, n, a, l), omega (arith, above, within))

  -- the node is above what the view holds
  pub below_node : (k : KeyBits) → IsSome (held v k) → begins_with (node v) k ≡ true
  below_node k s = front_both (node v) v.place k (node_front v.place) (under_some v.place (get v.entries) k s).0

  module _ (w : ℕ) (at : IsPlace w v) where
    child_kept : (c r : KeyBits) → length c ≡ 5 → IsSome (held v ((node v ++ c) ++ r)) → (begins_with v.place (node v ++ c) && contains_key v.kept (node v ++ c)) ≡ true
    child_kept c r five some =
        let both = under_some v.place (get v.entries) ((node v ++ c) ++ r) some in
        let near = node_near v.place in
        let a = length-append (node v) c in
        let at_five = (parts v.place).at_five in
        let below = front_of_front v.place (node v ++ c) ((node v ++ c) ++ r) both.0 (front_append (node v ++ c) r) (omega (arith, near, a, five)) in
        let kept = at.keeps.stored (node v ++ c) r (omega (arith, a, at_five, five)) both.1 in
        λ j. below j && kept j

    -- what the view holds is chosen by its bitmaps
    pub all_seen : (db cb : ℕ) → db ≡ data_below v → cb ≡ children_below v → (k : KeyBits) → IsSome (held v k) → begins_with (node v) k ≡ true → IsChosen (node v) db cb k
    all_seen db cb d c = all_chosen (held v) (λ x. begins_with v.place x && contains_key v.kept x) (node v) db cb d c child_kept

    -- nothing stands below a child that is not kept
    pub no_child : (p : KeyBits) → length p % 5 ≡ 0 → contains_key v.kept p ≡ false → (q : KeyBits) (i : Bool) → IsFirstSeen v (StandsBelow p q i) None
    no_child p five off q i = record {
      entry = None;
      first = λ k s c.
          let f = follows p k c.0 in
          let on = at.keeps.stored p f.rest five (subst (λ x. IsSome (get v.entries x)) f.whole (under_some v.place (get v.entries) k s).1) in
          cc;
      same = refl;
    }

  -- ---- what is found

  pub seen_lifted : (C D : KeyBits → Type 0) (r : Option (Seen V)) → ((o : Option (KeyBits × V)) → IsFirstOf (held v) C o → IsFirstOf (held v) D o) → IsFirstSeen v C r → IsFirstSeen v D r
  seen_lifted C D r g h = record { entry = h.entry; first = g h.entry h.first; same = h.same }

  pub seen_some : (C D : KeyBits → Type 0) (r : Option (Seen V)) → is_some r ≡ true → ((e : KeyBits × V) → IsFirstOf (held v) C (Some e) → IsFirstOf (held v) D (Some e)) → IsFirstSeen v C r → IsFirstSeen v D r
  seen_some C D r some g h = record {
    entry = h.entry;
    first = where_some (held v) C D g h.entry (mapped_some (λ (e : KeyBits × V). moved v e.0) h.entry true (sym (ap is_some h.same) ∙ some)) h.first;
    same = h.same;
  }

  pub seen_none : (C : KeyBits → Type 0) (r : Option (Seen V)) → is_some r ≡ false → IsFirstSeen v C r → IsFirstOf (held v) C None
  seen_none C r none h = where_none (held v) C h.entry (mapped_some (λ (e : KeyBits × V). moved v e.0) h.entry false (sym (ap is_some h.same) ∙ none)) h.first

  pub seen_at_place : (places b : ℕ) (s : KeyBits) (u : Seen V) → ((i : ℕ) → bit_at places i ≡ 1 → bit_at (data_below v) i ≡ 1) → slice_get data_places b ≡ Some s → bit_at places b ≡ 1
      → ((i : ℕ) (t : KeyBits) → slice_get data_places i ≡ Some t → bit_at places i ≡ 1 → stands_from true s t ≡ true)
      → u ≡ moved v (node v ++ s) → IsFirstSeen v (IsChosen (node v) places 0) (Some u)
  seen_at_place places b s u some is set first e =
      let x = value_in (held v (node v ++ s)) (place_held b s is (some b set)) in
      record { entry = Some (node v ++ s, x.0); first = first_place_is (held v) (node v) places b s (node v ++ s, x.0) is set first refl x.1; same = ap Some e }

  pub seen_nowhere : (places : ℕ) → places ≡ 0 → IsFirstSeen v (IsChosen (node v) places 0) None
  seen_nowhere places z = record { entry = None; first = no_place (held v) (node v) places z; same = refl }

module _ {V : Type 0} (v : Seen V) where
  -- ---- the view at a child

  module _ (p : KeyBits) (front : begins_with v.place p ≡ true) where
    held_below : (k : KeyBits) → begins_with p k ≡ true → held (moved v p) k ≡ held v k
    held_below k f = under_front p (get v.entries) k f ∙ sym (under_front v.place (get v.entries) k (front_both v.place p k front f))

    seen_below : (C : KeyBits → Type 0) → ((k : KeyBits) → C k → begins_with p k ≡ true) → (r : Option (Seen V)) → IsFirstSeen (moved v p) C r → IsFirstSeen v C r
    seen_below C inside r h = record { entry = h.entry; first = first_held (held (moved v p)) (held v) C (λ k c. held_below k (inside k c)) h.entry h.first; same = h.same }

    module _ (five : length p % 5 ≡ 0) (u : Seen V) (is : u ≡ moved v p) where
      node_of_child : node u ≡ p
      node_of_child = ap (λ (x : Seen V). node x) is ∙ node_itself p five

      -- all of the child
      pub seen_in_child : (w : ℕ) → IsPlace w u → (db cb : ℕ) → db ≡ data_below u → cb ≡ children_below u → (r : Option (Seen V)) → IsFirstSeen u (IsChosen (node u) db cb) r → IsFirstSeen v (λ k. begins_with p k ≡ true) r
      seen_in_child w at db cb d c r h =
          let whole : IsFirstSeen u (λ k. begins_with (node u) k ≡ true) r = record {
            entry = h.entry;
            first = first_same (held u) (IsChosen (node u) db cb) (λ k. begins_with (node u) k ≡ true) (all_seen u w at db cb d c) (chosen_front (node u) db cb) h.entry h.first;
            same = h.same;
          } in
          seen_below (λ k. begins_with p k ≡ true) (λ k e. e) r
          (subst (λ (x : Seen V). IsFirstSeen x (λ k. begins_with p k ≡ true) r) is (subst (λ (n : KeyBits). IsFirstSeen u (λ k. begins_with n k ≡ true) r) node_of_child whole))

      -- and what stands there from a key on
      pub stands_in_child : (q : KeyBits) (i : Bool) (r : Option (Seen V)) → IsFirstSeen u (StandsBelow (node u) q i) r → IsFirstSeen v (StandsBelow p q i) r
      stands_in_child q i r h =
          seen_below (StandsBelow p q i) (λ k c. c.0) r
          (subst (λ (x : Seen V). IsFirstSeen x (StandsBelow p q i) r) is (subst (λ (n : KeyBits). IsFirstSeen u (StandsBelow n q i) r) node_of_child h))

  -- ---- the first of a walk

  walk_first : (q : KeyBits) (i : Bool) (o : Option (KeyBits × V)) → IsFirstOf (held v) (StandsBelow [] q i) o → map_search.IsFirst (get v.entries) (in_walk v.place q i) o
  walk_first q i None h =
      let none = none_from (held v) v.place q i h in
      record { none = λ k p. sym (under_front v.place (get v.entries) k (both_true _ _ p).0) ∙ none.none k p }
  walk_first q i (Some e) h =
      let front = (under_some v.place (get v.entries) e.0 (ap is_some h.stored)).0 in
      let first = first_within (held v) v.place q i e front h in
      record {
        passes = first.passes;
        stored = sym (under_front v.place (get v.entries) e.0 front) ∙ first.stored;
        before = λ k p b. sym (under_front v.place (get v.entries) k (both_true _ _ p).0) ∙ first.before k p b;
      }

  first_of_walk : (q : KeyBits) (i : Bool) (o : Option (KeyBits × V)) → map_search.IsFirst (get v.entries) (in_walk v.place q i) o → IsFirst v (walk_from v.entries v.place q i) (option_map (λ e. moved v e.0) o)
  first_of_walk q i None h = walk_none v.entries v.place q i h
  first_of_walk q i (Some e) h = record { value = e.1; others = walk_from v.entries v.place e.0 false; first = walk_some v.entries v.place q i e h; same = refl }

  pub seen_first : (q : KeyBits) (i : Bool) (r : Option (Seen V)) → IsFirstSeen v (StandsBelow (node v) q i) r → IsFirst v (walk_from v.entries v.place q i) r
  seen_first q i r h =
      let all = first_same (held v) (StandsBelow (node v) q i) (StandsBelow [] q i) (λ k s c. (below_node v k s, c.1)) (λ k c. (refl, c.1)) h.entry h.first in
      subst (λ (x : Option (Seen V)). IsFirst v (walk_from v.entries v.place q i) x) (sym h.same) (first_of_walk q i h.entry (walk_first q i h.entry all))
