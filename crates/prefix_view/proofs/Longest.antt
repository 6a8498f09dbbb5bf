-- Stored keys below a place: they are shown, and the longest of them that is a front of a key, node by node.
use Rattle.std.specs.Prelude.{◌≡◌, ℕ, suc, ◌+◌, ◌-◌, ◌*◌, ◌^◌, ◌<◌, ◌≤◌, true, false, ◌++◌, length, take, IsSome, is_some, Option, None, Some, slice_get, IfSome, bit_and, nat_lt}
use Rattle.std.specs.Int.{bit_at}
use Rattle.std.specs.Option.{option_map}
use Rattle.std.specs.FinMap.{get, contains_key}
use Rattle.std.proofs.lemmas.Nat.{and_le_l}
use Rattle.std.proofs.lemmas.Nat.Bits.{bit_at-zero}
use Rattle.std.proofs.Common.{refl, sym, ap, ◌∙◌, subst, arith, length-append, length-take, append_assoc}
use borrow.Author.Tests.{ltb-true, ltb-false}
use lib.Pow.{pow_mono}
use lib.Count.{count_leading_zeros}
use Rattle.prefix_model.specs.Keys.{KeyBits, digit}
use Rattle.prefix_model.specs.Positions.{data_places}
use Rattle.prefix_model.specs.Masks.{data_mask}
use Rattle.prefix_model.specs.Walks.{begins_with, IsMatchUnder, IsLongestUnder}
use Rattle.prefix_model.specs.Views.{Seen, moved, node, IsPlace, IsOnWay, IsBelow, IsBest, data_below, children_below}
use Rattle.prefix_model.specs.NodeSearches.IsChosen.{at_place, below_child}
use Rattle.prefix_model.proofs.Bitmaps.SetBits.{IsTop, top_of, above_zero}
use Rattle.prefix_model.proofs.Fronts.{taken_front, follows, front_of_front, front_both, front_length, front_front}
use Rattle.prefix_model.proofs.Nodes.{parts, node_front}
use Rattle.prefix_model.proofs.KeyPlaces.{place_at, places_short, number-lt}
use Rattle.prefix_model.proofs.Bitmaps.NodeBits.{and_set, both_set, digit_set, place_mask, length_of_children}
use Rattle.prefix_model.proofs.Walking.FromNode.{place_unique}
use Rattle.prefix_model.proofs.Viewing.ViewBits.{under_front}
use Rattle.prefix_view.proofs.KeptPositions.{towards_child, towards_extends}
use Rattle.prefix_view.proofs.NodeViews.{all_seen, place_stored}

-- the highest bit that is set in a word and a mask
pub highest : (x m : ℕ) → x < 4294967296 → (bit_and x m ≡ 0 → ⊥) → IsTop (bit_and x m) (31 - count_leading_zeros 32 (bit_and x m))
highest x m fits some = let le = and_le_l x m in top_of (bit_and x m) (omega (arith, fits, le)) (above_zero (bit_and x m) some)

-- a place with a higher bit is no shorter
longer_place : (a b : ℕ) (s t : KeyBits) → slice_get data_places a ≡ Some s → slice_get data_places b ≡ Some t → b ≤ a → length t ≤ length s
longer_place a b s t e f l =
    let ls = places_short a s e in
    let lt = places_short b t f in
    let ea = place_unique a _ s e (place_at s (length s) refl ls) in
    let eb = place_unique b _ t f (place_at t (length t) refl lt) in
    let n = number-lt s in
    elim (nat_lt (length s) (length t)) as (λ c. nat_lt (length s) (length t) ≡ c → length t ≤ length s) [
      | true ↦ λ c.
          let p = pow_mono (let h : suc (length s) ≤ length t = let g = ltb-true _ _ c in omega (arith, g) in h) in
          let two : 2 ^ suc (length s) ≡ 2 * 2 ^ length s = omega arith in
          absurd (omega (arith, ea, eb, l, n, p, two))
      | false ↦ λ c. ltb-false _ _ c
    ] refl

module _ {V : Type 0} (v : Seen V) (k : KeyBits) where
  -- ---- in one node

  module _ (w : ℕ) (at : IsPlace w v) (y : KeyBits) (is_key : k ≡ node v ++ y) (mask : ℕ) (is_mask : mask ≡ data_mask (λ s. begins_with s y)) where
    record Matched (q : KeyBits) : Type 0 where
      bit : ℕ
      key : KeyBits
      is : slice_get data_places bit ≡ Some key
      whole : q ≡ node v ++ key
      set : bit_at (bit_and (data_below v) mask) bit ≡ 1

    matched : (q : KeyBits) → IsMatchUnder v.entries v.place k q → length q < length (node v) + 5 → Matched q
    matched q m l =
        elim (all_seen v w at (data_below v) (children_below v) refl refl q (subst IsSome (sym (under_front v.place (get v.entries) q m.below)) m.stored) (front_both (node v) v.place q (node_front v.place) m.below)) [
          | at_place b s is set e ↦
              let f : begins_with s y ≡ true = sym (front_front (node v) s y) ∙ (λ j. begins_with (sym e j) (sym is_key j)) ∙ m.above in
              record { bit = b; key = s; is = is; whole = e; set = both_set (data_below v) mask b set (place_mask (λ t. begins_with t y) mask b s is_mask is ∙ ap digit f) }
          | below_child i s x is set e ↦
              let five = length_of_children i s is in
              let size = ap length (e ∙ append_assoc (node v) s x) in
              let a = length-append (node v) (s ++ x) in
              let b = length-append s x in
              absurd (omega (arith, five, size, a, b, l))
        ]

    pub none_here : bit_and (data_below v) mask ≡ 0 → IsBest v k (length (node v) + 5) None
    none_here z q m l = let h = matched q m l in let s = h.set in absurd (omega (arith, s, ap (λ x. bit_at x h.bit) z, bit_at-zero h.bit))

    pub some_here : (b : ℕ) (s : KeyBits) (u : Seen V) → slice_get data_places b ≡ Some s → bit_at (bit_and (data_below v) mask) b ≡ 1
        → ((i : ℕ) → b < i → bit_at (bit_and (data_below v) mask) i ≡ 0) → u ≡ moved v (node v ++ s) → IsBest v k (length (node v) + 5) (Some u)
    some_here b s u is set none e =
        let p : u.place ≡ node v ++ s = ap (λ x. x.place) e in
        let both = and_set (data_below v) mask b set in
        let here = place_stored v b s is both.0 in
        let f = digit_set _ (sym (place_mask (λ t. begins_with t y) mask b s is_mask is) ∙ both.1) in
        record {
          same = e ∙ ap (moved v) (sym p);
          matches = record {
            stored = subst (λ x. IsSome (get v.entries x)) (sym p) here.1;
            below = ap (begins_with v.place) p ∙ here.0;
            above = (λ j. begins_with (p j) (is_key j)) ∙ front_front (node v) s y ∙ f;
          };
          longest = λ q m l.
              let h = matched q m l in
              let low : h.bit ≤ b = elim (nat_lt b h.bit) as (λ c. nat_lt b h.bit ≡ c → h.bit ≤ b) [
                | true ↦ λ c. let z = none h.bit (ltb-true _ _ c) in let o = h.set in absurd (omega (arith, z, o))
                | false ↦ λ c. ltb-false _ _ c
              ] refl in
              let order = longer_place b h.bit s h.key is h.is low in
              let la = ap length h.whole ∙ length-append (node v) h.key in
              let lb = ap length p ∙ length-append (node v) s in
              omega (arith, order, la, lb);
        }

  -- ---- from node to node

  longer_best : (m n : ℕ) → ((q : KeyBits) → IsMatchUnder v.entries v.place k q → length q < n → length q < m) → (best : Option (Seen V)) → IsBest v k m best → IsBest v k n best
  longer_best m n f None h = λ q t l. h q t (f q t l)
  longer_best m n f (Some u) h = record { same = h.same; matches = h.matches; longest = λ q t l. h.longest q t (f q t l) }

  module _ (u : Seen V) (below : IsBelow v u) (above : begins_with u.place k ≡ true) (n : ℕ) where
    seen_from : (q : KeyBits) → IsMatchUnder v.entries v.place k q → length u.place ≤ length q → IsMatchUnder u.entries u.place k q
    seen_from q m l = record {
      stored = subst (λ (y : Seen V). IsSome (get y.entries q)) (sym below.same) m.stored;
      below = front_of_front u.place q k above m.above l;
      above = m.above;
    }

    -- what is found in a node is longer than what is found above it
    best_here : (x : Seen V) → IsBest u k n (Some x) → IsBest v k n (Some x)
    best_here x h = record {
      same = h.same ∙ ap (λ (y : Seen V). moved y x.place) below.same;
      matches = record {
        stored = subst (λ (y : Seen V). IsSome (get y.entries x.place)) below.same h.matches.stored;
        below = front_both v.place u.place x.place below.below h.matches.below;
        above = h.matches.above;
      };
      longest = λ q m l. elim (nat_lt (length q) (length u.place)) as (λ t. nat_lt (length q) (length u.place) ≡ t → length q ≤ length x.place) [
        | true ↦ λ t. let a = ltb-true _ _ t in let f = front_length u.place x.place h.matches.below in omega (arith, a, f)
        | false ↦ λ t. h.longest q (seen_from q m (ltb-false _ _ t)) l
      ] refl;
    }

    best_above : IsBest u k n None → (best : Option (Seen V)) → IsBest v k (length u.place) best → IsBest v k n best
    best_above none best h =
        longer_best (length u.place) n (λ q m l. elim (nat_lt (length q) (length u.place)) as (λ t. nat_lt (length q) (length u.place) ≡ t → length q < length u.place) [
          | true ↦ λ t. ltb-true _ _ t
          | false ↦ λ t. absurd (none q (seen_from q m (ltb-false _ _ t)) l)
        ] refl) best h

    pub taken_here : {X : Type 0} (seen : X → Seen V) (r : Option X) → is_some r ≡ true → IsBest u k n (option_map seen r) → IsBest v k n (option_map seen r)
    taken_here seen None some h = cc
    taken_here seen (Some x) some h = best_here (seen x) h

    pub taken_above : {X : Type 0} (seen : X → Seen V) (r : Option X) → is_some r ≡ false → IsBest u k n (option_map seen r) → (best : Option (Seen V)) → IsBest v k (length u.place) best → IsBest v k n best
    taken_above seen None none h best so_far = best_above h best so_far
    taken_above seen (Some x) none h best so_far = cc

module _ {V : Type 0} (v : Seen V) (bits : KeyBits) (len : ℕ) where
  -- the search has come to the node of u
  pub record Searching (u : Seen V) (best : Option (Seen V)) : Type 0 where
    pub below : IsBelow v u
    pub above : begins_with u.place (take len bits) ≡ true
    pub so_far : IsBest v (take len bits) (length (node u) + 5) best

  module _ (w : ℕ) (u : Seen V) (at : IsPlace w u) (best : Option (Seen V)) (h : Searching u best) where
    pub on_way : IsOnWay v u (take len bits)
    on_way = record { entries = ap (λ (x : Seen V). x.entries) h.below.same; kept = ap (λ (x : Seen V). x.kept) h.below.same; above = h.above }

    module _ (c : Seen V) (inside : length (node u) + 5 ≤ len) (within : len ≤ length bits) (is : c ≡ moved u (take (length (node u) + 5) bits)) where
      place : c.place ≡ take (length (node u) + 5) bits
      place = ap (λ (x : Seen V). x.place) is

      pub child_below : IsBelow v c
      child_below =
          let extends = towards_extends w v u at bits len on_way in record {
            same = is ∙ ap (λ (x : Seen V). moved x (take (length (node u) + 5) bits)) h.below.same ∙ ap (moved v) (sym place);
            below = front_both v.place u.place c.place h.below.below (subst (λ x. begins_with u.place x ≡ true) (sym place) extends);
          }

      pub child_above : begins_with c.place (take len bits) ≡ true
      child_above = (towards_child w v u at bits len on_way c inside is).above

      pub child_so_far : IsBest v (take len bits) (length c.place) best
      child_so_far =
          let t = length-take (length (node u) + 5) bits in
          let size : length (node u) + 5 ≡ length c.place = let l = ap length place in omega (arith, t, l, inside, within) in
          subst (λ m. IsBest v (take len bits) m best) size h.so_far

    -- it ends where the child is not kept
    pub ends_early : length (node u) + 5 ≤ len → len ≤ length bits → contains_key u.kept (take (length (node u) + 5) bits) ≡ false → IsBest v (take len bits) (len + 1) best
    ends_early inside within off =
        longer_best v (take len bits) (length (node u) + 5) (len + 1) (λ q m l. elim (nat_lt (length q) (length (node u) + 5)) as (λ t. nat_lt (length q) (length (node u) + 5) ≡ t → length q < length (node u) + 5) [
          | true ↦ λ t. ltb-true _ _ t
          | false ↦ λ t.
              let long = ltb-false _ _ t in
              let towards = take (length (node u) + 5) bits in
              let size = length-take (length (node u) + 5) bits in
              let at_five = (parts u.place).at_five in
              let f = follows towards q (front_of_front towards q (take len bits) (taken_front bits (length (node u) + 5) len inside) m.above (omega (arith, size, long))) in
              let stored = subst (λ (y : Seen V). IsSome (get y.entries q)) (sym h.below.same) m.stored in
              let on = at.keeps.stored towards f.rest (omega (arith, at_five, size, inside, within)) (subst (λ y. IsSome (get u.entries y)) f.whole stored) in
              cc
        ] refl) best h.so_far

    -- and in the node of the key
    pub ends_at : len < length (node u) + 5 → IsBest v (take len bits) (len + 1) best
    ends_at near = longer_best v (take len bits) (length (node u) + 5) (len + 1) (λ q m l. omega (arith, near, l)) best h.so_far

module _ {V : Type 0} (v : Seen V) (k : KeyBits) where
  -- what was found is the longest match
  pub is_longest : {X : Type 0} (seen : X → Seen V) (n : ℕ) → length k < n → (r : Option X) → IsBest v k n (option_map seen r) → IsLongestUnder v.entries v.place k (option_map (λ x. (seen x).place) r)
  is_longest seen n l None h = λ q m. let f = front_length q k m.above in h q m (omega (arith, l, f))
  is_longest seen n l (Some x) h = (h.matches, λ q m. let f = front_length q k m.above in h.longest q m (omega (arith, l, f)))

  pub is_same : {X : Type 0} (seen : X → Seen V) (n : ℕ) (r : Option X) → IsBest v k n (option_map seen r) → IfSome r (λ x. seen x ≡ moved v (seen x).place)
  is_same seen n None h = tt
  is_same seen n (Some x) h = h.same

  -- a place that the key does not extend has no match
  pub no_match : (begins_with v.place k ≡ true → ⊥) → (q : KeyBits) → IsMatchUnder v.entries v.place k q → ⊥
  no_match n q m = n (front_both v.place q k m.below m.above)
