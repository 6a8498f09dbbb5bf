-- What the second walk stores at and below a key.
use Rattle.std.proofs.Common.{◌≡◌, ◌≢◌, bit_and, ◌^◌, ℕ, zero, suc, ◌+◌, ◌-◌, ◌*◌, ◌/◌, ◌%◌, inl, inr, ◌<◌, ◌≤◌, Bool, true, false, cond, List, [], ◌∷◌, ◌++◌, length, Option, Some, None, refl, sym, ap, ◌∙◌, subst, arith, append_assoc, append-nil, length-append}
use Rattle.std.specs.Prelude.{◌==◌, ◌||◌, ◌&&◌, not, nat_le, slice_get}
use Rattle.std.specs.List.{filter}
use Rattle.std.specs.Ordering.{eq_by_cmp}
use mathlib.Core.Bool.{true≢false}
use Rattle.std.specs.Int.{bit_at}
use Rattle.std.specs.Option.{option_copied, option_or, option_map}
use Rattle.std.specs.FinMap as fin
use Rattle.std.specs.FinMap.{IsAntisymmetric}
use Rattle.std.specs.Cmp.{IsTotalOrder, Equal-is}
use Rattle.std.specs.declared.cmp.Ordering.{Ordering}
use Rattle.std.proofs.lemmas.Option.{get_or_from_slice_get, slice_get_within}
use Rattle.std.proofs.lemmas.List.{length-map}
use Rattle.std.proofs.lemmas.Nat.Bits.{shr_and_one}
use Rattle.prefix_model.specs.Keys.{KeyBits}
use Rattle.prefix_model.specs.Tables.{KeyMap, Values, HasWidth, after}
use Rattle.prefix_model.specs.Positions.{data_places, data_bits, child_bits}
use Rattle.prefix_model.proofs.KeyLemmas.{both_true}
use Rattle.prefix_model.specs.Building.{insert_all}
use Rattle.prefix_model.specs.Candidates.{Candidates, candidates, has, offers, least, only}
use Rattle.prefix_model.specs.LeastTable.{entry, with_halves, placed, stored, inherited}
use Rattle.prefix_model.proofs.Fewest.Lists.{IsInhabited, least_in}
use Rattle.prefix_model.proofs.Fewest.Serving.{candidates_good}
use Rattle.prefix_model.proofs.Fewest.Uniform.{candidates_uniform, placed_uniform}
use Rattle.prefix_model.specs.TableViews.{TableView, HoldsPositions}
use Rattle.prefix_model.specs.Places.{answers_from}
use Rattle.prefix_aggregate.specs.Lists.{at, NoneIsHole}
use Rattle.prefix_aggregate.specs.Inner.{AreInner}
use Rattle.prefix_model.specs.Slots.{place}
use Rattle.prefix_model.proofs.MaskBits.{bitmap_bit}
use Rattle.prefix_aggregate.specs.Same.{same_list, same_candidates}
use Rattle.prefix_aggregate.specs.ChangeSets.{ChangeLists, candidates_from, is_change, mask_of, lists_of, shortened}
use Rattle.prefix_model.proofs.Bitmaps.NodeBits.{places_count}
use Rattle.prefix_aggregate.proofs.NodeLaws.{at_most, place_above, place_longer}
use Rattle.prefix_aggregate.proofs.Numbers.{nat_order}
use Rattle.prefix_aggregate.specs.Reading.{place_key, lists_before, list_of, StandsAt, IsSettled, is_inherited, stored_at, handed_down, node_masks, node_lists, masks_below, lists_below, nodes_below, IsRead, IsHere, IsPlaced}
use Rattle.prefix_aggregate.specs.declared.writing.Node.{Node}
use Rattle.prefix_model.proofs.Counting.NodeViews.{answers_after}
use Rattle.prefix_aggregate.proofs.PlacingLaws.{placed_halves}
use Rattle.prefix_aggregate.proofs.InnerCandidates.{one_of, last_answer, above_addresses, not_filled}
use Rattle.prefix_aggregate.proofs.ReadingLaws.{key_place, key_half, key_first, half_answers, halves_below, stands_first, stands_rest, stands_within, stands_get, place-all, kept_number, node-masks, node-lists}

-- ---- candidates of a key

module _ {V : Type 0} {cmp : V → V → Ordering} (o : IsTotalOrder cmp) (exact : IsAntisymmetric cmp) where
  -- what a key hands down is settled with its candidates
  pub settled_next : (c : Candidates V) → ((l : List V) → c ≡ Some l → IsInhabited cmp l) → (v : Option V) → IsSettled cmp c (inherited cmp c v)
  unfolding offers
  settled_next None good v = record { nothing = refl; same = refl }
  settled_next (Some l) good v = of (offers cmp l v) refl
    where
      offered : offers cmp l (least l) ≡ true
      offered = let found = least_in o exact l (good l refl) in ap (offers cmp l) found.1 ∙ found.2

      of : (t : Bool) → offers cmp l v ≡ t → IsSettled cmp (Some l) (cond (offers cmp l v) v (least l))
      of true e = subst (IsSettled cmp (Some l)) (ap (λ t. cond t v (least l)) (sym e)) (record { nothing = ap (λ t. cond t None (least l)) e; same = ap (λ t. cond t v (least l)) e })
      of false e = subst (IsSettled cmp (Some l)) (ap (λ t. cond t v (least l)) (sym e)) (record { nothing = ap (λ t. cond t None (least l)) offered; same = ap (λ t. cond t (least l) (least l)) offered })

  pub not_hole : (n : ℕ) (g : Values V) → NoneIsHole (candidates cmp n g)
  not_hole n g = of (candidates cmp n g) (candidates_good o exact n g)
    where
      some : (l : List V) → IsInhabited cmp l → 0 < length l
      some [] h = absurd (true≢false (sym h.1))
      some (x ∷ l) h = omega arith

      of : (c : Candidates V) → ((l : List V) → c ≡ Some l → IsInhabited cmp l) → NoneIsHole c
      of None h = tt
      of (Some l) h = some l (h l refl)

-- ---- what is placed at a key with one answer, and at a key with halves

module _ {V : Type 0} {cmp : V → V → Ordering} (o : IsTotalOrder cmp) where
  pub placed_leaf : (n : ℕ) (g : Values V) (a v : Option V) → ((k : KeyBits) → g k ≡ a) → placed cmp n g v ≡ entry (stored cmp (candidates cmp n g) v)
  placed_leaf n g a v one = placed_uniform o n g a v (λ k e. one k) ∙ ap (λ c. entry (stored cmp c v)) (sym (candidates_uniform o n g a (λ k e. one k)))

-- where nothing is placed in the halves
pub placed_first : {V : Type 0} (cmp : V → V → Ordering) (n : ℕ) (g : Values V) (v : Option V) → ((x : Bool) → placed cmp n (after x g) (inherited cmp (candidates cmp (suc n) g) v) ≡ []) → placed cmp (suc n) g v ≡ entry (stored cmp (candidates cmp (suc n) g) v)
placed_first cmp n g v none = (λ i. with_halves (stored cmp (candidates cmp (suc n) g) v) (none false i) (none true i)) ∙ append-nil (entry (stored cmp (candidates cmp (suc n) g) v))

module _ {T : Type 0} (cmp : T → T → Ordering) (w : ℕ) (view : TableView T) (q : KeyBits) (n : ℕ) (a v : Option T) where
  here_candidates : Candidates T
  here_candidates = candidates cmp (w - n) (answers_from view q a)

  -- what is stored at a key and then in its halves
  pub placed_in_halves : n < w → (q0 q1 : KeyBits) → q0 ≡ q ++ false ∷ [] → q1 ≡ q ++ true ∷ [] → (b u : Option T) → b ≡ option_or (fin.get view.entries q) a → u ≡ inherited cmp (candidates cmp (w - n) (answers_from view q a)) v
      → (m m0 m1 m2 : KeyMap T) → m0 ≡ insert_all m (at q (entry (stored cmp (candidates cmp (w - n) (answers_from view q a)) v)))
      → IsPlaced cmp w view q0 (n + 1) b u m0 m1 → IsPlaced cmp w view q1 (n + 1) b u m1 m2 → IsPlaced cmp w view q n a v m m2
  placed_in_halves deep q0 q1 e0 e1 b u eb eu m m0 m1 m2 f0 f1 f2 =
      let size : w - n ≡ suc (w - (n + 1)) = omega (arith, deep) in
      let g : Values T = answers_from view q a in
      let c : Candidates T = candidates cmp (w - n) g in
      let low : answers_from view q0 b ≡ after false g = (λ i. answers_from view (e0 i) (eb i)) ∙ answers_after view q a false in
      let high : answers_from view q1 b ≡ after true g = (λ i. answers_from view (e1 i) (eb i)) ∙ answers_after view q a true in
      f2
      ∙ (λ i. insert_all (f1 i) (at (e1 i) (placed cmp (w - (n + 1)) (high i) (eu i))))
      ∙ (λ i. insert_all (insert_all (f0 i) (at (e0 i) (placed cmp (w - (n + 1)) (low i) (eu i)))) (at (q ++ true ∷ []) (placed cmp (w - (n + 1)) (after true g) (inherited cmp c v))))
      ∙ placed_halves q m (stored cmp c v) (placed cmp (w - (n + 1)) (after false g) (inherited cmp c v)) (placed cmp (w - (n + 1)) (after true g) (inherited cmp c v))
      ∙ (λ i. insert_all m (at q (with_halves (stored cmp (candidates cmp (size i) g) v) (placed cmp (w - (n + 1)) (after false g) (inherited cmp (candidates cmp (size i) g) v)) (placed cmp (w - (n + 1)) (after true g) (inherited cmp (candidates cmp (size i) g) v)))))
      ∙ ap (λ k. insert_all m (at q (placed cmp k g v))) (sym size)

-- ---- the place of a node

module _ {T : Type 0} {cmp : T → T → Ordering} (o : IsTotalOrder cmp) (exact : IsAntisymmetric cmp) (w : ℕ) (view : TableView T) (sets : ChangeLists T) (p : KeyBits) (node : Node T) (read : IsRead cmp w view sets p node) (b : ℕ) (small : b < 63) (q : KeyBits) (n : ℕ) (a v : Option T) (here : IsHere cmp w view p node b q n a v) where
  up : Option T
  up = option_copied node.inherited

  size : n ≡ length p + length (place_key b)
  size = here.long ∙ ap length here.key ∙ length-append p (place_key b)

  -- the candidates of the place are those of its key
  pub same_key_candidates : candidates_from cmp (w - length p) (answers_from view p (option_copied node.inherited)) (place_key b) ≡ candidates cmp (w - n) (answers_from view q a)
  same_key_candidates =
      let s = size in
      let m : w - length p - length (place_key b) ≡ w - n = omega (arith, s) in
      λ i. candidates cmp (m i) (λ k. here.answers k i)

  module _ (low : b < 31) where
    pub listed_within : bit_at node.mask b ≡ 1 → node.list + lists_before node.mask b < length sets.lists
    listed_within one = slice_get_within sets.lists (node.list + lists_before node.mask b) _ (read.listed b low one)

    listed_is : bit_at node.mask b ≡ 1 → list_of sets node b ≡ candidates cmp (w - n) (answers_from view q a)
    listed_is one = get_or_from_slice_get sets.lists (node.list + lists_before node.mask b) _ None (read.listed b low one) ∙ same_key_candidates

    pub listed_whole : bit_at node.mask b ≡ 1 → NoneIsHole (list_of sets node b)
    listed_whole one = subst NoneIsHole (sym (listed_is one)) (not_hole o exact (w - n) (answers_from view q a))

    pub stored_is : stored_at cmp sets node b v ≡ stored cmp (candidates cmp (w - n) (answers_from view q a)) v
    stored_is = elim (one_of node.mask b) [
      | inl one ↦ ap (λ d. cond (d == 1) (stored cmp (list_of sets node b) v) None) one ∙ ap (λ c. stored cmp c v) (listed_is one)
      | inr none ↦ ap (λ d. cond (d == 1) (stored cmp (list_of sets node b) v) None) none ∙ sym (here.settled low none).nothing
    ]

    pub handed_is : handed_down cmp sets node b v ≡ inherited cmp (candidates cmp (w - n) (answers_from view q a)) v
    handed_is = elim (one_of node.mask b) [
      | inl one ↦ ap (λ d. cond (d == 1) (inherited cmp (list_of sets node b) v) v) one ∙ ap (λ c. inherited cmp c v) (listed_is one)
      | inr none ↦ ap (λ d. cond (d == 1) (inherited cmp (list_of sets node b) v) v) none ∙ sym (here.settled low none).same
    ]

    pub deep_there : bit_at node.inner b ≡ 1 → n < w
    deep_there one =
        let h = above_addresses w p node.mask node.bits.child_bits node.inner read.no_children read.inner read.fits 31 b (place_key b) (omega arith) low (key_place b low) one in
        let s = size in
        omega (arith, h, s)

-- the place one bit below
pub half_here : {T : Type 0} {cmp : T → T → Ordering} (o : IsTotalOrder cmp) (exact : IsAntisymmetric cmp) (w : ℕ) (view : TableView T) (sets : ChangeLists T) (p : KeyBits) (node : Node T) (read : IsRead cmp w view sets p node) (b : ℕ) → b < 31
    → (q : KeyBits) (n : ℕ) (a v : Option T) (here : IsHere cmp w view p node b q n a v) → n < w → (x : Bool) (h : ℕ) (r : KeyBits) (c u : Option T)
    → h ≡ 2 * b + 1 + cond x 1 0 → r ≡ q ++ x ∷ [] → c ≡ option_or (fin.get view.entries q) a → u ≡ inherited cmp (candidates cmp (w - n) (answers_from view q a)) v
    → IsHere cmp w view p node h r (n + 1) c u
half_here {T} {cmp} o exact w view sets p node read b low q n a v here deep x h r c u eh er ec eu = record {
  key = er ∙ ap (λ k. k ++ x ∷ []) here.key ∙ append_assoc p (place_key b) (x ∷ []) ∙ ap (λ k. p ++ k) (sym key);
  long = long;
  within = omega (arith, deep);
  answers = same;
  settled = settled;
}
  where
    key : place_key h ≡ place_key b ++ x ∷ []
    key = ap place_key eh ∙ key_half b low x

    long : n + 1 ≡ length r
    long = let l = ap length er ∙ length-append q (x ∷ []) in let m = here.long in omega (arith, l, m)

    same : (k : KeyBits) → answers_from view p (option_copied node.inherited) (place_key h ++ k) ≡ answers_from view r c k
    same k = ap (λ s. answers_from view p (option_copied node.inherited) (s ++ k)) key ∙ half_answers view p (option_copied node.inherited) (place_key b) q a here.answers x k ∙ (λ i. answers_from view (sym er i) (sym ec i) k)

    above : (h - 1) / 2 ≡ b
    above = of x eh
      where
        of : (x : Bool) → h ≡ 2 * b + 1 + cond x 1 0 → (h - 1) / 2 ≡ b
        of true e = omega (arith, e)
        of false e = omega (arith, e)

    settled : h < 31 → bit_at node.mask h ≡ 0 → IsSettled cmp (candidates cmp (w - (n + 1)) (answers_from view r c)) u
    settled small none =
        let size = here.long ∙ ap length here.key ∙ length-append p (place_key b) in
        let more = ap length key ∙ length-append (place_key b) (x ∷ []) in
        let some : 0 < h = (let t = above in let e = eh in positive x e) in
        let m : w - length p - length (place_key h) ≡ w - (n + 1) = omega (arith, size, more) in
        let there : candidates cmp (w - (n + 1)) (answers_from view r c) ≡ candidates cmp (w - n) (answers_from view q a) =
        sym (λ i. candidates cmp (m i) (λ k. same k i))
        ∙ read.unlisted h some small (omega (arith, size, more, deep)) none
        ∙ ap (λ d. candidates_from cmp (w - length p) (answers_from view p (option_copied node.inherited)) (place_key d)) above
        ∙ same_key_candidates o exact w view sets p node read b (omega (arith, low)) q n a v here
        in
        subst (λ d. IsSettled cmp d u) (sym there) (subst (IsSettled cmp (candidates cmp (w - n) (answers_from view q a))) (sym eu) (settled_next o exact (candidates cmp (w - n) (answers_from view q a)) (candidates_good o exact (w - n) (answers_from view q a)) v))
      where
        positive : (x : Bool) → h ≡ 2 * b + 1 + cond x 1 0 → 0 < h
        positive true e = omega (arith, e)
        positive false e = omega (arith, e)

-- at and below a place that is not inner nothing is placed but at its own key
module _ {T : Type 0} {cmp : T → T → Ordering} (o : IsTotalOrder cmp) (exact : IsAntisymmetric cmp) (w : ℕ) (view : TableView T) (sets : ChangeLists T) (p : KeyBits) (node : Node T) (read : IsRead cmp w view sets p node) (holds : HoldsPositions view) (wide : HasWidth w view.entries) (whole : length p % 5 ≡ 0) where
  pub placed_there : (m b : ℕ) → 31 ≤ b + m → b < 31 → bit_at node.inner b ≡ 0 → (q : KeyBits) (n : ℕ) (a v : Option T) → IsHere cmp w view p node b q n a v
      → placed cmp (w - n) (answers_from view q a) v ≡ entry (stored cmp (candidates cmp (w - n) (answers_from view q a)) v)
  placed_there zero b enough low none q n a v here = absurd (omega (arith, enough, low))
  placed_there (suc m) b enough low none q n a v here = elim (nat_order 15 b) [
    | inl high ↦
        placed_leaf o (w - n) (answers_from view q a) (answers_from view p (option_copied node.inherited) (place_key b)) v
        (λ k. sym (here.answers k) ∙ last_answer w view holds wide p whole node.mask node.bits.child_bits node.inner read.children read.inner (option_copied node.inherited) b (place_key b) high low (key_place b low) none k)
    | inr few ↦ elim (nat_order w n) [
      | inl over ↦ (let e : w - n ≡ 0 = omega (arith, over) in subst (λ k. placed cmp k (answers_from view q a) v ≡ entry (stored cmp (candidates cmp k (answers_from view q a)) v)) (sym e) refl)
      | inr deep ↦ halves few deep (λ h more less bare r c u there. placed_there m h (omega (arith, enough, more)) less bare r (n + 1) c u there)
    ]
  ]
    where
      small : (x : Bool) → b < 15 → 2 * b + 1 + cond x 1 0 < 31
      small true few = omega (arith, few)
      small false few = omega (arith, few)

      halves : b < 15 → n < w
          → ((h : ℕ) → b < h → h < 31 → bit_at node.inner h ≡ 0 → (r : KeyBits) (c u : Option T) → IsHere cmp w view p node h r (n + 1) c u
          → placed cmp (w - (n + 1)) (answers_from view r c) u ≡ entry (stored cmp (candidates cmp (w - (n + 1)) (answers_from view r c)) u))
          → placed cmp (w - n) (answers_from view q a) v ≡ entry (stored cmp (candidates cmp (w - n) (answers_from view q a)) v)
      halves few deep rest =
          let size : w - n ≡ suc (w - (n + 1)) = omega (arith, deep) in
          let g : Values T = answers_from view q a in
          let u : Option T = inherited cmp (candidates cmp (suc (w - (n + 1))) g) v in
          subst (λ k. placed cmp k (answers_from view q a) v ≡ entry (stored cmp (candidates cmp k (answers_from view q a)) v)) (sym size)
          (placed_first cmp (w - (n + 1)) g v (λ x.
          let bare = not_filled node.mask node.bits.child_bits node.inner read.inner b few none x in
          let c : Option T = option_or (fin.get view.entries q) a in
          let there : IsHere cmp w view p node (2 * b + 1 + cond x 1 0) (q ++ x ∷ []) (n + 1) (option_or (fin.get view.entries q) a) (inherited cmp (candidates cmp (suc (w - (n + 1))) (answers_from view q a)) v) =
          half_here o exact w view sets p node read b low q n a v here deep x (2 * b + 1 + cond x 1 0) (q ++ x ∷ []) c u refl refl refl (ap (λ k. inherited cmp (candidates cmp k (answers_from view q a)) v) (sym size)) in
          ap (λ f. placed cmp (w - (n + 1)) f u) (sym (answers_after view q a x))
          ∙ rest (2 * b + 1 + cond x 1 0) (omega arith) (small x few) bare.1 (q ++ x ∷ []) c u there
          ∙ ap entry ((there.settled (small x few) bare.0).nothing)))

-- ---- the masks and lists below a place

module _ {T : Type 0} (w : ℕ) (view : TableView T) {A : Type 0} (have : KeyBits → Option T → List A) (b : ℕ) (low : b < 31) (q q0 q1 : KeyBits) (a c : Option T) (e0 : q0 ≡ q ++ false ∷ []) (e1 : q1 ≡ q ++ true ∷ []) (ec : c ≡ option_or (fin.get view.entries q) a) where
  pub split : nodes_below w view have (5 - length (place_key b)) q a ≡ nodes_below w view have (5 - length (place_key (2 * b + 1))) q0 c ++ nodes_below w view have (5 - length (place_key (2 * b + 1 + 1))) q1 c
  split = halves_below w view have b low q a ∙ (λ i. nodes_below w view have (5 - length (place_key (2 * b + 1))) (sym e0 i) (sym ec i) ++ nodes_below w view have (5 - length (place_key (2 * b + 1 + 1))) (sym e1 i) (sym ec i))

  pub low_stands : (xs : List A) (i : ℕ) → StandsAt xs i (nodes_below w view have (5 - length (place_key b)) q a) → StandsAt xs i (nodes_below w view have (5 - length (place_key (2 * b + 1))) q0 c)
  low_stands xs i h = stands_first xs i _ _ (subst (StandsAt xs i) split h)

  pub high_stands : (xs : List A) (i j : ℕ) → StandsAt xs i (nodes_below w view have (5 - length (place_key b)) q a) → j ≡ i + length (nodes_below w view have (5 - length (place_key (2 * b + 1))) q0 c)
      → StandsAt xs j (nodes_below w view have (5 - length (place_key (2 * b + 1 + 1))) q1 c)
  high_stands xs i j h e = subst (λ j. StandsAt xs j (nodes_below w view have (5 - length (place_key (2 * b + 1 + 1))) q1 c)) (sym e) (stands_rest xs i _ _ (subst (StandsAt xs i) split h))

  pub both_read : (i j k : ℕ) → j ≡ i + length (nodes_below w view have (5 - length (place_key (2 * b + 1))) q0 c) → k ≡ j + length (nodes_below w view have (5 - length (place_key (2 * b + 1 + 1))) q1 c) → k ≡ i + length (nodes_below w view have (5 - length (place_key b)) q a)
  both_read i j k e f =
      let l = ap length split ∙ length-append (nodes_below w view have (5 - length (place_key (2 * b + 1))) q0 c) (nodes_below w view have (5 - length (place_key (2 * b + 1 + 1))) q1 c) in
      omega (arith, e, f, l)

-- what a key with one answer stores
pub stored_only : {V : Type 0} (cmp : V → V → Ordering) (a v : Option V) → stored cmp (option_map only a) v ≡ cond (is_inherited cmp a v) None a
unfolding offers
stored_only cmp None v = refl
stored_only cmp (Some x) None = refl
stored_only cmp (Some x) (Some y) = elim (eq_by_cmp cmp y x) as (λ t. cond (t || false) None (Some x) ≡ cond t None (Some x)) [ true ↦ refl | false ↦ refl ]

-- ---- the node as it is read

at_most_is : (a b : ℕ) → nat_le a b ≡ true → a ≤ b
at_most_is a b e = elim (nat_order a b) [ inl h ↦ h | inr h ↦ absurd (true≢false (sym e ∙ past a b h)) ]
  where
    past : (a b : ℕ) → b < a → nat_le a b ≡ false
    past a b h = grind (arith, h)

module _ {V : Type 0} {cmp : V → V → Ordering} (exact : IsAntisymmetric cmp) where
  tied : (x y : V) → eq_by_cmp cmp x y ≡ true → x ≡ y
  tied x y e = exact x y ((Equal-is (cmp x y)).0 e)

  one_list : (a b : List V) → same_list cmp a b ≡ true → a ≡ b
  one_list [] [] e = refl
  one_list [] (y ∷ b) e = absurd (true≢false (sym e))
  one_list (x ∷ a) [] e = absurd (true≢false (sym e))
  one_list (x ∷ a) (y ∷ b) e = let parts = both_true (eq_by_cmp cmp x y) (same_list cmp a b) e in λ i. tied x y parts.0 i ∷ one_list a b parts.1 i

  one_candidates : (c d : Candidates V) → same_candidates cmp c d ≡ true → c ≡ d
  one_candidates None None e = refl
  one_candidates None (Some b) e = absurd (true≢false (sym e))
  one_candidates (Some a) None e = absurd (true≢false (sym e))
  one_candidates (Some a) (Some b) e = ap Some (one_list a b e)

  -- where no list is kept, the candidates are those one bit above
  no_change : (n : ℕ) (f : Values V) (s : KeyBits) → 0 < length s → length s ≤ n → is_change cmp n f [] s ≡ false → candidates_from cmp n f s ≡ candidates_from cmp n f (shortened s)
  no_change n f [] some fits e = absurd (omega (arith, some))
  no_change n f (x ∷ s) some fits e =
      one_candidates (candidates_from cmp n f (x ∷ s)) (candidates_from cmp n f (shortened (x ∷ s)))
      (of (same_candidates cmp (candidates_from cmp n f (x ∷ s)) (candidates_from cmp n f (shortened (x ∷ s)))) (ap (λ t. t && not (same_candidates cmp (candidates_from cmp n f (x ∷ s)) (candidates_from cmp n f (shortened (x ∷ s))))) (sym (at_most (length (x ∷ s)) n fits)) ∙ e))
    where
      of : (t : Bool) → not t ≡ false → t ≡ true
      of true e = refl
      of false e = absurd (true≢false e)

module _ {T : Type 0} (cmp : T → T → Ordering) (w : ℕ) (view : TableView T) (p : KeyBits) (v : Option T) where
  pub mask_within : (xs : List ℕ) (i : ℕ) → StandsAt xs i (node_masks cmp w view p v) → i < length xs
  mask_within xs i h =
      let e : length (node_masks cmp w view p v) ≡ suc (length (masks_below cmp w view 5 p v)) = ap length (node-masks cmp w view p v) in
      let l = stands_within xs i (node_masks cmp w view p v) h (omega (arith, e)) in
      omega (arith, l, e)

  pub mask_is : (xs : List ℕ) (i m : ℕ) → StandsAt xs i (node_masks cmp w view p v) → slice_get xs i ≡ Some m → m ≡ mask_of cmp (w - length p) (answers_from view p v) []
  mask_is xs i m h e =
      let f = stands_get xs i (node_masks cmp w view p v) h 0 (mask_of cmp (w - length p) (answers_from view p v) []) (ap (λ l. slice_get l 0) (node-masks cmp w view p v)) in
      let z : i + 0 ≡ i = omega arith in
      let g : Some m ≡ Some (mask_of cmp (w - length p) (answers_from view p v) []) = sym e ∙ ap (slice_get xs) (sym z) ∙ f in
      cc

  pub masks_rest : (xs : List ℕ) (i j : ℕ) → StandsAt xs i (node_masks cmp w view p v) → j ≡ i + 1 → StandsAt xs j (masks_below cmp w view 5 p v)
  masks_rest xs i j h e =
      subst (λ j. StandsAt xs j (masks_below cmp w view 5 p v)) (sym e)
      (stands_rest xs i (mask_of cmp (w - length p) (answers_from view p v) [] ∷ []) (masks_below cmp w view 5 p v) (subst (StandsAt xs i) (node-masks cmp w view p v) h))

  pub masks_left : (i j : ℕ) → j ≡ i + 1 → j + length (masks_below cmp w view 5 p v) ≡ i + length (node_masks cmp w view p v)
  masks_left i j e =
      let l : length (node_masks cmp w view p v) ≡ suc (length (masks_below cmp w view 5 p v)) = ap length (node-masks cmp w view p v) in
      omega (arith, e, l)

  -- a mask tells as many lists as the node has
  module _ (m : ℕ) (is : m ≡ mask_of cmp (w - length p) (answers_from view p v) []) where
    change : KeyBits → Bool
    change = is_change cmp (w - length p) (answers_from view p v) []

    pub lists_counted : lists_before m 31 ≡ length (lists_of cmp (w - length p) (answers_from view p v) [])
    unfolding change
    lists_counted =
        (λ i. place (is i) (sym places_count i)) ∙ place-all change data_places
        ∙ sym (length-map (filter change data_places) (λ s. candidates_from cmp (w - length p) (answers_from view p v) s))

    pub list_is : (b : ℕ) → b < 31 → bit_at m b ≡ 1 → slice_get (lists_of cmp (w - length p) (answers_from view p v) []) (lists_before m b) ≡ Some (candidates_from cmp (w - length p) (answers_from view p v) (place_key b))
    unfolding change
    list_is b h one =
        ap (λ m. slice_get (lists_of cmp (w - length p) (answers_from view p v) []) (place m b)) is
        ∙ kept_number change (λ s. candidates_from cmp (w - length p) (answers_from view p v) s) data_places b (place_key b) (key_place b h) (kept_bit b h one)
      where
        kept_bit : (b : ℕ) → b < 31 → bit_at m b ≡ 1 → is_change cmp (w - length p) (answers_from view p v) [] (place_key b) ≡ true
        kept_bit b h one = of (change (place_key b)) (sym (ap (λ m. bit_at m b) is ∙ bitmap_bit data_places change b (place_key b) (key_place b h)) ∙ one)
          where
            of : (t : Bool) → ◌≡◌ {A = ℕ} (cond t 1 0) 1 → t ≡ true
            of true e = refl
            of false e = absurd (omega (arith, e))

    pub first_bit_is : bit_at m 0 ≡ 1
    first_bit_is = ap (λ m. bit_at m 0) is ∙ bitmap_bit data_places (is_change cmp (w - length p) (answers_from view p v) []) 0 [] (key_place 0 (omega arith) ∙ ap Some key_first)

    pub lists_first : (xs : List (Candidates T)) (i : ℕ) → StandsAt xs i (node_lists cmp w view p v) → StandsAt xs i (lists_of cmp (w - length p) (answers_from view p v) [])
    lists_first xs i h = stands_first xs i _ _ (subst (StandsAt xs i) (node-lists cmp w view p v) h)

    pub lists_within : (xs : List (Candidates T)) (i : ℕ) → StandsAt xs i (node_lists cmp w view p v) → i + lists_before m 31 ≤ length xs
    lists_within xs i h =
        let some = slice_get_within _ (lists_before m 0) _ (list_is 0 (omega arith) first_bit_is) in
        let l = stands_within xs i _ (lists_first xs i h) (omega (arith, some)) in
        let e = lists_counted in
        omega (arith, l, e)

    pub lists_rest : (xs : List (Candidates T)) (i j : ℕ) → StandsAt xs i (node_lists cmp w view p v) → j ≡ i + lists_before m 31 → StandsAt xs j (lists_below cmp w view 5 p v)
    lists_rest xs i j h e =
        subst (λ j. StandsAt xs j (lists_below cmp w view 5 p v)) (sym (e ∙ ap (λ n. i + n) lists_counted))
        (stands_rest xs i (lists_of cmp (w - length p) (answers_from view p v) []) (lists_below cmp w view 5 p v) (subst (StandsAt xs i) (node-lists cmp w view p v) h))

    pub lists_left : (i j : ℕ) → j ≡ i + lists_before m 31 → j + length (lists_below cmp w view 5 p v) ≡ i + length (node_lists cmp w view p v)
    lists_left i j e =
        let l = ap length (node-lists cmp w view p v) ∙ length-append (lists_of cmp (w - length p) (answers_from view p v) []) (lists_below cmp w view 5 p v) in
        let c = lists_counted in
        omega (arith, e, l, c)

    -- no bit of the mask stands for a key that is longer than an address
    pub mask_fits : (b : ℕ) (s : KeyBits) → 0 < b → slice_get data_places b ≡ Some s → bit_at m b ≡ 1 → length (p ++ s) ≤ w
    unfolding change
    mask_fits b s some named one = within s (place_longer b s some named) (of (change s) (sym (ap (λ m. bit_at m b) is ∙ bitmap_bit data_places change b s named) ∙ one))
      where
        of : (t : Bool) → ◌≡◌ {A = ℕ} (cond t 1 0) 1 → t ≡ true
        of true e = refl
        of false e = absurd (omega (arith, e))

        within : (s : KeyBits) → 0 < length s → is_change cmp (w - length p) (answers_from view p v) [] s ≡ true → length (p ++ s) ≤ w
        within [] some e = absurd (omega (arith, some))
        within (x ∷ s) some e =
            let fits = at_most_is (length (x ∷ s)) (w - length p) ((both_true (nat_le (length (x ∷ s)) (w - length p)) _ e).0) in
            let long = length-append p (x ∷ s) in
            omega (arith, fits, long, some)

    pub unlisted_is : IsAntisymmetric cmp → (b : ℕ) → 0 < b → b < 31 → length p + length (place_key b) ≤ w → bit_at m b ≡ 0
        → candidates_from cmp (w - length p) (answers_from view p v) (place_key b) ≡ candidates_from cmp (w - length p) (answers_from view p v) (place_key ((b - 1) / 2))
    unfolding change
    unlisted_is exact b some h fits none =
        no_change exact (w - length p) (answers_from view p v) (place_key b) (place_longer b (place_key b) some (key_place b h)) (omega (arith, fits)) (clear (change (place_key b)) (sym (ap (λ m. bit_at m b) is ∙ bitmap_bit data_places change b (place_key b) (key_place b h)) ∙ none))
        ∙ ap (candidates_from cmp (w - length p) (answers_from view p v)) above
      where
        clear : (t : Bool) → ◌≡◌ {A = ℕ} (cond t 1 0) 0 → t ≡ false
        clear true e = absurd (omega (arith, e))
        clear false e = refl

        above : shortened (place_key b) ≡ place_key ((b - 1) / 2)
        above = let e : Some (shortened (place_key b)) ≡ Some (place_key ((b - 1) / 2)) = sym (place_above b (place_key b) some (key_place b h)) ∙ key_place ((b - 1) / 2) (omega (arith, h)) in cc

pub is_read : {T : Type 0} (cmp : T → T → Ordering) (exact : IsAntisymmetric cmp) (w : ℕ) (view : TableView T) (sets : ChangeLists T) (p : KeyBits) (node : Node T)
    → node.mask ≡ mask_of cmp (w - length p) (answers_from view p (option_copied node.inherited)) [] → StandsAt sets.lists node.list (node_lists cmp w view p (option_copied node.inherited))
    → node.bits.data_bits ≡ data_bits (fin.get view.entries) p → (length p + 5 ≤ w → node.bits.child_bits ≡ child_bits (fin.contains_key view.kept) p) → (w < length p + 5 → node.bits.child_bits ≡ 0)
    → AreInner node.mask node.bits.child_bits node.inner 0 → IsRead cmp w view sets p node
is_read cmp exact w view sets p node mask lists values children no_children inner = record {
  values = values;
  children = children;
  no_children = no_children;
  inner = inner;
  fits = mask_fits cmp w view p (option_copied node.inherited) node.mask mask;
  first = first_bit_is cmp w view p (option_copied node.inherited) node.mask mask;
  listed = λ b h one. stands_get sets.lists node.list _ (lists_first cmp w view p (option_copied node.inherited) node.mask mask sets.lists node.list lists) (lists_before node.mask b) _ (list_is cmp w view p (option_copied node.inherited) node.mask mask b h one);
  unlisted = λ b some h fits none. unlisted_is cmp w view p (option_copied node.inherited) node.mask mask exact b some h fits none;
}

-- ---- bits of a word, as they are tested

pub bit_clear : (m b : ℕ) → bit_and (m / 2 ^ b) 1 ≡ 0 → bit_at m b ≡ 0
bit_clear m b e = sym (shr_and_one m b) ∙ e

pub bit_set : (m b : ℕ) → bit_and (m / 2 ^ b) 1 ≢ 0 → bit_at m b ≡ 1
bit_set m b n = elim (one_of m b) [ inl one ↦ one | inr none ↦ absurd (n (shr_and_one m b ∙ none)) ]

-- the list that is read is that of the place
pub list_read : {T : Type 0} (sets : ChangeLists T) (node : Node T) (b : ℕ) (c : Candidates T) → slice_get sets.lists (node.list + lists_before node.mask b) ≡ Some c → c ≡ list_of sets node b
list_read sets node b c e = sym (get_or_from_slice_get sets.lists (node.list + lists_before node.mask b) c None e)

-- the first place of a node
pub first_here : {T : Type 0} (cmp : T → T → Ordering) (w : ℕ) (view : TableView T) (sets : ChangeLists T) (p : KeyBits) (node : Node T) (read : IsRead cmp w view sets p node) (q : KeyBits) (n : ℕ) (a v : Option T)
    → q ≡ p → n ≡ length q → n ≤ w → option_copied node.inherited ≡ a → IsHere cmp w view p node 0 q n a v
first_here cmp w view sets p node read q n a v here long within same = record {
  key = here ∙ sym (append-nil p) ∙ ap (λ s. p ++ s) (sym key_first);
  long = long;
  within = within;
  answers = λ k. ap (λ s. answers_from view p (option_copied node.inherited) (s ++ k)) key_first ∙ (λ i. answers_from view (sym here i) (same i) k);
  settled = λ small none. absurd (let f = read.first in omega (arith, f, none));
}

pub moved_below : {T : Type 0} (w : ℕ) (view : TableView T) {A : Type 0} (have : KeyBits → Option T → List A) (m n : ℕ) (q r : KeyBits) (a : Option T) → m ≡ n → q ≡ r → (P : List A → Type 0) → P (nodes_below w view have m q a) → P (nodes_below w view have n r a)
moved_below w view have m n q r a e f P h = subst P (λ i. nodes_below w view have (e i) (f i) a) h
