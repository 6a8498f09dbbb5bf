-- What the first walk finds at the places of a node.
use Rattle.std.proofs.Common.{◌≡◌, ◌≢◌, ◌⊎◌, inl, inr, ℕ, zero, suc, ◌+◌, ◌-◌, ◌*◌, ◌/◌, ◌%◌, ◌<◌, ◌≤◌, Bool, true, false, cond, List, [], ◌∷◌, ◌++◌, length, drop, Option, Some, refl, sym, ap, ◌∙◌, subst, arith, append_assoc, append-nil, length-append}
use Rattle.std.specs.Prelude.{◌==◌, T, nat_lt, set, slice_get, reverse}
use Rattle.std.specs.Int.{bit_at}
use Rattle.std.specs.List.{list_all}
use Rattle.std.specs.Option.{option_or, option_map}
use Rattle.std.specs.FinMap as map
use Rattle.std.specs.Borrow.{Bor}
use Rattle.std.specs.Cmp.{IsTotalOrder}
use Rattle.std.specs.declared.cmp.Ordering.{Ordering}
use Rattle.std.proofs.Math.Facts.{eqb_yes}
use Rattle.std.proofs.Math.Seq.{drop-append_seam}
use Rattle.std.proofs.lemmas.List.{reverse-append}
use Rattle.std.proofs.lemmas.Option.{slice_get_within}
use Rattle.prefix_model.specs.Keys.{KeyBits, low_bits, number}
use Rattle.prefix_model.specs.Tables.{HasWidth, after}
use Rattle.prefix_model.specs.Positions.{data_places, child_places}
use Rattle.prefix_model.specs.Candidates.{Candidates, candidates, joined, only}
use Rattle.prefix_model.specs.Rows.{count_up}
use Rattle.prefix_model.proofs.Fewest.Uniform.{candidates_uniform}
use Rattle.prefix_model.proofs.KeyNumbers.{length-low_bits}
use Rattle.prefix_table.specs.Tries.{bit_of}
use Rattle.prefix_model.specs.TableViews.{TableView, HoldsPositions}
use Rattle.prefix_model.proofs.TablePositions.{none_from, slot_length}
use Rattle.prefix_aggregate.specs.Inner.{AreInner}
use Rattle.prefix_model.specs.Places.{answers_from}
use Rattle.prefix_aggregate.specs.Parts.{told, IsPart, KeepsParts}
use Rattle.prefix_aggregate.specs.Nodes.{part_at, list_at, kept_mask, kept_of, AreNodeLists}
use Rattle.prefix_aggregate.specs.ChangeSets.{candidates_from, shortened, mask_of, lists_of}
use Rattle.prefix_aggregate.specs.Trees.{given, IsGiven}
use Rattle.prefix_aggregate.specs.Reading.{place_key, node_masks, node_lists, masks_below, lists_below}
use Rattle.prefix_aggregate.specs.Collecting.{AreParts, AreListed, IsSource, IsCollected, key_candidates}
use Rattle.prefix_aggregate.specs.declared.parts.Part.{Part}
use Rattle.prefix_aggregate.specs.declared.collecting.Source.{Source}
use Rattle.prefix_model.proofs.Counting.NodeViews.{answers_first, answers_after, answers_none}
use Rattle.prefix_aggregate.proofs.BelowLaws.{at_place, at_other, parts_set, told_other, told_given, given_part}
use Rattle.prefix_aggregate.proofs.InnerCandidates.{above_inner, nothing_below, inner_short, one_answer}
use Rattle.prefix_aggregate.proofs.NodeLaws.{all_test, place_above, place_longer, node_mask, node_lists as kept_lists_are}
use Rattle.prefix_model.proofs.Bitmaps.NodeBits.{places_count}
use Rattle.prefix_aggregate.proofs.NodeSteps.{hidden_half}
use Rattle.prefix_aggregate.proofs.PartLaws.{told_kept, is_part_kept, kept_then}
use Rattle.prefix_aggregate.proofs.ReadingLaws.{key_place, key_half, key_short, key_first, key_slot, slot_long, node-masks, node-lists}
use Rattle.prefix_aggregate.proofs.StackLaws.{reverse-cons}

-- ---- places by number and by key

numbers : list_all (λ b. bit_of (place_key b) == b) (count_up 0 31) ≡ true
unfolding place_key data_places child_places
numbers = refl

pub key_once : (b c : ℕ) → b < 31 → c < 31 → place_key b ≡ place_key c → b ≡ c
key_once b c h l e = sym (numbered b h) ∙ ap bit_of e ∙ numbered c l
  where
    numbered : (b : ℕ) → b < 31 → bit_of (place_key b) ≡ b
    numbered b h = eqb_yes (subst T (sym (all_test (λ b. bit_of (place_key b) == b) 0 31 b numbers (omega arith) (omega (arith, h)))) tt)

pub shortened-append : (s r : KeyBits) → 0 < length r → shortened (s ++ r) ≡ s ++ shortened r
shortened-append s [] h = absurd (omega arith)
shortened-append [] (x ∷ r) h = refl
shortened-append (b ∷ []) (x ∷ r) h = refl
shortened-append (b ∷ c ∷ s) (x ∷ r) h = ap (λ l. b ∷ l) (shortened-append (c ∷ s) (x ∷ r) h)

length-shortened : (s : KeyBits) → length (shortened s) ≡ length s - 1
length-shortened [] = omega arith
length-shortened (b ∷ []) = omega arith
length-shortened (b ∷ c ∷ s) = let e = length-shortened (c ∷ s) in omega (arith, e)

pub key_above : (c : ℕ) → 0 < c → c < 31 → place_key ((c - 1) / 2) ≡ shortened (place_key c)
key_above c some h = let e : Some (shortened (place_key c)) ≡ Some (place_key ((c - 1) / 2)) = sym (place_above c (place_key c) some (key_place c h)) ∙ key_place ((c - 1) / 2) (omega (arith, h)) in cc

-- a place below another is not the first
positive : (c : ℕ) → 0 < length (place_key c) → 0 < c
positive zero h = absurd (let e = ap length key_first in omega (arith, h, e))
positive (suc c) h = omega arith

longer : (c b : ℕ) (x : Bool) (r : KeyBits) → place_key c ≡ place_key b ++ x ∷ r → 0 < c
longer c b x r e = positive c (let n = ap length e ∙ length-append (place_key b) (x ∷ r) in omega (arith, n))

not_here : (c b : ℕ) (x : Bool) (r : KeyBits) → place_key c ≡ place_key b ++ x ∷ r → c ≢ b
not_here c b x r e same = let n = ap (λ c. length (place_key c)) (sym same) ∙ ap length e ∙ length-append (place_key b) (x ∷ r) in omega (arith, n)

-- the place above one below b is at or below b
above_below : (c b : ℕ) (x : Bool) (r : KeyBits) → c < 31 → place_key c ≡ place_key b ++ x ∷ r → place_key ((c - 1) / 2) ≡ place_key b ++ shortened (x ∷ r)
above_below c b x r h e = key_above c (longer c b x r e) h ∙ ap shortened e ∙ shortened-append (place_key b) (x ∷ r) (omega arith)

-- a place that has an inner place at or below it is inner
inner_up : (stored child inner : ℕ) → AreInner stored child inner 0 → (m b c : ℕ) (r : KeyBits) → length r ≤ m → b < 31 → c < 31 → place_key c ≡ place_key b ++ r → bit_at inner c ≡ 1 → bit_at inner b ≡ 1
inner_up stored child inner law zero b c [] fits hb hc e one = ap (bit_at inner) (sym (key_once c b hc hb (e ∙ append-nil (place_key b)))) ∙ one
inner_up stored child inner law (suc m) b c [] fits hb hc e one = ap (bit_at inner) (sym (key_once c b hc hb (e ∙ append-nil (place_key b)))) ∙ one
inner_up stored child inner law zero b c (x ∷ r) fits hb hc e one = absurd (omega arith)
inner_up stored child inner law (suc m) b c (x ∷ r) fits hb hc e one =
    let n = length-shortened (x ∷ r) in
    inner_up stored child inner law m b ((c - 1) / 2) (shortened (x ∷ r)) (omega (arith, fits, n)) hb (omega (arith, hc)) (above_below c b x r hc e) (above_inner stored child inner law c (longer c b x r e) hc one)

-- a bit that follows, among those of the place's key
next_bit : (s r : KeyBits) (x : Bool) → s ++ x ∷ r ≡ (s ++ x ∷ []) ++ r
next_bit s r x = sym (append_assoc s (x ∷ []) r)

one_half : (s r q : KeyBits) → s ++ true ∷ r ≡ s ++ false ∷ q → ⊥
one_half s r q e = let h : true ∷ r ≡ false ∷ q = sym (drop-append_seam s (true ∷ r)) ∙ ap (drop (length s)) e ∙ drop-append_seam s (false ∷ q) in absurd cc

length_changed : {A : Type 0} (l : List A) (i : ℕ) (x : A) → length (set l i x) ≡ length l
length_changed [] i x = refl
length_changed (y ∷ l) zero x = refl
length_changed (y ∷ l) (suc i) x = ap suc (length_changed l i x)

pub key_low : (b : ℕ) → b < 31 → place_key (2 * b + 1) ≡ place_key b ++ false ∷ []
key_low b low = (let e : 2 * b + 1 ≡ 2 * b + 1 + 0 = omega arith in ap place_key e) ∙ key_half b low false

pub low_under : (p : KeyBits) (b : ℕ) → b < 31 → p ++ place_key (2 * b + 1) ≡ (p ++ place_key b) ++ false ∷ []
low_under p b low = ap (λ s. p ++ s) (key_low b low) ∙ sym (append_assoc p (place_key b) (false ∷ []))

pub high_under : (p : KeyBits) (b : ℕ) → b < 31 → p ++ place_key (2 * b + 1 + 1) ≡ (p ++ place_key b) ++ true ∷ []
high_under p b low = ap (λ s. p ++ s) (key_half b low true) ∙ sym (append_assoc p (place_key b) (true ∷ []))

pub half_long : (b : ℕ) → b < 31 → (x : Bool) → length (place_key (2 * b + 1 + cond x 1 0)) ≡ length (place_key b) + 1
half_long b low x = ap length (key_half b low x) ∙ length-append (place_key b) (x ∷ [])

-- the last part of a measure
pub measure_small : (t : Bool) → cond t 1 5 ≤ 5
measure_small true = omega arith
measure_small false = omega arith

pub place_measure : (b : ℕ) → b < 31 → ◌≡◌ {A = ℕ} (cond (nat_lt b 31) 1 5) 1
place_measure b h = ap (λ t. cond t 1 5) (less b 31 h)
  where
    less : (a b : ℕ) → a < b → nat_lt a b ≡ true
    less a b h = grind (arith, h)

pub slot_measure : (b : ℕ) → 31 ≤ b → ◌≡◌ {A = ℕ} (cond (nat_lt b 31) 1 5) 5
slot_measure b h = ap (λ t. cond t 1 5) (not_less b 31 h)
  where
    not_less : (a b : ℕ) → b ≤ a → nat_lt a b ≡ false
    not_less a b h = grind (arith, h)

-- ---- a place of a node

module _ {X : Type 0} {cmp : X → X → Ordering} (o : IsTotalOrder cmp) (w : ℕ) (view : TableView X) (holds : HoldsPositions view) (wide : HasWidth w view.entries) (p : KeyBits) (whole : length p % 5 ≡ 0) (source : Source) (is : IsSource w view p source) (b : ℕ) (low : b < 31) (a : Option X) where
  -- the answer at a place that has nothing below
  leaf_answer : bit_at source.inner b ≡ 0 → (k : KeyBits) → answers_from view (p ++ place_key b) a k ≡ option_or (map.get view.entries (p ++ place_key b)) a
  leaf_answer none [] = answers_first view (p ++ place_key b) a [] refl
  leaf_answer none (x ∷ k) =
      (λ i. sym (answers_after view (p ++ place_key b) a x) i k)
      ∙ answers_none view ((p ++ place_key b) ++ x ∷ []) (option_or (map.get view.entries (p ++ place_key b)) a)
      (λ q. ap (map.get view.entries) (append_assoc (p ++ place_key b) (x ∷ []) q ∙ append_assoc p (place_key b) (x ∷ q))
      ∙ nothing_below w view holds wide p whole source.bits.data_bits source.bits.child_bits source.inner is.values is.children is.no_children is.inner 31 b (place_key b) (omega arith) low (key_place b low) none x q) k

  leaf_candidates : bit_at source.inner b ≡ 0 → key_candidates cmp w view (p ++ place_key b) a ≡ option_map only (option_or (map.get view.entries (p ++ place_key b)) a)
  leaf_candidates none = candidates_uniform o (w - length (p ++ place_key b)) (answers_from view (p ++ place_key b) a) (option_or (map.get view.entries (p ++ place_key b)) a) (λ k _. leaf_answer none k)

  pub inner_deep : bit_at source.inner b ≡ 1 → source.depth + length (place_key b) < w
  inner_deep one =
      let h = inner_short w view holds wide p whole source.bits.data_bits source.bits.child_bits source.inner is.values is.children is.no_children is.inner 31 b (place_key b) (omega arith) low (key_place b low) one in
      let d = is.depth in
      omega (arith, h, d)

  -- the candidates at a place, by those of its halves
  inner_candidates : bit_at source.inner b ≡ 1
      → key_candidates cmp w view (p ++ place_key b) a
      ≡ joined cmp (key_candidates cmp w view ((p ++ place_key b) ++ false ∷ []) (option_or (map.get view.entries (p ++ place_key b)) a)) (key_candidates cmp w view ((p ++ place_key b) ++ true ∷ []) (option_or (map.get view.entries (p ++ place_key b)) a))
  inner_candidates one =
      let q = p ++ place_key b in
      let h = inner_deep one in
      let d = is.depth in
      let n = length-append p (place_key b) in
      let l = length-append (p ++ place_key b) (false ∷ []) in
      let m = length-append (p ++ place_key b) (true ∷ []) in
      let deep : w - length (p ++ place_key b) ≡ suc (w - length (p ++ place_key b) - 1) = omega (arith, h, d, n) in
      let el : w - length (p ++ place_key b) - 1 ≡ w - length ((p ++ place_key b) ++ false ∷ []) = omega (arith, l) in
      let em : w - length (p ++ place_key b) - 1 ≡ w - length ((p ++ place_key b) ++ true ∷ []) = omega (arith, m) in
      ap (λ n. candidates cmp n (answers_from view q a)) deep
      ∙ (λ i. joined cmp (candidates cmp (el i) (sym (answers_after view q a false) i)) (candidates cmp (em i) (sym (answers_after view q a true) i)))

  -- a place that has nothing below
  pub leaf_collected : bit_at source.inner b ≡ 0 → (old new : List (Bor X)) (lists : List Part) (part : Part) → length lists ≡ 31 → KeepsParts old new → AreParts cmp old lists → IsGiven new part
      → given new part ≡ option_or (map.get view.entries (p ++ place_key b)) a → IsCollected cmp w view p source.inner b a old new lists (set lists b part) part
  leaf_collected none old new lists part many kept parts one value =
      let there : told new part ≡ key_candidates cmp w view (p ++ place_key b) a = told_given new part one ∙ ap (option_map only) value ∙ sym (leaf_candidates none) in
      record {
        kept = kept;
        long = length_changed lists b part ∙ many;
        good = given_part cmp new part one;
        candidates = there;
        parts = parts_set cmp old new lists b part many low kept parts (given_part cmp new part one);
        listed = λ c r h e seen. listed there c r h e seen;
        elsewhere = λ c h out. at_other cmp old new lists b part many low kept c (λ same. out [] (ap place_key same ∙ sym (append-nil (place_key b))));
      }
    where
      listed : told new part ≡ key_candidates cmp w view (p ++ place_key b) a → AreListed cmp w view p source.inner new (set lists b part) b a
      listed there c [] h e seen =
          let here : c ≡ b = key_once c b h low (e ∙ append-nil (place_key b)) in
          ap (told new) (at_place cmp old new lists b part many low kept c here) ∙ there
          ∙ (λ i. candidates cmp (w - length (p ++ place_key (sym here i))) (answers_from view (p ++ place_key b) a))
      listed there c (x ∷ r) h e seen = elim seen [
        | inl same ↦ absurd (not_here c b x r e same)
        | inr one ↦ absurd (let f = inner_up source.bits.data_bits source.bits.child_bits source.inner is.inner 31 b ((c - 1) / 2) (shortened (x ∷ r)) (short c x r h e) low (omega (arith, h)) (above_below c b x r h e) one in omega (arith, f, none))
      ]
        where
          short : (c : ℕ) (x : Bool) (r : KeyBits) → c < 31 → place_key c ≡ place_key b ++ x ∷ r → length (shortened (x ∷ r)) ≤ 31
          short c x r h e = let n = ap length e ∙ length-append (place_key b) (x ∷ r) in let l = length-shortened (x ∷ r) in let m = key_short c h in omega (arith, n, l, m)

  -- a place that has something below, by its halves
  pub inner_collected : bit_at source.inner b ≡ 1 → (old first mid next new : List (Bor X)) (before between after : List Part) (v u : Option X) (high low_part part : Part)
      → KeepsParts old first → v ≡ option_or (map.get view.entries (p ++ place_key b)) a → u ≡ v
      → IsCollected cmp w view p source.inner (2 * b + 1 + 1) v first mid before between high
      → IsCollected cmp w view p source.inner (2 * b + 1) u mid next between after low_part
      → KeepsParts next new → IsPart cmp new part → told new part ≡ joined cmp (told next low_part) (told next high)
      → IsCollected cmp w view p source.inner b a old new before (set after b part) part
  inner_collected one old first mid next new before between after v u high low_part part k0 ev eu hc lc k4 good joins =
      record {
        kept = kept_then old mid new (kept_then old first mid k0 hc.kept) (kept_then mid next new lc.kept k4);
        long = length_changed after b part ∙ lc.long;
        good = good;
        candidates = there;
        parts = parts_set cmp next new after b part lc.long low k4 lc.parts good;
        listed = listed;
        elsewhere = λ c h out.
            at_other cmp next new after b part lc.long low k4 c (λ same. out [] (ap place_key same ∙ sym (append-nil (place_key b))))
            ∙ lc.elsewhere c h (λ r e. out (false ∷ r) (e ∙ ap (λ s. s ++ r) low_key ∙ sym (next_bit (place_key b) r false)))
            ∙ hc.elsewhere c h (λ r e. out (true ∷ r) (e ∙ ap (λ s. s ++ r) high_key ∙ sym (next_bit (place_key b) r true)));
      }
    where
      low_key : place_key (2 * b + 1) ≡ place_key b ++ false ∷ []
      low_key = key_low b low

      high_key : place_key (2 * b + 1 + 1) ≡ place_key b ++ true ∷ []
      high_key = key_half b low true

      there : told new part ≡ key_candidates cmp w view (p ++ place_key b) a
      there =
          joins
          ∙ (λ i. joined cmp
          ((lc.candidates ∙ (λ j. key_candidates cmp w view ((ap (λ s. p ++ s) low_key ∙ sym (append_assoc p (place_key b) (false ∷ []))) j) ((eu ∙ ev) j))) i)
          ((told_kept mid next high lc.kept hc.good.within ∙ hc.candidates ∙ (λ j. key_candidates cmp w view ((ap (λ s. p ++ s) high_key ∙ sym (append_assoc p (place_key b) (true ∷ []))) j) (ev j))) i))
          ∙ sym (inner_candidates one)

      -- the answers below a half are those below the place
      half_answer : (x : Bool) (s : KeyBits) (t : Option X) → s ≡ place_key b ++ x ∷ [] → t ≡ option_or (map.get view.entries (p ++ place_key b)) a → (r k : KeyBits) → answers_from view (p ++ s) t (r ++ k) ≡ answers_from view (p ++ place_key b) a (x ∷ (r ++ k))
      half_answer x s t es et r k =
          (λ i. answers_from view ((ap (λ s. p ++ s) es ∙ sym (append_assoc p (place_key b) (x ∷ []))) i) (et i) (r ++ k)) ∙ (λ i. answers_after view (p ++ place_key b) a x i (r ++ k))

      shown : (c : ℕ) (x : Bool) (r : KeyBits) (h : ℕ) → place_key c ≡ place_key b ++ x ∷ r → (c ≡ b) ⊎ (bit_at source.inner ((c - 1) / 2) ≡ 1) → (c ≡ h) ⊎ (bit_at source.inner ((c - 1) / 2) ≡ 1)
      shown c x r h e (inl same) = absurd (not_here c b x r e same)
      shown c x r h e (inr one) = inr one

      listed : AreListed cmp w view p source.inner new (set after b part) b a
      listed c [] h e seen =
          let here : c ≡ b = key_once c b h low (e ∙ append-nil (place_key b)) in
          ap (told new) (at_place cmp next new after b part lc.long low k4 c here) ∙ there
          ∙ (λ i. candidates cmp (w - length (p ++ place_key (sym here i))) (answers_from view (p ++ place_key b) a))
      listed c (false ∷ r) h e seen =
          told_other cmp next new after b part lc.long low k4 lc.parts c h (not_here c b false r e)
          ∙ lc.listed c r h (e ∙ next_bit (place_key b) r false ∙ ap (λ s. s ++ r) (sym low_key)) (shown c false r (2 * b + 1) e seen)
          ∙ (λ i. candidates cmp (w - length (p ++ place_key c)) (λ k. half_answer false (place_key (2 * b + 1)) u low_key (eu ∙ ev) r k i))
      listed c (true ∷ r) h e seen =
          told_other cmp next new after b part lc.long low k4 lc.parts c h (not_here c b true r e)
          ∙ ap (told next) (lc.elsewhere c h (λ q f. one_half (place_key b) r q (sym e ∙ f ∙ ap (λ s. s ++ q) low_key ∙ sym (next_bit (place_key b) q false))))
          ∙ told_kept mid next (part_at between c) lc.kept ((hc.parts c h).within)
          ∙ hc.listed c r h (e ∙ next_bit (place_key b) r true ∙ ap (λ s. s ++ r) (sym high_key)) (shown c true r (2 * b + 1 + 1) e seen)
          ∙ (λ i. candidates cmp (w - length (p ++ place_key c)) (λ k. half_answer true (place_key (2 * b + 1 + 1)) v high_key ev r k i))

-- a slot
pub slot_depth : (p : KeyBits) (d k : ℕ) → d ≡ length p → d + 5 ≡ length (p ++ low_bits 5 k)
slot_depth p d k e = let n = length-append p (low_bits 5 k) in let m = length-low_bits 5 k in omega (arith, n, m, e)

pub slot_alone : {X : Type 0} {cmp : X → X → Ordering} (o : IsTotalOrder cmp) (w : ℕ) (view : TableView X) → HoldsPositions view → (p : KeyBits) (k : ℕ) → length p % 5 ≡ 0 → map.contains_key view.kept (p ++ low_bits 5 k) ≡ false → (vs : List (Bor X)) (part : Part) → IsGiven vs part
    → told vs part ≡ key_candidates cmp w view (p ++ low_bits 5 k) (given vs part)
slot_alone o w view holds p k whole none vs part one =
    told_given vs part one
    ∙ sym (candidates_uniform o (w - length (p ++ low_bits 5 k)) (answers_from view (p ++ low_bits 5 k) (given vs part)) (given vs part) (λ q _. answers_none view (p ++ low_bits 5 k) (given vs part) (none_from view holds (p ++ low_bits 5 k) (slot_length p k whole) none) q))

pub slot_collected : {X : Type 0} (cmp : X → X → Ordering) (w : ℕ) (view : TableView X) (p : KeyBits) (inner b : ℕ) (a : Option X) → 31 ≤ b → b < 63 → (old new : List (Bor X)) (lists : List Part) (part : Part) → length lists ≡ 31 → KeepsParts old new → AreParts cmp old lists → IsPart cmp new part
    → told new part ≡ key_candidates cmp w view (p ++ low_bits 5 (b - 31)) a → IsCollected cmp w view p inner b a old new lists lists part
slot_collected cmp w view p inner b a high l old new lists part many kept parts good value = record {
  kept = kept;
  long = many;
  good = good;
  candidates = value ∙ ap (λ s. key_candidates cmp w view (p ++ s) a) (sym (key_slot b high l));
  parts = λ c h. is_part_kept cmp old new (part_at lists c) kept (parts c h);
  listed = λ c r h e seen. absurd (let n = ap length e ∙ length-append (place_key b) r in let five = slot_long b high l in let m = key_short c h in omega (arith, n, five, m));
  elsewhere = λ c h out. refl;
}

-- ---- a node

last_bit : (s : KeyBits) → 0 < length s → (x : Bool) × (s ≡ shortened s ++ x ∷ [])
last_bit [] h = absurd (omega arith)
last_bit (b ∷ []) h = (b, refl)
last_bit (b ∷ c ∷ s) h = let (x, e) = last_bit (c ∷ s) (omega arith) in (x, ap (λ l. b ∷ l) e)

first_key : (p : KeyBits) → p ++ place_key 0 ≡ p
first_key p = ap (λ s. p ++ s) key_first ∙ append-nil p

module _ {X : Type 0} {cmp : X → X → Ordering} (o : IsTotalOrder cmp) (w : ℕ) (view : TableView X) (holds : HoldsPositions view) (wide : HasWidth w view.entries) (p : KeyBits) (whole : length p % 5 ≡ 0) (source : Source) (is : IsSource w view p source) (v : Option X)
    (old new : List (Bor X)) (before after : List Part) (part : Part) (found : IsCollected cmp w view p source.inner 0 v old new before after part) where
  named_key : (b : ℕ) (s : KeyBits) → slice_get data_places b ≡ Some s → b < 31 → s ≡ place_key b
  named_key b s named h = let e : Some s ≡ Some (place_key b) = sym named ∙ key_place b h in cc

  small : (b : ℕ) (s : KeyBits) → slice_get data_places b ≡ Some s → b < 31
  small b s named = subst (λ n. b < n) places_count (slice_get_within data_places b s named)

  root_candidates : list_at new after 0 ≡ candidates_from cmp (w - length p) (answers_from view p v) []
  root_candidates =
      let n = ap length (first_key p) in
      let m : w - length (p ++ place_key 0) ≡ w - length p - 0 = omega (arith, n) in
      found.listed 0 [] (omega arith) (sym (append-nil (place_key 0))) (inl refl) ∙ (λ i. candidates cmp (m i) (answers_from view (first_key p i) v))

  there : (b : ℕ) → b < 31 → bit_at source.inner ((b - 1) / 2) ≡ 1 → list_at new after b ≡ candidates_from cmp (w - length p) (answers_from view p v) (place_key b)
  there b h one =
      let n = length-append p (place_key b) in
      let m : w - length (p ++ place_key b) ≡ w - length p - length (place_key b) = omega (arith, n) in
      found.listed b (place_key b) h (ap (λ s. s ++ place_key b) (sym key_first)) (inr one) ∙ (λ i. candidates cmp (m i) (λ k. answers_from view (first_key p i) v (place_key b ++ k)))

  deep : (b : ℕ) → 0 < b → b < 31 → bit_at source.inner ((b - 1) / 2) ≡ 1 → length (place_key b) ≤ w - length p
  deep b some h one =
      let d = inner_deep o w view holds wide p whole source is ((b - 1) / 2) (omega (arith, h)) v one in
      let n = ap length (key_above b some h) ∙ length-shortened (place_key b) in
      let l = is.depth in
      omega (arith, d, n, l)

  -- the lists of a node
  pub node_found : AreNodeLists cmp new after source.inner (w - length p) (answers_from view p v)
  node_found = record {
    root = root_candidates;
    above = λ b some h one. above_inner source.bits.data_bits source.bits.child_bits source.inner is.inner b some h one;
    seen = λ b s some named one. (
      (let e = ap length (named_key b s named (small b s named)) in let d = deep b some (small b s named) one in omega (arith, e, d)),
      there b (small b s named) one ∙ ap (candidates_from cmp (w - length p) (answers_from view p v)) (sym (named_key b s named (small b s named))),
    );
    hidden = λ b s some named none fits.
        (let (x, e) = last_bit s (place_longer b s some named) in
        let up = shortened s in
        ap (candidates_from cmp (w - length p) (answers_from view p v)) e
        ∙ hidden_half o (w - length p) (answers_from view p v) up (answers_from view p v up)
        (one_answer w view holds wide p whole source.bits.data_bits source.bits.child_bits source.inner is.values is.children is.no_children is.inner v ((b - 1) / 2) up (let l = small b s named in omega (arith, l)) (place_above b s some named) none) x);
  }

  -- its candidates
  pub node_candidates : told new part ≡ key_candidates cmp w view p v
  node_candidates = found.candidates ∙ ap (λ q. key_candidates cmp w view q v) (first_key p)

  -- and what is kept of it, and of the nodes below
  module _ (read : List (Bor X)) (same : read ≡ new) where
    there_too : AreNodeLists cmp read after source.inner (w - length p) (answers_from view p v)
    there_too = subst (λ vs. AreNodeLists cmp vs after source.inner (w - length p) (answers_from view p v)) (sym same) node_found

    five : 5 - length (place_key 0) ≡ 5
    five = let e = ap length key_first in omega (arith, e)

    pub masks_kept : (first mid last : List ℕ) → mid ≡ first ++ reverse (masks_below cmp w view (5 - length (place_key 0)) (p ++ place_key 0) v) → last ≡ mid ++ kept_mask cmp read after source.inner ∷ [] → last ≡ first ++ reverse (node_masks cmp w view p v)
    masks_kept first mid last em el =
        el
        ∙ (λ i. em i ++ node_mask o read after source.inner (w - length p) (answers_from view p v) there_too i ∷ [])
        ∙ append_assoc first (reverse (masks_below cmp w view (5 - length (place_key 0)) (p ++ place_key 0) v)) (mask_of cmp (w - length p) (answers_from view p v) [] ∷ [])
        ∙ ap (λ l. first ++ l)
        ((λ i. reverse (masks_below cmp w view (five i) (first_key p i) v) ++ mask_of cmp (w - length p) (answers_from view p v) [] ∷ [])
        ∙ sym (reverse-cons (mask_of cmp (w - length p) (answers_from view p v) []) (masks_below cmp w view 5 p v))
        ∙ ap reverse (sym (node-masks cmp w view p v)))

    pub lists_kept : (first mid last : List (Candidates X)) → mid ≡ lists_below cmp w view (5 - length (place_key 0)) (p ++ place_key 0) v ++ first → last ≡ kept_of cmp read after source.inner ++ mid → last ≡ node_lists cmp w view p v ++ first
    lists_kept first mid last em el =
        el
        ∙ (λ i. kept_lists_are o read after source.inner (w - length p) (answers_from view p v) there_too i ++ (em ∙ (λ j. lists_below cmp w view (five j) (first_key p j) v ++ first)) i)
        ∙ sym (append_assoc (lists_of cmp (w - length p) (answers_from view p v) []) (lists_below cmp w view 5 p v) first)
        ∙ ap (λ l. l ++ first) (sym (node-lists cmp w view p v))

pub bare_bit : (inner : ℕ) → inner ≡ 0 → bit_at inner 0 ≡ 0
bare_bit inner e = ap (λ n. bit_at n 0) e

-- what is kept of a node that has nothing below its own key
module _ {X : Type 0} (cmp : X → X → Ordering) (vs : List (Bor X)) (lists : List Part) (inner : ℕ) (none : inner ≡ 0) where
  pub alone_mask : kept_mask cmp vs lists inner ≡ 1
  unfolding kept_mask
  alone_mask = ap (kept_mask cmp vs lists) none

  pub alone_list : kept_of cmp vs lists inner ≡ list_at vs lists 0 ∷ []
  unfolding kept_of
  alone_list = ap (kept_of cmp vs lists) none

-- ---- what is kept below a place

module _ {A : Type 0} where
  pub masks_two : (l h all old mid new : List A) → all ≡ l ++ h → mid ≡ old ++ reverse h → new ≡ mid ++ reverse l → new ≡ old ++ reverse all
  masks_two l h all old mid new e em en =
      en ∙ ap (λ m. m ++ reverse l) em ∙ append_assoc old (reverse h) (reverse l) ∙ ap (λ m. old ++ m) (sym (reverse-append l h)) ∙ ap (λ m. old ++ reverse m) (sym e)

  pub lists_two : (l h all old mid new : List A) → all ≡ l ++ h → mid ≡ h ++ old → new ≡ l ++ mid → new ≡ all ++ old
  lists_two l h all old mid new e em en = en ∙ ap (λ m. l ++ m) em ∙ sym (append_assoc l h old) ∙ ap (λ m. m ++ old) (sym e)

  pub masks_none : (all old : List A) → all ≡ [] → old ≡ old ++ reverse all
  masks_none all old e = sym (append-nil old) ∙ ap (λ m. old ++ reverse m) (sym e)

  pub lists_none : (all old : List A) → all ≡ [] → old ≡ all ++ old
  lists_none all old e = ap (λ m. m ++ old) (sym e)
