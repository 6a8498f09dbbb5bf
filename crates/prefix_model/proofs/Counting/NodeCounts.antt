-- How many addresses below a node have an answer.
use Rattle.std.proofs.Common.{◌≡◌, ℕ, zero, suc, ◌+◌, ◌-◌, ◌*◌, ◌/◌, ◌%◌, ◌^◌, ◌<◌, ◌≤◌, Bool, true, false, cond, min, List, [], ◌∷◌, ◌++◌, Option, Some, None, refl, sym, ap, ◌∙◌, arith, append-nil, bit_and, bit_or, bit_xor}
use Rattle.std.specs.Prelude.{◌==◌, is_some, IsSome, nat_lt, ℤ, pos}
use Rattle.std.specs.Int.{bit_at}
use Rattle.std.specs.List.{filter, range_with_len}
use Rattle.std.specs.FinMap as map
use Rattle.std.proofs.Math.Nat.{div-eq_of_lt}
use Rattle.std.proofs.lemmas.Nat.{pow_pos}
use Rattle.std.proofs.lemmas.Nat.Bits.{bit_at-lt, bit_at_and, bit_at_xor, bit_at_cat_low, bit_at_cat_high}
use lib.Count.{ones}
use lib.Pow.{pow_mono}
use Rattle.prefix_model.specs.Keys.{KeyBits, low_bits}
use Rattle.prefix_model.specs.Masks.{set_bits}
use Rattle.prefix_model.specs.Positions.{data_bits, child_bits}
use Rattle.prefix_model.specs.Tables.{Values, after}
use Rattle.prefix_model.specs.Coverage.{AllAnswered, answered}
use Rattle.prefix_model.specs.Aggregates.{above_under}
use Rattle.prefix_model.proofs.KeyNumbers.{low_bits-same}
use Rattle.prefix_model.proofs.MaskBits.{child_mask_tells}
use Rattle.prefix_model.specs.TableViews.{TableView, HoldsPositions, position_at, stored_from}
use Rattle.prefix_model.proofs.TablePositions.{none_from, slot_length}
use Rattle.prefix_model.specs.Bits.{in_level, any_set, ancestors}
use Rattle.prefix_model.specs.Counts.{Counts, total}
use Rattle.prefix_model.specs.Places.{answers_from, slot_count}
use Rattle.prefix_model.proofs.Counting.NodeViews.{answers_none, slot_under, slot_above, node_tells, node_length}
use Rattle.prefix_model.proofs.Counting.CountLaws.{answered-zero, answered-suc, answered-none, answered-all, answered-less}
use Rattle.prefix_model.proofs.Counting.NodeCoverage.{behind_set, covered_told}
use Rattle.prefix_model.proofs.Counting.Totals.{total-append, total-same, total-none, total-cons, in_range, range-append, total-shift, total-part, total-split, ones-total, fits_from_bits}
use Rattle.prefix_model.proofs.Bitmaps.WordBits.{in_level-true, in_level-below, in_level-above, not_less, under_mask}

-- ---- the keys of some bits

low_first : (l c : ℕ) → c < 2 ^ l → low_bits (suc l) c ≡ false ∷ low_bits l c
unfolding low_bits
low_first l c small = ap (λ x. (x == 1) ∷ low_bits l c) (ap (λ x. x % 2) (div-eq_of_lt small))

low_second : (l c : ℕ) → c < 2 ^ l → low_bits (suc l) (2 ^ l + c) ≡ true ∷ low_bits l c
unfolding low_bits
low_second l c small =
    let e : 2 ^ l + c ≡ 1 * 2 ^ l + c = omega arith in
    let none : l - l ≡ 0 = omega arith in
    let top = bit_at_cat_high 1 l c l small (omega arith) ∙ ap (bit_at 1) none in
    ap (λ x. (bit_at x l == 1) ∷ low_bits l x) e ∙ (λ j. (top j == 1) ∷ low_bits-same l (1 * 2 ^ l + c) c (λ i m. bit_at_cat_low 1 l c i m) j)

low_none : (c : ℕ) → low_bits 0 c ≡ []
unfolding low_bits
low_none c = refl

module _ {V : Type 0} where
  -- how many addresses behind the l bits with the number c have an answer
  abbrev pub behind_count : Values V → ℕ → ℕ → ℕ → ℕ
  behind_count f l m c = answered m (λ k. f (low_bits l c ++ k))

  pub answered-behind : (l m : ℕ) (f : Values V) → answered (l + m) f ≡ total (behind_count f l m) (range_with_len 0 (2 ^ l))
  answered-behind zero m f =
      let e : 0 + m ≡ m = omega arith in
      let none = total-none (behind_count f 0 m) in
      let one = total-cons (behind_count f 0 m) 0 [] in
      let first : answered (0 + m) f ≡ behind_count f 0 m 0 = ap (λ n. answered n f) e ∙ ap (λ s. answered m (λ k. f (s ++ k))) (sym (low_none 0)) in
      omega (arith, none, one, first)
  answered-behind (suc l) m f =
      let e : suc l + m ≡ suc (l + m) = omega arith in
      let two : 2 ^ suc l ≡ 2 ^ l + 2 ^ l = omega arith in
      let from : 2 ^ l + 0 ≡ 0 + 2 ^ l = omega arith in
      let keys : List ℕ = range_with_len 0 (2 ^ l) in
      let t : ℕ → ℕ = behind_count f (suc l) m in
      let low : answered (l + m) (after false f) ≡ total t keys =
      answered-behind l m (after false f)
      ∙ total-same (behind_count (after false f) l m) t keys (in_range (λ c. behind_count (after false f) l m c ≡ t c) 0 (2 ^ l) (λ c a b. ap (λ q. answered m (λ k. f (q ++ k))) (sym (low_first l c (omega arith))))) in
      let high : answered (l + m) (after true f) ≡ total t (range_with_len (0 + 2 ^ l) (2 ^ l)) =
      answered-behind l m (after true f)
      ∙ total-same (behind_count (after true f) l m) (λ c. t (2 ^ l + c)) keys (in_range (λ c. behind_count (after true f) l m c ≡ t (2 ^ l + c)) 0 (2 ^ l) (λ c a b. ap (λ q. answered m (λ k. f (q ++ k))) (sym (low_second l c (omega arith)))))
      ∙ total-shift t (2 ^ l) 0 (2 ^ l) ∙ ap (λ a. total t (range_with_len a (2 ^ l))) from in
      ap (λ n. answered n f) e ∙ answered-suc (l + m) f ∙ (λ j. low j + high j)
      ∙ sym (total-append t keys (range_with_len (0 + 2 ^ l) (2 ^ l))) ∙ ap (total t) (sym (range-append 0 (2 ^ l) (2 ^ l))) ∙ ap (λ n. total t (range_with_len 0 n)) (sym two)

  -- ---- a node whose addresses are places of its own

  pub places_count : (covered level l : ℕ) (f : Values V) → l < 5 → ((b : ℕ) → bit_at level b ≡ cond (in_level l b) 1 0)
      → ((n : ℕ) → n < 2 ^ l → bit_at covered (2 ^ l - 1 + n) ≡ cond (is_some (f (low_bits l n))) 1 0) → ones (bit_and covered level) ≡ answered l f
  places_count covered level l f short levels told =
      let word : ℕ = bit_and covered level in
      let few : 2 ^ suc l ≤ 2 ^ 5 = pow_mono (let e : suc l ≤ 5 = omega arith in e) in
      let some = pow_pos l in
      let small = fits_from_bits word (λ b s. bit b ∙ ap (λ t. cond t (bit_at covered b) 0) (in_level-above l b (omega (arith, few, s)))) in
      let whole : 2 ^ l - 1 + (2 ^ l + (33 - 2 ^ suc l)) ≡ 32 = omega (arith, few, some) in
      let none : l + 0 ≡ l = omega arith in
      ones-total 32 word small
      ∙ ap (λ n. total (bit_at word) (range_with_len 0 n)) (sym whole)
      ∙ total-part (bit_at word) (2 ^ l - 1) (2 ^ l) (33 - 2 ^ suc l)
      (λ b s. bit b ∙ ap (λ t. cond t (bit_at covered b) 0) (in_level-below l b (omega (arith, some))))
      (λ b s. bit b ∙ ap (λ t. cond t (bit_at covered b) 0) (in_level-above l b (omega (arith, some))))
      ∙ total-same (λ n. bit_at word (2 ^ l - 1 + n)) (behind_count f l 0) (range_with_len 0 (2 ^ l)) (in_range (λ n. bit_at word (2 ^ l - 1 + n) ≡ behind_count f l 0 n) 0 (2 ^ l) (λ n a s. here n (omega arith)))
      ∙ sym (answered-behind l 0 f) ∙ ap (λ n. answered n f) none
    where
      bit : (b : ℕ) → bit_at (bit_and covered level) b ≡ cond (in_level l b) (bit_at covered b) 0
      bit b = bit_at_and covered level b ∙ ap (min (bit_at covered b)) (levels b) ∙ under_mask (bit_at covered b) (in_level l b) (bit_at-lt covered b)

      here : (n : ℕ) → n < 2 ^ l → bit_at (bit_and covered level) (2 ^ l - 1 + n) ≡ behind_count f l 0 n
      here n m =
          let some = pow_pos l in
          let inside = in_level-true l (2 ^ l - 1 + n) (omega (arith, some)) (omega (arith, some, m)) in
          bit (2 ^ l - 1 + n) ∙ ap (λ t. cond t (bit_at covered (2 ^ l - 1 + n)) 0) inside ∙ told n m
          ∙ sym (answered-zero (λ k. f (low_bits l n ++ k)) ∙ ap (λ s. cond (is_some (f s)) 1 0) (append-nil (low_bits l n)))

-- ---- a node with slots

-- the slots that are asked for are those of children with no value above
asked_bit : (kids below c k b : ℕ) → bit_at kids c ≡ k → bit_at below c ≡ b → bit_at (bit_xor kids (bit_and kids below)) c ≡ (k + min k b) % 2
asked_bit kids below c k b at_kids at_below =
    bit_at_xor kids (bit_and kids below) c ∙ ap (λ x. (bit_at kids c + x) % 2) (bit_at_and kids below c) ∙ (λ j. (at_kids j + min (at_kids j) (at_below j)) % 2)

none_asked : (k : Bool) → (cond k 1 0 + min (cond k 1 0) 1) % 2 ≡ 0
none_asked true = refl
none_asked false = refl

-- what a slot counts, by its two bits
piece : (t u size b o x y : ℕ) → b ≡ x → o ≡ y → t ≡ x * size + cond (y == 1) u 0 → t ≡ b * size + cond (o == 1) u 0
piece t u size b o x y eb eo e = e ∙ (λ j. sym eb j * size + cond (sym eo j == 1) u 0)

module _ {T : Type 0} (view : TableView T) where
  -- no address below a slot without a node has an answer
  pub no_slot_count : HoldsPositions view → (at : ℕ) → IsSome (map.get view.places at) → (c n : ℕ) → map.contains_key view.kept (position_at view at ++ low_bits 5 c) ≡ false → slot_count view (position_at view at) n c ≡ 0
  no_slot_count holds at some c n gone =
      let p : KeyBits = position_at view at ++ low_bits 5 c in
      answered-none n (answers_from view p None) (answers_none view p None (none_from view holds p (slot_length (position_at view at) c (node_length view holds at some)) gone))

  slot_piece : HoldsPositions view → (at : ℕ) → IsSome (map.get view.places at) → (m below kids : ℕ)
      → ((c : ℕ) → c < 32 → bit_at below c ≡ cond (is_some (above_under None (stored_from view (position_at view at)) (low_bits 5 c))) 1 0)
      → kids ≡ child_bits (map.contains_key view.kept) (position_at view at) → (c : ℕ) → c < 32
      → behind_count (answers_from view (position_at view at) None) 5 m c ≡ bit_at below c * 2 ^ m + cond (bit_at (bit_xor kids (bit_and kids below)) c == 1) (slot_count view (position_at view at) m c) 0
  slot_piece holds at some m below kids told children c l =
      by (above_under None (stored_from view (position_at view at)) (low_bits 5 c)) refl (map.contains_key view.kept (position_at view at ++ low_bits 5 c)) refl
    where
      by : (o : Option T) → above_under None (stored_from view (position_at view at)) (low_bits 5 c) ≡ o → (k : Bool) → map.contains_key view.kept (position_at view at ++ low_bits 5 c) ≡ k
          → behind_count (answers_from view (position_at view at) None) 5 m c ≡ bit_at below c * 2 ^ m + cond (bit_at (bit_xor kids (bit_and kids below)) c == 1) (slot_count view (position_at view at) m c) 0
      by o e k f = at_bits o e k f (told c l ∙ ap (λ v. cond (is_some v) 1 0) e) (ap (λ n. bit_at n c) children ∙ child_mask_tells (λ q. map.contains_key view.kept (position_at view at ++ q)) c l ∙ ap (λ t. cond t 1 0) f)
        where
          at_bits : (o : Option T) → above_under None (stored_from view (position_at view at)) (low_bits 5 c) ≡ o → (k : Bool) → map.contains_key view.kept (position_at view at ++ low_bits 5 c) ≡ k
              → bit_at below c ≡ cond (is_some o) 1 0 → bit_at kids c ≡ cond k 1 0
              → behind_count (answers_from view (position_at view at) None) 5 m c ≡ bit_at below c * 2 ^ m + cond (bit_at (bit_xor kids (bit_and kids below)) c == 1) (slot_count view (position_at view at) m c) 0
          at_bits (Some x) e k f at_below at_kids =
              let g : Values T = stored_from view (position_at view at) in
              let all = answered-all m (λ q. answers_from view (position_at view at) None (low_bits 5 c ++ q)) (λ q z. behind_set g (low_bits 5 c) q (ap is_some e)) in
              piece _ (slot_count view (position_at view at) m c) (2 ^ m) (bit_at below c) _ 1 0 at_below (asked_bit kids below c (cond k 1 0) 1 at_kids at_below ∙ none_asked k)
              (let h : behind_count (answers_from view (position_at view at) None) 5 m c ≡ 1 * 2 ^ m + 0 = omega (arith, all) in h)
          at_bits None e true f at_below at_kids =
              piece _ (slot_count view (position_at view at) m c) (2 ^ m) (bit_at below c) _ 0 1 at_below (asked_bit kids below c 1 0 at_kids at_below)
              (let h : behind_count (answers_from view (position_at view at) None) 5 m c ≡ 0 * 2 ^ m + slot_count view (position_at view at) m c = let n = under in omega (arith, n) in h)
            where
              under : behind_count (answers_from view (position_at view at) None) 5 m c ≡ slot_count view (position_at view at) m c
              under = ap (answered m) (sym (slot_under view (position_at view at) c e))
          at_bits None e false f at_below at_kids =
              let none = no_slot_count holds at some c m f in
              let same : behind_count (answers_from view (position_at view at) None) 5 m c ≡ slot_count view (position_at view at) m c = ap (answered m) (sym (slot_under view (position_at view at) c e)) in
              piece _ (slot_count view (position_at view at) m c) (2 ^ m) (bit_at below c) _ 0 0 at_below (asked_bit kids below c 0 0 at_kids at_below)
              (let h : behind_count (answers_from view (position_at view at) None) 5 m c ≡ 0 * 2 ^ m + 0 = omega (arith, none, same) in h)

  -- a node with slots: all addresses of those with a value above, and what the other children have
  pub node_slots : HoldsPositions view → (at : ℕ) → IsSome (map.get view.places at) → (left d below kids : ℕ) → 5 ≤ left → d ≡ data_bits (map.get view.entries) (position_at view at)
      → ((c : ℕ) → bit_at below c ≡ cond (nat_lt c 32) (any_set d ((15 + c / 2) ∷ ancestors (15 + c / 2))) 0)
      → kids ≡ child_bits (map.contains_key view.kept) (position_at view at)
      → answered left (answers_from view (position_at view at) None) ≡ ones below * 2 ^ (left - 5) + total (slot_count view (position_at view at) (left - 5)) (set_bits (bit_xor kids (bit_and kids below)))
  unfolding set_bits
  node_slots holds at some left d below kids deep stored slots children =
      let m : ℕ = left - 5 in
      let t : ℕ → ℕ = behind_count (answers_from view (position_at view at) None) 5 m in
      let u : ℕ → ℕ = slot_count view (position_at view at) m in
      let own : ℕ = bit_xor kids (bit_and kids below) in
      let whole : left ≡ 5 + (left - 5) = omega arith in
      let fits = fits_from_bits below (λ c l. slots c ∙ ap (λ t. cond t (any_set d ((15 + c / 2) ∷ ancestors (15 + c / 2))) 0) (not_less c 32 l)) in
      ap (λ n. answered n (answers_from view (position_at view at) None)) whole
      ∙ answered-behind 5 m (answers_from view (position_at view at) None)
      ∙ total-split t u below own (2 ^ m) (range_with_len 0 32) (in_range (λ c. t c ≡ bit_at below c * 2 ^ m + cond (bit_at own c == 1) (u c) 0) 0 32 (λ c a l. slot_piece holds at some m below kids (λ c l. slot_above view (position_at view at) d below c stored l (slots c)) children c l))
      ∙ ap (λ n. n * 2 ^ m + total u (filter (λ c. bit_at own c == 1) (range_with_len 0 32))) (sym (ones-total 32 below fits))

  -- a node whose addresses are places of its own
  pub node_places : (p : KeyBits) (left d inside level : ℕ) → left < 5 → d ≡ data_bits (map.get view.entries) p → ((b : ℕ) → bit_at inside b ≡ cond (nat_lt b 31) (any_set d (ancestors b)) 0)
      → ((b : ℕ) → bit_at level b ≡ cond (in_level left b) 1 0) → ones (bit_and (bit_or d inside) level) ≡ answered left (answers_from view p None)
  node_places p left d inside level short stored bits levels =
      places_count (bit_or d inside) level left (answers_from view p None) short levels
      (λ n m. covered_told d (stored_from view p) (node_tells view p d stored) inside left n short m (bits (2 ^ left - 1 + n)))

-- a count that is written in another type
pub count_cast : {R V : Type 0} (value : R → ℤ) (fits : ℤ → Type 0) (w : ℕ) (f : Values V) (P : Option R → Type 0) → (P None → ¬ fits (pos (answered w f))) → ((x : R) → P (Some x) → value x ≡ pos (answered w f))
    → (r : Option R) → ((n : ℕ) → n < 2 ^ w → fits (pos n)) → (AllAnswered w f → ⊥) → P r → Counts value w f r
count_cast value fits w f P none some None small holed h = absurd (none h (small (answered w f) (answered-less w f holed)))
count_cast value fits w f P none some (Some x) small holed h = (holed, some x h)
