-- What a table tells of a node and of its children.
use Rattle.std.specs.Prelude.{◌≡◌, ℕ, ◌+◌, ◌-◌, ◌%◌, ◌==◌, ◌≤◌, true, false, ◌++◌, length, take, drop, replicate, Option, Some, None, IsSome, is_some, slice_get}
use Rattle.std.specs.FinMap as map
use Rattle.std.specs.Int.{bit_at}
use Rattle.std.proofs.Common.{sym, ap, ◌∙◌, subst, arith, length-append}
use Rattle.prefix_model.specs.Keys.{KeyBits, low_bits, prefixes}
use Rattle.prefix_model.specs.Positions.{data_places, data_bits, child_bits, has_node_length}
use Rattle.prefix_model.specs.Walks.{begins_with}
use Rattle.prefix_model.specs.TableViews.{TableView, HoldsPositions, position_at}
use Rattle.prefix_model.specs.NodeSearches.{IsChosen, IsFirstOf}
use Rattle.prefix_model.proofs.Fronts.{follows, drop_front}
use Rattle.prefix_model.proofs.KeyLemmas.{prefixes_in, filter_in}
use Rattle.prefix_model.proofs.KeyNumbers.{length-low_bits}
use Rattle.prefix_model.proofs.TablePositions.{node_named, none_from}
use Rattle.prefix_model.proofs.Bitmaps.NodeBits.{bit_of_test, digit_set, key_of_bit}
use Rattle.prefix_model.proofs.Walking.Chosen.{first_same, all_chosen, chosen_front}
use Rattle.prefix_model.proofs.KeyPieces.{child_key}
use Rattle.prefix_map.specs.MapViews.{FitsIn}

module _ {T : Type 0} (view : TableView T) (p : KeyBits) where
  -- the key of a place that is set
  pub place_of : (b : ℕ) → bit_at (data_bits (map.get view.entries) p) b ≡ 1 → (s : KeyBits) × (slice_get data_places b ≡ Some s)
  place_of b e = key_of_bit data_places (λ s. is_some (map.get view.entries (p ++ s))) b e

  pub stored_at : (b : ℕ) (s : KeyBits) → slice_get data_places b ≡ Some s → bit_at (data_bits (map.get view.entries) p) b ≡ 1 → IsSome (map.get view.entries (p ++ s))
  stored_at b s is e = digit_set _ (sym (bit_of_test data_places (λ t. is_some (map.get view.entries (p ++ t))) b s is) ∙ e)

  pub place_fits : (w : ℕ) → FitsIn w view → (b : ℕ) → bit_at (data_bits (map.get view.entries) p) b ≡ 1 → (s : KeyBits) → slice_get data_places b ≡ Some s → length p + length s ≤ w
  place_fits w fits b e s is = let l = fits.entries (p ++ s) (stored_at b s is e) in let a = length-append p s in omega (arith, l, a)

  module _ (at : ℕ) (named : map.get view.places at ≡ Some p) where
    pub there : position_at view at ≡ p
    there = node_named view at p named

    pub bit_moved : (b : ℕ) → bit_at (data_bits (map.get view.entries) p) b ≡ 1 → bit_at (data_bits (map.get view.entries) (position_at view at)) b ≡ 1
    bit_moved b e = ap (λ q. bit_at (data_bits (map.get view.entries) q) b) there ∙ e

    pub node_bit : (db b : ℕ) → db ≡ data_bits (map.get view.entries) (position_at view at) → bit_at db b ≡ 1 → bit_at (data_bits (map.get view.entries) p) b ≡ 1
    node_bit db b e set = ap (λ q. bit_at (data_bits (map.get view.entries) q) b) (sym there) ∙ ap (λ x. bit_at x b) (sym e) ∙ set

    module _ (holds : HoldsPositions view) where
      pub at_five : length p % 5 ≡ 0
      at_five = (holds.lengths p (holds.named at p named)).0

      -- the positions of the children towards stored keys are kept
      pub keeps : (c r : KeyBits) → length c ≡ 5 → IsSome (map.get view.entries ((p ++ c) ++ r)) → map.contains_key view.kept (p ++ c) ≡ true
      keeps c r five some =
          let a = length-append p c in
          let n = at_five in
          let node : length (p ++ c) % 5 ≡ 0 = omega (arith, a, five, n) in
          holds.stored ((p ++ c) ++ r) (p ++ c) some (filter_in has_node_length (prefixes ((p ++ c) ++ r)) (p ++ c) (ap (λ m. m == 0) node) (prefixes_in (p ++ c) r))

      -- what its bitmaps choose is all that is stored from the node on
      pub all_of : (db cb : ℕ) → db ≡ data_bits (map.get view.entries) (position_at view at) → cb ≡ child_bits (map.contains_key view.kept) (position_at view at)
          → (k : KeyBits) → IsSome (map.get view.entries k) → begins_with p k ≡ true → IsChosen p db cb k
      all_of db cb d c =
          all_chosen (map.get view.entries) (map.contains_key view.kept) p db cb (d ∙ ap (data_bits (map.get view.entries)) there) (c ∙ ap (child_bits (map.contains_key view.kept)) there) keeps

      pub whole_node : (db cb : ℕ) → db ≡ data_bits (map.get view.entries) (position_at view at) → cb ≡ child_bits (map.contains_key view.kept) (position_at view at)
          → (r : Option (KeyBits × T)) → IsFirstOf (map.get view.entries) (IsChosen p db cb) r → IsFirstOf (map.get view.entries) (λ k. begins_with p k ≡ true) r
      whole_node db cb d c = first_same (map.get view.entries) (IsChosen p db cb) (λ k. begins_with p k ≡ true) (all_of db cb d c) (chosen_front p db cb)

      -- nothing is stored below a child that is not kept
      pub no_child : (c : KeyBits) → length c ≡ 5 → map.contains_key view.kept (p ++ c) ≡ false → IsFirstOf (map.get view.entries) (λ k. begins_with (p ++ c) k ≡ true) None
      no_child c five off k stored front =
          let i = follows (p ++ c) k front in
          let a = length-append p c in
          let n = at_five in
          let none = none_from view holds (p ++ c) (omega (arith, a, five, n)) off i.rest in
          let here : map.get view.entries k ≡ None = ap (map.get view.entries) i.whole ∙ none in
          let gone : is_some (map.get view.entries k) ≡ false = ap is_some here in cc

      -- a child that is kept stands within the width
      pub child_fits : (w : ℕ) → FitsIn w view → (a c : ℕ) → map.get view.places a ≡ Some (position_at view at ++ low_bits 5 c) → length p + 5 ≤ w
      child_fits w fits a c e =
          let l = fits.kept (position_at view at ++ low_bits 5 c) (holds.named a (position_at view at ++ low_bits 5 c) e) in
          let s = length-append (position_at view at) (low_bits 5 c) in
          let five = length-low_bits 5 c in
          let same = ap length there in
          omega (arith, l, s, five, same)

-- the bits of a found entry, by its place
pub whole_found : (ys p s : KeyBits) (w d len : ℕ) → length p ≡ d → length p + length s ≤ w → len ≡ d + length s → ys ≡ (p ++ s) ++ replicate (w - len) false
    → (len ≤ w) × (drop len ys ≡ replicate (w - len) false)
whole_found ys p s w d len size fits long e =
    let a = length-append p s in
    let n : len ≡ length (p ++ s) = omega (arith, a, size, long) in
    (omega (arith, size, fits, long), (λ j. drop (n j) (e j)) ∙ drop_front (p ++ s) (replicate (w - len) false))

-- the child of a node, as the code makes its key
module _ {T : Type 0} (view : TableView T) (p : KeyBits) (at : ℕ) (named : map.get view.places at ≡ Some p) (holds : HoldsPositions view) (d : ℕ) (size : length p ≡ d) where
  module _ (next c m : ℕ) (ys : KeyBits) (is : map.get view.places next ≡ Some (position_at view at ++ low_bits 5 c)) (key : ys ≡ p ++ (low_bits 5 c ++ replicate m false)) where
    pub next_key : take (d + 5) ys ≡ p ++ low_bits 5 c
    next_key = child_key p (low_bits 5 c) ys d m size (length-low_bits 5 c) key

    pub next_named : map.get view.places next ≡ Some (take (d + 5) ys)
    next_named = is ∙ (λ j. Some (there view p at named j ++ low_bits 5 c)) ∙ ap Some (sym next_key)

    pub next_fits : (w : ℕ) → FitsIn w view → d + 5 ≤ w
    next_fits w fits = let l = child_fits view p at named holds w fits next c is in omega (arith, l, size)

    pub next_data : (db b : ℕ) → db ≡ data_bits (map.get view.entries) (position_at view next) → bit_at db b ≡ 1 → bit_at (data_bits (map.get view.entries) (take (d + 5) ys)) b ≡ 1
    next_data db b e set = ap (λ q. bit_at (data_bits (map.get view.entries) q) b) (sym (there view (take (d + 5) ys) next next_named)) ∙ ap (λ x. bit_at x b) (sym e) ∙ set

    pub next_first : (db cb : ℕ) → db ≡ data_bits (map.get view.entries) (position_at view next) → cb ≡ child_bits (map.contains_key view.kept) (position_at view next)
        → (r : Option (KeyBits × T)) → IsFirstOf (map.get view.entries) (IsChosen (take (d + 5) ys) db cb) r → IsFirstOf (map.get view.entries) (λ k. begins_with (p ++ low_bits 5 c) k ≡ true) r
    next_first db cb de ce r h =
        subst (λ q. IsFirstOf (map.get view.entries) (λ k. begins_with q k ≡ true) r) next_key
        (whole_node view (take (d + 5) ys) next next_named holds db cb de ce r h)

  pub next_none : (c : ℕ) → map.contains_key view.kept (position_at view at ++ low_bits 5 c) ≡ false → IsFirstOf (map.get view.entries) (λ k. begins_with (p ++ low_bits 5 c) k ≡ true) None
  next_none c off = no_child view p at named holds (low_bits 5 c) (length-low_bits 5 c) (ap (λ q. map.contains_key view.kept (q ++ low_bits 5 c)) (sym (there view p at named)) ∙ off)
