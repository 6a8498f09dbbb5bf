-- What the record of a node tells of the entries at it and below its children.
use Rattle.std.specs.Prelude.{◌≡◌, ℕ, ◌+◌, ◌%◌, ◌<◌, ◌≤◌, ◌++◌, true, false, length, take, replicate, Option, Some, None, IsSome, is_some, slice_get}
use Rattle.std.proofs.Common.{sym, ap, ◌∙◌, subst, arith, length-append}
use Rattle.std.specs.FinMap as map
use Rattle.std.specs.Int.{bit_at}
use Rattle.std.proofs.lemmas.Bool.{eq-eqb}
use Rattle.prefix_model.specs.Keys.{KeyBits, low_bits}
use Rattle.prefix_model.specs.Tables.{KeyMap, HasWidth}
use Rattle.prefix_model.specs.Positions.{NodeRecord, data_places, data_bits}
use Rattle.prefix_model.specs.InPlace.{IsRecordOf, is_position}
use Rattle.prefix_model.specs.Walks.{begins_with}
use Rattle.prefix_model.proofs.Fronts.{follows}
use Rattle.prefix_model.proofs.KeyNumbers.{length-low_bits}
use Rattle.prefix_model.specs.NodeSearches.{IsChosen, IsFirstOf}
use Rattle.prefix_model.proofs.Bitmaps.NodeBits.{bit_of_test, digit_set, key_of_bit}
use Rattle.prefix_model.proofs.Walking.Chosen.{first_same, all_chosen, chosen_front}
use Rattle.prefix_model.proofs.KeyPieces.{child_key}
use Rattle.prefix_archive.specs.ViewLaws.{keeps_position, keeps_positions}
use Rattle.prefix_archive.proofs.Cursors.{child_there, position_within}

module _ {V : Type 0} (m : KeyMap V) (p : KeyBits) (r : NodeRecord) (node : IsRecordOf m p r) where
  set_here : (b : ℕ) → bit_at r.data_bits b ≡ 1 → bit_at (data_bits (map.get m) p) b ≡ 1
  set_here b e = ap (λ x. bit_at x b) (sym node.data_bits_are) ∙ e

  -- the key of a place that is set
  pub place_of : (b : ℕ) → bit_at r.data_bits b ≡ 1 → (s : KeyBits) × (slice_get data_places b ≡ Some s)
  place_of b e = key_of_bit data_places (λ s. is_some (map.get m (p ++ s))) b (set_here b e)

  stored_at : (b : ℕ) (s : KeyBits) → slice_get data_places b ≡ Some s → bit_at r.data_bits b ≡ 1 → IsSome (map.get m (p ++ s))
  stored_at b s is e = digit_set _ (sym (bit_of_test data_places (λ t. is_some (map.get m (p ++ t))) b s is) ∙ set_here b e)

  module _ (w : ℕ) (wide : HasWidth w m) where
    pub place_fits : (b : ℕ) → bit_at r.data_bits b ≡ 1 → (s : KeyBits) → slice_get data_places b ≡ Some s → length p + length s ≤ w
    place_fits b e s is = let l = wide (p ++ s) (stored_at b s is e) in let a = length-append p s in omega (arith, l, a)

    -- a child whose bit is set stands within the width
    pub child_fits : (c : ℕ) → c < 32 → bit_at r.child_bits c ≡ 1 → length p + 5 ≤ w
    child_fits c small e =
        let there = child_there m p r node c small (eq-eqb (bit_at r.child_bits c) 1 e) in
        let l = position_within m w wide (p ++ low_bits 5 c) there in
        let a = length-append p (low_bits 5 c) in
        let five = length-low_bits 5 c in omega (arith, l, a, five)

    module _ (at_five : length p % 5 ≡ 0) where
      -- the positions of the children towards stored keys are kept
      keeps : (c s : KeyBits) → length c ≡ 5 → IsSome (map.get m ((p ++ c) ++ s)) → is_position m (p ++ c) ≡ true
      keeps c s five some =
          let a = length-append p c in
          let n : length (p ++ c) % 5 ≡ 0 = omega (arith, a, five, at_five) in
          sym (keeps_position m (p ++ c)) ∙ (keeps_positions m w wide).stored (p ++ c) s n some

      -- what its bitmaps choose is all that is stored from the node on
      pub all_of : (k : KeyBits) → IsSome (map.get m k) → begins_with p k ≡ true → IsChosen p r.data_bits r.child_bits k
      all_of = all_chosen (map.get m) (is_position m) p r.data_bits r.child_bits node.data_bits_are node.child_bits_are keeps

      pub whole_node : (o : Option (KeyBits × V)) → IsFirstOf (map.get m) (IsChosen p r.data_bits r.child_bits) o → IsFirstOf (map.get m) (λ k. begins_with p k ≡ true) o
      whole_node = first_same (map.get m) (IsChosen p r.data_bits r.child_bits) (λ k. begins_with p k ≡ true) all_of (chosen_front p r.data_bits r.child_bits)

      -- nothing is stored below a child that does not stand there
      pub no_child : (c : KeyBits) → length c ≡ 5 → is_position m (p ++ c) ≡ false → IsFirstOf (map.get m) (λ k. begins_with (p ++ c) k ≡ true) None
      no_child c five off k stored front =
          let i = follows (p ++ c) k front in
          let on = keeps c i.rest five (subst (λ x. IsSome (map.get m x)) i.whole stored) in cc

-- the record of a child, as the code makes its key
module _ {V : Type 0} (m : KeyMap V) (p : KeyBits) (c d k : ℕ) (ys : KeyBits) (size : length p ≡ d) (key : ys ≡ p ++ (low_bits 5 c ++ replicate k false)) where
  pub next_key : take (d + 5) ys ≡ p ++ low_bits 5 c
  next_key = child_key p (low_bits 5 c) ys d k size (length-low_bits 5 c) key

  module _ (r : NodeRecord) (node : IsRecordOf m (p ++ low_bits 5 c) r) where
    pub next_node : IsRecordOf m (take (d + 5) ys) r
    next_node = subst (λ q. IsRecordOf m q r) (sym next_key) node

    pub next_first : (w : ℕ) → HasWidth w m → d % 5 ≡ 0 → (o : Option (KeyBits × V)) → IsFirstOf (map.get m) (IsChosen (take (d + 5) ys) r.data_bits r.child_bits) o
        → IsFirstOf (map.get m) (λ k. begins_with (p ++ low_bits 5 c) k ≡ true) o
    next_first w wide at_five o h =
        let a = length-append p (low_bits 5 c) in
        let five = length-low_bits 5 c in
        whole_node m (p ++ low_bits 5 c) r node w wide (omega (arith, a, five, size, at_five)) o (subst (λ q. IsFirstOf (map.get m) (IsChosen q r.data_bits r.child_bits) o) next_key h)
