-- Answers below the nodes of a table, by the bits of a node and its children.
use Rattle.std.specs.Option.{option_or, unwrap_or}
use Rattle.std.specs.FinMap as map
use Rattle.std.specs.Prelude.{◌↔◌, min, is_some, IsSome, nat_lt, slice_get}
use Rattle.std.specs.Int.{bit_at}
use Rattle.std.proofs.Common.{◌≡◌, Bool, [], ◌∷◌, ◌++◌, length, Option, None, sym, ap, arith, append_assoc, append-nil, ℕ, zero, suc, ◌+◌, ◌-◌, ◌/◌, ◌%◌, ◌^◌, ◌<◌, ◌≤◌, true, false, cond, replicate, Some, refl, ◌∙◌, subst, bit_and, bit_xor}
use Rattle.std.proofs.Math.Nat.{mod-eq_of_lt}
use Rattle.std.proofs.lemmas.List.{length-replicate}
use Rattle.std.proofs.lemmas.Nat.{pow_pos}
use Rattle.std.proofs.lemmas.Nat.Bits.{bit_at_and, bit_at_xor, bit_at-lt, same_from_bits}
use Rattle.prefix_model.specs.Keys.{KeyBits, low_bits}
use Rattle.prefix_model.specs.Tables.{after, answer_under}
use Rattle.prefix_model.specs.TableViews.{TableView, stored_from, HoldsPositions, position_at}
use Rattle.prefix_model.specs.Places.{answers_from, CoversSlot, CoversBehind}
use Rattle.prefix_model.specs.Positions.{data_places, child_places, data_bits}
use Rattle.prefix_model.specs.Masks.{data_mask, child_mask, begins_with}
use Rattle.prefix_model.specs.Coverage.{AllAnswered}
use Rattle.prefix_model.specs.Aggregates.{above_under}
use Rattle.prefix_model.specs.Bits.{in_level, any_set, ancestors}
use Rattle.prefix_model.proofs.Building.{answer_none}
use Rattle.prefix_model.proofs.KeyNumbers.{length-low_bits, number-low_bits}
use Rattle.prefix_model.proofs.MaskBits.{data_mask_tells, child_mask_tells, bitmap_bit}
use Rattle.prefix_model.proofs.KeyPlaces.{place_at}
use Rattle.prefix_model.proofs.TablePositions.{none_from, slot_length, node_named}
use Rattle.prefix_model.proofs.Counting.NodeCoverage.{TellsPlaces, IsAsked, EachPlace, slot_told, behind_clear, set_of}
use Rattle.prefix_model.proofs.Bitmaps.WordBits.{in_level-true, level_low, level_high}

module _ {T : Type 0} (view : TableView T) where
  -- what is answered at the key itself
  pub answers_first : (s : KeyBits) (v : Option T) (k : KeyBits) → length k ≡ 0 → answers_from view s v k ≡ option_or (map.get view.entries s) v
  answers_first s v [] z = ap (λ t. option_or (map.get view.entries t) v) (append-nil s)
  answers_first s v (b ∷ k) z = absurd (omega arith)

  -- the answers behind a bit
  pub answers_after : (s : KeyBits) (v : Option T) (b : Bool) → answers_from view (s ++ b ∷ []) (option_or (map.get view.entries s) v) ≡ after b (answers_from view s v)
  answers_after s v b = λ i k. answer_under (option_or (map.get view.entries (sym (append-nil s) i)) v) (λ q. map.get view.entries (append_assoc s (b ∷ []) q i)) k

  pub answers_none : (s : KeyBits) (v : Option T) → ((q : KeyBits) → stored_from view s q ≡ None) → (k : KeyBits) → answers_from view s v k ≡ v
  answers_none s v none k = answer_none v (stored_from view s) none k

-- all places, and all slots, go on from the node's own key
pub all_places_mask : 2147483647 ≡ data_mask (begins_with [])
unfolding data_places
all_places_mask = refl

pub all_slots_mask : 4294967295 ≡ child_mask (begins_with [])
unfolding child_places
all_slots_mask = refl

pub place_bits : (l n : ℕ) → l < 5 → n < 2 ^ l → slice_get data_places (2 ^ l - 1 + n) ≡ Some (low_bits l n)
place_bits l n s m =
    ap (λ k. slice_get data_places (2 ^ l - 1 + k)) (sym (number-low_bits l n ∙ mod-eq_of_lt m)) ∙ place_at (low_bits l n) l (length-low_bits l n) s

both_one : (x y : ℕ) → min x y ≡ 1 → x < 2 → y < 2 → (x ≡ 1) × (y ≡ 1)
both_one x y e a b = (omega arith, omega arith)

-- all bits of a mask
pub mask_in : (word mask : ℕ) → bit_and word mask ≡ mask → (b : ℕ) → bit_at mask b ≡ 1 → bit_at word b ≡ 1
mask_in word mask e b one =
    let both = sym (bit_at_and word mask b) ∙ ap (λ x. bit_at x b) e ∙ one in
    (both_one (bit_at word b) (bit_at mask b) both (bit_at-lt word b) (bit_at-lt mask b)).0

pub in_mask : (word mask : ℕ) → ((b : ℕ) → bit_at mask b ≡ 1 → bit_at word b ≡ 1) → bit_and word mask ≡ mask
in_mask word mask h = same_from_bits _ _ (λ b. bit_at_and word mask b ∙ at b (bit_at mask b) (bit_at-lt mask b) refl)
  where
    at : (b m : ℕ) → m < 2 → bit_at mask b ≡ m → min (bit_at word b) (bit_at mask b) ≡ bit_at mask b
    at b zero l e = omega (arith, e)
    at b (suc zero) l e = let one = h b e in omega (arith, e, one)
    at b (suc (suc m)) l e = absurd (omega arith)

-- the places of a level that are covered
pub level_each : (covered places level l : ℕ) (r : KeyBits) → l < 5 → places ≡ data_mask (begins_with r) → ((b : ℕ) → bit_at level b ≡ cond (in_level l b) 1 0)
    → ((b : ℕ) → bit_at (bit_and places level) b ≡ 1 → bit_at covered b ≡ 1) ↔ EachPlace covered l r
level_each covered places level l r short masked told = (each, all)
  where
    place_told : (n : ℕ) → n < 2 ^ l → bit_at places (2 ^ l - 1 + n) ≡ cond (begins_with r (low_bits l n)) 1 0
    place_told n m = ap (λ x. bit_at x (2 ^ l - 1 + n)) masked ∙ data_mask_tells (begins_with r) (2 ^ l - 1 + n) (low_bits l n) (place_bits l n short m)

    each : ((b : ℕ) → bit_at (bit_and places level) b ≡ 1 → bit_at covered b ≡ 1) → (n : ℕ) → n < 2 ^ l → begins_with r (low_bits l n) ≡ true → bit_at covered (2 ^ l - 1 + n) ≡ 1
    each h n m below =
        let b : ℕ = 2 ^ l - 1 + n in
        let here : bit_at places b ≡ 1 = place_told n m ∙ ap (λ t. cond t 1 0) below in
        let low : 2 ^ l ≤ b + 1 = omega arith in
        let high : b + 1 < 2 ^ suc l = omega arith in
        let there : bit_at level b ≡ 1 = told b ∙ ap (λ t. cond t 1 0) (in_level-true l b low high) in
        h b (bit_at_and places level b ∙ omega (arith, here, there))

    all : ((n : ℕ) → n < 2 ^ l → begins_with r (low_bits l n) ≡ true → bit_at covered (2 ^ l - 1 + n) ≡ 1) → (b : ℕ) → bit_at (bit_and places level) b ≡ 1 → bit_at covered b ≡ 1
    all h b set =
        let both = both_one (bit_at places b) (bit_at level b) (sym (bit_at_and places level b) ∙ set) (bit_at-lt places b) (bit_at-lt level b) in
        let inside = set_of (in_level l b) (sym (told b) ∙ both.1) in
        let low = level_low l b inside in
        let high = level_high l b inside in
        let n : ℕ = b + 1 - 2 ^ l in
        let m : b + 1 - 2 ^ l < 2 ^ l = omega (arith, low, high) in
        let at : 2 ^ l - 1 + (b + 1 - 2 ^ l) ≡ b = let p = pow_pos l in omega (arith, low, p) in
        let below = set_of (begins_with r (low_bits l (b + 1 - 2 ^ l))) (sym (place_told (b + 1 - 2 ^ l) m) ∙ ap (bit_at places) at ∙ both.0) in
        ap (bit_at covered) (sym at) ∙ h (b + 1 - 2 ^ l) m below

-- the slots that are asked for: those of a mask with no value above
pub asked_slots : (slots below : ℕ) (r : KeyBits) → slots ≡ child_mask (begins_with r) → IsAsked (bit_xor slots (bit_and slots below)) below r
asked_slots slots below r masked c l = (there, back)
  where
    slot_told : bit_at slots c ≡ cond (begins_with r (low_bits 5 c)) 1 0
    slot_told = ap (λ x. bit_at x c) masked ∙ child_mask_tells (begins_with r) c l

    bit_of : bit_at (bit_xor slots (bit_and slots below)) c ≡ (bit_at slots c + min (bit_at slots c) (bit_at below c)) % 2
    bit_of = bit_at_xor slots (bit_and slots below) c ∙ ap (λ x. (bit_at slots c + x) % 2) (bit_at_and slots below c)

    there : bit_at (bit_xor slots (bit_and slots below)) c ≡ 1 → (begins_with r (low_bits 5 c) ≡ true) × (bit_at below c ≡ 0)
    there set =
        let e = sym bit_of ∙ set in
        let a = bit_at-lt slots c in
        let b = bit_at-lt below c in
        let one : bit_at slots c ≡ 1 = omega (arith, e, a, b) in
        let none : bit_at below c ≡ 0 = omega (arith, e, a, b) in
        (set_of (begins_with r (low_bits 5 c)) (sym slot_told ∙ one), none)

    back : (begins_with r (low_bits 5 c) ≡ true) × (bit_at below c ≡ 0) → bit_at (bit_xor slots (bit_and slots below)) c ≡ 1
    back (t, none) =
        let one : bit_at slots c ≡ 1 = slot_told ∙ ap (λ x. cond x 1 0) t in
        bit_of ∙ omega (arith, one, none)

module _ {T : Type 0} (view : TableView T) where
  -- the bits of a node tell what is stored at its places
  pub node_tells : (p : KeyBits) (d : ℕ) → d ≡ data_bits (map.get view.entries) p → TellsPlaces d (stored_from view p)
  node_tells p d e l n s m =
      ap (λ x. bit_at x (2 ^ l - 1 + n)) e ∙ bitmap_bit data_places (λ q. is_some (map.get view.entries (p ++ q))) (2 ^ l - 1 + n) (low_bits l n) (place_bits l n s m)

  -- whether a value stands above a slot
  pub slot_above : (p : KeyBits) (d below c : ℕ) → d ≡ data_bits (map.get view.entries) p → c < 32 → bit_at below c ≡ cond (nat_lt c 32) (any_set d ((15 + c / 2) ∷ ancestors (15 + c / 2))) 0
      → bit_at below c ≡ cond (is_some (above_under None (stored_from view p) (low_bits 5 c))) 1 0
  slot_above p d below c e l h = slot_told d (stored_from view p) (node_tells p d e) below c l h

  -- what is stored from a slot on, by the node
  pub slot_stored : (p : KeyBits) (c : ℕ) → answers_from view (p ++ low_bits 5 c) None ≡ answer_under None (λ k. stored_from view p (low_bits 5 c ++ k))
  slot_stored p c = λ j. answer_under None (λ q. map.get view.entries (append_assoc p (low_bits 5 c) q j))

  pub slot_covers : (p : KeyBits) (n c : ℕ) → CoversSlot view p n c → AllAnswered n (answer_under None (λ k. stored_from view p (low_bits 5 c ++ k)))
  slot_covers p n c h = subst (AllAnswered n) (slot_stored p c) h

  pub covers_slot : (p : KeyBits) (n c : ℕ) → AllAnswered n (answer_under None (λ k. stored_from view p (low_bits 5 c ++ k))) → CoversSlot view p n c
  covers_slot p n c h = subst (AllAnswered n) (sym (slot_stored p c)) h

  -- the node of a position
  pub position_named : (at : ℕ) → IsSome (map.get view.places at) → map.get view.places at ≡ Some (position_at view at)
  position_named at some = of (map.get view.places at) some
    where
      of : (o : Option KeyBits) → IsSome o → o ≡ Some (unwrap_or o [])
      of None e = cc
      of (Some x) e = refl

  pub node_length : HoldsPositions view → (at : ℕ) → IsSome (map.get view.places at) → length (position_at view at) % 5 ≡ 0
  node_length holds at some = (holds.lengths (position_at view at) (holds.named at (position_at view at) (position_named at some))).0

  -- no address below a slot without a node has an answer
  pub no_slot : HoldsPositions view → (at : ℕ) → IsSome (map.get view.places at) → (c n : ℕ) → map.contains_key view.kept (position_at view at ++ low_bits 5 c) ≡ false → CoversSlot view (position_at view at) n c → ⊥
  no_slot holds at some c n gone all =
      let p : KeyBits = position_at view at ++ low_bits 5 c in
      let none = answers_none view p None (none_from view holds p (slot_length (position_at view at) c (node_length holds at some)) gone) (replicate n false) in
      let given = all (replicate n false) (length-replicate n false) in
      absurd (let e = sym given ∙ ap is_some none in cc)

  -- below a slot with a node
  pub slot_node : (p : KeyBits) (child n c : ℕ) → map.get view.places child ≡ Some (p ++ low_bits 5 c) → CoversBehind view (position_at view child) n [] → CoversSlot view p n c
  slot_node p child n c e h k l = ap (λ s. is_some (answers_from view s None k)) (sym (node_named view child _ e)) ∙ h k (omega (arith, l))

  pub node_slot : (p : KeyBits) (child n c : ℕ) → map.get view.places child ≡ Some (p ++ low_bits 5 c) → CoversSlot view p n c → CoversBehind view (position_at view child) n []
  node_slot p child n c e h k l = ap (λ s. is_some (answers_from view s None k)) (node_named view child _ e) ∙ h k (omega (arith, l))

  -- below a slot above which nothing is stored, the answers are those of what is stored from the slot on
  pub slot_under : (p : KeyBits) (c : ℕ) → above_under None (stored_from view p) (low_bits 5 c) ≡ None → answers_from view (p ++ low_bits 5 c) None ≡ (λ k. answers_from view p None (low_bits 5 c ++ k))
  slot_under p c none = slot_stored p c ∙ (λ j k. sym (behind_clear (stored_from view p) (low_bits 5 c) k none) j)
