-- Masks that stand in tables, by their places and children.
use Rattle.std.specs.Prelude.{◌≡◌, ℕ, zero, suc, ◌+◌, ◌-◌, ◌/◌, ◌%◌, ◌^◌, ◌<◌, ◌≤◌, ◌&&◌, Bool, true, List, [], ◌∷◌, length, map, take, drop, Some, slice_get}
use Rattle.std.specs.Option.{option_map}
use Rattle.std.proofs.Common.{refl, sym, ap, ◌∙◌, arith, get_or}
use Rattle.std.proofs.lemmas.List.{take_all}
use Rattle.std.proofs.lemmas.Option.{slice_get-map, get_or_from_slice_get}
use Rattle.prefix_model.specs.Keys.{KeyBits, number, low_bits, same_bit}
use Rattle.prefix_model.specs.Positions.{bitmap, data_places, child_places}
use Rattle.prefix_model.specs.Masks.{data_mask, child_mask, begins_with, stands_from, is_past}
use Rattle.prefix_model.proofs.KeyPlaces.{places_short}
use Rattle.prefix_model.proofs.Fronts.{take_front}
use Rattle.prefix_model.proofs.KeyNumbers.{length-low_bits, low_bits-append, number-low_bits}
use Rattle.prefix_model.proofs.KeyPieces.{part_front, part_at}
use Rattle.prefix_table.proofs.TrieReads.{child_at}
use Rattle.prefix_table.specs.declared.node.TheConstants.{LPM_MASKS, COVER_MASKS, CHILD_COVER_MASKS, DATA_FROM_DATA, CHILDREN_FROM_DATA, DATA_PAST_CHILD, CHILDREN_PAST_CHILD}

-- what a table has for the place of a data bit
at_place : (f : KeyBits → ℕ) (table : List ℕ) → map f data_places ≡ table → (b : ℕ) (s : KeyBits) → slice_get data_places b ≡ Some s → get_or table b 0 ≡ f s
at_place f table e b s here =
    get_or_from_slice_get table b (f s) 0 (ap (λ l. slice_get l b) (sym e) ∙ slice_get-map f data_places b ∙ ap (option_map f) here)

-- and for a child
at_child : (f : KeyBits → ℕ) (table : List ℕ) → map f child_places ≡ table → (c : ℕ) → c < 32 → get_or table c 0 ≡ f (low_bits 5 c)
unfolding child_places
at_child f table e c l =
    get_or_from_slice_get table c (f (low_bits 5 c)) 0 (ap (λ l. slice_get l c) (sym e) ∙ slice_get-map f child_places c ∙ ap (option_map f) (child_at c l))

-- the masks that the tables have
lpm_masks : map (λ q. data_mask (λ s. begins_with s q)) data_places ≡ LPM_MASKS
unfolding data_places
lpm_masks = refl

cover_masks : map (λ q. data_mask (begins_with q)) data_places ≡ COVER_MASKS
unfolding data_places
cover_masks = refl

child_cover_masks : map (λ q. child_mask (begins_with q)) data_places ≡ CHILD_COVER_MASKS
unfolding data_places child_places
child_cover_masks = refl

data_from_data : map (λ q. data_mask (stands_from true q)) data_places ≡ DATA_FROM_DATA
unfolding data_places
data_from_data = refl

children_from_data : map (λ q. child_mask (stands_from true q)) data_places ≡ CHILDREN_FROM_DATA
unfolding data_places child_places
children_from_data = refl

data_past_child : map (λ q. data_mask (is_past q)) child_places ≡ DATA_PAST_CHILD
unfolding data_places child_places
data_past_child = refl

children_past_child : map (λ q. child_mask (is_past q)) child_places ≡ CHILDREN_PAST_CHILD
unfolding child_places
children_past_child = refl

pub cover_at : (b : ℕ) (s : KeyBits) → slice_get data_places b ≡ Some s → get_or COVER_MASKS b 0 ≡ data_mask (begins_with s)
cover_at = at_place (λ q. data_mask (begins_with q)) COVER_MASKS cover_masks

pub child_cover_at : (b : ℕ) (s : KeyBits) → slice_get data_places b ≡ Some s → get_or CHILD_COVER_MASKS b 0 ≡ child_mask (begins_with s)
child_cover_at = at_place (λ q. child_mask (begins_with q)) CHILD_COVER_MASKS child_cover_masks

pub data_from_at : (b : ℕ) (s : KeyBits) → slice_get data_places b ≡ Some s → get_or DATA_FROM_DATA b 0 ≡ data_mask (stands_from true s)
data_from_at = at_place (λ q. data_mask (stands_from true q)) DATA_FROM_DATA data_from_data

pub children_from_at : (b : ℕ) (s : KeyBits) → slice_get data_places b ≡ Some s → get_or CHILDREN_FROM_DATA b 0 ≡ child_mask (stands_from true s)
children_from_at = at_place (λ q. child_mask (stands_from true q)) CHILDREN_FROM_DATA children_from_data

pub data_past_at : (c : ℕ) → c < 32 → get_or DATA_PAST_CHILD c 0 ≡ data_mask (is_past (low_bits 5 c))
data_past_at = at_child (λ q. data_mask (is_past q)) DATA_PAST_CHILD data_past_child

pub children_past_at : (c : ℕ) → c < 32 → get_or CHILDREN_PAST_CHILD c 0 ≡ child_mask (is_past (low_bits 5 c))
children_past_at = at_child (λ q. child_mask (is_past q)) CHILDREN_PAST_CHILD children_past_child

-- tests that agree at each place give one mask
same_tests : (ps : List KeyBits) (f g : KeyBits → Bool) → ((b : ℕ) (s : KeyBits) → slice_get ps b ≡ Some s → f s ≡ g s) → map f ps ≡ map g ps
same_tests [] f g h = refl
same_tests (s ∷ ps) f g h = λ j. h 0 s refl j ∷ same_tests ps f g (λ b t e. h (suc b) t e) j

-- a front is one of a front that is no shorter
begins_front : (s q : KeyBits) (n : ℕ) → length s ≤ n → begins_with s (take n q) ≡ begins_with s q
begins_front [] q n l = refl
begins_front (a ∷ s) q zero l = absurd (omega arith)
begins_front (a ∷ s) [] (suc n) l = refl
begins_front (a ∷ s) (b ∷ q) (suc n) l = ap (λ t. same_bit a b && t) (begins_front s q n (omega arith))

-- the places are no longer than four bits
pub lpm_front : (q : KeyBits) → data_mask (λ s. begins_with s (take 4 q)) ≡ data_mask (λ s. begins_with s q)
lpm_front q = ap bitmap (same_tests data_places (λ s. begins_with s (take 4 q)) (λ s. begins_with s q) (λ b s here. let short = places_short b s here in begins_front s q 4 (omega arith)))

pub lpm_at : (b : ℕ) (s : KeyBits) → slice_get data_places b ≡ Some s → get_or LPM_MASKS b 0 ≡ data_mask (λ t. begins_with t s)
lpm_at = at_place (λ q. data_mask (λ s. begins_with s q)) LPM_MASKS lpm_masks

-- a key within the node, and one that goes on below it
pub lpm_short : (xs : KeyBits) (d len end n : ℕ) → end ≡ len → d ≤ len → len < d + 5 → len ≤ length xs → n ≡ 2 ^ (end - d) - 1 + number (drop d (take end xs)) → get_or LPM_MASKS n 0 ≡ data_mask (λ s. begins_with s (drop d (take len xs)))
lpm_short xs d len end n same order few within e =
    lpm_at n (drop d (take len xs)) (part_at xs d len n order few within (e ∙ ap (λ k. 2 ^ (k - d) - 1 + number (drop d (take k xs))) same))

pub lpm_long : (xs : KeyBits) (d len end n : ℕ) → end ≡ d + 4 → d + 5 ≤ len → len ≤ length xs → n ≡ 2 ^ (end - d) - 1 + number (drop d (take end xs)) → get_or LPM_MASKS n 0 ≡ data_mask (λ s. begins_with s (drop d (take len xs)))
lpm_long xs d len end n same below within e =
    lpm_at n (drop d (take (d + 4) xs)) (part_at xs d (d + 4) n (omega arith) (omega arith) (omega arith) (e ∙ ap (λ k. 2 ^ (k - d) - 1 + number (drop d (take k xs))) same))
    ∙ ap (λ q. data_mask (λ s. begins_with s q)) (part_front xs d 4 len (omega arith))
    ∙ lpm_front (drop d (take len xs))

-- of the five bits of a child
pub lpm_slot : (slot : ℕ) → slot < 32 → get_or LPM_MASKS (15 + slot / 2) 0 ≡ data_mask (λ s. begins_with s (low_bits 5 slot))
lpm_slot slot l =
    let four = length-low_bits 4 (slot / 2) in
    let five = length-low_bits 5 slot in
    let front : take 4 (low_bits 5 slot) ≡ low_bits 4 (slot / 2) = (λ i. take (sym four i) (low_bits-append 4 1 slot i)) ∙ take_front (low_bits 4 (slot / 2)) (low_bits 1 slot) in
    let small : slot / 2 % 2 ^ 4 ≡ slot / 2 = omega arith in
    let it : number (take 4 (low_bits 5 slot)) ≡ slot / 2 = ap number front ∙ number-low_bits 4 (slot / 2) ∙ small in
    let whole : take 5 (low_bits 5 slot) ≡ low_bits 5 slot = take_all 5 (low_bits 5 slot) (omega (arith, five)) in
    lpm_long (low_bits 5 slot) 0 5 4 (15 + slot / 2) refl (omega arith) (omega (arith, five)) (ap (λ k. 15 + k) (sym it)) ∙ ap (λ q. data_mask (λ s. begins_with s q)) whole
