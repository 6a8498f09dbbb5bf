-- Masks: which places of a node, and which of its children, pass a test.
--     data_mask test, child_mask test      the bitmap of the places, and of the children, whose keys behind the node's pass
--     begins_with p k      whether k begins with p, or is p
--     stands_from inclusive q k      whether k stands behind q in key order, or is q where q counts
--     is_past q k      whether k stands behind q and all keys that begin with q
--     set_bits x      the numbers of the set bits of a word, in ascending order
use Rattle.std.specs.Prelude.{ℕ, ◌==◌, ◌&&◌, not, Bool, true, false, List, [], ◌∷◌, map}
use Rattle.std.specs.Int.{bit_at}
use Rattle.std.specs.List.{filter, range_with_len}
use Rattle.std.specs.Ordering.{is_lt, match_ordering}
use Rattle.prefix_model.specs.Keys.{KeyBits, key_cmp, same_bit}
use Rattle.prefix_model.specs.Positions.{bitmap, data_places, child_places}

abbrev pub data_mask : (KeyBits → Bool) → ℕ
data_mask test = bitmap (map test data_places)

abbrev pub child_mask : (KeyBits → Bool) → ℕ
child_mask test = bitmap (map test child_places)

abbrev pub begins_with : KeyBits → KeyBits → Bool
begins_with [] k = true
begins_with (a ∷ p) [] = false
begins_with (a ∷ p) (b ∷ k) = same_bit a b && begins_with p k

abbrev pub stands_from : Bool → KeyBits → KeyBits → Bool
stands_from inclusive q k = match_ordering (key_cmp q k) true inclusive false

abbrev pub is_past : KeyBits → KeyBits → Bool
is_past q k = is_lt (key_cmp q k) && not (begins_with q k)

unfoldable pub set_bits : ℕ → List ℕ
set_bits x = filter (λ b. bit_at x b == 1) (range_with_len 0 32)
