-- Lists of items that a bitmap places: slot i has an item where bit i is set.
--     picked bits items i      the item of slot i
--     place bits i      how many bits are set below i
--     index_of ps q, apart ps      the first index of a key;  whether the keys differ
use Rattle.std.specs.Prelude.{ℕ, zero, suc, ◌+◌, ◌/◌, ◌%◌, ◌==◌, Bool, true, cond, not, ◌&&◌, List, [], ◌∷◌, drop, Option, Some, None, is_some, slice_get}
use Rattle.std.specs.Option.{option_map}
use Rattle.prefix_model.specs.Keys.{KeyBits, same_key}

unfoldable pub picked : {A : Type 0} → ℕ → List A → ℕ → Option A
picked bits items zero = cond (bits % 2 == 1) (slice_get items 0) None
picked bits items (suc i) = picked (bits / 2) (drop (bits % 2) items) i

unfoldable pub place : ℕ → ℕ → ℕ
place bits zero = 0
place bits (suc i) = bits % 2 + place (bits / 2) i

abbrev pub index_of : List KeyBits → KeyBits → Option ℕ
index_of [] q = None
index_of (p ∷ ps) q = cond (same_key q p) (Some 0) (option_map suc (index_of ps q))

abbrev pub apart : List KeyBits → Bool
apart [] = true
apart (p ∷ ps) = not (is_some (index_of ps p)) && apart ps
