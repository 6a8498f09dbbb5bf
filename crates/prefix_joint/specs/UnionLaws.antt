-- What a union of two maps tells.
--     sides_of l r      the values of a key, from what two maps have there
--     TellsBothMaps L R      merged entries are in key order, each key once, and have at each key what both maps have there
use Rattle.std.specs.Prelude.{◌≡◌, Option, Some, None, IsTrue}
use Rattle.std.specs.FinMap.{entries, find, get, is_sorted}
use Rattle.prefix_model.specs.Keys.{KeyBits, key_cmp}
use Rattle.prefix_model.specs.Tables.{KeyMap}
use Rattle.prefix_joint_walks.specs.Unions.{Sides, on_left, on_right, on_both, merged}

-- the values of a key, from what two maps have there; none where neither has one
abbrev pub sides_of : {L R : Type 0} → Option L → Option R → Option (Sides L R)
sides_of None None = None
sides_of None (Some r) = Some (on_right r)
sides_of (Some l) None = Some (on_left l)
sides_of (Some l) (Some r) = Some (on_both l r)

abbrev pub TellsBothMaps : Type 0 → Type 0 → Type 0
TellsBothMaps L R = (l : KeyMap L) (r : KeyMap R)
    → IsTrue (is_sorted key_cmp (merged (entries l) (entries r)))
    × ((k : KeyBits) → find key_cmp k (merged (entries l) (entries r)) ≡ sides_of (get l k) (get r k))
