-- Laws of walks, and of the equality of views.
--     WalksAscend V      in a walk the keys strictly rise
--     GoesOnBehind V      a walk from the last key seen, itself left out, is the rest of the walk
--     SameKeysIsReflexive V, SameKeysIsSymmetric V W, SameKeysIsTransitive V W X      the same keys are an equality, over views of any values, live or archived
use Rattle.std.specs.Prelude.{◌≡◌, Bool, false, List, ◌∷◌, ◌++◌, IsTrue}
use Rattle.std.specs.FinMap.{is_sorted}
use Rattle.prefix_model.specs.Keys.{KeyBits, key_cmp}
use Rattle.prefix_model.specs.Tables.{KeyMap}
use Rattle.prefix_model.specs.Walks.{walk, walk_from}
use Rattle.prefix_model.specs.Views.{Seen, HaveSameKeys}

abbrev pub WalksAscend : Type 0 → Type 0
WalksAscend V = (m : KeyMap V) (p : KeyBits) → IsTrue (is_sorted key_cmp (walk m p))

abbrev pub GoesOnBehind : Type 0 → Type 0
GoesOnBehind V = (m : KeyMap V) (p q : KeyBits) (inclusive : Bool) (seen : List (KeyBits × V)) (last : KeyBits × V) (rest : List (KeyBits × V))
    → walk_from m p q inclusive ≡ seen ++ last ∷ rest → walk_from m p last.0 false ≡ rest

abbrev pub SameKeysIsReflexive : Type 0 → Type 0
SameKeysIsReflexive V = (v : Seen V) → HaveSameKeys v v

abbrev pub SameKeysIsSymmetric : Type 0 → Type 0 → Type 0
SameKeysIsSymmetric V W = (v : Seen V) (u : Seen W) → HaveSameKeys v u → HaveSameKeys u v

abbrev pub SameKeysIsTransitive : Type 0 → Type 0 → Type 0 → Type 0
SameKeysIsTransitive V W X = (v : Seen V) (u : Seen W) (x : Seen X) → HaveSameKeys v u → HaveSameKeys u x → HaveSameKeys v x
