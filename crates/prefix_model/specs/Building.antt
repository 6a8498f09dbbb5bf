-- Tables built entry by entry.
--     insert_all m es      m with these entries inserted one after the other, the first first
use Rattle.std.specs.Prelude.{List, [], ◌∷◌}
use Rattle.std.specs.FinMap.{insert}
use Rattle.prefix_model.specs.Keys.{KeyBits}
use Rattle.prefix_model.specs.Tables.{KeyMap}

-- A later entry with the same key replaces an earlier one.
abbrev pub insert_all : {V : Type 0} → KeyMap V → List (KeyBits × V) → KeyMap V
insert_all m [] = m
insert_all m (e ∷ es) = insert_all (insert m e.0 e.1) es
