-- A map that was cleared has no entries.
use Rattle.std.proofs.Common.{◌≡◌, List, [], ◌∷◌, length, refl, sym, ap, ◌∙◌, arith}
use Rattle.std.specs.FinMap.{empty, entries, len, len-entries, len-empty}
use Rattle.prefix_model.specs.Keys.{key_cmp}
use Rattle.prefix_model.specs.Tables.{KeyMap}

no_items : {A : Type 0} (es : List A) → length es ≡ 0 → es ≡ []
no_items [] e = refl
no_items (x ∷ es) e = absurd (omega arith)

pub no_entries : {T : Type 0} (m : KeyMap T) → m ≡ empty → entries m ≡ []
no_entries {T} m e = no_items (entries m) (sym (len-entries m) ∙ ap len e ∙ len-empty key_cmp T)
