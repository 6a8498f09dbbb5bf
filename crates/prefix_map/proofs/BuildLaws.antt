-- Maps made entry by entry.
use Rattle.std.proofs.Common.{◌≡◌, Bool, false, List, ◌∷◌, sym, ap, ◌∙◌}
use Rattle.std.specs.Prelude.{Result, Ok, Err, is_err, OnOk}
use Rattle.std.specs.FinMap as map
use Rattle.prefix_model.specs.Keys.{KeyBits}
use Rattle.prefix_model.specs.Tables.{KeyMap}
use Rattle.prefix_model.specs.Building.{insert_all}
use Rattle.prefix_model.specs.Positions.{position_set, with_positions}
use Rattle.prefix_model.proofs.Building.{position_set-insert}
use Rattle.prefix_map.specs.MapViews.{MapView, with_entry}

pub on_ok : {A E P : Type 0} (r : Result A E) (b : Bool) → b ≡ is_err r → b ≡ false → OnOk r P → P
on_ok (Ok x) b is no_error p = p
on_ok (Err x) b is no_error p = absurd (cc)

module _ {T : Type 0} where
  pub copied : (all : KeyMap T) (copy new : MapView T) (es fs : List (KeyBits × T)) (key : KeyBits) (v w : T) → insert_all copy.entries es ≡ all → es ≡ (key, v) ∷ fs → new ≡ with_entry copy key w → w ≡ v → insert_all new.entries fs ≡ all
  copied all copy new es fs key v w left first stored same =
      ap (λ (m : MapView T). insert_all m.entries fs) stored ∙ ap (λ x. insert_all (map.insert copy.entries key x) fs) same ∙ sym (ap (insert_all copy.entries) first) ∙ left

  pub copied_kept : (copy new : MapView T) (key : KeyBits) (w : T) → copy.kept ≡ position_set copy.entries → new ≡ with_entry copy key w → new.kept ≡ position_set new.entries
  copied_kept copy new key w kept stored =
      ap (λ (m : MapView T). m.kept) stored ∙ ap (λ k. with_positions k key) kept ∙ position_set-insert copy.entries key w ∙ sym (ap (λ (m : MapView T). position_set m.entries) stored)
