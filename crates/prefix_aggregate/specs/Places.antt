-- What is told at and below a place of a table.
use Rattle.std.specs.Prelude.{◌≡◌}
use Rattle.prefix_model.specs.Positions.{position_set}
use Rattle.prefix_model.specs.TableViews.{TableView}

module _ {T : Type 0} where
  -- where the kept positions were those of the entries, they are
  abbrev pub KeepsPositions : TableView T → TableView T → Type 0
  KeepsPositions old new = old.kept ≡ position_set old.entries → new.kept ≡ position_set new.entries
