-- What a table ends as, where a `&mut` to one of its values is returned.
use Rattle.std.specs.Prelude.{Option}
use Rattle.std.specs.Borrow.{LendsIf, Fml, RattleType, MutBor}
use Rattle.std.specs.FinMap as map
use Rattle.prefix_model.specs.Keys.{KeyBits}
use Rattle.prefix_model.specs.TableViews.{TableView}
use Rattle.prefix_table.specs.contracts.tables.Table.{the_row}

-- a table with the value of one key set
abbrev pub with_value : {T : Type 0} → TableView T → KeyBits → T → TableView T
with_value s key value = record s { entries = map.insert s.entries key value }

-- Once the borrow r ends, the key has the last value written through r. Where r is `None` the table stays as it is.
abbrev pub lends_value : (T : RattleType) → MutBor (TableView T.Denot) → KeyBits → Option (MutBor T.Denot) → Fml
lends_value T s key r = LendsIf (the_row T) T s r (with_value s.now key) s.now
