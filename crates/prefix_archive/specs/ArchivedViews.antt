-- What a view of an archived map shows.
--     seen_in m n len      the table of these entries with exactly its positions, at the key of len bits that spell n
use Rattle.std.specs.Prelude.{ℕ}
use Rattle.prefix_model.specs.Keys.{low_bits}
use Rattle.prefix_model.specs.Tables.{KeyMap}
use Rattle.prefix_model.specs.Positions.{position_set}
use Rattle.prefix_model.specs.Views.{Seen}

abbrev pub seen_in : {V : Type 0} → KeyMap V → ℕ → ℕ → Seen V
seen_in m n len = record { entries = m; kept = position_set m; place = low_bits len n }
