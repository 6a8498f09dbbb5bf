-- What `dump` prints is built again.
--     dumped m n      the lines of two tables
--     DumpsAreBuilt      `dump` prints these lines of an archive, and `build` makes that archive of them
use Rattle.std.specs.Prelude.{◌≡◌, ℕ, List, ◌++◌}
use Rattle.std.specs.FinMap.{entries}
use Rattle.prefix_model.specs.Tables.{KeyMap}
use Rattle.prefix_text.specs.Texts.{dump_text}
use Rattle.prefix_text.specs.declared.command.Command.TheVariants.{Build, Dump}
use Rattle.prefix_app.specs.Compacted.{SpellsTables}
use Rattle.prefix_app.specs.Outcome.{first_lines, gives, over_bytes, second_lines}

abbrev pub dumped : KeyMap ℕ → KeyMap ℕ → List ℕ
dumped m n = dump_text (first_lines (entries m) ++ second_lines (entries n))

abbrev pub DumpsAreBuilt : Type 0
DumpsAreBuilt =
    (bytes : List ℕ) (m n : KeyMap ℕ) → SpellsTables bytes m n
    → (over_bytes Dump bytes ≡ gives (dumped m n)) × (over_bytes Build (dumped m n) ≡ gives bytes)
