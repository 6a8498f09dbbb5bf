-- Where bytes are refused, and where a table has no room.
--     RefusesExactly      a command that reads an archive is refused exactly where the bytes spell no pair
--     OverflowsExactly      `compact` overflows exactly where the bytes spell a pair and a least table of it has no room
-- Both are of bytes that are not too many.
use Rattle.std.specs.Prelude.{◌≡◌, ◌↔◌, ℕ, true, List}
use Rattle.prefix_model.specs.Spelling.{IsBytes}
use Rattle.prefix_text.specs.declared.command.Command.{Command}
use Rattle.prefix_text.specs.declared.command.Command.TheVariants.{Compact}
use Rattle.prefix_app.specs.Compacted.{LacksRoom, SpellsNone}
use Rattle.prefix_app.specs.Outcome.{over_bytes, reads_archive}
use Rattle.prefix_app.specs.declared.status.Status.TheVariants.{Refused, Overflow}

abbrev pub RefusesExactly : Type 0
RefusesExactly = (c : Command) → reads_archive c ≡ true → (bytes : List ℕ) → IsBytes bytes → ((over_bytes c bytes).status ≡ Refused) ↔ SpellsNone bytes

abbrev pub OverflowsExactly : Type 0
OverflowsExactly = (bytes : List ℕ) → IsBytes bytes → ((over_bytes Compact bytes).status ≡ Overflow) ↔ LacksRoom bytes
