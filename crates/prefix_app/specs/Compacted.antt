-- What a run of `compact` promises.
--     max_input      the most bytes of an input
--     SpellsTables bytes first second, SpellsNone bytes      the bytes spell these two tables;  or no two
--     IsCompacted bytes output      the output spells two tables with the fewest entries that have the answers of those that the bytes spell
--     SpellsLeast bytes output      the output is the spelling of the least tables of the two that the bytes spell
--     least w m      the least table of w bits with the answers of m
--     LacksRoom bytes      the bytes spell two tables, and an archive can't count the positions of the least table of one of them
--     IsCause bytes cause      the first cause for which the bytes are refused
--     DidNotRise before now      no call failed, by the count of those that did
use Rattle.std.specs.Prelude.{◌≡◌, ℕ, ◌-◌, ◌^◌, ◌<◌, List, Err}
use Rattle.std.specs.Ordering.{nat_cmp}
use Rattle.prefix_model.specs.declared.Cause.{Cause}
use Rattle.prefix_model.specs.Tables.{KeyMap}
use Rattle.prefix_model.specs.LeastTable.{least_table}
use Rattle.prefix_model.specs.Spelling.{SpellsPair, u32_codec}
use Rattle.prefix_model.specs.FirstCause.{check_pair}
use Rattle.prefix_joint_archive.specs.Compacting as archive

abbrev pub max_input : ℕ
max_input = 2 ^ 30

-- the bytes spell a table of 32 bits and one of 128, and nothing is behind them
abbrev pub SpellsTables : List ℕ → KeyMap ℕ → KeyMap ℕ → Type 0
SpellsTables bytes first second = SpellsPair u32_codec 32 128 bytes first second

abbrev pub SpellsNone : List ℕ → Type 0
SpellsNone bytes = (first second : KeyMap ℕ) → SpellsTables bytes first second → ⊥

-- The bytes spell two tables, and the output spells two in which every address has the answer that it had, or none where it had none.
-- No finite map with the same answers, in either family, has fewer entries.
abbrev pub IsCompacted : List ℕ → List ℕ → Type 0
IsCompacted bytes output = archive.IsCompacted u32_codec 32 128 bytes output

-- the least table of w bits with the answers of m
abbrev pub least : ℕ → KeyMap ℕ → KeyMap ℕ
least w m = least_table nat_cmp w m

-- The bytes spell two tables, whose least tables an archive has room for, and the output is the spelling of both of these.
abbrev pub SpellsLeast : List ℕ → List ℕ → Type 0
SpellsLeast bytes output = archive.SpellsLeast u32_codec nat_cmp 32 128 bytes output

-- The bytes spell two tables, and an archive has no room for the least table of one of them.
abbrev pub LacksRoom : List ℕ → Type 0
LacksRoom bytes = archive.LacksRoom u32_codec nat_cmp 32 128 bytes

abbrev pub IsCause : List ℕ → Cause → Type 0
IsCause bytes cause = check_pair u32_codec 32 128 bytes ≡ Err cause

-- the count did not rise, and it is below its end
pub record DidNotRise (before now : ℕ) : Type 0 where
  pub kept : now ≡ before
  pub below_end : now < 2 ^ 64 - 1
