-- The outcome of a run over words and bytes: how it ends where no call fails and memory is there.
--     Outcome      a status, what is written to the output, and the line of the status
--     ends status line, gives output      nothing on the output;  this output, and `Done`
--     outcome words bytes      the outcome of these words over these bytes of input
--     outcome_of command bytes, over_bytes command bytes      that of a command;  where the bytes are not too many
--     reads_input command, reads_archive command      whether the command reads the input;  whether it reads an archive
--     tables_of bytes      the two tables that the bytes spell, or the first cause for which they are refused
--     key_in w p, built es      the key of a prefix;  the table of entries of which a later one replaces an earlier one of its key
--     first_entries es, second_entries es      the keys and values of one family, in order
--     first_lines es, second_lines es      the entries of a table as they are printed
--     archive m n, writes m n      the archive of two tables;  where it has room for them
--     answers command m n      the outcome of a command that reads an archive, over the two tables
use Rattle.std.specs.Prelude.{ℕ, ◌^◌, ◌&&◌, ◌||◌, nat_lt, nat_le, Bool, true, false, List, [], ◌++◌, length, map, take, Option, Some, None, Result, Ok, Err, if◌then◌else◌}
use Rattle.std.specs.List.{filter_map}
use Rattle.std.specs.Option.{option_map}
use Rattle.std.specs.Result.{result_unwrap_or}
use Rattle.std.specs.FinMap.{empty, entries, from_entries, len}
use Rattle.std.specs.declared.string.String.{String}
use Rattle.std.specs.declared.alloc.Global.{Global}
use Rattle.either.specs.declared.Either.TheVariants.{Left, Right}
use Rattle.prefix_model.specs.declared.Cause.{Cause}
use Rattle.prefix_model.specs.Keys.{KeyBits, key_cmp, number, low_bits, padded}
use Rattle.prefix_model.specs.Tables.{KeyMap}
use Rattle.prefix_model.specs.Building.{insert_all}
use Rattle.prefix_model.specs.Positions.{positions_in}
use Rattle.prefix_model.specs.Spelling.{spelling, u32_codec}
use Rattle.prefix_model.specs.FirstCause.{check, check_pair, ◌>>=◌}
use Rattle.prefix_model.specs.Reading.{family_entries}
use Rattle.prefix_model.specs.Walks.{covers}
use Rattle.prefix_layout.specs.Errors.{error_of}
use Rattle.prefix_layout.specs.declared.error.ArchiveError.TheVariants.{NodeIndexOverflow, DataIndexOverflow}
use Rattle.prefix_text.specs.Commands.{command_of}
use Rattle.prefix_text.specs.Forms.{EitherPrefix, Entry}
use Rattle.prefix_text.specs.Generator.{generated}
use Rattle.prefix_text.specs.Lines.{lines, is_entry, first_bad, entries_of}
use Rattle.prefix_text.specs.Texts.{dump_text, lookup_text, cover_text, check_text, generated_text, bad_line_text}
use Rattle.prefix_text.specs.declared.command.Command.{Command}
use Rattle.prefix_text.specs.declared.command.Command.TheVariants.{Compact, Fill, Consistent, Check, Dump, Lookup, Cover, Build, Generate}
use Rattle.prefix_text.specs.declared.text.Counts.{Counts}
use Rattle.prefix_text.specs.declared.text.Sizes.{Sizes}
use Rattle.prefix_app.specs.Compacted.{least, max_input}
use Rattle.prefix_app.specs.Questions.{fill_of, consistent_of, longest, covers_all, addresses}
use Rattle.prefix_app.specs.Statuses.{line_of, refusal}
use Rattle.prefix_app.specs.declared.status.Status.{Status}
use Rattle.prefix_app.specs.declared.status.Status.TheVariants as status

pub record Outcome : Type 0 where
  pub status : Status
  pub output : List ℕ
  pub line : List ℕ

abbrev pub ends : Status → List ℕ → Outcome
ends status line = record { status = status; output = []; line = line }

abbrev pub gives : List ℕ → Outcome
gives output = record { status = status.Done; output = output; line = [] }

-- ---- tables and entries

-- the bytes behind the first family
abbrev pub behind_first : List ℕ → List ℕ
behind_first bytes = result_unwrap_or (check u32_codec 32 bytes) []

-- the table of a family that stands at the front, whatever is behind it
abbrev pub table_at_front : List ℕ → KeyMap ℕ
table_at_front bytes = from_entries {R = key_cmp} (family_entries u32_codec bytes)

abbrev pub tables_of : List ℕ → Result (KeyMap ℕ × KeyMap ℕ) Cause
tables_of bytes = check_pair u32_codec 32 128 bytes >>= λ _. Ok (table_at_front bytes, table_at_front (behind_first bytes))

-- the first bits of the integer of a prefix; the host bits are dropped
abbrev pub key_in : ℕ → ℕ × ℕ → KeyBits
key_in w p = take p.1 (low_bits w p.0)

abbrev pub first_entry : Entry → Option (KeyBits × ℕ)
first_entry (Left p, v) = Some (key_in 32 p, v)
first_entry (Right p, v) = None

abbrev pub second_entry : Entry → Option (KeyBits × ℕ)
second_entry (Left p, v) = None
second_entry (Right p, v) = Some (key_in 128 p, v)

abbrev pub first_entries : List Entry → List (KeyBits × ℕ)
first_entries es = filter_map first_entry es

abbrev pub second_entries : List Entry → List (KeyBits × ℕ)
second_entries es = filter_map second_entry es

abbrev pub built : List (KeyBits × ℕ) → KeyMap ℕ
built es = insert_all empty es

-- the integer of a key, whose host bits are zero, and its length
abbrev pub prefix_at : ℕ → KeyBits → ℕ × ℕ
prefix_at w k = (number (padded w k), length k)

abbrev pub first_line : KeyBits × ℕ → Entry
first_line e = (Left (prefix_at 32 e.0), e.1)

abbrev pub second_line : KeyBits × ℕ → Entry
second_line e = (Right (prefix_at 128 e.0), e.1)

abbrev pub first_lines : List (KeyBits × ℕ) → List Entry
first_lines es = map first_line es

abbrev pub second_lines : List (KeyBits × ℕ) → List Entry
second_lines es = map second_line es

-- ---- archives that are written

abbrev pub archive : KeyMap ℕ → KeyMap ℕ → List ℕ
archive m n = spelling u32_codec m ++ spelling u32_codec n

-- an archive can't count the positions of the table, or its entries
abbrev pub has_many_positions : KeyMap ℕ → Bool
has_many_positions m = nat_le (2 ^ 32) (length (positions_in m))

abbrev pub has_many_entries : KeyMap ℕ → Bool
has_many_entries m = nat_le (2 ^ 32) (len m)

-- positions are tested first
abbrev pub writes : KeyMap ℕ → KeyMap ℕ → Outcome
writes m n =
    if has_many_positions m || has_many_positions n then ends status.Overflow (refusal NodeIndexOverflow)
    else (if has_many_entries m || has_many_entries n then ends status.Overflow (refusal DataIndexOverflow)
    else gives (archive m n))

-- ---- the commands

abbrev pub counts : ℕ → KeyMap ℕ → Counts
counts w m = record { nodes = length (positions_in m); entries = len m; addresses = addresses w m }

abbrev pub looked_up : EitherPrefix → KeyMap ℕ → KeyMap ℕ → Option Entry
looked_up (Left p) m n = option_map first_line (longest m (key_in 32 p))
looked_up (Right p) m n = option_map second_line (longest n (key_in 128 p))

abbrev pub covered : EitherPrefix → KeyMap ℕ → KeyMap ℕ → List ℕ
covered (Left p) m n = cover_text (first_lines (covers m (key_in 32 p))) (covers_all 32 m (key_in 32 p))
covered (Right p) m n = cover_text (second_lines (covers n (key_in 128 p))) (covers_all 128 n (key_in 128 p))

unfoldable pub sizes : KeyMap ℕ → KeyMap ℕ → Sizes
sizes m n = record {
  first_before = len m;
  second_before = len n;
  first_after = len (least 32 m);
  second_after = len (least 128 n);
  bytes_before = length (archive m n);
  bytes_after = length (archive (least 32 m) (least 128 n));
}

unfoldable pub generates : List Entry → List ℕ
generates es = generated_text (sizes (built (first_entries es)) (built (second_entries es)))

-- the number of the first bad line is told, or else the archive is written
abbrev pub builds : Option ℕ → List Entry → Outcome
builds (Some n) es = ends status.BadLine (bad_line_text n)
builds None es = writes (built (first_entries es)) (built (second_entries es))

-- a command that reads an archive, over the tables that were read
abbrev pub answers : Command → KeyMap ℕ → KeyMap ℕ → Outcome
answers Compact m n = writes (least 32 m) (least 128 n)
answers (Fill v) m n = writes (fill_of 32 m v) (fill_of 128 n v)
answers Consistent m n = writes (consistent_of m) (consistent_of n)
answers Check m n = gives (check_text (counts 32 m) (counts 128 n))
answers Dump m n = gives (dump_text (first_lines (entries m) ++ second_lines (entries n)))
answers (Lookup p) m n = gives (lookup_text (looked_up p m n))
answers (Cover p) m n = gives (covered p m n)
answers Build m n = ends status.Usage []
answers (Generate seed count) m n = ends status.Usage []

abbrev pub over_tables : Command → Result (KeyMap ℕ × KeyMap ℕ) Cause → Outcome
over_tables c (Err cause) = ends status.Refused (refusal (error_of cause))
over_tables c (Ok tables) = answers c tables.0 tables.1

-- over bytes that are not too many
abbrev pub over_bytes : Command → List ℕ → Outcome
over_bytes Build bytes = builds (first_bad is_entry 1 (lines bytes)) (entries_of (lines bytes))
over_bytes (Generate seed count) bytes = gives (generates (generated count seed))
over_bytes c bytes = over_tables c (tables_of bytes)

abbrev pub reads_input : Command → Bool
reads_input (Generate seed count) = false
reads_input c = true

-- the lines of `build` are no archive
abbrev pub reads_archive : Command → Bool
reads_archive Build = false
reads_archive (Generate seed count) = false
reads_archive c = true

abbrev pub outcome_of : Command → List ℕ → Outcome
outcome_of c bytes =
    if reads_input c && nat_lt max_input (length bytes) then ends status.TooLong (line_of status.TooLong)
    else over_bytes c bytes

abbrev pub outcome_in : Option Command → List ℕ → Outcome
outcome_in None bytes = ends status.Usage (line_of status.Usage)
outcome_in (Some c) bytes = outcome_of c bytes

unfoldable pub outcome : List (String Global) → List ℕ → Outcome
outcome words bytes = outcome_in (command_of words) bytes
