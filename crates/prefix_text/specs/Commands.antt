-- The words that a run takes.
--     command_of words      the command that the words give, or none
--     max_count, IsWithin command      the most entries that `gen` generates;  the numbers of a command are within their limits
--     is_compact words      the words are the one word `compact`
--     words_given words      the bytes of each word
use Rattle.std.specs.Prelude.{ℕ, ◌-◌, ◌≤◌, ◌^◌, Bool, List, [], ◌∷◌, codes, map, string_bytes, Option, Some, None, if◌then◌else◌}
use Rattle.std.specs.Option.{option_map}
use Rattle.std.specs.declared.string.String.{String}
use Rattle.std.specs.declared.alloc.Global.{Global}
use lib.Pointwise.{pointwise}
use Rattle.prefix_text.specs.Forms.{Fits, decimal_in, prefix_in, same_bytes}
use Rattle.prefix_text.specs.declared.command.Command.{Command}
use Rattle.prefix_text.specs.declared.command.Command.TheVariants.{Compact, Fill, Consistent, Check, Dump, Lookup, Cover, Build, Generate}

abbrev pub max_count : ℕ
max_count = 100000

abbrev pub IsWithin : Command → Type 0
IsWithin (Lookup p) = Fits p
IsWithin (Cover p) = Fits p
IsWithin (Generate seed count) = count ≤ max_count
IsWithin _ = Unit {0}

abbrev pub words_given : List (String Global) → List (List ℕ)
words_given words = map string_bytes words

-- the words are the one word `compact`
abbrev pub is_compact : List (String Global) → Bool
is_compact words = pointwise same_bytes (words_given words) (codes "compact" ∷ [])

-- a command without arguments, by its name
abbrev pub bare_command : List ℕ → Option Command
bare_command name =
    if same_bytes name (codes "compact") then Some Compact
    else (if same_bytes name (codes "consistent") then Some Consistent
    else (if same_bytes name (codes "check") then Some Check
    else (if same_bytes name (codes "dump") then Some Dump
    else (if same_bytes name (codes "build") then Some Build
    else None))))

abbrev pub fill_command : List ℕ → List ℕ → Option Command
fill_command name value =
    if same_bytes name (codes "fill") then option_map Fill (decimal_in (2 ^ 32 - 1) value) else None

abbrev pub with_count : Option ℕ → Option ℕ → Option Command
with_count None count = None
with_count (Some seed) None = None
with_count (Some seed) (Some count) = Some (Generate seed count)

abbrev pub generate_command : List ℕ → List ℕ → List ℕ → Option Command
generate_command name seed count =
    if same_bytes name (codes "gen") then with_count (decimal_in (2 ^ 64 - 1) seed) (decimal_in max_count count) else None

-- a question about a prefix
abbrev pub prefix_command : List ℕ → List ℕ → List ℕ → List ℕ → Option Command
prefix_command name family address len =
    if same_bytes name (codes "lookup") then option_map Lookup (prefix_in family address len)
    else (if same_bytes name (codes "cover") then option_map Cover (prefix_in family address len)
    else None)

-- by how many words there are
abbrev pub command_in : List (List ℕ) → Option Command
command_in (name ∷ []) = bare_command name
command_in (name ∷ value ∷ []) = fill_command name value
command_in (name ∷ seed ∷ count ∷ []) = generate_command name seed count
command_in (name ∷ family ∷ address ∷ len ∷ []) = prefix_command name family address len
command_in _ = None

abbrev pub command_of : List (String Global) → Option Command
command_of words = command_in (words_given words)
