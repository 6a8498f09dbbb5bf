-- The lines that the commands print. Each ends with a newline byte.
--     hex_digits n x      the low n hexadecimal digits of x, in lower case, the most significant first
--     prefix_text p, entry_line e, entry_text e      `FAMILY ADDRESS LENGTH`;  `FAMILY ADDRESS LENGTH VALUE`;  the same with its newline byte
--     dump_text es      the lines of these entries
--     lookup_text found      the line of the entry that was found, or `none`
--     cover_text es aggregated      the lines of the entries that cover a prefix, and whether the answers cover it
--     counts_text family counts, check_text first second      how many nodes, entries and addresses a table has;  two tables
--     generated_text sizes      what `gen` tells
--     bad_line_text n      the line of the first bad line
use Rattle.std.specs.Prelude.{ℕ, zero, suc, ◌/◌, ◌%◌, ◌^◌, Bool, false, List, [], ◌∷◌, ◌++◌, codes, decimal, Option, Some, None, if◌then◌else◌}
use Rattle.std.specs.Fmt.{digit_glyph}
use Rattle.std.specs.List.{flat_map}
use Rattle.either.specs.declared.Either.TheVariants.{Left, Right}
use Rattle.prefix_text.specs.Forms.{EitherPrefix, Entry}
use Rattle.prefix_text.specs.declared.text.Counts.{Counts}
use Rattle.prefix_text.specs.declared.text.Sizes.{Sizes}

unfoldable pub hex_digits : ℕ → ℕ → List ℕ
hex_digits zero x = []
hex_digits (suc n) x = digit_glyph false (x / 16 ^ n % 16) ∷ hex_digits n x

abbrev pub address_text : EitherPrefix → List ℕ
address_text (Left p) = codes "4 " ++ hex_digits 8 p.0
address_text (Right p) = codes "6 " ++ hex_digits 32 p.0

abbrev pub length_of : EitherPrefix → ℕ
length_of (Left p) = p.1
length_of (Right p) = p.1

abbrev pub prefix_text : EitherPrefix → List ℕ
prefix_text p = address_text p ++ codes " " ++ decimal (length_of p)

abbrev pub entry_line : Entry → List ℕ
entry_line e = prefix_text e.0 ++ codes " " ++ decimal e.1

abbrev pub entry_text : Entry → List ℕ
entry_text e = entry_line e ++ codes "\n"

abbrev pub dump_text : List Entry → List ℕ
dump_text es = flat_map entry_text es

abbrev pub lookup_text : Option Entry → List ℕ
lookup_text None = codes "none\n"
lookup_text (Some e) = entry_text e

abbrev pub aggregate_text : Bool → List ℕ
aggregate_text b = if b then codes "aggregate yes\n" else codes "aggregate no\n"

abbrev pub cover_text : List Entry → Bool → List ℕ
cover_text es aggregated = dump_text es ++ aggregate_text aggregated

-- how many addresses, or `all`
abbrev pub addresses_text : Option ℕ → List ℕ
addresses_text None = codes " addresses all\n"
addresses_text (Some n) = codes " addresses " ++ decimal n ++ codes "\n"

abbrev pub number_text : List ℕ → ℕ → List ℕ
number_text label n = label ++ decimal n

abbrev pub counts_text : List ℕ → Counts → List ℕ
counts_text family c = family ++ number_text (codes " nodes ") c.nodes ++ number_text (codes " entries ") c.entries ++ addresses_text c.addresses

abbrev pub check_text : Counts → Counts → List ℕ
check_text first second = counts_text (codes "4") first ++ counts_text (codes "6") second

unfoldable pub two_text : List ℕ → ℕ → ℕ → List ℕ
two_text label first second = label ++ decimal first ++ codes " " ++ decimal second

abbrev pub generated_text : Sizes → List ℕ
generated_text s = two_text (codes "in ") s.first_before s.second_before ++ two_text (codes " out ") s.first_after s.second_after ++ two_text (codes " bytes ") s.bytes_before s.bytes_after ++ codes "\n"

-- the line on the sink of errors where a line of the input is bad
abbrev pub bad_line_text : ℕ → List ℕ
bad_line_text n = codes "prefix_app: bad line " ++ decimal n ++ codes "\n"
