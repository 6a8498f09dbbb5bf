-- What is printed is read again.
--     IsPrintable e      the integer and the length of the prefix are those of its family, and the value has 32 bits
--     DumpsAreRead      the lines that `dump` prints are lines of entries, and give these entries
use Rattle.std.specs.Prelude.{◌≡◌, ◌^◌, ◌<◌, ◌≤◌, List, None}
use Rattle.std.specs.List.{AllByRecursion}
use Rattle.either.specs.declared.Either.TheVariants.{Left, Right}
use Rattle.prefix_text.specs.Forms.{Entry}
use Rattle.prefix_text.specs.Lines.{lines, is_entry, first_bad, entries_of}
use Rattle.prefix_text.specs.Texts.{dump_text}

abbrev pub IsPrintable : Entry → Type 0
IsPrintable (Left p, v) = (p.0 < 2 ^ 32) × (p.1 ≤ 32) × (v < 2 ^ 32)
IsPrintable (Right p, v) = (p.0 < 2 ^ 128) × (p.1 ≤ 128) × (v < 2 ^ 32)

abbrev pub DumpsAreRead : Type 0
DumpsAreRead =
    (es : List Entry) → AllByRecursion IsPrintable es
    → (first_bad is_entry 1 (lines (dump_text es)) ≡ None) × (entries_of (lines (dump_text es)) ≡ es)
