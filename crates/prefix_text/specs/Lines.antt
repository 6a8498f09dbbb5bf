-- Lines of text, and the entries that they give.
--     lines bytes      the lines, each ended by a newline byte, which the last one may lack
--     words_of line      what stands between single spaces
--     entry_in words, entry_of line      the entry of a line `FAMILY ADDRESS LENGTH VALUE`
--     is_entry line      whether the line gives one
--     first_bad good n ls      the number of the first line that is not good, where the first of them has the number n
--     entries_of ls      the entries of the lines that give one, in order
use Rattle.std.specs.Prelude.{ℕ, ◌+◌, ◌-◌, ◌^◌, ◌==◌, Bool, List, [], ◌∷◌, Option, Some, None, is_some, if◌then◌else◌}
use Rattle.std.specs.List.{filter_map, onto_first, slice_split}
use Rattle.prefix_text.specs.Forms.{EitherPrefix, Entry, decimal_in, prefix_in}

-- Empty text has no line. A newline byte right behind another, or at the front, ends an empty line.
abbrev pub lines : List ℕ → List (List ℕ)
lines [] = []
lines (c ∷ bytes) = if c == 10 then [] ∷ lines bytes else onto_first c (lines bytes)

abbrev pub words_of : List ℕ → List (List ℕ)
words_of line = slice_split (λ c. c == 32) line

abbrev pub with_value : Option EitherPrefix → Option ℕ → Option Entry
with_value None v = None
with_value (Some p) None = None
with_value (Some p) (Some v) = Some (p, v)

abbrev pub entry_in : List (List ℕ) → Option Entry
entry_in (family ∷ address ∷ len ∷ value ∷ []) = with_value (prefix_in family address len) (decimal_in (2 ^ 32 - 1) value)
entry_in _ = None

abbrev pub entry_of : List ℕ → Option Entry
entry_of line = entry_in (words_of line)

abbrev pub is_entry : List ℕ → Bool
is_entry line = is_some (entry_of line)

abbrev pub first_bad : (List ℕ → Bool) → ℕ → List (List ℕ) → Option ℕ
first_bad good n [] = None
first_bad good n (l ∷ ls) = if good l then first_bad good (n + 1) ls else Some n

abbrev pub entries_of : List (List ℕ) → List Entry
entries_of ls = filter_map entry_of ls
