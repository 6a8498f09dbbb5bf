-- The words of the worked examples. Values are numbers, spelled in four bytes, and keys are as those of IPv4 and IPv6, of up to 32 and 128 bits.
--     key len n      the key of len bits whose number is n
--     table es      the table of these entries
--     node a b c d      the record with these data bits, child bits, data index and child index
--     family rs vs      the bytes of these records and these values, behind how many there are
--     counted n c rs vs      the same behind the counts n and c
--     empty_family      the bytes of the empty table
--     IsSpelled es bytes      the table of es is spelled by these bytes
--     HasLeast w es fs      the least table of es, for addresses of w bits, is that of fs
--     IsAccepted bytes, IsRefused bytes cause      what the check of a pair says of these bytes, with the empty table behind them as the second family
--     IsRefusedAlone bytes cause      what it says of the bytes with nothing behind them
--     chain is      records with one child each, the leftmost, by their child indices
--     one_byte_codec      a codec that accepts the bytes 0 and 1 alone
use Rattle.std.specs.Prelude.{◌≡◌, ℕ, zero, suc, ◌+◌, ◌==◌, ◌||◌, Bool, false, List, [], ◌∷◌, ◌++◌, length, map, get_or, Ok, Err}
use Rattle.std.specs.List.{flat_map}
use Rattle.std.specs.Ordering.{nat_cmp}
use Rattle.std.specs.FinMap.{from_entries}
use Rattle.prefix_model.specs.Keys.{KeyBits, low_bits}
use Rattle.prefix_model.specs.Tables.{KeyMap}
use Rattle.prefix_model.specs.Positions.{NodeRecord}
use Rattle.prefix_model.specs.Spelling.{Codec, word, record_bytes, spelling, u32_codec}
use Rattle.prefix_model.specs.LeastTable.{least_table}
use Rattle.prefix_model.specs.declared.Cause.{Cause}
use Rattle.prefix_model.specs.FirstCause.{check, check_pair}

abbrev pub key : ℕ → ℕ → KeyBits
key len n = low_bits len n

abbrev pub table : List (KeyBits × ℕ) → KeyMap ℕ
table es = from_entries es

abbrev pub node : ℕ → ℕ → ℕ → ℕ → NodeRecord
node a b c d = record { data_bits = a; child_bits = b; data_index = c; child_index = d }

abbrev pub counted : ℕ → ℕ → List NodeRecord → List ℕ → List ℕ
counted n c rs vs = word n ++ (word c ++ (flat_map record_bytes rs ++ flat_map word vs))

abbrev pub family : List NodeRecord → List ℕ → List ℕ
family rs vs = counted (length rs) (length vs) rs vs

abbrev pub empty_family : List ℕ
empty_family = family (node 0 0 0 1 ∷ []) []

unfoldable pub IsSpelled : List (KeyBits × ℕ) → List ℕ → Type 0
IsSpelled es bytes = spelling u32_codec (table es) ≡ bytes

unfoldable pub HasLeast : ℕ → List (KeyBits × ℕ) → List (KeyBits × ℕ) → Type 0
HasLeast w es fs = least_table nat_cmp w (table es) ≡ table fs

unfoldable pub IsAccepted : List ℕ → Type 0
IsAccepted bytes = check_pair u32_codec 32 128 (bytes ++ empty_family) ≡ Ok tt

unfoldable pub IsRefused : List ℕ → Cause → Type 0
IsRefused bytes cause = check_pair u32_codec 32 128 (bytes ++ empty_family) ≡ Err cause

unfoldable pub IsRefusedAlone : List ℕ → Cause → Type 0
IsRefusedAlone bytes cause = check_pair u32_codec 32 128 bytes ≡ Err cause

abbrev pub chain : List ℕ → List NodeRecord
chain is = map (λ i. node 0 1 0 i) is

abbrev pub zero_or_one : List ℕ → Bool
zero_or_one [] = false
zero_or_one (n ∷ bytes) = (n == 0) || (n == 1)

abbrev pub one_byte_codec : Codec ℕ
one_byte_codec = record { size = 1; spell = λ n. n ∷ []; accepted = zero_or_one; read = λ bytes. get_or bytes 0 0 }

-- the check of one family with that codec
unfoldable pub IsRefusedOneByte : List ℕ → Cause → Type 0
IsRefusedOneByte bytes cause = check one_byte_codec 32 bytes ≡ Err cause

-- the numbers from i on, n of them
abbrev pub count_up : ℕ → ℕ → List ℕ
count_up i zero = []
count_up i (suc n) = i ∷ count_up (i + 1) n
