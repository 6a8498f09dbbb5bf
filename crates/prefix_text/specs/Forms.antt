-- The forms of numbers and prefixes in words and lines.
--     read_digits base n ds      the number that n and the digits behind it give, or none where a byte is no digit of the base
--     decimal_in most text      a decimal number without a leading zero that is at most `most`
--     address_in count text      an address of exactly so many hexadecimal digits, in either case
--     prefix_in family address length      a prefix, by the words of its family, its address and its length
--     EitherPrefix, Entry      a prefix of either family, host bits among its bits;  one with a value
--     Fits p      the length of a prefix is at most the width of its family
use Rattle.std.specs.Prelude.{ℕ, ◌+◌, ◌*◌, ◌≤◌, ◌==◌, ◌&&◌, ◌||◌, slice_index, nat_lt, nat_le, nat_eq, Bool, List, [], ◌∷◌, length, codes, Option, Some, None, if◌then◌else◌}
use Rattle.std.specs.Char.{digit_value}
use Rattle.either.specs.declared.Either.{Either}
use Rattle.either.specs.declared.Either.TheVariants.{Left, Right}
use lib.Pointwise.{pointwise}

-- the integer of a prefix, with its host bits, and its length: of the first family on the left, and of the second on the right
abbrev pub EitherPrefix : Type 0
EitherPrefix = Either (ℕ × ℕ) (ℕ × ℕ)

-- a prefix and the value that it has
abbrev pub Entry : Type 0
Entry = EitherPrefix × ℕ

abbrev pub Fits : EitherPrefix → Type 0
Fits (Left p) = p.1 ≤ 32
Fits (Right p) = p.1 ≤ 128

abbrev pub same_bytes : List ℕ → List ℕ → Bool
same_bytes xs ys = pointwise nat_eq xs ys

-- the number that n and the digits behind it give, or none where a byte is no digit of the base
abbrev pub read_digits : ℕ → ℕ → List ℕ → Option ℕ
read_digits base n [] = Some n
read_digits base n (c ∷ cs) = if nat_lt (digit_value c) base then read_digits base (n * base + digit_value c) cs else None

abbrev pub at_most : ℕ → Option ℕ → Option ℕ
at_most most None = None
at_most most (Some n) = if nat_le n most then Some n else None

-- more than one byte, of which the first is the digit 0
abbrev pub has_leading_zero : List ℕ → Bool
has_leading_zero text = nat_lt 1 (length text) && (slice_index text 0 == 48)

-- decimal digits, at least one, without a leading zero but for `0` itself
abbrev pub decimal_in : ℕ → List ℕ → Option ℕ
decimal_in most text = if (length text == 0) || has_leading_zero text then None else at_most most (read_digits 10 0 text)

-- exactly so many hexadecimal digits, in either case
abbrev pub address_in : ℕ → List ℕ → Option ℕ
address_in count text = if length text == count then read_digits 16 0 text else None

abbrev pub with_length : (ℕ × ℕ → EitherPrefix) → Option ℕ → Option ℕ → Option EitherPrefix
with_length make None n = None
with_length make (Some a) None = None
with_length make (Some a) (Some n) = Some (make (a, n))

-- `4` is the family of 32 bits, whose addresses have eight digits, and `6` that of 128 bits with 32 digits
abbrev pub prefix_in : List ℕ → List ℕ → List ℕ → Option EitherPrefix
prefix_in family address len =
    if same_bytes family (codes "4") then with_length Left (address_in 8 address) (decimal_in 32 len)
    else (if same_bytes family (codes "6") then with_length Right (address_in 32 address) (decimal_in 128 len)
    else None)
