-- Keys: lists of bits, the most significant first. Where addresses have w bits, an address is a key of w bits.
-- A prefix of an address space is the key that its addresses begin with. The empty key is the prefix of all.
--     KeyBits, key_cmp      a key, and the order of keys
--     shorter_first      keys by length, and keys of one length in key order
--     same_key k l, stands_in ks k      whether two keys are one;  whether a key stands in a list
--     number s, low_bits n x      the number whose binary digits are s;  the low n bits of x as a key
--     keys_of_length n      all keys of n bits, in key order
--     prefixes k      the prefixes of k, itself among them
--     padded w k      k with zeros behind it, w bits in all: the bits of a prefix whose host bits are zero
use Rattle.std.specs.Prelude.{ℕ, zero, suc, ◌+◌, ◌-◌, ◌*◌, ◌^◌, ◌==◌, ◌&&◌, Bool, true, false, List, [], ◌∷◌, ◌++◌, length, map, replicate}
use Rattle.std.specs.declared.cmp.Ordering.{Ordering}
use Rattle.std.specs.Int.{bit_at}
use Rattle.std.specs.Ordering.{bool_cmp, nat_cmp, ordering_then}
use Rattle.std.specs.Cmp.Lexicographic.{slice_cmp}
use Rattle.std.specs.List.{list_any}

-- the first bits of an address, the most significant first
abbrev pub KeyBits : Type 0
KeyBits = List Bool

-- A key stands before the keys that it is a proper prefix of, and where two keys first differ the one with 0 stands first.
abbrev pub key_cmp : KeyBits → KeyBits → Ordering
key_cmp = slice_cmp bool_cmp

-- shorter keys first, and keys of one length in key order
abbrev pub shorter_first : KeyBits → KeyBits → Ordering
shorter_first k l = ordering_then (nat_cmp (length k) (length l)) (key_cmp k l)

abbrev pub same_bit : Bool → Bool → Bool
same_bit true b = b
same_bit false true = false
same_bit false false = true

abbrev pub same_key : KeyBits → KeyBits → Bool
same_key [] [] = true
same_key [] (b ∷ l) = false
same_key (a ∷ k) [] = false
same_key (a ∷ k) (b ∷ l) = same_bit a b && same_key k l

-- whether a key stands in a list
abbrev pub stands_in : List KeyBits → KeyBits → Bool
stands_in ks k = list_any (same_key k) ks

abbrev pub digit : Bool → ℕ
digit true = 1
digit false = 0

-- the number whose binary digits are s, the most significant first
abbrev pub number : KeyBits → ℕ
number [] = 0
number (b ∷ s) = digit b * 2 ^ length s + number s

-- the low n bits of x as a key
unfoldable pub low_bits : ℕ → ℕ → KeyBits
low_bits zero x = []
low_bits (suc n) x = (bit_at x n == 1) ∷ low_bits n x

-- all keys of n bits, in key order
abbrev pub keys_of_length : ℕ → List KeyBits
keys_of_length zero = [] ∷ []
keys_of_length (suc n) = map (λ k. false ∷ k) (keys_of_length n) ++ map (λ k. true ∷ k) (keys_of_length n)

-- the prefixes of a key, the key itself among them, shortest first
abbrev pub prefixes : KeyBits → List KeyBits
prefixes [] = [] ∷ []
prefixes (b ∷ k) = [] ∷ map (λ p. b ∷ p) (prefixes k)

-- a key with zeros behind it, w bits in all
abbrev pub padded : ℕ → KeyBits → KeyBits
padded w k = k ++ replicate (w - length k) false
