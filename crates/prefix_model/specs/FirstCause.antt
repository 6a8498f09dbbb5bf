-- The first cause for which bytes are refused. Each definition makes its tests in order, and the first that fails tells the cause.
--     check codec w bytes      the first cause in one family of width w, or what is behind it
--     check_pair codec v w bytes      the same of two families with nothing behind them
--     check_body, check_records, check_record, check_values      its parts: behind the head; all records; one record; the values
--     is_too_deep w depth bits      a node, or a key of it, is longer than w, or a data bit stands for no key
--     first_word, read_record, read_records, pieces      numbers, records and values from bytes
--     marked places bits      the places whose bits are set
--     refuse_if, ◌>>=◌      a test;  one test after another
--     check_alone codec w bytes      the first cause in one family with nothing behind it
use Rattle.std.specs.Prelude.{ℕ, zero, suc, ◌+◌, ◌*◌, ◌^◌, ◌==◌, ◌&&◌, ◌||◌, not, nat_lt, nat_le, Bool, true, false, cond, List, [], ◌∷◌, ◌++◌, length, take, drop, replicate, Result, Ok, Err}
use Rattle.std.specs.List.{list_any}
use Rattle.std.specs.Int.{w32, from_le_bytes}
use Rattle.prefix_model.specs.declared.Cause.{Cause}
use Rattle.prefix_model.specs.declared.Cause.TheVariants.{Truncated, TrailingBytes, InvalidValue, MissingRootNode, NodeListTooLong, NodeListTooShort, NodeListInconsistent, DataListInconsistent, DataListTooShort, DataListTooLong, ContainsEmptyNode, DepthExceedsPrefixRepr}
use Rattle.prefix_model.specs.Keys.{KeyBits}
use Rattle.prefix_model.specs.Positions.{NodeRecord, data_places, bits_of, bits_set}
use Rattle.prefix_model.specs.Spelling.{Codec}

-- what was found is handed on, and a refusal ends the check
infixl 10 ◌>>=◌
abbrev pub ◌>>=◌ : {A B : Type 0} → Result A Cause → (A → Result B Cause) → Result B Cause
(Ok x) >>= f = f x
(Err e) >>= f = Err e

-- a test that must fail
abbrev pub refuse_if : Bool → Cause → Result (Unit {0}) Cause
refuse_if true e = Err e
refuse_if false e = Ok tt

-- the number of the first four bytes
unfoldable pub first_word : List ℕ → ℕ
first_word bytes = from_le_bytes w32 (take 4 bytes)

-- ---- records

-- the places whose bits are set
abbrev pub marked : List KeyBits → List Bool → List KeyBits
marked [] bs = []
marked (p ∷ ps) [] = []
marked (p ∷ ps) (b ∷ bs) = cond b (p ∷ marked ps bs) (marked ps bs)

-- the node with these data bits is deeper than w, or one of them stands for a key that is longer than w, or for none
unfoldable pub is_too_deep : ℕ → ℕ → ℕ → Bool
is_too_deep w depth bits = nat_lt w depth || (list_any (λ s. nat_lt w (depth + length s)) (marked data_places (bits_of 31 bits)) || nat_le (2 ^ 31) bits)

-- The record of a node at this depth, where a data bits and b - 1 child bits are set in the records before; `later` tells that there are such.
-- The root alone may be empty.
abbrev pub check_record : ℕ → Bool → ℕ → ℕ → ℕ → NodeRecord → Result (Unit {0}) Cause
check_record w later depth a b r = do
  _ ← refuse_if (later && (r.data_bits == 0 && r.child_bits == 0)) ContainsEmptyNode
  _ ← refuse_if (is_too_deep w depth r.data_bits) DepthExceedsPrefixRepr
  _ ← refuse_if (not (r.data_index == a)) DataListInconsistent
  refuse_if (not (r.child_index == b)) NodeListInconsistent

-- The records that follow, in order. The list before a and b has the depths of the nodes that are known and whose records are still to come:
-- the root is known at first, and each child bit makes one more node known, five deeper than its record. Where a record is left over, no child bit counts it.
-- The number of all data bits, where there is no cause.
abbrev pub check_records : ℕ → Bool → List ℕ → ℕ → ℕ → List NodeRecord → Result ℕ Cause
check_records w later [] a b [] = Ok a
check_records w later (d ∷ ds) a b [] = Err NodeListTooShort
check_records w later [] a b (r ∷ rs) = Err NodeListTooLong
check_records w later (d ∷ ds) a b (r ∷ rs) = do
  _ ← check_record w later d a b r
  check_records w true (ds ++ replicate (bits_set r.child_bits) (d + 5)) (a + bits_set r.data_bits) (b + bits_set r.child_bits) rs

-- four words are a record
abbrev pub read_record : List ℕ → NodeRecord
read_record bytes = record { data_bits = first_word bytes; child_bits = first_word (drop 4 bytes); data_index = first_word (drop 8 bytes); child_index = first_word (drop 12 bytes) }

-- n records from the front
abbrev pub read_records : ℕ → List ℕ → List NodeRecord
read_records zero bytes = []
read_records (suc n) bytes = read_record bytes ∷ read_records n (drop 16 bytes)

-- ---- one family

-- n pieces of `size` bytes from the front
abbrev pub pieces : ℕ → ℕ → List ℕ → List (List ℕ)
pieces size zero bytes = []
pieces size (suc n) bytes = take size bytes ∷ pieces size n (drop size bytes)

module _ {V : Type 0} (codec : Codec V) where
  -- the values behind records with `total` data bits, where the head counts `count` values, and what is behind them
  abbrev pub check_values : ℕ → ℕ → List ℕ → Result (List ℕ) Cause
  check_values total count bytes = do
    _ ← refuse_if (nat_lt count total) DataListTooShort
    _ ← refuse_if (nat_lt total count) DataListTooLong
    _ ← refuse_if (nat_lt (length bytes) (count * codec.size)) Truncated
    _ ← refuse_if (list_any (λ piece. not (codec.accepted piece)) (pieces codec.size count bytes)) InvalidValue
    Ok (drop (count * codec.size) bytes)

  -- the records and values behind a head with these two counts
  abbrev pub check_body : ℕ → ℕ → ℕ → List ℕ → Result (List ℕ) Cause
  check_body w nodes count bytes = do
    _ ← refuse_if (nodes == 0) MissingRootNode
    _ ← refuse_if (nat_lt (length bytes) (16 * nodes)) Truncated
    total ← check_records w false (0 ∷ []) 0 1 (read_records nodes bytes)
    check_values total count (drop (16 * nodes) bytes)

  -- the first cause in a family of width w, and what is behind the family where there is none
  abbrev pub check : ℕ → List ℕ → Result (List ℕ) Cause
  check w bytes = do
    _ ← refuse_if (nat_lt (length bytes) 8) Truncated
    check_body w (first_word bytes) (first_word (drop 4 bytes)) (drop 8 bytes)

  -- two families, with nothing behind them
  abbrev pub check_pair : ℕ → ℕ → List ℕ → Result (Unit {0}) Cause
  check_pair v w bytes = do
    rest ← check v bytes
    behind ← check w rest
    refuse_if (not (length behind == 0)) TrailingBytes

module _ {V : Type 0} (codec : Codec V) where
  abbrev pub check_alone : ℕ → List ℕ → Result (Unit {0}) Cause
  check_alone w bytes = do
    behind ← check codec w bytes
    refuse_if (not (length behind == 0)) TrailingBytes
