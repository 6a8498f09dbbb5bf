-- An archive in place: what its bytes tell, and the way down by the numbers of its nodes.
--     is_position m p      whether a node stands at p
--     table_records m, table_values m      the records of a table by position;  its values by position and then by data bit
--     bits_below n x      how many of the n lowest bits of x are set
--     IsRecordOf m p r      r is the record of the node at p, and tells the numbers of its values and children
--     LeadsDown V      the record of number i is that of the node at the i-th position
--     ValueIn codec bytes, ValuesIn codec n bytes      the value that bytes spell;  the n values, one behind the other
--     TableIn codec w rs vs      the table with these records and values
--     records_in bytes      the records that bytes are
-- Bytes tell one value, and records and values one table: `ValueIn`, `ValuesIn` and `TableIn` have at most one value each.
use Rattle.std.specs.Prelude.{◌≡◌, ℕ, ◌+◌, ◌/◌, Bool, true, List, ◌++◌, Some, length, slice_get}
use Rattle.std.specs.List.{flat_map, filter_map, AllByRecursion}
use Rattle.std.specs.FinMap.{get}
use Rattle.prefix_model.specs.Keys.{KeyBits, stands_in}
use Rattle.prefix_model.specs.Tables.{KeyMap}
use Rattle.prefix_model.specs.Positions.{NodeRecord, positions_in, records, data_places, child_places, data_bits, child_bits, bits_of, count_true}
use Rattle.prefix_model.specs.Spelling.{Codec, HasSpelling, Spells, spelling}
use Rattle.prefix_model.specs.FirstCause.{read_records}

abbrev pub bits_below : ℕ → ℕ → ℕ
bits_below n x = count_true (bits_of n x)

module _ {V : Type 0} where
  unfoldable pub is_position : KeyMap V → KeyBits → Bool
  is_position m = stands_in (positions_in m)

  unfoldable pub table_records : KeyMap V → List NodeRecord
  table_records m = records (get m) (is_position m) 0 1 (positions_in m)

  unfoldable pub table_values : KeyMap V → List V
  table_values m = flat_map (λ p. filter_map (λ s. get m (p ++ s)) data_places) (positions_in m)

  -- Its value at data bit b has the number of the data index and the count of data bits below b,
  -- and its child at slot c that of the child index and the count of child bits below c.
  pub record IsRecordOf (m : KeyMap V) (p : KeyBits) (r : NodeRecord) : Type 0 where
    pub data_bits_are : r.data_bits ≡ data_bits (get m) p
    pub child_bits_are : r.child_bits ≡ child_bits (is_position m) p
    pub value : (b : ℕ) (s : KeyBits) (v : V) → slice_get data_places b ≡ Some s → get m (p ++ s) ≡ Some v → slice_get (table_values m) (r.data_index + bits_below b r.data_bits) ≡ Some v
    pub child : (c : ℕ) (s : KeyBits) → slice_get child_places c ≡ Some s → is_position m (p ++ s) ≡ true → slice_get (positions_in m) (r.child_index + bits_below c r.child_bits) ≡ Some (p ++ s)

-- each position has a record, of the same number, that is its node's
abbrev pub LeadsDown : Type 0 → Type 0
LeadsDown V = (m : KeyMap V) (i : ℕ) (p : KeyBits) → slice_get (positions_in m) i ≡ Some p → (r : NodeRecord) × (slice_get (table_records m) i ≡ Some r) × IsRecordOf m p r

module _ {V : Type 0} (codec : Codec V) where
  pub record ValueIn (bytes : List ℕ) : Type 0 where
    pub value : V
    pub spelled : HasSpelling codec value
    pub same : bytes ≡ codec.spell value

  pub record ValuesIn (count : ℕ) (bytes : List ℕ) : Type 0 where
    pub items : List V
    pub count_is : length items ≡ count
    pub spelled : AllByRecursion (HasSpelling codec) items
    pub same : bytes ≡ flat_map codec.spell items

  pub record TableIn (w : ℕ) (rs : List NodeRecord) (vs : List V) : Type 0 where
    pub entries : KeyMap V
    pub spelled : Spells codec w (spelling codec entries) entries
    pub records_are : rs ≡ table_records entries
    pub values_are : vs ≡ table_values entries

-- sixteen bytes are a record
unfoldable pub records_in : List ℕ → List NodeRecord
records_in bytes = read_records (length bytes / 16) bytes
