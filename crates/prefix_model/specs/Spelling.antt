-- The bytes that spell a table, and a pair of tables. A word is four bytes, the least significant first.
-- A table is spelled as the count of its positions, the count of its keys, a record of four words for each position in order,
-- and the values by position and then by data bit. A pair is one after the other.
--     Codec V      how values are spelled: in how many bytes, what is accepted, and what is read
--     HasSpelling codec v, IsLawful codec      v is spelled, accepted and read again;  and what is accepted is spelled so
--     word n, record_bytes r      the bytes of a number and of a record
--     layout codec count stored is_position ps      the bytes by positions
--     spelling codec m, spelling_of codec es      the bytes of a table;  of its entries
--     Spells codec w bytes m      the bytes spell the table, whose keys have at most w bits
--     SpellsPair codec v w bytes m n      the bytes spell the pair
--     u32_codec, unit_codec, raw_codec      values of u32;  of no bytes;  that are their own spelling
use Rattle.std.specs.Prelude.{◌≡◌, ℕ, ◌^◌, ◌<◌, Bool, true, List, [], ◌++◌, length, map, get_or, Option, IfSome}
use Rattle.std.specs.List.{flat_map, filter_map}
use Rattle.std.specs.Int.{Width, w32, byte_len, to_le_bytes, from_le_bytes}
use Rattle.std.specs.FinMap.{get, entries, find}
use Rattle.prefix_model.specs.Keys.{KeyBits, key_cmp, stands_in}
use Rattle.prefix_model.specs.Tables.{KeyMap, HasWidth}
use Rattle.prefix_model.specs.Positions.{positions, positions_in, data_places, NodeRecord, records}

-- each number is below 256
abbrev pub IsBytes : List ℕ → Type 0
IsBytes bytes = (i : ℕ) → get_or bytes i 0 < 256

-- How values are spelled: each in `size` bytes. Bytes as many that are accepted can be read.
pub record Codec (V : Type 0) : Type 0 where
  pub size : ℕ
  pub spell : V → List ℕ
  pub accepted : List ℕ → Bool
  pub read : List ℕ → V

-- the value is spelled in `size` bytes, which are accepted and from which it is read again
pub record HasSpelling {V : Type 0} (codec : Codec V) (v : V) : Type 0 where
  pub len : length (codec.spell v) ≡ codec.size
  pub bytes : IsBytes (codec.spell v)
  pub accepted : codec.accepted (codec.spell v) ≡ true
  pub again : codec.read (codec.spell v) ≡ v

-- bytes that are accepted spell what is read from them
abbrev pub IsLawful : {V : Type 0} → Codec V → Type 0
IsLawful codec = (bytes : List ℕ) → IsBytes bytes → length bytes ≡ codec.size → codec.accepted bytes ≡ true → HasSpelling codec (codec.read bytes) × (codec.spell (codec.read bytes) ≡ bytes)

-- four bytes, the least significant first
unfoldable pub word : ℕ → List ℕ
word n = to_le_bytes w32 n

-- the four words of a record
abbrev pub record_bytes : NodeRecord → List ℕ
record_bytes r = word r.data_bits ++ (word r.child_bits ++ (word r.data_index ++ word r.child_index))

module _ {V : Type 0} (codec : Codec V) where
  -- the two counts, a record for each position, and the values by position and then by data bit
  abbrev pub layout : ℕ → (KeyBits → Option V) → (KeyBits → Bool) → List KeyBits → List ℕ
  layout count stored is_position ps =
      word (length ps)
      ++ (word count
      ++ (flat_map record_bytes (records stored is_position 0 1 ps)
      ++ flat_map (λ p. flat_map codec.spell (filter_map (λ s. stored (p ++ s)) data_places)) ps))

  -- the layout of a table with these entries in key order
  abbrev pub spelling_of : List (KeyBits × V) → List ℕ
  spelling_of es = let ps = positions (map (λ e. e.0) es) in layout (length es) (λ k. find key_cmp k es) (stands_in ps) ps

  abbrev pub spelling : KeyMap V → List ℕ
  spelling m = spelling_of (entries m)

  -- Both counts fit in a word, and each value has a spelling. Under a codec that is lawful each value that is read has one.
  pub record Spells (w : ℕ) (bytes : List ℕ) (m : KeyMap V) : Type 0 where
    pub width : HasWidth w m
    pub positions_fit : length (positions_in m) < 2 ^ 32
    pub entries_fit : length (entries m) < 2 ^ 32
    pub values : (k : KeyBits) → IfSome (get m k) (HasSpelling codec)
    pub same : bytes ≡ spelling m

  -- the bytes are two pieces, of which the first spells the one table and the second the other
  pub record SpellsPair (v w : ℕ) (bytes : List ℕ) (first second : KeyMap V) : Type 0 where
    pub front : List ℕ
    pub rest : List ℕ
    pub first_spelled : Spells v front first
    pub second_spelled : Spells w rest second
    pub joined : bytes ≡ front ++ rest

-- numbers of a width, the least significant byte first; all bytes are accepted
abbrev pub number_codec : Width → Codec ℕ
number_codec w = record { size = byte_len w; spell = to_le_bytes w; accepted = λ bytes. true; read = from_le_bytes w }

abbrev pub u32_codec : Codec ℕ
u32_codec = number_codec w32

-- values of no bytes
abbrev pub unit_codec : Codec (Unit {0})
unit_codec = record { size = 0; spell = λ _. []; accepted = λ bytes. true; read = λ bytes. tt }

-- values that are their own spelling, in as many bytes, where a test accepts them
abbrev pub raw_codec : ℕ → (List ℕ → Bool) → Codec (List ℕ)
raw_codec size accepted = record { size = size; spell = λ v. v; accepted = accepted; read = λ bytes. bytes }
