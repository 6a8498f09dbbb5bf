-- The positions of a table, at which its nodes stand, and the record of each.
-- A node serves five levels of keys: its own key and those up to four bits longer, 31 in all. The keys five bits longer are those of its 32 children.
--     positions ks, positions_in m      the positions of keys;  of a table
--     PositionSet, position_set m      a set of positions;  that of a table
--     root_alone, with_positions kept k      the empty key alone;  a set with the positions of one more key
--     data_places, child_places      what the 31 places of a node add to its key;  and its 32 children
--     data_bits stored p, child_bits is_position p      the bitmaps of the node at p
--     records stored is_position a b ps      the records of these positions, in order
use Rattle.std.specs.Prelude.{ℕ, zero, suc, ◌+◌, ◌*◌, ◌/◌, ◌%◌, ◌==◌, Bool, cond, List, [], ◌∷◌, ◌++◌, length, map, Option, is_some}
use Rattle.std.specs.Ordering.{match_ordering}
use Rattle.std.specs.List.{filter, flat_map}
use Rattle.std.specs.FinMap.{FinMap, keys, from_entries, insert, empty}
use Rattle.prefix_model.specs.Keys.{KeyBits, shorter_first, keys_of_length, prefixes}
use Rattle.prefix_model.specs.Tables.{KeyMap}

-- k in its place in a list that is in order, where it does not stand there yet
abbrev pub with_key : KeyBits → List KeyBits → List KeyBits
with_key k [] = k ∷ []
with_key k (l ∷ ls) = match_ordering (shorter_first k l) (k ∷ l ∷ ls) (l ∷ ls) (l ∷ with_key k ls)

-- the keys of a list, each once, by length and then in key order
abbrev pub in_order : List KeyBits → List KeyBits
in_order [] = []
in_order (k ∷ ks) = with_key k (in_order ks)

-- nodes stand at keys whose length is a multiple of five
abbrev pub has_node_length : KeyBits → Bool
has_node_length p = length p % 5 == 0

-- the prefixes of a key whose lengths are multiples of five
abbrev pub positions_of_key : KeyBits → List KeyBits
positions_of_key k = filter has_node_length (prefixes k)

-- the empty key and each prefix of these keys whose length is a multiple of five, by length and then in key order
abbrev pub positions : List KeyBits → List KeyBits
positions ks = in_order ([] ∷ flat_map positions_of_key ks)

abbrev pub positions_in : {V : Type 0} → KeyMap V → List KeyBits
positions_in m = positions (keys m)

abbrev pub PositionSet : Type 0
PositionSet = FinMap shorter_first (Unit {0})

abbrev pub position_set : {V : Type 0} → KeyMap V → PositionSet
position_set m = from_entries (map (λ p. (p, tt)) (positions_in m))

abbrev pub insert_positions : PositionSet → List KeyBits → PositionSet
insert_positions kept [] = kept
insert_positions kept (p ∷ ps) = insert (insert_positions kept ps) p tt

-- kept positions with the positions of this key
abbrev pub with_positions : PositionSet → KeyBits → PositionSet
with_positions kept k = insert_positions kept (positions_of_key k)

-- the root alone
abbrev pub root_alone : PositionSet
root_alone = insert empty [] tt

-- what the keys of a node add to its own, by their data bits
unfoldable pub data_places : List KeyBits
data_places = flat_map keys_of_length (0 ∷ 1 ∷ 2 ∷ 3 ∷ 4 ∷ [])

-- and what its children's keys add, by their child bits
unfoldable pub child_places : List KeyBits
child_places = keys_of_length 5

-- the number whose bit i is set where the i-th is true
abbrev pub bitmap : List Bool → ℕ
bitmap [] = 0
bitmap (b ∷ bs) = cond b 1 0 + 2 * bitmap bs

-- the low n bits of x, the lowest first
abbrev pub bits_of : ℕ → ℕ → List Bool
bits_of zero x = []
bits_of (suc n) x = (x % 2 == 1) ∷ bits_of n (x / 2)

abbrev pub count_true : List Bool → ℕ
count_true [] = 0
count_true (b ∷ bs) = cond b 1 0 + count_true bs

-- how many bits of a word are set
unfoldable pub bits_set : ℕ → ℕ
bits_set x = count_true (bits_of 32 x)

-- How many data bits are set in the records before, and one more than how many child bits are, are the data index and the child index.
pub record NodeRecord : Type 0 where
  pub data_bits : ℕ
  pub child_bits : ℕ
  pub data_index : ℕ
  pub child_index : ℕ

-- a bit for each stored key of the node at p: bit 2^l - 1 + n for the l bits with the number n
abbrev pub data_bits : {V : Type 0} → (KeyBits → Option V) → KeyBits → ℕ
data_bits stored p = bitmap (map (λ s. is_some (stored (p ++ s))) data_places)

-- a bit for each position right below p: bit n for the five bits with the number n
abbrev pub child_bits : (KeyBits → Bool) → KeyBits → ℕ
child_bits is_position p = bitmap (map (λ c. is_position (p ++ c)) child_places)

module _ {V : Type 0} (stored : KeyBits → Option V) (is_position : KeyBits → Bool) where
  -- the records of positions, where a data bits and b - 1 child bits are set in the records before
  abbrev pub records : ℕ → ℕ → List KeyBits → List NodeRecord
  records a b [] = []
  records a b (p ∷ ps) =
      record { data_bits = data_bits stored p; child_bits = child_bits is_position p; data_index = a; child_index = b }
      ∷ records (a + bits_set (data_bits stored p)) (b + bits_set (child_bits is_position p)) ps
