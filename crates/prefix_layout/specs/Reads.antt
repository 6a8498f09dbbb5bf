-- Words of the reader's contracts.
--     set_places bits, set_children bits      the places of a node whose data bits are set;  its children
--     with_values codec p data_bits bytes m, keys_below p child_bits      m with the values of the node at p;  the keys of its children
--     waiting_key bits x, waiting_keys bits xs, waiting_depths xs      the key of a node whose record is to come;  those of several, and their depths
use Rattle.std.specs.Prelude.{ℕ, List, ◌++◌, length, take, map}
use Rattle.std.specs.List.{zip}
use Rattle.prefix_model.specs.Keys.{KeyBits}
use Rattle.prefix_model.specs.Positions.{data_places, child_places, bits_of}
use Rattle.prefix_model.specs.Tables.{KeyMap}
use Rattle.prefix_model.specs.Building.{insert_all}
use Rattle.prefix_model.specs.Spelling.{Codec}
use Rattle.prefix_model.specs.FirstCause.{marked, pieces}
use Rattle.prefix_layout.specs.declared.read.Waiting.{Waiting}

abbrev pub set_places : ℕ → List KeyBits
set_places bits = marked data_places (bits_of 31 bits)

abbrev pub set_children : ℕ → List KeyBits
set_children bits = marked child_places (bits_of 32 bits)

-- n values from the front of the bytes
abbrev pub values_in : {V : Type 0} → Codec V → ℕ → List ℕ → List V
values_in codec n bytes = map codec.read (pieces codec.size n bytes)

-- the table with the values of the node at p, which are at the front of the bytes
abbrev pub with_values : {V : Type 0} → Codec V → KeyBits → ℕ → List ℕ → KeyMap V → KeyMap V
with_values codec p data_bits bytes m =
    let places = set_places data_bits in insert_all m (zip (map (λ s. p ++ s) places) (values_in codec (length places) bytes))

-- the keys of the node's children
abbrev pub keys_below : KeyBits → ℕ → List KeyBits
keys_below p child_bits = map (λ c. p ++ c) (set_children child_bits)

abbrev pub waiting_key : {R : Type 0} → (R → KeyBits) → Waiting R → KeyBits
waiting_key bits x = take x.depth (bits x.path)

abbrev pub waiting_keys : {R : Type 0} → (R → KeyBits) → List (Waiting R) → List KeyBits
waiting_keys bits xs = map (waiting_key bits) xs

abbrev pub waiting_depths : {R : Type 0} → List (Waiting R) → List ℕ
waiting_depths {R} xs = map (λ (x : Waiting R). x.depth) xs
