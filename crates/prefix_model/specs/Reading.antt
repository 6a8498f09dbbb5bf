-- The entries of a family, as a reader meets them, and the positions, as a writer does.
--     family_entries codec bytes      the entries that stand in the records and values, in the order of the bytes
--     entries_read ps rs vs      those of records that stand at these keys and at their children
--     node_keys p r, child_keys p r      the keys of a node at p, and of its children, by its record
--     ReadsTable      the table that bytes spell has the entries that are read
--     ComesOut follow qs ps      ps comes out of the queue qs, where those that follow each go to its end
--     PositionsComeOut      the positions come out of a queue that begins with the empty key
use Rattle.std.specs.Prelude.{◌≡◌, ℕ, ◌*◌, List, [], ◌∷◌, ◌++◌, map, drop, length}
use Rattle.std.specs.List.{zip, filter}
use Rattle.std.specs.FinMap.{from_entries}
use Rattle.prefix_model.specs.Keys.{KeyBits, key_cmp, stands_in}
use Rattle.prefix_model.specs.Tables.{KeyMap}
use Rattle.prefix_model.specs.Positions.{NodeRecord, data_places, child_places, bits_of, positions}
use Rattle.prefix_model.specs.Spelling.{Codec, Spells}
use Rattle.prefix_model.specs.FirstCause.{marked, first_word, read_records, pieces}

-- the keys of a node at p, by ascending data bit, and those of its children
abbrev pub node_keys : KeyBits → NodeRecord → List KeyBits
node_keys p r = map (λ s. p ++ s) (marked data_places (bits_of 31 r.data_bits))

abbrev pub child_keys : KeyBits → NodeRecord → List KeyBits
child_keys p r = map (λ c. p ++ c) (marked child_places (bits_of 32 r.child_bits))

-- the entries of records that stand at these keys and at their children, with these values
abbrev pub entries_read : {V : Type 0} → List KeyBits → List NodeRecord → List V → List (KeyBits × V)
entries_read ps [] vs = []
entries_read [] (r ∷ rs) vs = []
entries_read (p ∷ ps) (r ∷ rs) vs = zip (node_keys p r) vs ++ entries_read (ps ++ child_keys p r) rs (drop (length (node_keys p r)) vs)

module _ {V : Type 0} (codec : Codec V) where
  -- the two counts are at the front, then the records, and then the values
  abbrev pub family_entries : List ℕ → List (KeyBits × V)
  family_entries bytes =
      entries_read ([] ∷ []) (read_records (first_word bytes) (drop 8 bytes))
      (map codec.read (pieces codec.size (first_word (drop 4 bytes)) (drop (16 * first_word bytes) (drop 8 bytes))))

  -- the table that bytes spell has the entries that are read
  abbrev pub ReadsTable : Type 0
  ReadsTable = (w : ℕ) (front rest : List ℕ) (m : KeyMap V) → Spells codec w front m → from_entries {R = key_cmp} (family_entries (front ++ rest)) ≡ m

-- what comes out of a queue of keys, where those that follow each go to its end
abbrev pub ComesOut : (KeyBits → List KeyBits) → List KeyBits → List KeyBits → Type 0
ComesOut follow [] [] = Unit {0}
ComesOut follow [] (p ∷ ps) = ⊥
ComesOut follow (q ∷ qs) [] = ⊥
ComesOut follow (q ∷ qs) (p ∷ ps) = (q ≡ p) × ComesOut follow (qs ++ follow q) ps

-- the positions right below a key, in order
abbrev pub positions_below : List KeyBits → KeyBits → List KeyBits
positions_below ks p = filter (stands_in (positions ks)) (map (λ c. p ++ c) child_places)

-- the positions come out of a queue that begins with the empty key
abbrev pub PositionsComeOut : Type 0
PositionsComeOut = (ks : List KeyBits) → ComesOut (positions_below ks) ([] ∷ []) (positions ks)
