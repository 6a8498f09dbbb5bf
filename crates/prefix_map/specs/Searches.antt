-- Searches for the first entry in key order.
--     entry_from bits n found      a found entry, by the bits of its key behind the first n
--     IsFound, IsPosition      what holds of a found entry, and of the place of a walk
use Rattle.std.specs.Prelude.{◌≡◌, ℕ, ◌-◌, ◌≤◌, false, List, [], ◌∷◌, take, drop, replicate, Option, MatchOption}
use Rattle.prefix_model.specs.Keys.{KeyBits}
use Rattle.prefix_model.specs.Tables.{KeyMap}
use Rattle.prefix_model.specs.Walks.{walk_from}
use Rattle.prefix_map.specs.declared.search.Found.{Found}
use Rattle.prefix_map.specs.declared.search.Position.{Position}

module _ {R T : Type 0} (bits : R → KeyBits) where
  abbrev pub found_key : Found R T → KeyBits
  found_key found = take found.len (bits found.key)

  abbrev pub entry_from : ℕ → Found R T → KeyBits × T
  entry_from n found = (drop n (found_key found), found.value.now)

  -- its key begins with the first n bits of `key`, and zeros follow it
  pub record IsFound (width n : ℕ) (key : KeyBits) (found : Found R T) : Type 0 where
    pub least : n ≤ found.len
    pub fits : found.len ≤ width
    pub front : take n (bits found.key) ≡ take n key
    pub zeros : drop found.len (bits found.key) ≡ replicate (width - found.len) false

module _ {R : Type 0} where
  pub record IsPosition (width : ℕ) (p : Position R) : Type 0 where
    pub within : p.within ≤ p.len
    pub fits : p.len ≤ width

  module _ (bits : R → KeyBits) where
    -- all keys of the walk begin with these bits
    abbrev pub walked_from : Position R → KeyBits
    walked_from p = take p.within (bits p.key)

    -- and come from this key
    abbrev pub position_key : Position R → KeyBits
    position_key p = take p.len (bits p.key)

    -- the entries of the walk from its place on
    abbrev pub rest_of : {T : Type 0} → KeyMap T → Position R → List (KeyBits × T)
    rest_of m p = walk_from m (walked_from p) (position_key p) p.inclusive

    -- a step gave the first of the rest and left the others, or gave none where nothing was left
    abbrev pub Steps : {T : Type 0} → KeyMap T → Position R → Option (Found R T) → Position R → Type 0
    Steps m p r q = MatchOption r ((rest_of m p ≡ []) × (rest_of m q ≡ [])) (λ found. rest_of m p ≡ entry_from bits 0 found ∷ rest_of m q)

  -- the walk stands at the found entry
  pub record IsAt {T : Type 0} (found : Found R T) (p : Position R) : Type 0 where
    pub key : p.key ≡ found.key
    pub len : p.len ≡ found.len
    pub passed : p.inclusive ≡ false
