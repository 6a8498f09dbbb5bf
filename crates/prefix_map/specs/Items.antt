-- What the iterators of a map give.
--     IsItem w g p k      p is the prefix of the key k, with zero host bits
--     rest map key within inclusive      `walk_rest` of a map that may be none
--     covers_left map key from      the stored fronts of a key that have at least `from` bits, the shortest first
--     GivesFirst w g es r fs      a call gave the first of the entries es and left fs, or gave none of none
--     GivesFirstKey, GivesFirstValue      the same of its prefix, and of its value
--     GivesFirstOwned, GivesFirstOwnedValue      the same, where the value itself is given
--     Holds m key es fs      the first of the entries es stands at this key in the map, and fs are the others
use Rattle.std.specs.Prelude.{◌≡◌, ℕ, ◌≤◌, Bool, ◌&&◌, List, [], ◌∷◌, length, nat_le, take, Option, Some, None, MatchOption}
use Rattle.std.specs.Borrow.{Bor}
use Rattle.std.specs.List.{filter}
use Rattle.std.specs.FinMap.{get, entries}
use Rattle.prefix_model.specs.Keys.{KeyBits, padded}
use Rattle.prefix_model.specs.Tables.{KeyMap}
use Rattle.prefix_model.specs.Walks.{begins_with, walk_from}
use Rattle.prefix_table.specs.declared.prefixes.PrefixKey.{Ghosts}
use Rattle.prefix_map.specs.MapViews.{MapView}

-- `walk_rest` of a map that may be none
abbrev pub rest : {T : Type 0} → Option (Bor (MapView T)) → KeyBits → ℕ → Bool → List (KeyBits × T)
rest None key within inclusive = []
rest (Some m) key within inclusive = walk_from m.now.entries (take within key) key inclusive

-- the stored fronts of a key that have at least `from` bits, the shortest first
abbrev pub covers_left : {T : Type 0} → Option (Bor (MapView T)) → KeyBits → ℕ → List (KeyBits × T)
covers_left None key from = []
covers_left (Some m) key from = filter (λ e. begins_with e.0 key && nat_le from (length e.0)) (entries m.now.entries)

module _ {P : Type 0} (w : ℕ) (g : Ghosts P) where
  -- the prefix of this key, with zero host bits
  pub record IsItem (p : P) (k : KeyBits) : Type 0 where
    pub key_is : g.key p ≡ k
    pub length_is : g.prefix_len p ≡ length k
    pub fits : g.prefix_len p ≤ w
    pub bits_are : g.bits p ≡ padded w k

  module _ {T : Type 0} where
    abbrev pub GivesFirst : List (KeyBits × T) → Option (P × Bor T) → List (KeyBits × T) → Type 0
    GivesFirst es r fs = MatchOption r ((es ≡ []) × (fs ≡ [])) (λ item. (es ≡ (g.key item.0, item.1.now) ∷ fs) × IsItem item.0 (g.key item.0))

    abbrev pub GivesFirstOwned : List (KeyBits × T) → Option (P × T) → List (KeyBits × T) → Type 0
    GivesFirstOwned es r fs = MatchOption r ((es ≡ []) × (fs ≡ [])) (λ item. (es ≡ (g.key item.0, item.1) ∷ fs) × IsItem item.0 (g.key item.0))

    abbrev pub GivesFirstKey : List (KeyBits × T) → Option P → List (KeyBits × T) → Type 0
    GivesFirstKey es r fs = MatchOption r ((es ≡ []) × (fs ≡ [])) (λ p. (v : T) × (es ≡ (g.key p, v) ∷ fs) × IsItem p (g.key p))

module _ {T : Type 0} where
  abbrev pub GivesFirstValue : List (KeyBits × T) → Option (Bor T) → List (KeyBits × T) → Type 0
  GivesFirstValue es r fs = MatchOption r ((es ≡ []) × (fs ≡ [])) (λ v. (k : KeyBits) × (es ≡ (k, v.now) ∷ fs))

  abbrev pub GivesFirstOwnedValue : List (KeyBits × T) → Option T → List (KeyBits × T) → Type 0
  GivesFirstOwnedValue es r fs = MatchOption r ((es ≡ []) × (fs ≡ [])) (λ v. (k : KeyBits) × (es ≡ (k, v) ∷ fs))

  -- the first of the entries es stands at this key in the map, and fs are the others
  pub record Holds (m : KeyMap T) (key : KeyBits) (es fs : List (KeyBits × T)) : Type 0 where
    pub value : T
    pub first : es ≡ (key, value) ∷ fs
    pub stored : get m key ≡ Some value
