-- Places in a table with kept positions, and walks over its entries.
--     node_of p      the position of the node that p stands in
--     KeepsPositions w m kept      the kept positions of a table of this width
--     IsShown m kept p      there is something at or below p: an entry in its node, or a node below
--     own p o      the entry at p, as a list
--     walk m p, walk_from m p q inclusive      the entries that extend p, in key order;  those of them that do not stand before q
--     covers m p      the entries whose keys are fronts of p, shortest first
--     IsLongestUnder m p k r, IsShortestUnder m p k r      r is the longest stored key that extends p and is a front of k;  the shortest.
--       Of a whole table p is the empty key.
--     walk_rest m key within inclusive      what is left of a walk that stands at the key, in the entries whose keys begin with its first bits
use Rattle.std.specs.Prelude.{◌≡◌, ℕ, ◌+◌, ◌*◌, ◌/◌, ◌%◌, ◌<◌, ◌≤◌, Bool, true, List, [], ◌∷◌, ◌++◌, length, take, Option, None, Some, IsSome, MatchOption}
use Rattle.std.specs.List.{filter}
use Rattle.std.specs.FinMap.{get, contains_key, entries}
use Rattle.prefix_model.specs.Keys.{KeyBits}
use Rattle.prefix_model.specs.Tables.{KeyMap, HasWidth}
use Rattle.prefix_model.specs.Positions.{PositionSet}
pub use Rattle.prefix_model.specs.Masks.{begins_with, stands_from}

-- the position of the node that p stands in: the longest front of p whose length is a multiple of five
unfoldable pub node_of : KeyBits → KeyBits
node_of p = take (5 * (length p / 5)) p

-- The kept positions of a table: those of its entries among them, and with each the ones above it.
pub record KeepsPositions {V : Type 0} (w : ℕ) (m : KeyMap V) (kept : PositionSet) : Type 0 where
  pub width : HasWidth w m
  pub kept_width : (p : KeyBits) → contains_key kept p ≡ true → length p ≤ w
  pub lengths : (p : KeyBits) → contains_key kept p ≡ true → length p % 5 ≡ 0
  pub root : contains_key kept [] ≡ true
  pub above : (p c : KeyBits) → length c ≡ 5 → contains_key kept (p ++ c) ≡ true → contains_key kept p ≡ true
  pub stored : (p r : KeyBits) → length p % 5 ≡ 0 → IsSome (get m (p ++ r)) → contains_key kept p ≡ true

-- what a node shows at or below p: an entry of its own, or the position of a child
pub data Shows {V : Type 0} (m : KeyMap V) (kept : PositionSet) (p : KeyBits) : Type 0 where
  entry : (k : KeyBits) → begins_with p k ≡ true → IsSome (get m k) → length k < length (node_of p) + 5 → Shows m kept p
  child : (c : KeyBits) → begins_with p c ≡ true → contains_key kept c ≡ true → length c ≡ length (node_of p) + 5 → Shows m kept p

pub record IsShown {V : Type 0} (m : KeyMap V) (kept : PositionSet) (p : KeyBits) : Type 0 where
  pub node : contains_key kept (node_of p) ≡ true
  pub below : Shows m kept p

module _ {V : Type 0} where
  -- what stands at p, as a list of entries
  abbrev pub own : KeyBits → Option V → List (KeyBits × V)
  own p None = []
  own p (Some x) = (p, x) ∷ []

  -- the entries whose keys extend p, in key order
  abbrev pub walk : KeyMap V → KeyBits → List (KeyBits × V)
  walk m p = filter (λ e. begins_with p e.0) (entries m)

  -- those of them that do not stand before q, without q itself where it does not count
  abbrev pub walk_from : KeyMap V → KeyBits → KeyBits → Bool → List (KeyBits × V)
  walk_from m p q inclusive = filter (λ e. stands_from inclusive q e.0) (walk m p)

  -- the entries whose keys are fronts of p: in key order the shortest is the first
  abbrev pub covers : KeyMap V → KeyBits → List (KeyBits × V)
  covers m p = filter (λ e. begins_with e.0 p) (entries m)

  -- a stored key that extends p and is a front of k
  pub record IsMatchUnder (m : KeyMap V) (p k q : KeyBits) : Type 0 where
    pub stored : IsSome (get m q)
    pub below : begins_with p q ≡ true
    pub above : begins_with q k ≡ true

  -- r is the longest of these, and none where there is none
  abbrev pub IsLongestUnder : KeyMap V → KeyBits → KeyBits → Option KeyBits → Type 0
  IsLongestUnder m p k r =
      MatchOption r ((q : KeyBits) → IsMatchUnder m p k q → ⊥)
      (λ q. IsMatchUnder m p k q × ((j : KeyBits) → IsMatchUnder m p k j → length j ≤ length q))

  -- r is the shortest of these, and none where there is none
  abbrev pub IsShortestUnder : KeyMap V → KeyBits → KeyBits → Option KeyBits → Type 0
  IsShortestUnder m p k r =
      MatchOption r ((q : KeyBits) → IsMatchUnder m p k q → ⊥)
      (λ q. IsMatchUnder m p k q × ((j : KeyBits) → IsMatchUnder m p k j → length q ≤ length j))

-- what is left of a walk that stands at the key, in the entries whose keys begin with its first bits
abbrev pub walk_rest : {T : Type 0} → KeyMap T → KeyBits → ℕ → Bool → List (KeyBits × T)
walk_rest m key within inclusive = walk_from m (take within key) key inclusive
