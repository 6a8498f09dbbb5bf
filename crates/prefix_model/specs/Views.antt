-- What a view shows: a table with kept positions, and a place in it.
--     Seen V, moved v p      what a view shows;  the same table at another place
--     IsPlace w v      the place is in a kept node, and no longer than w
--     data_below v, children_below v      the bitmaps of the node, without what is not at or below the place
--     held v k      what is stored at k, where k extends the place
--     whole m kept      a whole table, seen at the empty key
--     walk_of v, keys_of v      the entries of a view, in key order;  their keys
--     HaveSameKeys u v      two views have the same keys
--     CanStep w v b, CanFind v k      there is a view one bit longer;  at k
--     IsOnWay v u k, LeadsTo v u k      u is the same table at a place on the way from v to k;  in the node of k
--     IsBelow v u      u is the same table at a place that begins with that of v
--     IsBest v k n r      r is v at its longest stored key that is a front of k and has fewer than n bits
use Rattle.std.specs.Prelude.{◌≡◌, ◌≢◌, ℕ, ◌+◌, ◌%◌, ◌<◌, ◌≤◌, ◌&&◌, Bool, true, cond, List, [], ◌∷◌, ◌++◌, length, map, Option, Some, None}
use Rattle.std.specs.FinMap.{get, contains_key}
use Rattle.prefix_model.specs.Keys.{KeyBits}
use Rattle.prefix_model.specs.Tables.{KeyMap, Values}
use Rattle.prefix_model.specs.Positions.{PositionSet, data_bits, child_bits}
use Rattle.prefix_model.specs.Walks.{begins_with, node_of, KeepsPositions, IsShown, IsMatchUnder, walk}

pub record Seen (V : Type 0) : Type 0 where
  pub entries : KeyMap V
  pub kept : PositionSet
  pub place : KeyBits

-- f at the keys that extend p, and none elsewhere
abbrev pub under : {V : Type 0} → KeyBits → Values V → Values V
under p f k = cond (begins_with p k) (f k) None

module _ {V : Type 0} where
  -- the same table, seen at p
  abbrev pub moved : Seen V → KeyBits → Seen V
  moved v p = record { entries = v.entries; kept = v.kept; place = p }

  -- a whole table, seen at the empty key
  abbrev pub whole : KeyMap V → PositionSet → Seen V
  whole m kept = record { entries = m; kept = kept; place = [] }

  -- the entries of a view, in key order
  abbrev pub walk_of : Seen V → List (KeyBits × V)
  walk_of v = walk v.entries v.place

  abbrev pub keys_of : Seen V → List KeyBits
  keys_of v = map (λ e. e.0) (walk_of v)

  -- the node that the place stands in
  abbrev pub node : Seen V → KeyBits
  node v = node_of v.place

  pub record IsPlace (w : ℕ) (v : Seen V) : Type 0 where
    pub keeps : KeepsPositions w v.entries v.kept
    pub within : length v.place ≤ w
    pub kept : contains_key v.kept (node v) ≡ true

  -- the data bits of the node that stand for keys at or below the place
  abbrev pub data_below : Seen V → ℕ
  data_below v = data_bits (under v.place (get v.entries)) (node v)

  -- and the child bits that stand for positions below it
  abbrev pub children_below : Seen V → ℕ
  children_below v = child_bits (λ c. begins_with v.place c && contains_key v.kept c) (node v)

  abbrev pub IsShownAt : Seen V → KeyBits → Type 0
  IsShownAt v p = IsShown v.entries v.kept p

  -- what is stored at k, where k extends the place
  abbrev pub held : Seen V → Values V
  held v k = under v.place (get v.entries) k

  -- The place with one more bit is no longer than w. Within the node it is shown, and across to a child that child is kept.
  pub record CanStep (w : ℕ) (v : Seen V) (b : Bool) : Type 0 where
    pub within : length v.place < w
    pub same_node : length v.place % 5 ≢ 4 → IsShownAt v (v.place ++ b ∷ [])
    pub to_child : length v.place % 5 ≡ 4 → contains_key v.kept (v.place ++ b ∷ []) ≡ true

  pub record CanFind (v : Seen V) (k : KeyBits) : Type 0 where
    pub below : begins_with v.place k ≡ true
    pub shown : IsShownAt v k

  -- u is the same table, at a place on the way from v to k
  pub record IsOnWay (v u : Seen V) (k : KeyBits) : Type 0 where
    pub entries : u.entries ≡ v.entries
    pub kept : u.kept ≡ v.kept
    pub above : begins_with u.place k ≡ true

  pub record LeadsTo (v u : Seen V) (k : KeyBits) : Type 0 where
    pub way : IsOnWay v u k
    pub near : length k < length (node u) + 5

  pub record IsBelow (v u : Seen V) : Type 0 where
    pub same : u ≡ moved v u.place
    pub below : begins_with v.place u.place ≡ true

  pub record IsBestAt (v : Seen V) (k : KeyBits) (n : ℕ) (u : Seen V) : Type 0 where
    pub same : u ≡ moved v u.place
    pub matches : IsMatchUnder v.entries v.place k u.place
    pub longest : (q : KeyBits) → IsMatchUnder v.entries v.place k q → length q < n → length q ≤ length u.place

  abbrev pub IsBest : Seen V → KeyBits → ℕ → Option (Seen V) → Type 0
  IsBest v k n None = (q : KeyBits) → IsMatchUnder v.entries v.place k q → length q < n → ⊥
  IsBest v k n (Some u) = IsBestAt v k n u

-- two views, of values that may differ, have the same keys
abbrev pub HaveSameKeys : {V W : Type 0} → Seen V → Seen W → Type 0
HaveSameKeys u v = keys_of u ≡ keys_of v
