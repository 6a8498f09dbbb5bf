-- How a table is written.
--     TellsBelow f p b      whether a key that begins with p is stored
--     positions_from view n p      the positions of the entries at p and below it
--     is_written view p, is_kept view p      whether p is the position of an entry, or a kept one;  kept_positions view      all kept ones, in order
--     children_where test p      the children of p that pass a test
--     IsPlaced view test n, IsQueue view test ps ns      a node with the children that pass a test;  such nodes at these positions
--     Extends view test old new ps      such nodes at these positions behind a queue
--     is_filled n, filled_bits bs ns      whether a bit of a node is set;  of bits that name nodes, those of the filled ones
--     node_values codec f p      the bytes of the values of a node
--     StartsWith old new, Appends old new bytes result      what is written behind old, where memory may end within
use Rattle.std.specs.Prelude.{◌≡◌, ℕ, zero, suc, ◌+◌, ◌^◌, ◌==◌, ◌&&◌, not, cond, Bool, List, [], ◌∷◌, ◌++◌, map, Option, None, IsSome, Result, MatchBool, MatchResult}
use Rattle.std.specs.List.{AllByRecursion, flat_map, filter, filter_map}
use Rattle.std.specs.FinMap as map
use Rattle.prefix_model.specs.Keys.{KeyBits, stands_in}
use Rattle.prefix_model.specs.Positions.{positions, positions_in, data_bits, child_bits, data_places, child_places}
use Rattle.prefix_model.specs.Reading.{positions_below}
use Rattle.prefix_model.specs.Spelling.{Codec}
use Rattle.prefix_model.specs.TableViews.{TableView, position_at}
use Rattle.prefix_layout.specs.declared.write.Placed.{Placed}

abbrev pub TellsBelow : {V : Type 0} → (KeyBits → Option V) → KeyBits → Bool → Type 0
TellsBelow f p b = MatchBool b ((s : KeyBits) × IsSome (f (p ++ s))) ((s : KeyBits) → f (p ++ s) ≡ None)

module _ {V : Type 0} (view : TableView V) where
  abbrev pub is_written : KeyBits → Bool
  is_written = stands_in (positions_in view.entries)

  -- the positions of the entries at p and below it, in n levels of nodes, each before those below it
  unfoldable pub positions_from : ℕ → KeyBits → List KeyBits
  positions_from zero p = []
  positions_from (suc n) p = p ∷ flat_map (positions_from n) (positions_below (map.keys view.entries) p)

  abbrev pub is_kept : KeyBits → Bool
  is_kept = map.contains_key view.kept

  -- the kept positions, each before those below it
  abbrev pub kept_positions : List KeyBits
  kept_positions = positions (map.keys view.kept)

  abbrev pub positions_of_nodes : List Placed → List KeyBits
  positions_of_nodes ns = map (λ (n : Placed). position_at view n.at) ns

  module _ (test : KeyBits → Bool) where
    -- a node with the bits of the children that pass a test
    pub record IsPlaced (n : Placed) : Type 0 where
      pub named : IsSome (map.get view.places n.at)
      pub data_is : n.data_bits ≡ data_bits (map.get view.entries) (position_at view n.at)
      pub children : n.child_bits ≡ child_bits test (position_at view n.at)

    -- such nodes at these positions
    pub record IsQueue (ps : List KeyBits) (ns : List Placed) : Type 0 where
      pub all : positions_of_nodes ns ≡ ps
      pub each : AllByRecursion IsPlaced ns

    -- such nodes at these positions have come to the end of a queue
    pub record Extends (old new : List Placed) (ps : List KeyBits) : Type 0 where
      pub added : List Placed
      pub same : new ≡ old ++ added
      pub is : IsQueue ps added

-- the children of p that pass a test, in order
abbrev pub children_where : (KeyBits → Bool) → KeyBits → List KeyBits
children_where test p = filter test (map (λ c. p ++ c) child_places)

abbrev pub is_filled : Placed → Bool
is_filled n = not (n.data_bits == 0 && n.child_bits == 0)

-- of the set bits bs, which name these nodes in order, those of the nodes that are filled
abbrev pub filled_bits : List ℕ → List Placed → ℕ
filled_bits [] ns = 0
filled_bits (b ∷ bs) [] = 0
filled_bits (b ∷ bs) (n ∷ ns) = cond (is_filled n) (2 ^ b) 0 + filled_bits bs ns

-- the spellings of the values of the node at p
abbrev pub node_values : {V : Type 0} → Codec V → (KeyBits → Option V) → KeyBits → List ℕ
node_values codec f p = flat_map codec.spell (filter_map (λ s. f (p ++ s)) data_places)

pub record StartsWith (old new : List ℕ) : Type 0 where
  pub tail : List ℕ
  pub same : new ≡ old ++ tail

abbrev pub Appends : {X E : Type 0} → List ℕ → List ℕ → List ℕ → Result X E → Type 0
Appends old new bytes result = MatchResult result (λ _. new ≡ old ++ bytes) (λ _. StartsWith old new)
