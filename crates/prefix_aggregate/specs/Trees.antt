-- The change sets of the nodes at and below a position, by recursion from node to node.
--     tree_masks, tree_lists cmp l n f kept      those of a node with n bits to go and at most l levels of nodes below it, where f has the answers by what follows its position, and kept tells which positions below it are kept
--     tree_positions l kept p      the positions of these nodes, in key order
--     given vs part      the one value of a part, or none
--     IsGiven vs part      a part with at most one value
use Rattle.std.specs.Prelude.{ℕ, zero, suc, ◌-◌, ◌+◌, ◌≤◌, Bool, cond, List, [], ◌∷◌, ◌++◌, length, Option}
use Rattle.std.specs.List.{flat_map}
use Rattle.std.specs.Borrow.{Bor}
use Rattle.std.specs.declared.cmp.Ordering.{Ordering}
use Rattle.prefix_model.specs.Keys.{KeyBits}
use Rattle.prefix_model.specs.Tables.{Values}
use Rattle.prefix_model.specs.Positions.{child_places}
use Rattle.prefix_model.specs.Candidates.{Candidates, least}
use Rattle.prefix_aggregate.specs.Parts.{values_of}
use Rattle.prefix_aggregate.specs.ChangeSets.{mask_of, lists_of}
use Rattle.prefix_aggregate.specs.declared.parts.Part.{Part}

-- what f tells of the keys that go on from s
abbrev pub from : {V : Type 0} → KeyBits → (KeyBits → V) → KeyBits → V
from s f k = f (s ++ k)

module _ {V : Type 0} (cmp : V → V → Ordering) where
  abbrev pub tree_masks : ℕ → ℕ → Values V → (KeyBits → Bool) → List ℕ
  tree_masks zero n f kept = mask_of cmp n f [] ∷ []
  tree_masks (suc l) n f kept = mask_of cmp n f [] ∷ flat_map (λ c. cond (kept c) (tree_masks l (n - 5) (from c f) (from c kept)) []) child_places

  abbrev pub tree_lists : ℕ → ℕ → Values V → (KeyBits → Bool) → List (Candidates V)
  tree_lists zero n f kept = lists_of cmp n f []
  tree_lists (suc l) n f kept = lists_of cmp n f [] ++ flat_map (λ c. cond (kept c) (tree_lists l (n - 5) (from c f) (from c kept)) []) child_places

module _ {T : Type 0} where
  abbrev pub given : List (Bor T) → Part → Option T
  given vs part = least (values_of vs part)

  pub record IsGiven (vs : List (Bor T)) (part : Part) : Type 0 where
    pub within : part.start + part.len ≤ length vs
    pub single : part.len ≤ 1

-- the position p and the kept ones below it, at most l levels down, in key order
abbrev pub tree_positions : ℕ → (KeyBits → Bool) → KeyBits → List KeyBits
tree_positions zero kept p = p ∷ []
tree_positions (suc l) kept p = p ∷ flat_map (λ c. cond (kept (p ++ c)) (tree_positions l kept (p ++ c)) []) child_places
