-- The values of nodes in one list, and back.
use Rattle.std.proofs.Common.{◌≡◌, ◌+◌, ◌≤◌, Bool, true, false, List, [], ◌∷◌, ◌++◌, length, map, refl, sym, ap, ◌∙◌, arith, Option, Some, None}
use Rattle.std.specs.Prelude.{is_some}
use Rattle.std.specs.List.{flat_map, filter_map}
use Rattle.std.proofs.lemmas.List.{nil_from_length}
use Rattle.prefix_model.specs.Positions.{count_true}
use Rattle.prefix_model.proofs.Archive.Tries.{Node, Shape, shape}
use Rattle.prefix_model.proofs.Archive.Scan.{marks_in}

module _ {V : Type 0} where
  -- a value for each mark that is set
  abbrev pub fill : List Bool → List V → List (Option V)
  fill [] vs = []
  fill (false ∷ bs) vs = None ∷ fill bs vs
  fill (true ∷ bs) [] = None ∷ fill bs []
  fill (true ∷ bs) (v ∷ vs) = Some v ∷ fill bs vs

  -- and what is left
  abbrev pub behind : List Bool → List V → List V
  behind [] vs = vs
  behind (false ∷ bs) vs = behind bs vs
  behind (true ∷ bs) [] = []
  behind (true ∷ bs) (v ∷ vs) = behind bs vs

  -- the values of a list that are there
  abbrev pub somes : List (Option V) → List V
  somes os = filter_map (λ o. o) os

  -- nodes of these shapes, with these values in order
  abbrev pub nodes_from : List Shape → List V → List (Node V)
  nodes_from [] vs = []
  nodes_from (s ∷ ss) vs = record { values = fill s.marks vs; kids = s.kids } ∷ nodes_from ss (behind s.marks vs)

  -- the values of nodes, in order
  abbrev pub all_values : List (Node V) → List V
  all_values nds = flat_map (λ (nd : Node V). somes nd.values) nds

  fill_marks : (bs : List Bool) (vs : List V) → count_true bs ≤ length vs → map is_some (fill bs vs) ≡ bs
  fill_marks [] vs h = refl
  fill_marks (false ∷ bs) vs h = ap (λ r. false ∷ r) (fill_marks bs vs (omega arith))
  fill_marks (true ∷ bs) [] h = absurd (omega arith)
  fill_marks (true ∷ bs) (v ∷ vs) h = ap (λ r. true ∷ r) (fill_marks bs vs (omega arith))

  fill_somes : (bs : List Bool) (vs : List V) → count_true bs ≤ length vs → somes (fill bs vs) ++ behind bs vs ≡ vs
  fill_somes [] vs h = refl
  fill_somes (false ∷ bs) vs h = fill_somes bs vs (omega arith)
  fill_somes (true ∷ bs) [] h = absurd (omega arith)
  fill_somes (true ∷ bs) (v ∷ vs) h = ap (λ r. v ∷ r) (fill_somes bs vs (omega arith))

  -- what stands behind the values of a node
  pub length-behind : (bs : List Bool) (vs : List V) → count_true bs ≤ length vs → count_true bs + length (behind bs vs) ≡ length vs
  length-behind [] vs h = omega arith
  length-behind (false ∷ bs) vs h = let ih = length-behind bs vs (omega arith) in omega arith
  length-behind (true ∷ bs) [] h = absurd (omega arith)
  length-behind (true ∷ bs) (v ∷ vs) h = let ih = length-behind bs vs (omega arith) in omega arith

  -- nodes with values have the shapes that they are made of
  pub nodes_shapes : (ss : List Shape) (vs : List V) → marks_in ss ≤ length vs → map shape (nodes_from ss vs) ≡ ss
  nodes_shapes [] vs h = refl
  nodes_shapes (s ∷ ss) vs h =
      let len = length-behind s.marks vs (omega arith) in
      let ih = nodes_shapes ss (behind s.marks vs) (omega arith) in
      λ i. record { marks = fill_marks s.marks vs (omega arith) i; kids = s.kids } ∷ ih i

  -- and the values
  pub nodes_values : (ss : List Shape) (vs : List V) → marks_in ss ≡ length vs → all_values (nodes_from ss vs) ≡ vs
  nodes_values [] vs h = sym (nil_from_length vs (sym h))
  nodes_values (s ∷ ss) vs h =
      let len = length-behind s.marks vs (omega arith) in
      let ih = nodes_values ss (behind s.marks vs) (omega arith) in
      ap (λ r. somes (fill s.marks vs) ++ r) ih ∙ fill_somes s.marks vs (omega arith)

  fill_again : (os : List (Option V)) (rest : List V) → fill (map is_some os) (somes os ++ rest) ≡ os
  fill_again [] rest = refl
  fill_again (None ∷ os) rest = ap (λ r. None ∷ r) (fill_again os rest)
  fill_again (Some v ∷ os) rest = ap (λ r. Some v ∷ r) (fill_again os rest)

  behind_again : (os : List (Option V)) (rest : List V) → behind (map is_some os) (somes os ++ rest) ≡ rest
  behind_again [] rest = refl
  behind_again (None ∷ os) rest = behind_again os rest
  behind_again (Some v ∷ os) rest = behind_again os rest

  -- nodes are made again of their shapes and values
  pub nodes_again : (nds : List (Node V)) → nodes_from (map shape nds) (all_values nds) ≡ nds
  nodes_again [] = refl
  nodes_again (nd ∷ nds) =
      λ i. record { values = fill_again nd.values (all_values nds) i; kids = nd.kids } ∷ (ap (nodes_from (map shape nds)) (behind_again nd.values (all_values nds)) ∙ nodes_again nds) i

  -- as many values as are there
  pub length-somes : (os : List (Option V)) → length (somes os) ≡ count_true (map is_some os)
  length-somes [] = refl
  length-somes (None ∷ os) = let ih = length-somes os in omega arith
  length-somes (Some v ∷ os) = let ih = length-somes os in omega arith
