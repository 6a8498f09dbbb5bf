-- Whether candidates are the same, by the order of values.
--     same_list cmp a b      the lists have as many values, and they tie one by one
--     same_candidates cmp c d      both are holes, or lists that are the same
use Rattle.std.specs.Prelude.{◌&&◌, Bool, true, false, List, [], ◌∷◌, Some, None}
use Rattle.std.specs.Ordering.{eq_by_cmp}
use Rattle.std.specs.declared.cmp.Ordering.{Ordering}
use Rattle.prefix_model.specs.Candidates.{Candidates}

module _ {V : Type 0} (cmp : V → V → Ordering) where
  abbrev pub same_list : List V → List V → Bool
  same_list [] [] = true
  same_list [] (y ∷ b) = false
  same_list (x ∷ a) [] = false
  same_list (x ∷ a) (y ∷ b) = eq_by_cmp cmp x y && same_list a b

  abbrev pub same_candidates : Candidates V → Candidates V → Bool
  same_candidates None None = true
  same_candidates None (Some b) = false
  same_candidates (Some a) None = false
  same_candidates (Some a) (Some b) = same_list a b
