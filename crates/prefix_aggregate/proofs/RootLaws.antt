-- The change sets of a table, from those of the tree of its nodes.
use Rattle.std.proofs.Common.{◌≡◌, ℕ, ◌+◌, ◌-◌, ◌*◌, ◌/◌, ◌≤◌, Bool, List, [], ◌∷◌, ◌++◌, length, drop, map, reverse, refl, sym, ap, ◌∙◌, arith, append-nil, Option, Some, None}
use Rattle.std.proofs.lemmas.List.{reverse-append}
use Rattle.std.specs.List.{flat_map}
use Rattle.std.specs.FinMap as map
use Rattle.std.specs.declared.cmp.Ordering.{Ordering}
use Rattle.prefix_model.specs.Keys.{KeyBits}
use Rattle.std.proofs.Math.Seq.{drop-length}
use Rattle.prefix_model.specs.Tables.{KeyMap, Values, answer, answer_under}
use Rattle.prefix_model.specs.Building.{insert_all}
use Rattle.prefix_model.specs.LeastTable.{placed, least_table}
use Rattle.prefix_model.proofs.Building.{insert_all-placed}
use Rattle.prefix_model.specs.Candidates.{Candidates}
use Rattle.prefix_model.specs.TableViews.{TableView, HoldsPositions}
use Rattle.prefix_model.specs.Places.{answers_from}
use Rattle.prefix_aggregate.specs.ChangeSets.{ChangeLists, change_lists, mask_of, lists_of, node_positions, filled_with}
use Rattle.prefix_aggregate.specs.Lists.{at}
use Rattle.prefix_aggregate.specs.Reading.{StandsAt, node_masks, node_lists, IsPlaced}
use Rattle.prefix_aggregate.specs.Trees.{from, tree_masks, tree_lists}
use Rattle.prefix_model.proofs.Filled.{answers_of_filled}
use Rattle.prefix_aggregate.proofs.TreeLaws.{masks_of_tree, lists_of_tree}
use Rattle.prefix_aggregate.proofs.TreePositions.{in_order}
use Rattle.prefix_aggregate.proofs.PlacingLaws.{at_front}
use Rattle.prefix_aggregate.proofs.StackLaws.{reverse-cons}

stands_whole : {A : Type 0} (xs ys : List A) → xs ≡ ys → StandsAt xs 0 ys
stands_whole xs ys e = e ∙ sym (append-nil ys) ∙ ap (λ l. ys ++ l) (sym (ap (λ n. drop n xs) (let n = ap length e in let m : 0 + length ys ≡ length xs = omega (arith, n) in m) ∙ drop-length xs))

reverse-twice : {A : Type 0} (l : List A) → reverse (reverse l) ≡ l
reverse-twice [] = refl
reverse-twice (x ∷ l) = ap reverse (reverse-cons x l) ∙ reverse-append (reverse l) (x ∷ []) ∙ ap (λ k. x ∷ k) (reverse-twice l)

filled_answers : {V : Type 0} (d : Option V) (m : KeyMap V) (k : KeyBits) → answer (filled_with d m) k ≡ answer_under d (map.get m) k
filled_answers None m k = refl
filled_answers (Some d) m k = answers_of_filled m d k

module _ {T : Type 0} (cmp : T → T → Ordering) (w : ℕ) (view : TableView T) (holds : HoldsPositions view) (d v : Option T) (same_value : v ≡ d) (p : KeyBits) (root : p ≡ []) where
  f : Values T
  f = answer (filled_with d view.entries)

  kept : KeyBits → Bool
  kept = map.contains_key view.kept

  room : 0 + 5 * ((w - 0) / 5) ≤ w
  room = omega arith

  answers_there : answers_from view p v ≡ from [] f
  unfolding f
  answers_there = (λ i. answers_from view (root i) (same_value i)) ∙ (λ i k. sym (filled_answers d view.entries k) i)

  masks_there : tree_masks cmp ((w - 0) / 5) (w - 0) (answers_from view p v) (from p kept) ≡ map (mask_of cmp w f) (node_positions w view.kept)
  unfolding f kept
  masks_there =
      (λ i. tree_masks cmp ((w - 0) / 5) (w - 0) (answers_there i) (from (root i) kept)) ∙ masks_of_tree cmp w f kept ((w - 0) / 5) [] room
      ∙ ap (map (mask_of cmp w f)) (in_order w view holds)

  lists_there : tree_lists cmp ((w - 0) / 5) (w - 0) (answers_from view p v) (from p kept) ≡ flat_map (lists_of cmp w f) (node_positions w view.kept)
  unfolding f kept
  lists_there =
      (λ i. tree_lists cmp ((w - 0) / 5) (w - 0) (answers_there i) (from (root i) kept)) ∙ lists_of_tree cmp w f kept ((w - 0) / 5) [] room
      ∙ ap (flat_map (lists_of cmp w f)) (in_order w view holds)

  masks_found : node_masks cmp w view p v ≡ map (mask_of cmp w (answer (filled_with d view.entries))) (node_positions w view.kept)
  unfolding f kept
  masks_found = ap (λ n. tree_masks cmp ((w - n) / 5) (w - n) (answers_from view p v) (from p kept)) (ap length root) ∙ masks_there

  lists_found : node_lists cmp w view p v ≡ flat_map (lists_of cmp w (answer (filled_with d view.entries))) (node_positions w view.kept)
  unfolding f kept
  lists_found = ap (λ n. tree_lists cmp ((w - n) / 5) (w - n) (answers_from view p v) (from p kept)) (ap length root) ∙ lists_there

  pub sets_of : (result : ChangeLists T) (masks none : List ℕ) (lists no_list : List (Candidates T)) → none ≡ [] → no_list ≡ []
      → masks ≡ none ++ reverse (node_masks cmp w view p v) → lists ≡ node_lists cmp w view p v ++ no_list
      → result.masks ≡ reverse masks → result.lists ≡ lists
      → result ≡ change_lists cmp w (answer (filled_with d view.entries)) (node_positions w view.kept)
  sets_of result masks none lists no_list en el em es rm rl =
      let ms = rm ∙ ap reverse (em ∙ ap (λ l. l ++ reverse (node_masks cmp w view p v)) en) ∙ reverse-twice (node_masks cmp w view p v) ∙ masks_found in
      let ls = rl ∙ es ∙ ap (λ l. node_lists cmp w view p v ++ l) el ∙ append-nil (node_lists cmp w view p v) ∙ lists_found in
      λ i. record { masks = ms i; lists = ls i }

  -- the second walk reads them all
  pub masks_whole : (sets : ChangeLists T) → sets ≡ change_lists cmp w (answer (filled_with d view.entries)) (node_positions w view.kept) → StandsAt sets.masks 0 (node_masks cmp w view p v)
  masks_whole sets e = stands_whole sets.masks (node_masks cmp w view p v) (ap (λ (c : ChangeLists T). c.masks) e ∙ sym masks_found)

  pub lists_whole : (sets : ChangeLists T) → sets ≡ change_lists cmp w (answer (filled_with d view.entries)) (node_positions w view.kept) → StandsAt sets.lists 0 (node_lists cmp w view p v)
  lists_whole sets e = stands_whole sets.lists (node_lists cmp w view p v) (ap (λ (c : ChangeLists T). c.lists) e ∙ sym lists_found)

  -- and places the least table
  pub least_of : (none new : KeyMap T) → none ≡ map.empty → IsPlaced cmp w view p 0 v None none new → new ≡ least_table cmp w (filled_with d view.entries)
  unfolding f kept
  least_of none new en h =
      h
      ∙ (let n : w - 0 ≡ w = omega arith in λ i. insert_all (en i) (at (root i) (placed cmp (n i) (answers_there i) None)))
      ∙ ap (insert_all map.empty) (at_front (placed cmp w f None))
      ∙ insert_all-placed cmp w (filled_with d view.entries)
