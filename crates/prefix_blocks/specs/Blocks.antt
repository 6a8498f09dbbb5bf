-- What a contract sees of a store of blocks.
--     BlocksView A      the lists by the numbers of their blocks, and how many cells can be taken before memory is needed
--     list_named lists at      the list of a block, or none
--     held_by lists at count, without lists at count      the list of so many items at a block, and the others; of no items there is none
--     with_list lists at l      with this list in a block; none where it is empty
--     with_item view at place w      with another item in a list
use Rattle.std.specs.Prelude.{ℕ, ◌==◌, cond, List, [], ◌∷◌, slice_set}
use Rattle.std.specs.Option.{unwrap_or}
use Rattle.std.proofs.Common.{refl}
use Rattle.std.specs.Ordering.{nat_cmp}
use Rattle.std.specs.FinMap as map
use Rattle.std.specs.Coded.{Coded, code_by, coded×, coded_ℕ, coded_list}

pub record BlocksView (A : Type 0) : Type 0 where
  pub lists : map.FinMap nat_cmp (List A)
  pub room : ℕ

-- a view is stored as its two parts
abbrev pub coded_blocks : {A : Type 0} → Coded A → Coded (BlocksView A)
coded_blocks {A} code =
    code_by (map.FinMap nat_cmp (List A) × ℕ) (coded× (map.code coded_ℕ (coded_list code)) coded_ℕ)
    (λ v. (v.lists, v.room)) (λ p. record { lists = p.0; room = p.1 }) (λ _. refl)

module _ {A : Type 0} where
  abbrev pub list_named : map.FinMap nat_cmp (List A) → ℕ → List A
  list_named lists at = unwrap_or (map.get lists at) []

  abbrev pub held_by : map.FinMap nat_cmp (List A) → ℕ → ℕ → List A
  held_by lists at count = cond (count == 0) [] (list_named lists at)

  abbrev pub without : map.FinMap nat_cmp (List A) → ℕ → ℕ → map.FinMap nat_cmp (List A)
  without lists at count = cond (count == 0) lists (map.remove lists at)

  abbrev pub with_list : map.FinMap nat_cmp (List A) → ℕ → List A → map.FinMap nat_cmp (List A)
  with_list lists at [] = map.remove lists at
  with_list lists at (a ∷ l) = map.insert lists at (a ∷ l)

  abbrev pub with_item : BlocksView A → ℕ → ℕ → A → BlocksView A
  with_item view at place w = record view { lists = map.insert view.lists at (slice_set (list_named view.lists at) place w) }
