use Rattle.std.specs.Prelude.{◌≡◌, ℕ, zero, suc, ◌+◌, ◌<◌, Bool, true, false, List, [], ◌∷◌, length, drop, get_or}
use Rattle.std.proofs.Common.{refl, sym, ap, ◌∙◌, arith, add-one}
use Rattle.std.specs.Option.{unwrap_or}
use Rattle.std.proofs.lemmas.List.{get_or_default}
use Rattle.prefix_blocks.specs.declared.store.Cell.{Cell}
use Rattle.prefix_blocks.specs.declared.store.Cell.TheVariants.{First, Item, Free, Unused}
use Rattle.prefix_blocks.specs.Cells.{cell, is_first, is_item, items_front, list_front, list_at}
use Rattle.prefix_blocks.proofs.CellLaws.{cell_past, no_list}
use Rattle.prefix_blocks.proofs.store.tests.items_at.Goals as goal

module _ {A : Type 0} where
  more : (cells : List (Cell A)) (n : ℕ) → is_item (cell cells n) ≡ true → length (items_front (drop n cells)) ≡ suc (length (items_front (drop (suc n) cells)))
  more [] n e = cc
  more (First a ∷ cs) zero e = cc
  more (Item a ∷ cs) zero e = refl
  more (Free t ∷ cs) zero e = cc
  more (Unused ∷ cs) zero e = cc
  more (c ∷ cs) (suc n) e = more cs n e

  no_more : (cells : List (Cell A)) (n : ℕ) → is_item (cell cells n) ≡ false → length (items_front (drop n cells)) ≡ 0
  no_more [] zero e = refl
  no_more [] (suc n) e = refl
  no_more (First a ∷ cs) zero e = refl
  no_more (Item a ∷ cs) zero e = cc
  no_more (Free t ∷ cs) zero e = refl
  no_more (Unused ∷ cs) zero e = refl
  no_more (c ∷ cs) (suc n) e = no_more cs n e

  counted : (cells : List (Cell A)) (n : ℕ) → is_first (cell cells n) ≡ true → length (unwrap_or (list_front (drop n cells)) []) ≡ suc (length (items_front (drop (suc n) cells)))
  counted [] n e = cc
  counted (First a ∷ cs) zero e = refl
  counted (Item a ∷ cs) zero e = cc
  counted (Free t ∷ cs) zero e = cc
  counted (Unused ∷ cs) zero e = cc
  counted (c ∷ cs) (suc n) e = counted cs n e

  counted_at : (cells : List (Cell A)) (n : ℕ) → is_first (cell cells n) ≡ true → length (unwrap_or (list_at cells n) []) ≡ suc (length (items_front (drop (n + 1) cells)))
  unfolding list_at
  counted_at cells n e = rw add-one (counted cells n e)

  more_at : (cells : List (Cell A)) (n : ℕ) → is_item (cell cells n) ≡ true → length (items_front (drop n cells)) ≡ suc (length (items_front (drop (n + 1) cells)))
  more_at cells n e = rw add-one (more cells n e)

  none_at : (cells : List (Cell A)) (n : ℕ) → is_first (cell cells n) ≡ false → 0 ≡ length (unwrap_or (list_at cells n) [])
  none_at cells n e = ap (λ o. length (unwrap_or o [])) (sym (no_list cells n e))

  seen : (cells : List (Cell A)) (n : ℕ) (x : Cell A) (f : Cell A → Bool) (r b : Bool) → n < length cells → x ≡ get_or cells n x → r ≡ f x → r ≡ b → f (cell cells n) ≡ b
  seen cells n x f r b h e is at = ap f (sym (e ∙ get_or_default cells n x Unused h)) ∙ sym is ∙ at

pub returns-then-at-cells : goal.returns-then-at-cells
returns-then-at-cells g c = none_at c.args.cells.now c.args.at (ap is_first (cell_past c.args.cells.now c.args.at c.if-at-cells.true))

pub returns-then-not-begins_list : goal.returns-then-not-begins_list
returns-then-not-begins_list g c =
    none_at c.args.cells.now c.args.at (seen c.args.cells.now c.args.at c.index-cells-at.result is_first c.begins_list.result false c.if-at-cells.false c.index-cells-at.is c.begins_list.ensures c.if-not-begins_list.true)

pub returns-then-not-goes_on : goal.returns-then-not-goes_on
returns-then-not-goes_on g c =
    let cells = c.args.cells.now in
    let first = counted_at cells c.args.at (seen cells c.args.at c.index-cells-at.result is_first c.begins_list.result true c.if-at-cells.false c.index-cells-at.is c.begins_list.ensures c.if-not-begins_list.false) in
    let none = no_more cells c.loop-end.end (seen cells c.loop-end.end c.index-cells-end.result is_item c.goes_on.result false c.loop-end-test.true c.index-cells-end.is c.goes_on.ensures c.if-not-goes_on.true) in
    let count = c.loop-end.invariant in
    omega arith

pub returns : goal.returns
returns g c =
    let cells = c.args.cells.now in
    let first = counted_at cells c.args.at (seen cells c.args.at c.index-cells-at.result is_first c.begins_list.result true c.if-at-cells.false c.index-cells-at.is c.begins_list.ensures c.if-not-begins_list.false) in
    let within = c.if-at-cells.false in
    let to = c.loop-end.auto.end-end in
    let past = c.loop-end-test.false in
    let none = no_more cells c.loop-end.end (ap is_item (cell_past cells c.loop-end.end past)) in
    let count = c.loop-end.invariant in
    omega arith
