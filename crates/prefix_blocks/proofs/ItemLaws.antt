-- An item of a list of the store: it is read, or another is written.
use Rattle.std.specs.Prelude.{◌≡◌, ℕ, zero, suc, ◌+◌, ◌^◌, ◌<◌, ◌≤◌, List, [], ◌∷◌, length, map, set, get_or, slice_get, Some, IsSome}
use Rattle.std.proofs.Common.{refl, sym, ap, ◌∙◌, arith, length-set}
use Rattle.std.specs.Ordering.{nat_cmp}
use Rattle.std.specs.FinMap as map_of
use Rattle.std.proofs.lemmas.Bool.{cases_eq, cases_lt}
use Rattle.std.proofs.lemmas.List.{get_or_default, get_or-set_same, get_or-set_other}
use Rattle.std.proofs.Math.Logic.{⊎_elim}
use Rattle.prefix_blocks.specs.Sizes.{size}
use Rattle.prefix_blocks.specs.declared.store.Cell.{Cell}
use Rattle.prefix_blocks.specs.declared.store.Cell.TheVariants.{First, Item, Unused}
use Rattle.prefix_blocks.specs.Blocks.{list_named, with_list}
use Rattle.prefix_blocks.specs.Cells.{cell, is_free, laid, item_of, refilled, list_at, lists_of, IsSound}
use Rattle.prefix_blocks.proofs.SizeLaws.{sized}
use Rattle.prefix_blocks.proofs.CellLaws.{list_lies, list_begins, laid_not_free}
use Rattle.prefix_blocks.proofs.Regions.{at_zero, IsWritten}
use Rattle.prefix_blocks.proofs.Grows.{some_list, taken_holds}
use Rattle.prefix_blocks.proofs.WindowLaws.{item_laid, laid_some_item}
use Rattle.prefix_blocks.proofs.PartLaws.{HasPut, has_put, taken_region}
use Rattle.prefix_blocks.proofs.ListsLaws.{named_is, lists_put}

module _ {A : Type 0} where
  -- the item at a place of the list of a block
  pub record IsPlace (cells : List (Cell A)) (at place : ℕ) (l : List A) : Type 0 where
    pub place_in : place < length l
    pub list : list_at cells at ≡ Some l
    pub within : at + place < length cells
    pub few : length cells < 2 ^ 32
    pub cell_is : cell cells (at + place) ≡ cell (laid l) place
    pub item_is : item_of (cell cells (at + place)) ≡ slice_get l place

  pub place_named : (cells : List (Cell A)) (free : List ℕ) (at place : ℕ) → IsSound cells free → place < length (list_named (lists_of cells) at) → IsPlace cells at place (list_named (lists_of cells) at)
  place_named cells free at place sound h =
      let l = list_named (lists_of cells) at in
      let named = named_is cells at in
      let list : list_at cells at ≡ Some l = some_list (list_at cells at) (length l) (omega arith) (sym (ap length named)) ∙ ap Some (sym named) in
      let taken = sound.tiled.taken at l list in
      let extent = taken.extent_is in
      let fits = (sized (length l) taken.few).fits in
      let within = (sound.tiled.within at (list_begins cells at l list)).1 in
      let same = (list_lies cells at l list).same place h in
      record {
        place_in = h;
        list = list;
        within = omega arith;
        few = sound.tiled.few;
        cell_is = same;
        item_is = ap item_of same ∙ item_laid l place;
      }

  pub named_few : (cells : List (Cell A)) (free : List ℕ) (at : ℕ) → IsSound cells free → length (list_named (lists_of cells) at) ≤ 32
  named_few cells free at sound =
      ⊎_elim (λ some. (sound.tiled.taken at _ (place_named cells free at 0 sound some).list).few) (λ none. omega arith) (cases_lt 0 (length (list_named (lists_of cells) at)))

  -- as a read shows it
  pub read_cell : (cells : List (Cell A)) (at place : ℕ) (l : List A) (x : Cell A) → IsPlace cells at place l → x ≡ get_or cells (at + place) x → x ≡ cell (laid l) place
  read_cell cells at place l x p e = e ∙ get_or_default cells (at + place) x Unused p.within ∙ p.cell_is

  pub read_some : (cells : List (Cell A)) (at place : ℕ) (l : List A) (x : Cell A) → IsPlace cells at place l → x ≡ get_or cells (at + place) x → IsSome (item_of x)
  read_some cells at place l x p e = laid_some_item l place x (read_cell cells at place l x p e) p.place_in

  pub read_item : (cells : List (Cell A)) (at place : ℕ) (l : List A) (x : Cell A) → IsPlace cells at place l → x ≡ get_or cells (at + place) x → slice_get l place ≡ item_of x
  read_item cells at place l x p e = sym (ap item_of (read_cell cells at place l x p e) ∙ item_laid l place)

  later_refilled : (l : List A) (i : ℕ) (w : A) → i < length l → map Item (set l i w) ≡ set (map Item l) i (refilled (cell (map Item l) i) w)
  later_refilled [] i w h = absurd (omega arith)
  later_refilled (a ∷ l) zero w h = refl
  later_refilled (a ∷ l) (suc i) w h = ap (λ z. Item a ∷ z) (later_refilled l i w (omega arith))

  laid_refilled : (l : List A) (i : ℕ) (w : A) → i < length l → laid (set l i w) ≡ set (laid l) i (refilled (cell (laid l) i) w)
  laid_refilled [] i w h = absurd (omega arith)
  laid_refilled (a ∷ l) zero w h = refl
  laid_refilled (a ∷ l) (suc i) w h = ap (λ z. First a ∷ z) (later_refilled l i w (omega arith))

  laid_long : (l : List A) (i : ℕ) → i < length l → i < length (laid l)
  laid_long [] i h = absurd (omega arith)
  laid_long (a ∷ l) zero h = omega arith
  laid_long (a ∷ l) (suc i) h = let r = later_long l i (omega arith) in omega arith
    where
      later_long : (l : List A) (i : ℕ) → i < length l → i < length (map Item l)
      later_long [] i h = absurd (omega arith)
      later_long (a ∷ l) zero h = omega arith
      later_long (a ∷ l) (suc i) h = let r = later_long l i (omega arith) in omega arith

  -- another item is written
  refilled_written : (cells : List (Cell A)) (free : List ℕ) (at place : ℕ) (l : List A) (x : Cell A) (w : A) → (sound : IsSound cells free) → IsPlace cells at place l
      → x ≡ get_or cells (at + place) x → IsWritten cells (set cells (at + place) (refilled x w)) at (size (length l)) (set l place w)
  refilled_written cells free at place l x w sound p e =
      let taken = sound.tiled.taken at l p.list in
      let extent = taken.extent_is in
      let fits = (sized (length l) taken.few).fits in
      let some = p.place_in in
      let same : length (set l place w) ≡ length l = length-set l place w in
      record {
        len = length-set cells (at + place) (refilled x w);
        outside = λ j out. get_or-set_other cells (at + place) j (refilled x w) Unused (λ h. ⊎_elim (λ below. omega arith) (λ past. omega arith) out);
        holds = λ i h. ⊎_elim
            (λ here. ap (λ j. cell (set cells (at + place) (refilled x w)) (at + j)) here ∙ get_or-set_same cells (at + place) (refilled x w) Unused p.within
            ∙ ap (λ y. refilled y w) (read_cell cells at place l x p e)
            ∙ sym (get_or-set_same (laid l) place (refilled (cell (laid l) place) w) Unused (laid_long l place p.place_in))
            ∙ ap (λ m. cell m place) (sym (laid_refilled l place w p.place_in)) ∙ ap (cell (laid (set l place w))) (sym here))
            (λ ne. get_or-set_other cells (at + place) (at + i) (refilled x w) Unused (λ q. ne (omega arith))
            ∙ taken_holds cells free at l sound p.list i (omega arith)
            ∙ sym (get_or-set_other (laid l) place i (refilled (cell (laid l) place) w) Unused ne)
            ∙ ap (λ m. cell m i) (sym (laid_refilled l place w p.place_in)))
            (cases_eq i place);
        few = let f = taken.few in omega arith;
        fits = let s = ap size same in omega arith;
        not_free = ap is_free (sym (at_zero cells at) ∙ (list_lies cells at l p.list).same 0 (omega arith)) ∙ laid_not_free l;
      }

  pub refilled_put : (cells : List (Cell A)) (free : List ℕ) (at place : ℕ) (l : List A) (x : Cell A) (w : A) → (sound : IsSound cells free) → IsPlace cells at place l
      → x ≡ get_or cells (at + place) x → HasPut cells (set cells (at + place) (refilled x w)) free at (set l place w)
  refilled_put cells free at place l x w sound p e =
      has_put cells (set cells (at + place) (refilled x w)) free at (size (length l)) (set l place w)
      (record { extent = sound.extent; tiled = sound.tiled; region = taken_region cells free at (length l) l sound p.list refl })
      (refilled_written cells free at place l x w sound p e)

  with_some : (lists : map_of.FinMap nat_cmp (List A)) (at : ℕ) (l : List A) → 0 < length l → with_list lists at l ≡ map_of.insert lists at l
  with_some lists at [] h = absurd (omega arith)
  with_some lists at (a ∷ l) h = refl

  pub refilled_lists : (cells : List (Cell A)) (free : List ℕ) (at place : ℕ) (l : List A) (x : Cell A) (w : A) → (sound : IsSound cells free) → IsPlace cells at place l
      → x ≡ get_or cells (at + place) x → lists_of (set cells (at + place) (refilled x w)) ≡ map_of.insert (lists_of cells) at (set l place w)
  refilled_lists cells free at place l x w sound p e =
      let put = refilled_put cells free at place l x w sound p e in
      lists_put cells (set cells (at + place) (refilled x w)) at (set l place w) put.list put.others
      ∙ with_some (lists_of cells) at (set l place w) (let s = length-set l place w in let h = p.place_in in omega arith)
