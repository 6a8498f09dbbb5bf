-- A whole list is laid in cells that are not used.
use Rattle.std.specs.Prelude.{◌≡◌, ℕ, zero, suc, ◌+◌, ◌<◌, ◌≤◌, cond, List, [], ◌∷◌, ◌++◌, map, length, take, drop, slice_get, Some}
use Rattle.std.proofs.Common.{refl, sym, ap, ◌∙◌, subst, arith, inl, inr, length-append}
use Rattle.std.proofs.lemmas.Bool.{cases_lt, ne_eqb}
use Rattle.std.proofs.Math.Logic.{⊎_elim}
use Rattle.prefix_blocks.specs.Sizes.{size}
use Rattle.prefix_blocks.specs.declared.store.Cell.{Cell}
use Rattle.prefix_blocks.specs.declared.store.Cell.TheVariants.{First, Item}
use Rattle.prefix_blocks.specs.Cells.{cell, is_free, laid, listed, placed, HasTaken, AreUnused, IsLaid, HasAdded}
use Rattle.prefix_blocks.proofs.SizeLaws.{sized}
use Rattle.prefix_blocks.proofs.CellLaws.{laid_past}
use Rattle.prefix_blocks.proofs.Regions.{at_zero, IsWritten}
use Rattle.prefix_blocks.proofs.Grows.{whole, empty_none}
use Rattle.prefix_blocks.proofs.PartLaws.{has_put}

module _ {A : Type 0} where
  later_cell : (l : List A) (i : ℕ) (a : A) → slice_get l i ≡ Some a → cell (map Item l) i ≡ Item a
  later_cell [] i a e = cc
  later_cell (x ∷ l) zero a e = let same : x ≡ a = cc in ap Item same
  later_cell (x ∷ l) (suc i) a e = later_cell l i a e

  pub laid_cell : (l : List A) (i : ℕ) (a : A) → slice_get l i ≡ Some a → cell (laid l) i ≡ placed i a
  laid_cell [] i a e = cc
  laid_cell (x ∷ l) zero a e = let same : x ≡ a = cc in ap (placed 0) same
  laid_cell (x ∷ l) (suc i) a e = later_cell l i a e ∙ ap (λ b. cond b (First a) (Item a)) (sym (ne_eqb (suc i) 0 (λ z. omega arith)))

  -- the last of the first items, and those before it
  pub last_of : (l rest : List A) (i : ℕ) (a : A) → take (suc i) l ≡ rest ++ a ∷ [] → i < length l → (rest ≡ take i l) × (slice_get l i ≡ Some a)
  last_of [] rest i a e h = absurd (omega arith)
  last_of (x ∷ l) [] zero a e h = let same : x ≡ a = cc in (refl, ap Some same)
  last_of (x ∷ l) [] (suc i) a e h = let behind : take (suc i) l ≡ [] = cc in absurd (none l i behind (omega arith))
    where
      none : (l : List A) (i : ℕ) → take (suc i) l ≡ [] → i < length l → ⊥
      none [] i e h = omega arith
      none (y ∷ l) i e h = cc
  last_of (x ∷ l) (y ∷ rest) zero a e h = absurd (let n = ap length e in let m = length-append rest (a ∷ []) in omega (arith, n, m))
  last_of (x ∷ l) (y ∷ rest) (suc i) a e h =
      let first : y ≡ x = cc in
      let behind : take (suc i) l ≡ rest ++ a ∷ [] = cc in
      let r = last_of l rest i a behind (omega arith) in
      ((λ j. first j ∷ r.0 j), r.1)

  added_written : (cells new : List (Cell A)) (free : List ℕ) (n z : ℕ) (l : List A) → HasTaken cells cells free n z → z ≡ size (length l) → length l ≤ 32 → IsLaid cells new n l → IsWritten cells new n z l
  added_written cells new free n z l taken is few laid_in =
      let s = sized (length l) few in
      let fits = s.fits in
      let some = taken.region.region.some in
      record {
        len = laid_in.len;
        outside = λ j out. laid_in.outside j (⊎_elim (λ below. inl below) (λ past. inr (omega arith)) out);
        holds = λ i h. ⊎_elim
            (λ less. laid_in.holds i less)
            (λ past. laid_in.outside (n + i) (inr (omega arith)) ∙ taken.empty i h ∙ sym (laid_past l i past))
            (cases_lt i (length l));
        few = few;
        fits = omega arith;
        not_free = ap is_free (sym (at_zero cells n) ∙ taken.empty 0 some);
      }

  some_listed : (l : List A) → 0 < length l → listed l ≡ Some l
  some_listed [] h = absurd (omega arith)
  some_listed (a ∷ l) h = refl

  -- a list was laid in a block that was taken before
  pub added_has : (old cells new : List (Cell A)) (free : List ℕ) (n z : ℕ) (l : List A) → HasTaken old cells free n z → z ≡ size (length l) → 0 < length l → length l ≤ 32 → IsLaid cells new n l → HasAdded old new free n l
  added_has old cells new free n z l taken is some few laid_in =
      let here : HasTaken cells cells free n z = record { region = taken.region; empty = taken.empty; lists = λ m. refl } in
      let put = has_put cells new free n z l taken.region (added_written cells new free n z l here is few laid_in) in
      record {
        sound = put.sound;
        list = put.list ∙ some_listed l some;
        others = λ m ne. put.others m ne ∙ taken.lists m;
        fresh = sym (taken.lists n) ∙ empty_none cells n z taken.region.region.some taken.empty;
      }

  -- the same in a vector that lent its cells
  pub added_by : (old cells lent new : List (Cell A)) (free : List ℕ) (len n z : ℕ) (l : List A) → HasTaken old cells free n z → z ≡ size (length l) → 0 < length l → length l ≤ 32 → lent ≡ cells → len ≡ length cells
      → IsLaid lent new n l → HasAdded old (take len (new ++ drop (length new) cells)) free n l
  added_by old cells lent new free len n z l taken is some few same long laid_in =
      let here : IsLaid cells new n l = subst (λ (cells : List (Cell A)). IsLaid cells new n l) same laid_in in
      let kept : length new ≡ length cells = here.len in
      subst (λ last. HasAdded old last free n l) (whole len new cells (long ∙ sym kept) (sym kept)) (added_has old cells new free n z l taken is some few here)

  -- the cells of a taken block are not used
  pub taken_unused : (old cells : List (Cell A)) (free : List ℕ) (n z count : ℕ) → HasTaken old cells free n z → count ≤ z → AreUnused cells n count
  taken_unused old cells free n z count taken less i h = taken.empty i (omega arith)

  pub taken_within : (old cells : List (Cell A)) (free : List ℕ) (n z count : ℕ) → HasTaken old cells free n z → count ≤ z → n + count ≤ length cells
  taken_within old cells free n z count taken less = let w = taken.region.region.within in omega arith
