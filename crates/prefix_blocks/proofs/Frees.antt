-- A block is freed, and a list is moved to another block.
use Rattle.std.specs.Prelude.{◌≡◌, ◌≢◌, ◌⊎◌, ℕ, zero, suc, ◌+◌, ◌^◌, ◌<◌, ◌≤◌, Bool, true, false, cond, leb, ltb, List, [], ◌∷◌, length, get_or, set, Some, None}
use Rattle.std.proofs.Common.{refl, sym, ap, ◌∙◌, subst, arith, inl, inr, length-set}
use Rattle.std.proofs.lemmas.Bool.{cases_lt, le-leb, lt-leb, lt-ltb, le-ltb}
use Rattle.std.proofs.lemmas.List.{get_or_default, get_or-set_same, get_or-set_other}
use Rattle.std.proofs.Math.Logic.{⊎_elim}
use Rattle.prefix_blocks.specs.Sizes.{size}
use Rattle.prefix_blocks.specs.declared.store.Cell.{Cell}
use Rattle.prefix_blocks.specs.declared.store.Cell.TheVariants.{First, Item, Free, Unused}
use Rattle.prefix_blocks.specs.Cells.{cell, is_first, is_free, list_at, none, IsTiled, IsRegion, HasRegion, HasRegions, Holds, IsFreed, IsMoved}
use Rattle.prefix_blocks.proofs.SizeLaws.{size_of_none}
use Rattle.prefix_blocks.proofs.CellLaws.{list_lies, list_first, list_begins, laid_past}
use Rattle.prefix_blocks.proofs.Tilings.{with_extent, Outside, Inside, side, region_kept, region_stays, block_region}
use Rattle.prefix_blocks.proofs.Regions.{at_zero, IsWritten, written_replaced, written_tiled, written_list, written_lists, IsPushed, pushed_tiled, pushed_lists, pushed_region}
use Rattle.prefix_blocks.proofs.Takes.{head_within}

-- whether a number is of a region
into : ℕ → ℕ → ℕ → Bool
into n z j = cond (leb n j) (ltb j (n + z)) false

into_yes : (n z j : ℕ) → Inside n z j → into n z j ≡ true
unfolding into
into_yes n z j at = let less = at.1 in let is = at.2 in ap (λ b. cond b (ltb j (n + z)) false) (le-leb n j (omega arith)) ∙ lt-ltb j (n + z) (omega arith)

into_no : (n z j : ℕ) → Outside n z j → into n z j ≡ false
unfolding into
into_no n z j out = ⊎_elim
    (λ below. ap (λ b. cond b (ltb j (n + z)) false) (lt-leb n j below))
    (λ past. ap (λ b. cond b (ltb j (n + z)) false) (le-leb n j (omega arith)) ∙ le-ltb j (n + z) past)
    out

module _ {A : Type 0} where
  pushed_by : (extent : ℕ → ℕ) (old : List (Cell A)) (free : List ℕ) (n k : ℕ) (x : Cell A) → IsTiled extent old free → IsRegion extent old n (2 ^ k) → k < 6 → Holds old n (2 ^ k) []
      → x ≡ Free (get_or free k 0) → IsPushed old (set old n x) free (set free k n) n k
  pushed_by extent old free n k x t r order empty is =
      let within : n < length old = (let w = r.within in let s = r.some in omega arith) in
      let short = t.heads in
      record {
        len = length-set old n x;
        here = get_or-set_same old n x Unused within ∙ is ∙ ap Free (sym (head_within free k t.heads order));
        same = λ j ne. get_or-set_other old n j x Unused ne;
        empty = empty;
        order = order;
        heads = length-set free k n ∙ t.heads;
        head_is = get_or-set_same free k n none (omega arith);
        others = λ i ne. get_or-set_other free k i n none ne;
      }

  pub freed_by : (old : List (Cell A)) (free : List ℕ) (n k : ℕ) (x : Cell A) → HasRegion old free n (2 ^ k) → k < 6 → Holds old n (2 ^ k) []
      → x ≡ Free (get_or free k 0) → IsFreed old free (set old n x) (set free k n) n (2 ^ k)
  freed_by old free n k x has order empty is =
      let p = pushed_by has.extent old free n k x has.tiled has.region order empty is in record {
        sound = record { extent = with_extent has.extent n (2 ^ k); tiled = pushed_tiled has.extent old (set old n x) free (set free k n) n k has.tiled has.region p };
        regions = λ m y two. record {
          extent = with_extent two.extent n (2 ^ k);
          tiled = pushed_tiled two.extent old (set old n x) free (set free k n) n k two.tiled two.region p;
          region = pushed_region two.extent old (set old n x) free (set free k n) n k two.tiled two.region p m y two.other two.apart;
        };
        same = p.same;
        len = p.len;
        lists = pushed_lists has.extent old (set old n x) free (set free k n) n k has.tiled has.region p;
      }

  pub first_unused : (old : List (Cell A)) (free : List ℕ) (n z : ℕ) (x : Cell A) → HasRegion old free n z → Holds old n z [] → get_or old n x ≡ Unused
  first_unused old free n z x has empty =
      let r = has.region in let w = r.within in let s = r.some in
      get_or_default old n x Unused (omega arith) ∙ sym (at_zero old n) ∙ empty 0 s

  -- some cells of one list, the others of another of the same length
  mix : (ℕ → Bool) → List (Cell A) → List (Cell A) → List (Cell A)
  mix p [] ys = []
  mix p (x ∷ xs) [] = x ∷ xs
  mix p (x ∷ xs) (y ∷ ys) = cond (p 0) y x ∷ mix (λ i. p (suc i)) xs ys

  length-mix : (p : ℕ → Bool) (xs ys : List (Cell A)) → length (mix p xs ys) ≡ length xs
  unfolding mix
  length-mix p [] ys = refl
  length-mix p (x ∷ xs) [] = refl
  length-mix p (x ∷ xs) (y ∷ ys) = ap suc (length-mix (λ i. p (suc i)) xs ys)

  alike : (b : Bool) → Unused ≡ cond {A = Cell A} b Unused Unused
  alike true = refl
  alike false = refl

  cell-mix : (p : ℕ → Bool) (xs ys : List (Cell A)) → length ys ≡ length xs → (j : ℕ) → cell (mix p xs ys) j ≡ cond (p j) (cell ys j) (cell xs j)
  unfolding mix
  cell-mix p [] [] e j = alike (p j)
  cell-mix p [] (y ∷ ys) e j = absurd (omega (arith, e))
  cell-mix p (x ∷ xs) [] e j = absurd (omega (arith, e))
  cell-mix p (x ∷ xs) (y ∷ ys) e zero = refl
  cell-mix p (x ∷ xs) (y ∷ ys) e (suc j) = cell-mix (λ i. p (suc i)) xs ys (omega (arith, e)) j

  -- the cells between: those from n on are the new ones already
  between_cells : List (Cell A) → List (Cell A) → ℕ → ℕ → List (Cell A)
  between_cells old new n z = mix (into n z) old new

  between_inside : (old new : List (Cell A)) (n z j : ℕ) → length new ≡ length old → Inside n z j → cell (between_cells old new n z) j ≡ cell new j
  unfolding between_cells
  between_inside old new n z j e at = cell-mix (into n z) old new e j ∙ ap (λ b. cond b (cell new j) (cell old j)) (into_yes n z j at)

  between_outside : (old new : List (Cell A)) (n z j : ℕ) → length new ≡ length old → Outside n z j → cell (between_cells old new n z) j ≡ cell old j
  unfolding between_cells
  between_outside old new n z j e out = cell-mix (into n z) old new e j ∙ ap (λ b. cond b (cell new j) (cell old j)) (into_no n z j out)

  length-between_cells : (old new : List (Cell A)) (n z : ℕ) → length (between_cells old new n z) ≡ length old
  unfolding between_cells
  length-between_cells old new n z = length-mix (into n z) old new

  -- a list l in a full block of c cells at `at`, and a region of z cells at `to` with no item
  pub record CanMove (extent : ℕ → ℕ) (old : List (Cell A)) (free : List ℕ) (at to c z : ℕ) (l : List A) : Type 0 where
    pub tiled : IsTiled extent old free
    pub region : IsRegion extent old to z
    pub empty : Holds old to z []
    pub list : list_at old at ≡ Some l
    pub count : length l ≡ c
    pub full : size c ≡ c
    pub twice : z ≡ c + c

  first_not_free : (x : Cell A) → is_first x ≡ true → is_free x ≡ false
  first_not_free (First a) e = refl
  first_not_free (Item a) e = cc
  first_not_free (Free t) e = cc
  first_not_free Unused e = cc

  -- the list stands in the region now, and its old block is a region with no item
  pub record HasMoved (old new : List (Cell A)) (free : List ℕ) (at to c z : ℕ) (l : List A) : Type 0 where
    pub regions : HasRegions new free at c to z
    pub empty : Holds new at c []
    pub holds : Holds new to z l
    pub none_at : list_at new at ≡ None
    pub others : (m : ℕ) → m ≢ at → m ≢ to → list_at new m ≡ list_at old m
    pub differ : at ≢ to

module _ {A : Type 0} (extent : ℕ → ℕ) (old : List (Cell A)) (free : List ℕ) (at to c z : ℕ) (l : List A) (m : CanMove extent old free at to c z l) where
  move_extent : extent at ≡ c
  move_extent = (m.tiled.taken at l m.list).extent_is ∙ ap size m.count ∙ m.full

  move_from : IsRegion extent old at c
  move_from =
      subst (IsRegion extent old at) move_extent (block_region extent old free at m.tiled (list_begins old at l m.list))

  move_differs : at ≢ to
  move_differs e =
      let yes = list_first old at l m.list in
      let no : is_first (cell old at) ≡ false = ap (λ x. is_first (cell old x)) e ∙ ap is_first (sym (at_zero old to) ∙ m.empty 0 m.region.some) in
      cc

  move_apart : (at + c ≤ to) ⊎ (to + z ≤ at)
  move_apart =
      let x = move_extent in
      ⊎_elim (λ below. inl (omega arith)) (λ past. inr past) (m.region.alone at (list_begins old at l m.list) move_differs)

  pub move_fits : (at + c ≤ length old) × (to + c ≤ length old) × ((at + c ≤ to) ⊎ (to + c ≤ at))
  move_fits =
      let twice = m.twice in
      let first = move_from.within in
      let second = m.region.within in
      (first, omega arith, ⊎_elim (λ below. inl below) (λ past. inr (omega arith)) move_apart)

module _ {A : Type 0} (extent : ℕ → ℕ) (old new : List (Cell A)) (free : List ℕ) (at to c z : ℕ) (l : List A) (m : CanMove extent old free at to c z l) (v : IsMoved old new at to c) where
  moved_holds : Holds new to z l
  moved_holds i h =
      let count = m.count in
      let lies = list_lies old at l m.list in
      ⊎_elim
      (λ less. v.moved i less ∙ lies.same i (omega arith))
      (λ past. v.same (to + i) (⊎_elim (λ below. inr (omega arith)) (λ above. inl (omega arith)) (move_apart extent old free at to c z l m)) (inr (omega arith))
      ∙ m.empty i h ∙ sym (laid_past l i (omega arith)))
      (cases_lt i c)

  moved_written : IsWritten old (between_cells old new to z) to z l
  moved_written = record {
    len = length-between_cells old new to z;
    outside = λ j out. between_outside old new to z j v.len out;
    holds = λ i h. between_inside old new to z (to + i) v.len (i, h, refl) ∙ moved_holds i h;
    few = (m.tiled.taken at l m.list).few;
    fits = let full = m.full in let s = ap size m.count in let twice = m.twice in omega arith;
    not_free = ap is_free (sym (at_zero old to) ∙ m.empty 0 m.region.some);
  }

  moved_cleared : IsWritten (between_cells old new to z) new at c []
  moved_cleared =
      let apart = move_apart extent old free at to c z l m in
      let some = (move_from extent old free at to c z l m).some in
      let twice = m.twice in
      record {
        len = v.len ∙ sym (length-between_cells old new to z);
        outside = λ j out. ⊎_elim
            (λ beyond. v.same j out (⊎_elim (λ below. inl below) (λ past. inr (omega arith)) beyond) ∙ sym (between_outside old new to z j v.len beyond))
            (λ inside. sym (between_inside old new to z j v.len inside))
            (side to z j);
        holds = λ i h. v.left i h ∙ m.empty i (omega arith);
        few = omega arith;
        fits = let one = size_of_none in omega arith;
        not_free = ap is_free (between_outside old new to z at v.len (⊎_elim (λ below. inl (omega arith)) (λ past. inr past) apart))
            ∙ first_not_free (cell old at) (list_first old at l m.list);
      }

  pub moved : HasMoved old new free at to c z l
  moved =
      let mid = between_cells old new to z in
      let w = moved_written in
      let p = written_replaced extent old mid free to z l m.tiled m.region w in
      let tiled = written_tiled extent old mid free to z l m.tiled m.region w in
      let middle = with_extent extent to (size (length l)) in
      let apart = move_apart extent old free at to c z l m in
      let from = region_kept extent old mid free to z (size (length l)) m.tiled m.region p at c (move_from extent old free at to c z l m) (⊎_elim (λ below. inr below) (λ past. inl past) apart) in
      let target = region_stays extent old mid free to z (size (length l)) m.tiled m.region p in
      let x = moved_cleared in
      let q = written_replaced middle mid new free at c [] tiled from x in
      record {
        regions = record {
          extent = with_extent middle at (size 0);
          tiled = written_tiled middle mid new free at c [] tiled from x;
          region = region_stays middle mid new free at c (size 0) tiled from q;
          other = region_kept middle mid new free at c (size 0) tiled from q to z target apart;
          apart = apart;
        };
        empty = x.holds;
        holds = moved_holds;
        none_at = written_list middle mid new free at c [] tiled from x;
        others = λ i ne far. written_lists middle mid new free at c [] tiled from x i ne ∙ written_lists extent old mid free to z l m.tiled m.region w i far;
        differ = move_differs extent old free at to c z l m;
      }
