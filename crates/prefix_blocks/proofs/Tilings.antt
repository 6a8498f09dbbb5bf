-- A region of cells is replaced: what stays of the blocks and the lists.
use Rattle.std.specs.Prelude.{◌≡◌, ◌≢◌, ◌⊎◌, ℕ, ◌+◌, ◌-◌, ◌<◌, ◌≤◌, ◌==◌, true, false, cond, List, length, Option, Some, None}
use Rattle.std.proofs.Common.{refl, sym, ap, ◌∙◌, arith, inl, inr}
use Rattle.std.proofs.lemmas.Bool.{cases_eq, cases_lt, cases_order, eq-eqb, ne_eqb}
use Rattle.std.proofs.Math.Logic.{⊎_elim}
use Rattle.prefix_blocks.specs.declared.store.Cell.{Cell}
use Rattle.prefix_blocks.specs.Cells.{cell, begins, is_item, is_first, is_free, list_at, IsTaken, IsVacant, IsTiled, IsRegion}
use Rattle.prefix_blocks.proofs.SizeLaws.{sized}
use Rattle.prefix_blocks.proofs.CellLaws.{list_lies, lies_list, list_begins, no_list, no_list_first, not_first, begins_free}

-- a block of e cells begins at n now, and the others are as they were
unfoldable pub with_extent : (ℕ → ℕ) → ℕ → ℕ → ℕ → ℕ
with_extent extent n e m = cond (m == n) e (extent m)

pub extent_here : (extent : ℕ → ℕ) (n e m : ℕ) → m ≡ n → with_extent extent n e m ≡ e
unfolding with_extent
extent_here extent n e m h = ap (λ b. cond b e (extent m)) (eq-eqb m n h)

pub extent_other : (extent : ℕ → ℕ) (n e m : ℕ) → m ≢ n → with_extent extent n e m ≡ extent m
unfolding with_extent
extent_other extent n e m h = ap (λ b. cond b e (extent m)) (ne_eqb m n h)

abbrev pub Outside : ℕ → ℕ → ℕ → Type 0
Outside n z j = (j < n) ⊎ (n + z ≤ j)

abbrev pub Inside : ℕ → ℕ → ℕ → Type 0
Inside n z j = (i : ℕ) × (i < z) × (n + i ≡ j)

pub side : (n z j : ℕ) → Outside n z j ⊎ Inside n z j
side n z j = ⊎_elim (λ below. inl (inl below)) (λ from. ⊎_elim (λ less. inr (j - n, omega arith, omega arith)) (λ past. inl (inr past)) (cases_lt j (n + z))) (cases_lt j n)

module _ {A : Type 0} where
  -- the cells of a region are replaced, and a block of e cells may begin where it begins
  pub record IsReplaced (old new : List (Cell A)) (n z e : ℕ) : Type 0 where
    pub len : length new ≡ length old
    pub some : 0 < e
    pub less : e ≤ z
    pub outside : (j : ℕ) → Outside n z j → cell new j ≡ cell old j
    pub later : (i : ℕ) → 0 < i → i < z → begins (cell new (n + i)) ≡ false
    pub first : is_item (cell new n) ≡ false
    pub ends : is_item (cell new (n + e)) ≡ false

  -- two blocks lie apart, so a block is a region
  pub block_region : (extent : ℕ → ℕ) (cells : List (Cell A)) (free : List ℕ) (n : ℕ) → IsTiled extent cells free → begins (cell cells n) ≡ true → IsRegion extent cells n (extent n)
  block_region extent cells free n t b = record {
    some = (t.within n b).0;
    within = (t.within n b).1;
    alone = λ m mb ne. ⊎_elim
        (λ at. absurd (ne at))
        (λ order. ⊎_elim
        (λ less. ⊎_elim (λ into. absurd (let no = t.apart m n mb less into in let yes = b in cc)) (λ past. inl past) (cases_lt n (m + extent m)))
        (λ more. ⊎_elim (λ into. absurd (let no = t.apart n m b more into in let yes = mb in cc)) (λ past. inr past) (cases_lt m (n + extent n)))
        order)
        (cases_order m n);
    ends = t.ends n b;
  }

module _ {A : Type 0} (extent : ℕ → ℕ) (old new : List (Cell A)) (free : List ℕ) (n z e : ℕ) (t : IsTiled extent old free) (r : IsRegion extent old n z) (p : IsReplaced old new n z e) where
  -- a block that begins elsewhere was there, outside
  pub begin_kept : (m : ℕ) → m ≢ n → begins (cell new m) ≡ true → cell new m ≡ cell old m
  begin_kept m apart b =
      ⊎_elim (λ out. p.outside m out) (λ at.
      let later = ap (λ x. begins (cell new x)) (sym at.2) ∙ p.later at.0 (let ne = apart in let is = at.2 in omega arith) at.1 in
      cc) (side n z m)

  pub old_begins : (m : ℕ) → m ≢ n → begins (cell new m) ≡ true → begins (cell old m) ≡ true
  old_begins m apart b = ap begins (sym (begin_kept m apart b)) ∙ b

  -- another block lies outside
  pub block_outside : (m j : ℕ) → m ≢ n → begins (cell old m) ≡ true → m ≤ j → j < m + extent m → Outside n z j
  block_outside m j apart b from to = ⊎_elim (λ below. inl (omega arith)) (λ past. inr (omega arith)) (r.alone m b apart)

  pub old_kept : (m : ℕ) → m ≢ n → begins (cell old m) ≡ true → cell new m ≡ cell old m
  old_kept m apart b =
      let w = t.within m b in
      p.outside m (block_outside m m apart b (omega arith) (omega arith))

  ends_kept : (m : ℕ) → m ≢ n → begins (cell old m) ≡ true → is_item (cell new (m + extent m)) ≡ false
  ends_kept m apart b =
      ⊎_elim
      (λ below. ⊎_elim (λ at. ap (λ x. is_item (cell new x)) at ∙ p.first) (λ ne. ap is_item (p.outside (m + extent m) (inl (omega arith))) ∙ t.ends m b) (cases_eq (m + extent m) n))
      (λ past. ap is_item (p.outside (m + extent m) (inr (omega arith))) ∙ t.ends m b)
      (r.alone m b apart)

  lists_kept_of : (m : ℕ) → m ≢ n → (o : Option (List A)) → list_at old m ≡ o → list_at new m ≡ o
  lists_kept_of m apart None is =
      no_list new m (⊎_elim
      (λ out. ap is_first (p.outside m out) ∙ no_list_first old m is)
      (λ at. not_first (cell new m) (ap (λ x. begins (cell new x)) (sym at.2) ∙ p.later at.0 (let ne = apart in let is_at = at.2 in omega arith) at.1))
      (side n z m))
  lists_kept_of m apart (Some l) is =
      let lies = list_lies old m l is in
      let b = list_begins old m l is in
      let taken = t.taken m l is in
      let fits = (sized (length l) taken.few).fits in
      let e_is = taken.extent_is in
      lies_list new m l (record {
        some = lies.some;
        same = λ i h. p.outside (m + i) (block_outside m (m + i) apart b (omega arith) (omega arith)) ∙ lies.same i h;
        ends = ⊎_elim
            (λ less. ap is_item (p.outside (m + length l) (block_outside m (m + length l) apart b (omega arith) (omega arith))) ∙ lies.ends)
            (λ full. ap (λ x. is_item (cell new x)) (let q : m + length l ≡ m + extent m = omega arith in q) ∙ ends_kept m apart b)
            (cases_lt (length l) (extent m));
      })

  pub lists_kept : (m : ℕ) → m ≢ n → list_at new m ≡ list_at old m
  lists_kept m apart = lists_kept_of m apart (list_at old m) refl

  -- the blocks of the new cells, but for what a block holds
  pub within_kept : (m : ℕ) → begins (cell new m) ≡ true → (0 < with_extent extent n e m) × (m + with_extent extent n e m ≤ length new)
  within_kept m b =
      ⊎_elim
      (λ at. let x = extent_here extent n e m at in let l = p.len in let s = p.some in let k = p.less in let w = r.within in (omega arith, omega arith))
      (λ ne. let x = extent_other extent n e m ne in let l = p.len in let w = t.within m (old_begins m ne b) in (omega arith, omega arith))
      (cases_eq m n)

  pub apart_kept : (m i : ℕ) → begins (cell new m) ≡ true → m < i → i < m + with_extent extent n e m → begins (cell new i) ≡ false
  apart_kept m i b from to =
      ⊎_elim
      (λ at. let x = extent_here extent n e m at in let k = p.less in
      ap (λ y. begins (cell new y)) (let q : i ≡ n + (i - n) = omega arith in q) ∙ p.later (i - n) (omega arith) (omega arith))
      (λ ne. let x = extent_other extent n e m ne in let o = old_begins m ne b in
      ap begins (p.outside i (block_outside m i ne o (omega arith) (omega arith))) ∙ t.apart m i o from (omega arith))
      (cases_eq m n)

  pub ends_all_kept : (m : ℕ) → begins (cell new m) ≡ true → is_item (cell new (m + with_extent extent n e m)) ≡ false
  ends_all_kept m b =
      ⊎_elim
      (λ at. ap (λ y. is_item (cell new y)) (let x = extent_here extent n e m at in let q : m + with_extent extent n e m ≡ n + e = omega arith in q) ∙ p.ends)
      (λ ne. ap (λ y. is_item (cell new (m + y))) (extent_other extent n e m ne) ∙ ends_kept m ne (old_begins m ne b))
      (cases_eq m n)

  pub taken_kept : (m : ℕ) (l : List A) → m ≢ n → list_at new m ≡ Some l → IsTaken new m (with_extent extent n e m) l
  taken_kept m l ne is =
      let was = sym (lists_kept m ne) ∙ is in
      let b = list_begins old m l was in
      let taken = t.taken m l was in
      let x = extent_other extent n e m ne in
      record {
        few = taken.few;
        extent_is = x ∙ taken.extent_is;
        rest = λ i from to. p.outside (m + i) (block_outside m (m + i) ne b (omega arith) (omega arith)) ∙ taken.rest i from (omega arith);
      }

  pub vacant_kept : (m : ℕ) → m ≢ n → is_free (cell new m) ≡ true → IsVacant new m (with_extent extent n e m)
  vacant_kept m ne is =
      let same = begin_kept m ne (begins_free _ is) in
      let was = ap is_free (sym same) ∙ is in
      let b = begins_free (cell old m) was in
      let vacant = t.vacant m was in
      let x = extent_other extent n e m ne in
      record {
        k = vacant.k;
        order = vacant.order;
        extent_is = x ∙ vacant.extent_is;
        rest = λ i from to. p.outside (m + i) (block_outside m (m + i) ne b (omega arith) (omega arith)) ∙ vacant.rest i from (omega arith);
      }

  pub free_kept : (m y : ℕ) → m ≢ n → is_free (cell old m) ≡ true → extent m ≡ y → (is_free (cell new m) ≡ true) × (with_extent extent n e m ≡ y)
  free_kept m y ne is was =
      (ap is_free (old_kept m ne (begins_free _ is)) ∙ is, extent_other extent n e m ne ∙ was)

  -- a region elsewhere stays one
  pub region_kept : (m y : ℕ) → IsRegion extent old m y → (n + z ≤ m) ⊎ (m + y ≤ n) → IsRegion (with_extent extent n e) new m y
  region_kept m y o apart = record {
    some = o.some;
    within = let l = p.len in let w = o.within in omega arith;
    alone = λ q b ne. ⊎_elim
        (λ at. let x = extent_here extent n e q at in let k = p.less in ⊎_elim (λ past. inl (omega arith)) (λ below. inr (omega arith)) apart)
        (λ other. let x = extent_other extent n e q other in ⊎_elim (λ below. inl (omega arith)) (λ past. inr past) (o.alone q (old_begins q other b) ne))
        (cases_eq q n);
    ends = ⊎_elim
        (λ past. ap is_item (p.outside (m + y) (inr (omega arith))) ∙ o.ends)
        (λ below. ⊎_elim (λ at. ap (λ x. is_item (cell new x)) at ∙ p.first) (λ ne. ap is_item (p.outside (m + y) (inl (omega arith))) ∙ o.ends) (cases_eq (m + y) n))
        apart;
  }

  -- the region that was replaced, and what is left of it behind the block
  pub region_stays : IsRegion (with_extent extent n e) new n z
  region_stays = record {
    some = r.some;
    within = let l = p.len in let w = r.within in omega arith;
    alone = λ q b ne. let x = extent_other extent n e q ne in
        ⊎_elim (λ below. inl (omega arith)) (λ past. inr past) (r.alone q (old_begins q ne b) ne);
    ends = ap is_item (p.outside (n + z) (inr (omega arith))) ∙ r.ends;
  }

  pub region_rest : (j y : ℕ) → e ≤ j → j + y ≡ z → 0 < y → IsRegion (with_extent extent n e) new (n + j) y
  region_rest j y from to some = record {
    some = some;
    within = let l = p.len in let w = r.within in omega arith;
    alone = λ q b ne. ⊎_elim
        (λ at. let x = extent_here extent n e q at in inl (omega arith))
        (λ other. let x = extent_other extent n e q other in ⊎_elim (λ below. inl (omega arith)) (λ past. inr (omega arith)) (r.alone q (old_begins q other b) other))
        (cases_eq q n);
    ends = ap (λ x. is_item (cell new x)) (let q : n + j + y ≡ n + z = omega arith in q) ∙ ap is_item (p.outside (n + z) (inr (omega arith))) ∙ r.ends;
  }
