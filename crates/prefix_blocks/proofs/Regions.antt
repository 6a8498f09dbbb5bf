-- The steps of a store of blocks: a list is written, a block is freed, taken, added, moved.
use Rattle.std.specs.Prelude.{◌≡◌, ◌≢◌, ◌⊎◌, ℕ, ◌+◌, ◌^◌, ◌<◌, ◌≤◌, false, List, [], ◌∷◌, length, Some, None}
use Rattle.std.proofs.Common.{refl, sym, ap, ◌∙◌, subst, arith, inr}
use Rattle.std.proofs.lemmas.Bool.{cases_eq, cases_lt}
use Rattle.std.proofs.lemmas.Nat.{pow_below}
use Rattle.std.proofs.Math.Logic.{⊎_elim}
use Rattle.prefix_blocks.specs.Sizes.{size}
use Rattle.prefix_blocks.specs.declared.store.Cell.{Cell}
use Rattle.prefix_blocks.specs.declared.store.Cell.TheVariants.{Free}
use Rattle.prefix_blocks.specs.Cells.{cell, begins, is_item, is_first, is_free, laid, listed, list_at, none, head, IsTaken, IsLink, IsTiled, IsRegion, Holds, SameLists}
use Rattle.prefix_blocks.proofs.SizeLaws.{sized}
use Rattle.prefix_blocks.proofs.CellLaws.{LiesAt, lies_list, list_first, no_list, free_is, begins_free, laid_later, laid_past, laid_first, laid_not_free}
use Rattle.prefix_blocks.proofs.Tilings.{with_extent, extent_here, extent_other, Outside, IsReplaced, begin_kept, lists_kept, within_kept, apart_kept, ends_all_kept, taken_kept, vacant_kept, free_kept, region_kept}

pub same_power : (i j : ℕ) → 2 ^ i ≡ 2 ^ j → i ≡ j
same_power i j e =
    ⊎_elim (λ less. absurd (let p = pow_below i j less in omega arith))
    (λ from. ⊎_elim (λ more. absurd (let p = pow_below j i more in omega arith)) (λ upto. omega arith) (cases_lt j i))
    (cases_lt i j)

module _ {A : Type 0} where
  pub at_zero : (cells : List (Cell A)) (n : ℕ) → cell cells (n + 0) ≡ cell cells n
  at_zero cells n = ap (cell cells) (let e : n + 0 ≡ n = omega arith in e)

  -- a region is written with a list, and nothing else
  pub record IsWritten (old new : List (Cell A)) (n z : ℕ) (l : List A) : Type 0 where
    pub len : length new ≡ length old
    pub outside : (j : ℕ) → Outside n z j → cell new j ≡ cell old j
    pub holds : Holds new n z l
    pub few : length l ≤ 32
    pub fits : size (length l) ≤ z
    pub not_free : is_free (cell old n) ≡ false

  first_cell : (new : List (Cell A)) (n z : ℕ) (l : List A) → 0 < z → Holds new n z l → cell new n ≡ cell (laid l) 0
  first_cell new n z l some holds = sym (at_zero new n) ∙ holds 0 some

  none_free : (new : List (Cell A)) (n z : ℕ) (l : List A) → 0 < z → Holds new n z l → is_free (cell new n) ≡ false
  none_free new n z l some holds = ap is_free (first_cell new n z l some holds) ∙ laid_not_free l

  listed_is : (l m : List A) → listed l ≡ Some m → l ≡ m
  listed_is [] m e = cc
  listed_is (a ∷ l) m e = cc

  listed_some : (l : List A) → 0 < length l → Some l ≡ listed l
  listed_some [] h = absurd (omega arith)
  listed_some (a ∷ l) h = refl

  listed_none : (l : List A) → length l ≤ 0 → None ≡ listed l
  listed_none [] h = refl
  listed_none (a ∷ l) h = absurd (omega arith)

module _ {A : Type 0} (extent : ℕ → ℕ) (old new : List (Cell A)) (free : List ℕ) (n z : ℕ) (l : List A) (t : IsTiled extent old free) (r : IsRegion extent old n z) (w : IsWritten old new n z l) where
  pub written_replaced : IsReplaced old new n z (size (length l))
  written_replaced = record {
    len = w.len;
    some = (sized (length l) w.few).some;
    less = w.fits;
    outside = w.outside;
    later = λ i from to. ap begins (w.holds i to) ∙ laid_later l i from;
    first = ap is_item (first_cell new n z l r.some w.holds) ∙ laid_first l;
    ends = let s = (sized (length l) w.few).fits in let f = w.fits in ⊎_elim
        (λ less. ap is_item (w.holds (size (length l)) less ∙ laid_past l (size (length l)) s))
        (λ full. ap (λ x. is_item (cell new (n + x))) (let q : size (length l) ≡ z = omega arith in q) ∙ ap is_item (w.outside (n + z) (inr (omega arith))) ∙ r.ends)
        (cases_lt (size (length l)) z);
  }

  written_lies : 0 < length l → LiesAt new n l
  written_lies some =
      let s = (sized (length l) w.few).fits in let f = w.fits in record {
        some = some;
        same = λ i h. w.holds i (omega arith);
        ends = ⊎_elim
            (λ less. ap is_item (w.holds (length l) less ∙ laid_past l (length l) (omega arith)))
            (λ full. ap (λ x. is_item (cell new (n + x))) (let q : length l ≡ z = omega arith in q) ∙ ap is_item (w.outside (n + z) (inr (omega arith))) ∙ r.ends)
            (cases_lt (length l) z);
      }

  pub written_list : list_at new n ≡ listed l
  written_list =
      ⊎_elim
      (λ some. lies_list new n l (written_lies some) ∙ listed_some l some)
      (λ none. no_list new n (ap is_first (first_cell new n z l r.some w.holds ∙ laid_past l 0 none)) ∙ listed_none l none)
      (cases_lt 0 (length l))

  pub written_lists : (m : ℕ) → m ≢ n → list_at new m ≡ list_at old m
  written_lists m ne = lists_kept extent old new free n z (size (length l)) t r written_replaced m ne

  written_taken : (m : ℕ) (k : List A) → m ≡ n → list_at new m ≡ Some k → IsTaken new m (with_extent extent n (size (length l)) m) k
  written_taken m k at is =
      let same : l ≡ k = listed_is l k (sym written_list ∙ ap (list_at new) (sym at) ∙ is) in
      let f = w.fits in
      let P : List A → Type 0 = λ k. IsTaken new m (with_extent extent n (size (length l)) m) k in
      subst P same (record {
        few = w.few;
        extent_is = extent_here extent n (size (length l)) m at;
        rest = λ i from to. let x = extent_here extent n (size (length l)) m at in
            ap (λ x. cell new (x + i)) at ∙ w.holds i (omega arith) ∙ laid_past l i from;
      })

  -- no link names what is written
  written_link : (t y : ℕ) → IsLink extent old t y → IsLink (with_extent extent n (size (length l))) new t y
  written_link u y link some =
      let was = link some in
      let ne : u ≢ n = λ at. let e = ap (λ x. is_free (cell old x)) at in let no = w.not_free in let yes = was.0 in cc in
      free_kept extent old new free n z (size (length l)) t r written_replaced u y ne was.0 was.1

  written_free : (m u : ℕ) → cell new m ≡ Free u → (m ≢ n) × (cell old m ≡ Free u)
  written_free m u is =
      let ne : m ≢ n = λ at. let yes = free_is (cell new m) u is in let no = ap (λ x. is_free (cell new x)) at ∙ none_free new n z l r.some w.holds in cc in
      (ne, sym (begin_kept extent old new free n z (size (length l)) t r written_replaced m ne (begins_free _ (free_is _ u is))) ∙ is)

  pub written_tiled : IsTiled (with_extent extent n (size (length l))) new free
  written_tiled =
      let e = size (length l) in
      let p = written_replaced in
      record {
        few = let l = w.len in let f = t.few in omega arith;
        heads = t.heads;
        within = within_kept extent old new free n z e t r p;
        apart = apart_kept extent old new free n z e t r p;
        ends = ends_all_kept extent old new free n z e t r p;
        taken = λ m k is. ⊎_elim (λ at. written_taken m k at is) (λ ne. taken_kept extent old new free n z e t r p m k ne is) (cases_eq m n);
        vacant = λ m is. ⊎_elim
            (λ at. absurd (let no = ap (λ x. is_free (cell new x)) at ∙ none_free new n z l r.some w.holds in let yes = is in cc))
            (λ ne. vacant_kept extent old new free n z e t r p m ne is)
            (cases_eq m n);
        linked = λ m u is. let was = written_free m u is in
            subst (IsLink (with_extent extent n e) new u) (sym (extent_other extent n e m was.0)) (written_link u (extent m) (t.linked m u was.1));
        headed = λ k. written_link (head free k) (2 ^ k) (t.headed k);
        once = λ m q u is js some. t.once m q u (written_free m u is).1 (written_free q u js).1 some;
        first = λ k m is. t.first k m (written_free m (head free k) is).1;
      }

module _ {A : Type 0} where
  -- a region with no item becomes a free block
  pub record IsPushed (old new : List (Cell A)) (old_free free : List ℕ) (n k : ℕ) : Type 0 where
    pub len : length new ≡ length old
    pub here : cell new n ≡ Free (head old_free k)
    pub same : (j : ℕ) → j ≢ n → cell new j ≡ cell old j
    pub empty : Holds old n (2 ^ k) []
    pub order : k < 6
    pub heads : length free ≡ 6
    pub head_is : head free k ≡ n
    pub others : (i : ℕ) → i ≢ k → head free i ≡ head old_free i

  -- what was empty was no free block
  pushed_not_free : (old : List (Cell A)) (n k : ℕ) → 0 < 2 ^ k → Holds old n (2 ^ k) [] → is_free (cell old n) ≡ false
  pushed_not_free old n k some empty = none_free old n (2 ^ k) [] some empty

  -- the number of the new free block names a block
  pushed_some : (extent : ℕ → ℕ) (old : List (Cell A)) (free : List ℕ) (n z : ℕ) → IsTiled extent old free → IsRegion extent old n z → n ≢ none
  pushed_some extent old free n z t r at = let f = t.few in let w = r.within in let s = r.some in omega arith

  pushed_here : (old new : List (Cell A)) (old_free free : List ℕ) (n k m u : ℕ) → IsPushed old new old_free free n k → m ≡ n → cell new m ≡ Free u → head old_free k ≡ u
  pushed_here old new old_free free n k m u p at is = let e : ◌≡◌ {A = Cell A} (Free (head old_free k)) (Free u) = sym p.here ∙ ap (cell new) (sym at) ∙ is in cc

module _ {A : Type 0} (extent : ℕ → ℕ) (old new : List (Cell A)) (old_free free : List ℕ) (n k : ℕ) (t : IsTiled extent old old_free) (r : IsRegion extent old n (2 ^ k)) (p : IsPushed old new old_free free n k) where
  pushed_replaced : IsReplaced old new n (2 ^ k) (2 ^ k)
  pushed_replaced = record {
    len = p.len;
    some = r.some;
    less = omega arith;
    outside = λ j out. let s = r.some in p.same j (λ e. ⊎_elim (λ below. omega arith) (λ past. omega arith) out);
    later = λ i from to. ap begins (p.same (n + i) (λ e. omega arith) ∙ p.empty i to);
    first = ap is_item p.here;
    ends = let s = r.some in ap is_item (p.same (n + 2 ^ k) (λ e. omega arith)) ∙ r.ends;
  }

  pushed_link : (u y : ℕ) → IsLink extent old u y → IsLink (with_extent extent n (2 ^ k)) new u y
  pushed_link u y link some =
      let was = link some in
      let ne : u ≢ n = λ at. let e = ap (λ x. is_free (cell old x)) at in let no = pushed_not_free old n k r.some p.empty in let yes = was.0 in cc in
      free_kept extent old new old_free n (2 ^ k) (2 ^ k) t r pushed_replaced u y ne was.0 was.1

  pushed_once : (m q u : ℕ) → cell new m ≡ Free u → cell new q ≡ Free u → u ≢ none → m ≡ q
  pushed_once m q u is js some =
      ⊎_elim
      (λ at. ⊎_elim (λ too. at ∙ sym too)
      (λ ne. absurd (some (let e = pushed_here old new old_free free n k m u p at is in sym e ∙ t.first k q (sym (p.same q ne) ∙ js ∙ ap Free (sym e)))))
      (cases_eq q n))
      (λ ne. ⊎_elim
      (λ too. absurd (some (let e = pushed_here old new old_free free n k q u p too js in sym e ∙ t.first k m (sym (p.same m ne) ∙ is ∙ ap Free (sym e)))))
      (λ apart. t.once m q u (sym (p.same m ne) ∙ is) (sym (p.same q apart) ∙ js) some)
      (cases_eq q n))
      (cases_eq m n)

  pushed_first : (i m : ℕ) → cell new m ≡ Free (head free i) → head free i ≡ none
  pushed_first i m is =
      let known = pushed_some extent old old_free n (2 ^ k) t r in
      let not_it = pushed_not_free old n k r.some p.empty in
      ⊎_elim
      (λ this.
      let named : head free i ≡ n = ap (head free) this ∙ p.head_is in
      ⊎_elim
      (λ at. absurd (
      let e : head old_free k ≡ n = pushed_here old new old_free free n k m _ p at is ∙ named in
      let yes = (t.headed k (λ z. known (sym e ∙ z))).0 in
      let there = ap (λ x. is_free (cell old x)) e in cc))
      (λ ne. absurd (
      let yes = (t.linked m n (sym (p.same m ne) ∙ is ∙ ap Free named) known).0 in cc))
      (cases_eq m n))
      (λ apart.
      let as_was = p.others i apart in
      ⊎_elim
      (λ at. ⊎_elim (λ end. end)
      (λ some. absurd (
      let e : head old_free k ≡ head old_free i = pushed_here old new old_free free n k m _ p at is ∙ as_was in
      let mine = (t.headed k (λ z. some (as_was ∙ sym e ∙ z))).1 in
      let other = (t.headed i (λ z. some (as_was ∙ z))).1 in
      apart (same_power i k (sym other ∙ ap extent (sym e) ∙ mine))))
      (cases_eq (head free i) none))
      (λ ne. as_was ∙ t.first i m (sym (p.same m ne) ∙ is ∙ ap Free as_was))
      (cases_eq m n))
      (cases_eq i k)

  pub pushed_lists : SameLists old new
  pushed_lists m =
      ⊎_elim
      (λ at. no_list new m (ap (λ x. is_first (cell new x)) at ∙ ap is_first p.here)
      ∙ sym (no_list old m (ap (λ x. is_first (cell old x)) at ∙ ap is_first (first_cell old n (2 ^ k) [] r.some p.empty))))
      (λ ne. lists_kept extent old new old_free n (2 ^ k) (2 ^ k) t r pushed_replaced m ne)
      (cases_eq m n)

  pub pushed_tiled : IsTiled (with_extent extent n (2 ^ k)) new free
  pushed_tiled =
      let z = 2 ^ k in
      let q = pushed_replaced in
      let lists = pushed_lists in
      record {
        few = let l = p.len in let f = t.few in omega arith;
        heads = p.heads;
        within = within_kept extent old new old_free n z z t r q;
        apart = apart_kept extent old new old_free n z z t r q;
        ends = ends_all_kept extent old new old_free n z z t r q;
        taken = λ m l is. ⊎_elim
            (λ at. absurd (let yes = list_first new m l is in let no = ap (λ x. is_first (cell new x)) at ∙ ap is_first p.here in cc))
            (λ ne. taken_kept extent old new old_free n z z t r q m l ne is)
            (cases_eq m n);
        vacant = λ m is. ⊎_elim
            (λ at. record {
              k = k;
              order = p.order;
              extent_is = extent_here extent n z m at;
              rest = λ i from to. let x = extent_here extent n z m at in ap (λ x. cell new (x + i)) at ∙ p.same (n + i) (λ e. omega arith) ∙ p.empty i (omega arith);
            })
            (λ ne. vacant_kept extent old new old_free n z z t r q m ne is)
            (cases_eq m n);
        linked = λ m u is. ⊎_elim
            (λ at. subst (λ u. IsLink (with_extent extent n z) new u (with_extent extent n z m)) (pushed_here old new old_free free n k m u p at is)
            (subst (IsLink (with_extent extent n z) new (head old_free k)) (sym (extent_here extent n z m at))
            (pushed_link (head old_free k) z (t.headed k))))
            (λ ne. subst (IsLink (with_extent extent n z) new u) (sym (extent_other extent n z m ne))
            (pushed_link u (extent m) (t.linked m u (sym (p.same m ne) ∙ is))))
            (cases_eq m n);
        headed = λ i. ⊎_elim
            (λ this some. (
              ap (λ x. is_free (cell new x)) (ap (head free) this ∙ p.head_is) ∙ ap is_free p.here,
              ap (with_extent extent n z) (ap (head free) this ∙ p.head_is) ∙ extent_here extent n z n refl ∙ ap (λ x. 2 ^ x) (sym this),
            ))
            (λ apart. subst (λ u. IsLink (with_extent extent n z) new u (2 ^ i)) (sym (p.others i apart))
            (pushed_link (head old_free i) (2 ^ i) (t.headed i)))
            (cases_eq i k);
        once = pushed_once;
        first = pushed_first;
      }

  pub pushed_region : (m y : ℕ) → IsRegion extent old m y → (n + 2 ^ k ≤ m) ⊎ (m + y ≤ n) → IsRegion (with_extent extent n (2 ^ k)) new m y
  pushed_region m y other apart = region_kept extent old new old_free n (2 ^ k) (2 ^ k) t r pushed_replaced m y other apart
