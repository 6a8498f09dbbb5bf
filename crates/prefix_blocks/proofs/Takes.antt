-- A block is taken: from the free blocks of its size, or at the end of the store.
use Rattle.std.specs.Prelude.{◌≡◌, ◌≢◌, ℕ, zero, suc, ◌+◌, ◌-◌, ◌^◌, ◌<◌, ◌≤◌, true, false, List, [], ◌∷◌, ◌++◌, replicate, length, get_or, set, Option, Some, None}
use Rattle.std.proofs.Common.{refl, sym, ap, ◌∙◌, subst, arith, inl, length-append, length-set}
use Rattle.std.proofs.lemmas.Bool.{cases_eq, cases_lt}
use Rattle.std.proofs.lemmas.List.{get_or_append_left, get_or-append_right, get_or_default, get_or-set_same, get_or-set_other}
use Rattle.std.proofs.Math.Logic.{⊎_elim}
use Rattle.prefix_blocks.specs.declared.store.Cell.{Cell}
use Rattle.prefix_blocks.specs.declared.store.Cell.TheVariants.{Free, Unused}
use Rattle.prefix_blocks.specs.Cells.{cell, begins, is_item, is_first, is_free, list_at, none, head, IsLink, IsTiled, IsSound, IsRegion, HasTaken, Holds, SameLists}
use Rattle.prefix_blocks.proofs.CellLaws.{list_lies, lies_list, list_first, no_list, no_list_first, free_is, free_not_first, begins_free, cell_past}
use Rattle.prefix_blocks.proofs.Tilings.{with_extent, extent_other, IsReplaced, lists_kept, within_kept, apart_kept, ends_all_kept, taken_kept, vacant_kept, free_kept, region_stays, block_region}
use Rattle.prefix_blocks.proofs.Regions.{same_power, at_zero}

pub head_within : (free : List ℕ) (k : ℕ) → length free ≡ 6 → k < 6 → head free k ≡ get_or free k 0
head_within free k l h = get_or_default free k none 0 (omega arith)

module _ {A : Type 0} where
  -- the first free block of 2 ^ k cells is no free block any more; u was the next
  pub record IsPopped (old new : List (Cell A)) (old_free free : List ℕ) (n k u : ℕ) : Type 0 where
    pub named : head old_free k ≡ n
    pub some : n ≢ none
    pub was : cell old n ≡ Free u
    pub len : length new ≡ length old
    pub here : cell new n ≡ Unused
    pub same : (j : ℕ) → j ≢ n → cell new j ≡ cell old j
    pub heads : length free ≡ 6
    pub head_is : head free k ≡ u
    pub others : (i : ℕ) → i ≢ k → head free i ≡ head old_free i

  -- a link names a cell of the store
  pub free_within : (cells : List (Cell A)) (n : ℕ) → is_free (cell cells n) ≡ true → n < length cells
  free_within cells n is = ⊎_elim (λ less. less) (λ past. absurd (let e = ap is_free (cell_past cells n past) in cc)) (cases_lt n (length cells))

  pub popped_by : (extent : ℕ → ℕ) (old : List (Cell A)) (free : List ℕ) (n k u : ℕ) (x y : Cell A) → IsTiled extent old free → k < 6 → n ≡ get_or free k 0 → n ≢ none
      → x ≡ Unused → y ≡ get_or old n y → y ≡ Free u → IsPopped old (set old n x) free (set free k u) n k u
  popped_by extent old free n k u x y t order at some empty read is =
      let named : head free k ≡ n = head_within free k t.heads order ∙ sym at in
      let found = (t.headed k (λ e. some (sym named ∙ e))).0 in
      let within = free_within old n (ap (λ x. is_free (cell old x)) (sym named) ∙ found) in
      let short = t.heads in
      record {
        named = named;
        some = some;
        was = get_or_default old n Unused y within ∙ sym read ∙ is;
        len = length-set old n x;
        here = get_or-set_same old n x Unused within ∙ empty;
        same = λ j ne. get_or-set_other old n j x Unused ne;
        heads = length-set free k u ∙ t.heads;
        head_is = get_or-set_same free k u none (omega arith);
        others = λ i ne. get_or-set_other free k i u none ne;
      }

module _ {A : Type 0} (extent : ℕ → ℕ) (old new : List (Cell A)) (old_free free : List ℕ) (n k u : ℕ) (t : IsTiled extent old old_free) (p : IsPopped old new old_free free n k u) where
  popped_extent : extent n ≡ 2 ^ k
  popped_extent = ap extent (sym p.named) ∙ (t.headed k (λ e. p.some (sym p.named ∙ e))).1

  popped_old_region : IsRegion extent old n (2 ^ k)
  popped_old_region =
      subst (IsRegion extent old n) popped_extent (block_region extent old old_free n t (begins_free _ (free_is _ u p.was)))

  popped_rest : (i : ℕ) → 0 < i → i < 2 ^ k → cell new (n + i) ≡ Unused
  popped_rest i from to =
      let x = popped_extent in
      p.same (n + i) (λ e. omega arith) ∙ (t.vacant n (free_is _ u p.was)).rest i from (omega arith)

  popped_replaced : IsReplaced old new n (2 ^ k) (2 ^ k)
  popped_replaced =
      let r = popped_old_region in record {
        len = p.len;
        some = r.some;
        less = omega arith;
        outside = λ j out. let s = r.some in p.same j (λ e. ⊎_elim (λ below. omega arith) (λ past. omega arith) out);
        later = λ i from to. ap begins (popped_rest i from to);
        first = ap is_item p.here;
        ends = let s = r.some in ap is_item (p.same (n + 2 ^ k) (λ e. omega arith)) ∙ r.ends;
      }

  popped_empty : Holds new n (2 ^ k) []
  popped_empty i to =
      ⊎_elim (λ from. popped_rest i from to)
      (λ none. ap (λ x. cell new (n + x)) (let e : i ≡ 0 = omega arith in e) ∙ at_zero new n ∙ p.here)
      (cases_lt 0 i)

  popped_region : IsRegion (with_extent extent n (2 ^ k)) new n (2 ^ k)
  popped_region =
      region_stays extent old new old_free n (2 ^ k) (2 ^ k) t popped_old_region popped_replaced

  popped_lists : SameLists old new
  popped_lists m =
      ⊎_elim
      (λ at. no_list new m (ap (λ x. is_first (cell new x)) at ∙ ap is_first p.here)
      ∙ sym (no_list old m (ap (λ x. is_first (cell old x)) at ∙ free_not_first _ (free_is _ u p.was))))
      (λ ne. lists_kept extent old new old_free n (2 ^ k) (2 ^ k) t popped_old_region popped_replaced m ne)
      (cases_eq m n)

  -- what is free now was free before, elsewhere
  popped_free : (m t : ℕ) → cell new m ≡ Free t → (m ≢ n) × (cell old m ≡ Free t)
  popped_free m t is =
      let ne : m ≢ n = λ at. let e : ◌≡◌ {A = Cell A} Unused (Free t) = sym p.here ∙ ap (cell new) (sym at) ∙ is in cc in
      (ne, sym (p.same m ne) ∙ is)

  popped_link : (t y : ℕ) → t ≢ n → IsLink extent old t y → IsLink (with_extent extent n (2 ^ k)) new t y
  popped_link v y ne link some =
      let was = link some in
      free_kept extent old new old_free n (2 ^ k) (2 ^ k) t popped_old_region popped_replaced v y ne was.0 was.1

  -- only the head names the block
  popped_unnamed : (m t : ℕ) → cell old m ≡ Free t → t ≢ n
  popped_unnamed m v is at = p.some (sym p.named ∙ t.first k m (is ∙ ap Free (at ∙ sym p.named)))

  popped_head : (i : ℕ) → IsLink (with_extent extent n (2 ^ k)) new (head free i) (2 ^ i)
  popped_head i =
      ⊎_elim
      (λ this.
      let link : IsLink extent old u (2 ^ i) = subst (IsLink extent old u) (popped_extent ∙ ap (λ x. 2 ^ x) (sym this)) (t.linked n u p.was) in
      subst (λ v. IsLink (with_extent extent n (2 ^ k)) new v (2 ^ i)) (sym (ap (head free) this ∙ p.head_is))
      (popped_link u (2 ^ i) (popped_unnamed n u p.was) link))
      (λ apart.
      let ne : head old_free i ≢ n = λ at. apart (same_power i k
      (sym (t.headed i (λ e. p.some (sym at ∙ e))).1 ∙ ap extent at ∙ popped_extent)) in
      subst (λ v. IsLink (with_extent extent n (2 ^ k)) new v (2 ^ i)) (sym (p.others i apart))
      (popped_link (head old_free i) (2 ^ i) ne (t.headed i)))
      (cases_eq i k)

  popped_first : (i m : ℕ) → cell new m ≡ Free (head free i) → head free i ≡ none
  popped_first i m is =
      let was = popped_free m (head free i) is in
      ⊎_elim
      (λ this.
      let next : head free i ≡ u = ap (head free) this ∙ p.head_is in
      ⊎_elim (λ end. next ∙ end)
      (λ some. absurd (was.0 (t.once m n u (was.1 ∙ ap Free next) p.was some)))
      (cases_eq u none))
      (λ apart. p.others i apart ∙ t.first i m (was.1 ∙ ap Free (p.others i apart)))
      (cases_eq i k)

  popped_tiled : IsTiled (with_extent extent n (2 ^ k)) new free
  popped_tiled =
      let z = 2 ^ k in
      let r = popped_old_region in
      let q = popped_replaced in
      record {
        few = let l = p.len in let f = t.few in omega arith;
        heads = p.heads;
        within = within_kept extent old new old_free n z z t r q;
        apart = apart_kept extent old new old_free n z z t r q;
        ends = ends_all_kept extent old new old_free n z z t r q;
        taken = λ m l is. ⊎_elim
            (λ at. absurd (let yes = list_first new m l is in let no = ap (λ x. is_first (cell new x)) at ∙ ap is_first p.here in cc))
            (λ ne. taken_kept extent old new old_free n z z t r q m l ne is)
            (cases_eq m n);
        vacant = λ m is. ⊎_elim
            (λ at. absurd (let no = ap (λ x. is_free (cell new x)) at ∙ ap is_free p.here in let yes = is in cc))
            (λ ne. vacant_kept extent old new old_free n z z t r q m ne is)
            (cases_eq m n);
        linked = λ m v is. let was = popped_free m v is in
            subst (IsLink (with_extent extent n z) new v) (sym (extent_other extent n z m was.0))
            (popped_link v (extent m) (popped_unnamed m v was.1) (t.linked m v was.1));
        headed = popped_head;
        once = λ m j v is js some. t.once m j v (popped_free m v is).1 (popped_free j v js).1 some;
        first = popped_first;
      }

  pub popped_taken : HasTaken old new free n (2 ^ k)
  popped_taken = record {
    region = record { extent = with_extent extent n (2 ^ k); tiled = popped_tiled; region = popped_region };
    empty = popped_empty;
    lists = popped_lists;
  }

module _ {A : Type 0} where
  -- more cells at the end, none of which is used
  empty_cells : (count i : ℕ) → cell {A = A} (replicate count Unused) i ≡ Unused
  empty_cells zero i = refl
  empty_cells (suc count) zero = refl
  empty_cells (suc count) (suc i) = empty_cells count i

  pub extended_cell : (cells : List (Cell A)) (count j : ℕ) → cell (cells ++ replicate count Unused) j ≡ cell cells j
  extended_cell cells count j =
      ⊎_elim (λ less. get_or_append_left cells (replicate count Unused) Unused j less)
      (λ past. get_or-append_right cells (replicate count Unused) (length cells) j Unused refl past ∙ empty_cells count (j - length cells) ∙ sym (cell_past cells j past))
      (cases_lt j (length cells))

  same_cells_list : (old new : List (Cell A)) → ((j : ℕ) → cell new j ≡ cell old j) → (m : ℕ) (o : Option (List A)) → list_at old m ≡ o → list_at new m ≡ o
  same_cells_list old new same m None is = no_list new m (ap is_first (same m) ∙ no_list_first old m is)
  same_cells_list old new same m (Some l) is =
      let lies = list_lies old m l is in
      lies_list new m l (record { some = lies.some; same = λ i h. same (m + i) ∙ lies.same i h; ends = ap is_item (same (m + length l)) ∙ lies.ends })

  same_cells_lists : (old new : List (Cell A)) → ((j : ℕ) → cell new j ≡ cell old j) → SameLists old new
  same_cells_lists old new same m = same_cells_list old new same m (list_at old m) refl

  extended_tiled : (extent : ℕ → ℕ) (old new : List (Cell A)) (free : List ℕ) → IsTiled extent old free → ((j : ℕ) → cell new j ≡ cell old j)
      → length old ≤ length new → length new < 2 ^ 32 → IsTiled extent new free
  extended_tiled extent old new free t same longer few =
      let link : (u y : ℕ) → IsLink extent old u y → IsLink extent new u y = λ u y l some. (ap is_free (same u) ∙ (l some).0, (l some).1) in
      record {
        few = few;
        heads = t.heads;
        within = λ m b. let w = t.within m (ap begins (sym (same m)) ∙ b) in (w.0, omega arith);
        apart = λ m i b from to. ap begins (same i) ∙ t.apart m i (ap begins (sym (same m)) ∙ b) from to;
        ends = λ m b. ap is_item (same (m + extent m)) ∙ t.ends m (ap begins (sym (same m)) ∙ b);
        taken = λ m l is. let k = t.taken m l (sym (same_cells_lists old new same m) ∙ is) in
            record { few = k.few; extent_is = k.extent_is; rest = λ i from to. same (m + i) ∙ k.rest i from to };
        vacant = λ m is. let k = t.vacant m (ap is_free (sym (same m)) ∙ is) in
            record { k = k.k; order = k.order; extent_is = k.extent_is; rest = λ i from to. same (m + i) ∙ k.rest i from to };
        linked = λ m u is. link u (extent m) (t.linked m u (sym (same m) ∙ is));
        headed = λ k. link (head free k) (2 ^ k) (t.headed k);
        once = λ m n u is js some. t.once m n u (sym (same m) ∙ is) (sym (same n) ∙ js) some;
        first = λ k m is. t.first k m (sym (same m) ∙ is);
      }

  extended_region : (extent : ℕ → ℕ) (old new : List (Cell A)) (free : List ℕ) (count : ℕ) → IsTiled extent old free → ((j : ℕ) → cell new j ≡ cell old j)
      → length new ≡ length old + count → 0 < count → IsRegion extent new (length old) count
  extended_region extent old new free count t same len some = record {
    some = some;
    within = omega arith;
    alone = λ m b ne. let w = t.within m (ap begins (sym (same m)) ∙ b) in inl w.1;
    ends = ap is_item (cell_past new (length old + count) (omega arith));
  }

  extended_empty : (old new : List (Cell A)) (count : ℕ) → ((j : ℕ) → cell new j ≡ cell old j) → Holds new (length old) count []
  extended_empty old new count same i to = same (length old + i) ∙ cell_past old (length old + i) (omega arith)

  length_replicated : (count : ℕ) (x : Cell A) → length (replicate count x) ≡ count
  length_replicated zero x = refl
  length_replicated (suc count) x = ap suc (length_replicated count x)

  pub added_taken : (old new : List (Cell A)) (free : List ℕ) (count n z : ℕ) → IsSound old free → new ≡ old ++ replicate count Unused → count ≡ z → 0 < z
      → length old + z < 2 ^ 32 → n ≡ length old → HasTaken old new free n z
  added_taken old new free count n z sound is same some few at =
      let cells : (j : ℕ) → cell new j ≡ cell old j = λ j. ap (λ cells. cell cells j) is ∙ extended_cell old count j in
      let len : length new ≡ length old + z = ap length is ∙ length-append old (replicate count Unused) ∙ ap (λ x. length old + x) (length_replicated count Unused ∙ same) in
      subst (λ n. HasTaken old new free n z) (sym at) (record {
        region = record {
          extent = sound.extent;
          tiled = extended_tiled sound.extent old new free sound.tiled cells (omega arith) (omega arith);
          region = extended_region sound.extent old new free z sound.tiled cells len some;
        };
        empty = extended_empty old new z cells;
        lists = same_cells_lists old new cells;
      })

no_heads : (k : ℕ) → head (none ∷ none ∷ none ∷ none ∷ none ∷ none ∷ []) k ≡ none
no_heads zero = refl
no_heads (suc zero) = refl
no_heads (suc (suc zero)) = refl
no_heads (suc (suc (suc zero))) = refl
no_heads (suc (suc (suc (suc zero)))) = refl
no_heads (suc (suc (suc (suc (suc zero))))) = refl
no_heads (suc (suc (suc (suc (suc (suc k)))))) = refl

-- a store with no cell
pub empty_sound : {A : Type 0} → IsSound {A = A} [] (none ∷ none ∷ none ∷ none ∷ none ∷ none ∷ [])
empty_sound = record {
  extent = λ m. 0;
  tiled = record {
    few = omega arith;
    heads = refl;
    within = λ m b. absurd (let no : false ≡ true = b in cc);
    apart = λ m i b from to. refl;
    ends = λ m b. refl;
    taken = λ m l is. absurd (let yes = list_first [] m l is in let no : false ≡ true = yes in cc);
    vacant = λ m is. absurd (let no : false ≡ true = is in cc);
    linked = λ m t is. absurd (let no = free_is Unused t is in let e : false ≡ true = no in cc);
    headed = λ k some. absurd (some (no_heads k));
    once = λ m n t is js some. absurd (let no = free_is Unused t is in let e : false ≡ true = no in cc);
    first = λ k m is. no_heads k;
  };
}
