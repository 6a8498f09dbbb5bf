-- One list of the store is written over, in the cells of its block.
use Rattle.std.specs.Prelude.{◌≡◌, ◌≢◌, ◌⊎◌, ℕ, zero, suc, ◌+◌, ◌-◌, ◌<◌, ◌≤◌, List, [], ◌∷◌, ◌++◌, length, take, drop, Some}
use Rattle.std.proofs.Common.{refl, sym, ap, ◌∙◌, subst, arith, inl, inr, length-append, length-drop}
use Rattle.std.specs.List.{insert, remove}
use Rattle.std.proofs.lemmas.Bool.{cases_eq, cases_lt}
use Rattle.std.proofs.lemmas.List.{get_or-take, get_or_append_left, get_or-append_right, length-take-le}
use Rattle.std.proofs.lemmas.List.Edits.{length-insert, length-remove}
use Rattle.std.proofs.Math.Logic.{⊎_elim}
use Rattle.prefix_blocks.specs.Sizes.{order, size}
use Rattle.prefix_blocks.specs.declared.store.Cell.{Cell}
use Rattle.prefix_blocks.specs.declared.store.Cell.TheVariants.{Unused}
use Rattle.prefix_blocks.specs.Cells.{cell, is_free, laid, listed, items_of, list_at, held, part, with_part, IsAllBut, IsSound, IsRegion, HasRegion, Holds, CanRelease, HasGrown, HasInserted}
use Rattle.prefix_blocks.proofs.SizeLaws.{sized, is_full, same_size, size_of_one, size_of_none}
use Rattle.prefix_blocks.proofs.CellLaws.{cell-drop, list_begins, laid_past, laid_not_free}
use Rattle.prefix_blocks.proofs.Tilings.{with_extent, region_stays, region_rest, block_region}
use Rattle.prefix_blocks.proofs.Regions.{at_zero, IsWritten, written_replaced, written_tiled, written_list, written_lists}
use Rattle.prefix_blocks.proofs.Takes.{extended_cell}
use Rattle.prefix_blocks.proofs.Grows.{taken_holds, held_list, whole}
use Rattle.prefix_blocks.proofs.WindowLaws.{length-laid, items_laid, items_laid_unused, same_cells}

-- a list with one more item needs no smaller block
pub size_grows : (c : ℕ) → c < 32 → size c ≤ size (c + 1)
size_grows c few =
    ⊎_elim (λ none. let a = ap size none ∙ size_of_none in let b = ap (λ n. size (n + 1)) none ∙ size_of_one in omega arith)
    (λ some. ⊎_elim
    (λ same. let e = same_size c few same in omega arith)
    (λ ne. let full = is_full c (omega arith) few ne in let a = full.size_is in let b = full.next in omega arith)
    (cases_eq (order (c + 1)) (order c)))
    (cases_eq c 0)

module _ {A : Type 0} where
  length-part : (cells : List (Cell A)) (n c : ℕ) → n + c ≤ length cells → length (part cells n c) ≡ c
  length-part cells n c h = length-take-le c (drop n cells) (let l = length-drop n cells in omega arith)

  part_cell : (cells : List (Cell A)) (n c i : ℕ) → i < c → cell (part cells n c) i ≡ cell cells (n + i)
  part_cell cells n c i h = get_or-take c (drop n cells) i Unused h ∙ cell-drop n cells i

  -- the cells of a list are those, and one more that is not used
  pub part_laid : (cells : List (Cell A)) (n z c : ℕ) (l : List A) → Holds cells n z l → n + c ≤ length cells → c ≤ z → length l ≡ c → part cells n c ≡ laid l
  part_laid cells n z c l holds within less len =
      let short = length-part cells n c within in
      same_cells (part cells n c) (laid l) (short ∙ sym len ∙ sym (length-laid l)) (λ i h. part_cell cells n c i (omega arith) ∙ holds i (omega arith))

  pub part_all_but : (cells : List (Cell A)) (n z c : ℕ) (l : List A) → Holds cells n z l → n + (c + 1) ≤ length cells → c + 1 ≤ z → length l ≡ c → part cells n (c + 1) ≡ laid l ++ Unused ∷ []
  part_all_but cells n z c l holds within less len =
      let short = length-part cells n (c + 1) within in
      same_cells (part cells n (c + 1)) (laid l ++ Unused ∷ [])
      (short ∙ ap (λ n. n + 1) (sym len ∙ sym (length-laid l)) ∙ sym (length-append (laid l) (Unused ∷ [])))
      (λ i h. part_cell cells n (c + 1) i (omega arith) ∙ holds i (omega arith) ∙ sym (extended_cell (laid l) 1 i))

  pub all_but : (p : List (Cell A)) (l : List A) → p ≡ laid l ++ Unused ∷ [] → IsAllBut p
  all_but p l e = e ∙ ap (λ m. laid m ++ Unused ∷ []) (sym (ap items_of e ∙ items_laid_unused l))

  pub all_laid : (p : List (Cell A)) (l : List A) → p ≡ laid l → p ≡ laid (items_of p)
  all_laid p l e = e ∙ ap laid (sym (ap items_of e ∙ items_laid l))

  length-with_part : (cells w : List (Cell A)) (n c : ℕ) → n + c ≤ length cells → length w ≡ c → length (with_part cells n c w) ≡ length cells
  length-with_part cells w n c h len =
      let a = length-append (take n cells) (w ++ drop c (drop n cells)) in
      let b = length-append w (drop c (drop n cells)) in
      let d = length-take-le n cells (omega arith) in
      let e = length-drop c (drop n cells) in
      let f = length-drop n cells in
      omega arith

  outside_cell : (cells w : List (Cell A)) (n c j : ℕ) → n + c ≤ length cells → length w ≡ c → (j < n) ⊎ (n + c ≤ j) → cell (with_part cells n c w) j ≡ cell cells j
  outside_cell cells w n c j h len out =
      let d = length-take-le n cells (omega arith) in
      ⊎_elim
      (λ below. get_or_append_left (take n cells) (w ++ drop c (drop n cells)) Unused j (omega arith) ∙ get_or-take n cells j Unused below)
      (λ past. get_or-append_right (take n cells) (w ++ drop c (drop n cells)) n j Unused d (omega arith)
      ∙ get_or-append_right w (drop c (drop n cells)) c (j - n) Unused len (omega arith)
      ∙ cell-drop c (drop n cells) (j - n - c) ∙ cell-drop n cells (c + (j - n - c))
      ∙ ap (cell cells) (let e : n + (c + (j - n - c)) ≡ j = omega arith in e))
      out

  inside_cell : (cells w : List (Cell A)) (n c i : ℕ) → n + c ≤ length cells → length w ≡ c → i < c → cell (with_part cells n c w) (n + i) ≡ cell w i
  inside_cell cells w n c i h len less =
      let d = length-take-le n cells (omega arith) in
      get_or-append_right (take n cells) (w ++ drop c (drop n cells)) n (n + i) Unused d (omega arith)
      ∙ get_or_append_left w (drop c (drop n cells)) Unused (n + i - n) (omega arith)
      ∙ ap (cell w) (let e : n + i - n ≡ i = omega arith in e)

  part_written : (cells w : List (Cell A)) (n c z : ℕ) (l m : List A) → Holds cells n z l → length l ≤ c → c ≤ z → n + z ≤ length cells → 0 < z
      → length w ≡ c → ((i : ℕ) → cell w i ≡ cell (laid m) i) → length m ≤ c → length m ≤ 32 → size (length m) ≤ z → IsWritten cells (with_part cells n c w) n z m
  part_written cells w n c z l m holds was less within some len same now few fits = record {
    len = length-with_part cells w n c (omega arith) len;
    outside = λ j out. outside_cell cells w n c j (omega arith) len (⊎_elim (λ below. inl below) (λ past. inr (omega arith)) out);
    holds = λ i h. ⊎_elim
        (λ in'. inside_cell cells w n c i (omega arith) len in' ∙ same i)
        (λ past. outside_cell cells w n c (n + i) (omega arith) len (inr (omega arith)) ∙ holds i h ∙ laid_past l i (omega arith) ∙ sym (laid_past m i (omega arith)))
        (cases_lt i c);
    few = few;
    fits = fits;
    not_free = ap is_free (sym (at_zero cells n) ∙ holds 0 some) ∙ laid_not_free l;
  }

  -- one list is another now, and the rest is as it was
  pub record HasPut (cells new : List (Cell A)) (free : List ℕ) (n : ℕ) (l : List A) : Type 0 where
    pub sound : IsSound new free
    pub list : list_at new n ≡ listed l
    pub others : (m : ℕ) → m ≢ n → list_at new m ≡ list_at cells m

  pub has_put : (cells new : List (Cell A)) (free : List ℕ) (n z : ℕ) (l : List A) → (has : HasRegion cells free n z) → IsWritten cells new n z l → HasPut cells new free n l
  has_put cells new free n z l has w = record {
    sound = record { extent = with_extent has.extent n (size (length l)); tiled = written_tiled has.extent cells new free n z l has.tiled has.region w };
    list = written_list has.extent cells new free n z l has.tiled has.region w;
    others = written_lists has.extent cells new free n z l has.tiled has.region w;
  }

  pub put_ready : (cells : List (Cell A)) (free : List ℕ) (n c : ℕ) (l : List A) → HasRegion cells free n (size (c + 1)) → Holds cells n (size (c + 1)) l → length l ≡ c → c < 32
      → (n + c < length cells) × (part cells n (c + 1) ≡ laid l ++ Unused ∷ [])
  put_ready cells free n c l has holds len few =
      let w = has.region.within in
      let f = (sized (c + 1) (omega arith)).fits in
      (omega arith, part_all_but cells n (size (c + 1)) c l holds (omega arith) f len)

  pub put_all : (cells new : List (Cell A)) (free : List ℕ) (n c place : ℕ) (item : A) (l : List A) → HasRegion cells free n (size (c + 1)) → Holds cells n (size (c + 1)) l → length l ≡ c → c < 32
      → place ≤ c → new ≡ with_part cells n (c + 1) (laid (insert (items_of (part cells n (c + 1))) place item)) → HasPut cells new free n (insert l place item)
  put_all cells new free n c place item l has holds len few to is =
      let w = has.region.within in
      let f = (sized (c + 1) (omega arith)).fits in
      let items : items_of (part cells n (c + 1)) ≡ l = ap items_of (put_ready cells free n c l has holds len few).1 ∙ items_laid_unused l in
      let longer : length (insert l place item) ≡ c + 1 = length-insert l place item (omega arith) ∙ ap (λ n. n + 1) len in
      let last = is ∙ ap (λ m. with_part cells n (c + 1) (laid (insert m place item))) items in
      has_put cells new free n (size (c + 1)) (insert l place item) has
      (subst (λ new. IsWritten cells new n (size (c + 1)) (insert l place item)) (sym last)
      (part_written cells (laid (insert l place item)) n (c + 1) (size (c + 1)) l (insert l place item) holds (omega arith) f w has.region.some
      (length-laid (insert l place item) ∙ longer) (λ i. refl) (omega arith) (omega arith) (let e = ap size longer in omega arith)))

  -- the same in a vector that lent its cells
  pub inserted_by : (cells lent new : List (Cell A)) (free : List ℕ) (len n c place : ℕ) (item : A) (l : List A) → lent ≡ cells → len ≡ length cells
      → HasRegion cells free n (size (c + 1)) → Holds cells n (size (c + 1)) l → length l ≡ c → c < 32 → place ≤ c
      → new ≡ with_part lent n (c + 1) (laid (insert (items_of (part lent n (c + 1))) place item)) → HasPut cells (take len (new ++ drop (length new) cells)) free n (insert l place item)
  inserted_by cells lent new free len n c place item l same long has holds count few to is =
      let now = is ∙ ap (λ cells. with_part cells n (c + 1) (laid (insert (items_of (part cells n (c + 1))) place item))) same in
      let ready = put_ready cells free n c l has holds count few in
      let longer : length (laid (insert (items_of (part cells n (c + 1))) place item)) ≡ c + 1 =
      length-laid (insert (items_of (part cells n (c + 1))) place item)
      ∙ length-insert (items_of (part cells n (c + 1))) place item (let q = ap length (ap items_of ready.1 ∙ items_laid_unused l) in omega arith)
      ∙ ap (λ n. n + 1) (ap length (ap items_of ready.1 ∙ items_laid_unused l) ∙ count) in
      let kept : length new ≡ length cells = ap length now ∙ length-with_part cells (laid (insert (items_of (part cells n (c + 1))) place item)) n (c + 1) (let r = ready.0 in omega arith) longer in
      subst (λ last. HasPut cells last free n (insert l place item)) (whole len new cells (long ∙ sym kept) (sym kept)) (put_all cells new free n c place item l has holds count few to now)

  inserted_some : (l : List A) (place : ℕ) (item : A) → listed (insert l place item) ≡ Some (insert l place item)
  inserted_some [] zero item = refl
  inserted_some [] (suc p) item = refl
  inserted_some (a ∷ l) zero item = refl
  inserted_some (a ∷ l) (suc p) item = refl

  pub inserted_has : (old cells new : List (Cell A)) (middle free : List ℕ) (at count n place : ℕ) (item : A) → HasGrown old cells middle at count n
      → HasPut cells new free n (insert (held old at count) place item) → HasInserted old new free at count n place item
  inserted_has old cells new middle free at count n place item grown put = record {
    sound = put.sound;
    list = put.list ∙ inserted_some (held old at count) place item;
    others = λ m ne. put.others m ne ∙ grown.others m ne;
    fresh = grown.fresh;
  }

  -- a list stands in its block
  pub take_ready : (cells : List (Cell A)) (free : List ℕ) (at c : ℕ) (l : List A) → IsSound cells free → list_at cells at ≡ Some l → length l ≡ c → (at + c ≤ length cells) × (part cells at c ≡ laid l)
  take_ready cells free at c l sound list len =
      let taken = sound.tiled.taken at l list in
      let e = taken.extent_is in
      let w = (sound.tiled.within at (list_begins cells at l list)).1 in
      let f = (sized (length l) taken.few).fits in
      (omega arith, part_laid cells at (sound.extent at) c l (taken_holds cells free at l sound list) (omega arith) (omega arith) len)

  pub taken_region : (cells : List (Cell A)) (free : List ℕ) (at c : ℕ) (l : List A) → (sound : IsSound cells free) → list_at cells at ≡ Some l → length l ≡ c → IsRegion sound.extent cells at (size c)
  taken_region cells free at c l sound list len =
      subst (IsRegion sound.extent cells at) ((sound.tiled.taken at l list).extent_is ∙ ap size len) (block_region sound.extent cells free at sound.tiled (list_begins cells at l list))

  no_items : (l : List A) → length l ≡ 0 → l ≡ []
  no_items [] e = refl
  no_items (a ∷ l) e = absurd (omega arith)

  taken_written : (cells new : List (Cell A)) (free : List ℕ) (at left place : ℕ) (l : List A) → (sound : IsSound cells free) → list_at cells at ≡ Some l → length l ≡ left + 1 → place < left + 1
      → new ≡ with_part cells at (left + 1) (laid (remove l place) ++ Unused ∷ []) → IsWritten cells new at (size (left + 1)) (remove l place)
  taken_written cells new free at left place l sound list len to is =
      let taken = sound.tiled.taken at l list in
      let few = taken.few in
      let r = taken_region cells free at (left + 1) l sound list len in
      let w = r.within in
      let e : sound.extent at ≡ size (left + 1) = taken.extent_is ∙ ap size len in
      let f = (sized (left + 1) (omega arith)).fits in
      let shorter : length (remove l place) ≡ left = (let m = length-remove l place (omega arith) in omega arith) in
      let grows = size_grows left (omega arith) in
      subst (λ new. IsWritten cells new at (size (left + 1)) (remove l place)) (sym is)
      (part_written cells (laid (remove l place) ++ Unused ∷ []) at (left + 1) (size (left + 1)) l (remove l place)
      (λ i h. taken_holds cells free at l sound list i (omega arith)) (omega arith) f w r.some
      (length-append (laid (remove l place)) (Unused ∷ []) ∙ ap (λ n. n + 1) (length-laid (remove l place) ∙ shorter))
      (λ i. extended_cell (laid (remove l place)) 1 i) (omega arith) (omega arith) (let s = ap size shorter in omega arith))

  pub take_all : (cells new : List (Cell A)) (free : List ℕ) (at left place : ℕ) (l : List A) → (sound : IsSound cells free) → list_at cells at ≡ Some l → length l ≡ left + 1 → place < left + 1
      → new ≡ with_part cells at (left + 1) (laid (remove l place) ++ Unused ∷ []) → HasPut cells new free at (remove l place)
  take_all cells new free at left place l sound list len to is =
      has_put cells new free at (size (left + 1)) (remove l place)
      (record { extent = sound.extent; tiled = sound.tiled; region = taken_region cells free at (left + 1) l sound list len })
      (taken_written cells new free at left place l sound list len to is)

  pub take_release : (cells new : List (Cell A)) (free : List ℕ) (at left place : ℕ) (l : List A) → (sound : IsSound cells free) → list_at cells at ≡ Some l → length l ≡ left + 1 → place < left + 1
      → new ≡ with_part cells at (left + 1) (laid (remove l place) ++ Unused ∷ []) → CanRelease new free at left
  take_release cells new free at left place l sound list len to is =
      let few = (sound.tiled.taken at l list).few in
      let w = taken_written cells new free at left place l sound list len to is in
      let r = taken_region cells free at (left + 1) l sound list len in
      let p = written_replaced sound.extent cells new free at (size (left + 1)) (remove l place) sound.tiled r w in
      let extent = with_extent sound.extent at (size (length (remove l place))) in
      let tiled = written_tiled sound.extent cells new free at (size (left + 1)) (remove l place) sound.tiled r w in
      let shorter : length (remove l place) ≡ left = (let m = length-remove l place (omega arith) in omega arith) in
      record {
        few = omega arith;
        sound = record { extent = extent; tiled = tiled };
        all = λ none.
            let one : size (left + 1) ≡ 1 = ap (λ n. size (n + 1)) none ∙ size_of_one in (
              record {
                extent = extent;
                tiled = tiled;
                region = subst (IsRegion extent new at) one (region_stays sound.extent cells new free at (size (left + 1)) (size (length (remove l place))) sound.tiled r p);
              },
              λ i h. w.holds i (omega arith) ∙ ap (λ m. cell (laid m) i) (no_items (remove l place) (shorter ∙ none)),
            );
        half = λ some grows.
            let full = is_full left some (omega arith) grows in
            let s : size (length (remove l place)) ≡ left = ap size shorter ∙ full.size_is in
            let next = full.next in (
              record {
                extent = extent;
                tiled = tiled;
                region = region_rest sound.extent cells new free at (size (left + 1)) (size (length (remove l place))) sound.tiled r p left left (omega arith) (omega arith) some;
              },
              λ i h. ap (cell new) (let e : at + left + i ≡ at + (left + i) = omega arith in e) ∙ w.holds (left + i) (omega arith) ∙ laid_past (remove l place) (left + i) (omega arith),
            );
      }

  -- the same by what was held
  shorter_by : (cells new : List (Cell A)) (at count place : ℕ) → (l : List A) → part cells at count ≡ laid l → place < count
      → new ≡ with_part cells at count (laid (remove (items_of (part cells at count)) place) ++ Unused ∷ [])
      → new ≡ with_part cells at (count - 1 + 1) (laid (remove l place) ++ Unused ∷ [])
  shorter_by cells new at count place l ready to is =
      is ∙ ap (λ m. with_part cells at count (laid (remove m place) ++ Unused ∷ [])) (ap items_of ready ∙ items_laid l)
      ∙ ap (λ k. with_part cells at k (laid (remove l place) ++ Unused ∷ [])) (let e : count ≡ count - 1 + 1 = omega arith in e)

  pub removed_put : (cells new : List (Cell A)) (free : List ℕ) (at count place : ℕ) → IsSound cells free → length (held cells at count) ≡ count → place < count
      → new ≡ with_part cells at count (laid (remove (items_of (part cells at count)) place) ++ Unused ∷ []) → HasPut cells new free at (remove (held cells at count) place)
  removed_put cells new free at count place sound len to is =
      let l = held cells at count in
      let list = held_list cells at count (omega arith) len in
      take_all cells new free at (count - 1) place l sound list (omega arith) (omega arith) (shorter_by cells new at count place l (take_ready cells free at count l sound list len).1 to is)

  pub removed_release : (cells new : List (Cell A)) (free : List ℕ) (at count place : ℕ) → IsSound cells free → length (held cells at count) ≡ count → place < count
      → new ≡ with_part cells at count (laid (remove (items_of (part cells at count)) place) ++ Unused ∷ []) → CanRelease new free at (count - 1)
  removed_release cells new free at count place sound len to is =
      let l = held cells at count in
      let list = held_list cells at count (omega arith) len in
      take_release cells new free at (count - 1) place l sound list (omega arith) (omega arith) (shorter_by cells new at count place l (take_ready cells free at count l sound list len).1 to is)
