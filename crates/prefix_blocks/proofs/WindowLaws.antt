-- The cells of one list: an item is put in or taken out.
use Rattle.std.specs.Prelude.{◌≡◌, ℕ, zero, suc, ◌+◌, ◌-◌, ◌<◌, ◌≤◌, List, [], ◌∷◌, ◌++◌, map, length, take, drop, set, get_or, slice_get, IsSome}
use Rattle.std.proofs.Common.{refl, sym, ap, ◌∙◌, subst, arith, length-append, add-one}
use Rattle.std.specs.List.{insert, remove}
use Rattle.std.proofs.lemmas.List.{append_cancel_right, get_or_push, get_or_append_left}
use Rattle.std.proofs.lemmas.List.Edits.{get_or-insert_above, get_or-insert_at, insert-append_left, remove-append_left}
use Rattle.prefix_blocks.specs.declared.store.Cell.{Cell}
use Rattle.prefix_blocks.specs.declared.store.Cell.TheVariants.{First, Item, Unused}
use Rattle.prefix_blocks.specs.Cells.{cell, demoted, promoted, laid, items_of, item_of}

module _ {X : Type 0} where
  -- one step of a shift: what is carried is written, and what stood there is carried
  shift : (i : ℕ) (w : List X) (x r : X) → i < length w → r ≡ get_or w i r → take (suc i) (set w i x) ++ r ∷ drop (suc i) (set w i x) ≡ take i w ++ x ∷ drop i w
  shift i [] x r h e = absurd (omega arith)
  shift zero (y ∷ w) x r h e = ap (λ z. x ∷ z ∷ w) e
  shift (suc i) (y ∷ w) x r h e = ap (λ z. y ∷ z) (shift i w x r (omega arith) e)

  pub shift_up : (i : ℕ) (w : List X) (x r : X) → i < length w → r ≡ get_or w i r → take (i + 1) (set w i x) ++ r ∷ drop (i + 1) (set w i x) ≡ take i w ++ x ∷ drop i w
  shift_up i w x r h e = rw add-one (shift i w x r h e)

  back : (i : ℕ) (w : List X) (x r : X) → i < length w → r ≡ get_or w i r → take i (set w i x) ++ r ∷ drop i (set w i x) ≡ take (suc i) w ++ x ∷ drop (suc i) w
  back i [] x r h e = absurd (omega arith)
  back zero (y ∷ w) x r h e = ap (λ z. z ∷ x ∷ w) e
  back (suc i) (y ∷ w) x r h e = ap (λ z. y ∷ z) (back i w x r (omega arith) e)

  pub shift_down : (i : ℕ) (w : List X) (x r : X) → i < length w → r ≡ get_or w i r → take i (set w i x) ++ r ∷ drop i (set w i x) ≡ take (i + 1) w ++ x ∷ drop (i + 1) w
  shift_down i w x r h e = rw add-one (back i w x r h e)

  past : (w : List X) (i : ℕ) (x : X) → length w ≤ i → take i w ++ x ∷ drop i w ≡ w ++ x ∷ []
  past [] zero x h = refl
  past [] (suc i) x h = refl
  past (y ∷ w) zero x h = absurd (omega arith)
  past (y ∷ w) (suc i) x h = ap (λ z. y ∷ z) (past w i x (omega arith))

  pub shift_end : (w : List X) (i : ℕ) (x : X) → i ≡ length w → take i w ++ x ∷ drop i w ≡ w ++ x ∷ []
  shift_end w i x e = past w i x (omega arith)

  -- the last one is carried out
  pub shift_last : (w was : List X) (place : ℕ) (x carried d : X) → w ++ carried ∷ [] ≡ insert was place x → length w ≡ length was → place < length was
      → get_or was (length was - 1) d ≡ d → carried ≡ d
  shift_last w was place x carried d e len within last =
      sym (get_or_push w carried d (length w) refl)
      ∙ ap (λ l. get_or l (length w) d) e
      ∙ ap (λ i. get_or (insert was place x) i d) (let q : length w ≡ length was - 1 + 1 = omega arith in q)
      ∙ get_or-insert_above was place x d (length was - 1) (omega arith) (omega arith)
      ∙ last

  removed : (w : List X) (i : ℕ) (x : X) → i ≤ length w → remove (insert w i x) i ≡ w
  removed [] zero x h = refl
  removed [] (suc i) x h = absurd (omega arith)
  removed (y ∷ w) zero x h = refl
  removed (y ∷ w) (suc i) x h = ap (λ z. y ∷ z) (removed w i x (omega arith))

map-inserted : {X Y : Type 0} (f : X → Y) (xs : List X) (i : ℕ) (x : X) → map f (insert xs i x) ≡ insert (map f xs) i (f x)
map-inserted f [] zero x = refl
map-inserted f [] (suc i) x = refl
map-inserted f (y ∷ xs) zero x = refl
map-inserted f (y ∷ xs) (suc i) x = ap (λ z. f y ∷ z) (map-inserted f xs i x)

map-removed : {X Y : Type 0} (f : X → Y) (xs : List X) (i : ℕ) → map f (remove xs i) ≡ remove (map f xs) i
map-removed f [] zero = refl
map-removed f [] (suc i) = refl
map-removed f (y ∷ xs) zero = refl
map-removed f (y ∷ xs) (suc i) = ap (λ z. f y ∷ z) (map-removed f xs i)

length-mapped : {X Y : Type 0} (f : X → Y) (xs : List X) → length (map f xs) ≡ length xs
length-mapped f [] = refl
length-mapped f (x ∷ xs) = ap suc (length-mapped f xs)

module _ {A : Type 0} where
  pub length-laid : (l : List A) → length (laid l) ≡ length l
  length-laid [] = refl
  length-laid (a ∷ l) = ap suc (length-mapped Item l)

  items_later : (l : List A) → items_of (map Item l) ≡ l
  items_later [] = refl
  items_later (a ∷ l) = ap (λ z. a ∷ z) (items_later l)

  pub items_laid : (l : List A) → items_of (laid l) ≡ l
  items_laid [] = refl
  items_laid (a ∷ l) = ap (λ z. a ∷ z) (items_later l)

  items_later_unused : (l : List A) → items_of (map Item l ++ Unused ∷ []) ≡ l
  items_later_unused [] = refl
  items_later_unused (a ∷ l) = ap (λ z. a ∷ z) (items_later_unused l)

  pub items_laid_unused : (l : List A) → items_of (laid l ++ Unused ∷ []) ≡ l
  items_laid_unused [] = refl
  items_laid_unused (a ∷ l) = ap (λ z. a ∷ z) (items_later_unused l)

  -- the first item of a list made a later one
  demote_first : (l : List A) (x : Cell A) → set (laid l ++ Unused ∷ []) 0 (demoted (get_or (laid l ++ Unused ∷ []) 0 x)) ≡ map Item l ++ Unused ∷ []
  demote_first [] x = refl
  demote_first (a ∷ l) x = refl

  promote_first : (l : List A) (x : Cell A) → set (map Item l ++ Unused ∷ []) 0 (promoted (get_or (map Item l ++ Unused ∷ []) 0 x)) ≡ laid l ++ Unused ∷ []
  promote_first [] x = refl
  promote_first (a ∷ l) x = refl

  pub put_first : (old w1 w2 : List (Cell A)) (l : List A) (x y : Cell A) (item : A) → old ≡ laid l ++ Unused ∷ [] → y ≡ demoted (get_or old 0 x) → w1 ≡ set old 0 y
      → w2 ++ Unused ∷ [] ≡ insert w1 0 (First item) → w2 ≡ laid (insert l 0 item)
  put_first old w1 w2 l x y item held is at e =
      let first : w1 ≡ map Item l ++ Unused ∷ [] =
      at ∙ ap (set old 0) is ∙ ap (λ o. set o 0 (demoted (get_or o 0 x))) held ∙ demote_first l x in
      append_cancel_right w2 (First item ∷ map Item l) (Unused ∷ []) (e ∙ ap (λ o. First item ∷ o) first)

  put_next : (l : List A) (p : ℕ) (item : A) → 0 < length l → insert (laid l) (suc p) (Item item) ≡ laid (insert l (suc p) item)
  put_next [] p item h = absurd (omega arith)
  put_next (a ∷ l) p item h = ap (λ z. First a ∷ z) (sym (map-inserted Item l p item))

  pub put_later : (old w : List (Cell A)) (l : List A) (place : ℕ) (item : A) → old ≡ laid l ++ Unused ∷ [] → place < length old → (place ≡ 0 → ⊥)
      → w ++ Unused ∷ [] ≡ insert old place (Item item) → w ≡ laid (insert l place item)
  put_later old w l zero item held within later e = absurd (later refl)
  put_later old w l (suc p) item held within later e =
      let len : length old ≡ length l + 1 = ap length held ∙ length-append (laid l) (Unused ∷ []) ∙ ap (λ n. n + 1) (length-laid l) in
      let short = length-laid l in
      append_cancel_right w (laid (insert l (suc p) item)) (Unused ∷ [])
      (e ∙ ap (λ o. insert o (suc p) (Item item)) held ∙ insert-append_left (laid l) (Unused ∷ []) (suc p) (Item item) (omega arith)
      ∙ ap (λ o. o ++ Unused ∷ []) (put_next l p item (omega arith)))

  item_later : (l : List A) (i : ℕ) → item_of (cell (map Item l) i) ≡ slice_get l i
  item_later [] i = refl
  item_later (a ∷ l) zero = refl
  item_later (a ∷ l) (suc i) = item_later l i

  -- the item of a cell
  pub item_laid : (l : List A) (i : ℕ) → item_of (cell (laid l) i) ≡ slice_get l i
  item_laid [] i = refl
  item_laid (a ∷ l) zero = refl
  item_laid (a ∷ l) (suc i) = item_later l i

  -- what was taken, and what is left
  pub taken_cell : (w : List (Cell A)) (l : List A) (place : ℕ) (x : Cell A) → insert w place x ≡ laid l ++ Unused ∷ [] → place ≤ length w → place < length l → x ≡ cell (laid l) place
  taken_cell w l place x e h within =
      sym (get_or-insert_at w place x Unused h) ∙ ap (λ o. cell o place) e ∙ get_or_append_left (laid l) (Unused ∷ []) Unused place (let n = length-laid l in omega arith)

  left_cells : (w : List (Cell A)) (l : List A) (place : ℕ) (x : Cell A) → insert w place x ≡ laid l ++ Unused ∷ [] → place ≤ length w → place < length l → w ≡ remove (laid l) place ++ Unused ∷ []
  left_cells w l place x e h within =
      sym (removed w place x h) ∙ ap (λ o. remove o place) e ∙ remove-append_left (laid l) (Unused ∷ []) place (let n = length-laid l in omega arith)

  some_item : (l : List A) (place : ℕ) → place < length l → IsSome (slice_get l place)
  some_item [] place h = absurd (omega arith)
  some_item (a ∷ l) zero h = refl
  some_item (a ∷ l) (suc i) h = some_item l i (omega arith)

  pub laid_some_item : (l : List A) (place : ℕ) (x : Cell A) → x ≡ cell (laid l) place → place < length l → IsSome (item_of x)
  laid_some_item l place x e h = subst (λ o. IsSome o) (sym (ap item_of e ∙ item_laid l place)) (some_item l place h)

  pub left_first : (w : List (Cell A)) (l : List A) (place : ℕ) (x y z : Cell A) → insert w place x ≡ laid l ++ Unused ∷ [] → place ≤ length w → place < length l → place ≡ 0
      → z ≡ promoted (get_or w 0 y) → set w 0 z ≡ laid (remove l place) ++ Unused ∷ []
  left_first w [] place x y z e h within at is = absurd (omega arith)
  left_first w (a ∷ l) place x y z e h within at is =
      let left : w ≡ map Item l ++ Unused ∷ [] = left_cells w (a ∷ l) place x e h within ∙ ap (λ p. remove (laid (a ∷ l)) p ++ Unused ∷ []) at in
      ap (set w 0) is ∙ ap (λ o. set o 0 (promoted (get_or o 0 y))) left ∙ promote_first l y ∙ ap (λ p. laid (remove (a ∷ l) p) ++ Unused ∷ []) (sym at)

  left_next : (l : List A) (p : ℕ) → suc p < length l → remove (laid l) (suc p) ≡ laid (remove l (suc p))
  left_next [] p h = absurd (omega arith)
  left_next (a ∷ l) p h = ap (λ z. First a ∷ z) (sym (map-removed Item l p))

  pub left_later : (w : List (Cell A)) (l : List A) (place : ℕ) (x : Cell A) → insert w place x ≡ laid l ++ Unused ∷ [] → place ≤ length w → place < length l → (place ≡ 0 → ⊥)
      → w ≡ laid (remove l place) ++ Unused ∷ []
  left_later w l zero x e h within later = absurd (later refl)
  left_later w l (suc p) x e h within later = left_cells w l (suc p) x e h within ∙ ap (λ o. o ++ Unused ∷ []) (left_next l p within)

  -- a part of the store, cell by cell
  pub same_cells : (xs ys : List (Cell A)) → length xs ≡ length ys → ((i : ℕ) → i < length xs → cell xs i ≡ cell ys i) → xs ≡ ys
  same_cells [] [] e same = refl
  same_cells [] (y ∷ ys) e same = absurd (omega (arith, e))
  same_cells (x ∷ xs) [] e same = absurd (omega (arith, e))
  same_cells (x ∷ xs) (y ∷ ys) e same =
      let first : x ≡ y = same 0 (omega arith) in
      let rest = same_cells xs ys (omega (arith, e)) (λ i h. same (suc i) (omega arith)) in
      cc
