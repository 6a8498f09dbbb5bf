-- The list that begins at a cell, cell by cell.
use Rattle.std.specs.Prelude.{◌≡◌, ℕ, zero, suc, ◌+◌, ◌<◌, ◌≤◌, true, false, List, [], ◌∷◌, map, length, drop, Some, None}
use Rattle.std.proofs.Common.{refl, sym, ap, ◌∙◌, subst, arith}
use Rattle.std.proofs.lemmas.List.{get_or-drop, get_or_past}
use Rattle.prefix_blocks.specs.declared.store.Cell.{Cell}
use Rattle.prefix_blocks.specs.declared.store.Cell.TheVariants.{First, Item, Free, Unused}
use Rattle.prefix_blocks.specs.Cells.{cell, begins, is_item, is_first, is_free, laid, items_front, list_front, list_at}

module _ {A : Type 0} where
  pub cell-drop : (n : ℕ) (cells : List (Cell A)) (i : ℕ) → cell (drop n cells) i ≡ cell cells (n + i)
  cell-drop n cells i = get_or-drop n cells i Unused

  pub cell_past : (cells : List (Cell A)) (i : ℕ) → length cells ≤ i → cell cells i ≡ Unused
  cell_past cells i h = get_or_past cells i Unused h

  -- the items of a list behind the first
  later_cell : (l : List A) (i : ℕ) → begins (cell (map Item l) i) ≡ false
  later_cell [] i = refl
  later_cell (a ∷ l) zero = refl
  later_cell (a ∷ l) (suc i) = later_cell l i

  later_past : (l : List A) (i : ℕ) → length l ≤ i → cell (map Item l) i ≡ Unused
  later_past [] i h = refl
  later_past (a ∷ l) zero h = absurd (omega arith)
  later_past (a ∷ l) (suc i) h = later_past l i (omega arith)

  pub laid_later : (l : List A) (i : ℕ) → 0 < i → begins (cell (laid l) i) ≡ false
  laid_later [] i h = refl
  laid_later (a ∷ l) zero h = absurd (omega arith)
  laid_later (a ∷ l) (suc i) h = later_cell l i

  pub laid_past : (l : List A) (i : ℕ) → length l ≤ i → cell (laid l) i ≡ Unused
  laid_past [] i h = refl
  laid_past (a ∷ l) zero h = absurd (omega arith)
  laid_past (a ∷ l) (suc i) h = later_past l i (omega arith)

  pub laid_first : (l : List A) → is_item (cell (laid l) 0) ≡ false
  laid_first [] = refl
  laid_first (a ∷ l) = refl

  pub laid_not_free : (l : List A) → is_free (cell (laid l) 0) ≡ false
  laid_not_free [] = refl
  laid_not_free (a ∷ l) = refl

  pub laid_some : (l : List A) → begins (cell (laid l) 0) ≡ true → 0 < length l
  laid_some [] e = cc
  laid_some (a ∷ l) e = omega arith

  -- what begins is a list or a free block
  pub begins_first : (c : Cell A) → is_first c ≡ true → begins c ≡ true
  begins_first (First a) e = refl
  begins_first (Item a) e = cc
  begins_first (Free t) e = cc
  begins_first Unused e = cc

  pub begins_free : (c : Cell A) → is_free c ≡ true → begins c ≡ true
  begins_free (First a) e = cc
  begins_free (Item a) e = cc
  begins_free (Free t) e = refl
  begins_free Unused e = cc

  pub not_first : (c : Cell A) → begins c ≡ false → is_first c ≡ false
  not_first (First a) e = cc
  not_first (Item a) e = refl
  not_first (Free t) e = refl
  not_first Unused e = refl

  pub not_free : (c : Cell A) → begins c ≡ false → is_free c ≡ false
  not_free (First a) e = refl
  not_free (Item a) e = refl
  not_free (Free t) e = cc
  not_free Unused e = refl

  pub free_is : (c : Cell A) (t : ℕ) → c ≡ Free t → is_free c ≡ true
  free_is c t e = ap is_free e

  pub free_not_item : (c : Cell A) → is_free c ≡ true → is_item c ≡ false
  free_not_item (First a) e = refl
  free_not_item (Item a) e = cc
  free_not_item (Free t) e = refl
  free_not_item Unused e = refl

  pub free_not_first : (c : Cell A) → is_free c ≡ true → is_first c ≡ false
  free_not_first (First a) e = cc
  free_not_first (Item a) e = refl
  free_not_first (Free t) e = refl
  free_not_first Unused e = refl

  -- the later items at the front are in the cells there, and no item follows
  front_cells : (cs : List (Cell A)) (i : ℕ) → i < length (items_front cs) → cell cs i ≡ cell (map Item (items_front cs)) i
  front_cells [] i h = absurd (omega arith)
  front_cells (First a ∷ cs) i h = absurd (omega arith)
  front_cells (Item a ∷ cs) zero h = refl
  front_cells (Item a ∷ cs) (suc i) h = front_cells cs i (omega arith)
  front_cells (Free t ∷ cs) i h = absurd (omega arith)
  front_cells (Unused ∷ cs) i h = absurd (omega arith)

  front_ends : (cs : List (Cell A)) → is_item (cell cs (length (items_front cs))) ≡ false
  front_ends [] = refl
  front_ends (First a ∷ cs) = refl
  front_ends (Item a ∷ cs) = front_ends cs
  front_ends (Free t ∷ cs) = refl
  front_ends (Unused ∷ cs) = refl

  front_from : (l : List A) (cs : List (Cell A)) → ((i : ℕ) → i < length l → cell cs i ≡ cell (map Item l) i) → is_item (cell cs (length l)) ≡ false → items_front cs ≡ l
  front_from [] [] same ends = refl
  front_from [] (First a ∷ cs) same ends = refl
  front_from [] (Item a ∷ cs) same ends = cc
  front_from [] (Free t ∷ cs) same ends = refl
  front_from [] (Unused ∷ cs) same ends = refl
  front_from (b ∷ l) [] same ends = let e : ◌≡◌ {A = Cell A} Unused (Item b) = same 0 (omega arith) in cc
  front_from (b ∷ l) (First a ∷ cs) same ends = let e : ◌≡◌ {A = Cell A} (First a) (Item b) = same 0 (omega arith) in cc
  front_from (b ∷ l) (Item a ∷ cs) same ends =
      let e : ◌≡◌ {A = Cell A} (Item a) (Item b) = same 0 (omega arith) in
      let first : a ≡ b = cc in
      let rest = front_from l cs (λ i h. same (suc i) (omega arith)) ends in
      cc
  front_from (b ∷ l) (Free t ∷ cs) same ends = let e : ◌≡◌ {A = Cell A} (Free t) (Item b) = same 0 (omega arith) in cc
  front_from (b ∷ l) (Unused ∷ cs) same ends = let e : ◌≡◌ {A = Cell A} Unused (Item b) = same 0 (omega arith) in cc

  -- this list begins at the front of the cells
  pub record LiesAt (cells : List (Cell A)) (n : ℕ) (l : List A) : Type 0 where
    pub some : 0 < length l
    pub same : (i : ℕ) → i < length l → cell cells (n + i) ≡ cell (laid l) i
    pub ends : is_item (cell cells (n + length l)) ≡ false

  first_cells : (a : A) (cs : List (Cell A)) (i : ℕ) → i < suc (length (items_front cs)) → cell (First a ∷ cs) i ≡ cell (First a ∷ map Item (items_front cs)) i
  first_cells a cs zero h = refl
  first_cells a cs (suc i) h = front_cells cs i (omega arith)

  front_lies : (cs : List (Cell A)) (l : List A) → list_front cs ≡ Some l
      → (0 < length l) × ((i : ℕ) → i < length l → cell cs i ≡ cell (laid l) i) × (is_item (cell cs (length l)) ≡ false)
  front_lies [] l e = cc
  front_lies (First a ∷ cs) l e =
      let it : a ∷ items_front cs ≡ l = cc in
      let P : List A → Type 0 = λ l. (0 < length l) × ((i : ℕ) → i < length l → cell (First a ∷ cs) i ≡ cell (laid l) i) × (is_item (cell (First a ∷ cs) (length l)) ≡ false) in
      subst P it (omega arith, first_cells a cs, front_ends cs)
  front_lies (Item a ∷ cs) l e = cc
  front_lies (Free t ∷ cs) l e = cc
  front_lies (Unused ∷ cs) l e = cc

  lies_front : (cs : List (Cell A)) (l : List A) → 0 < length l → ((i : ℕ) → i < length l → cell cs i ≡ cell (laid l) i) → is_item (cell cs (length l)) ≡ false → list_front cs ≡ Some l
  lies_front cs [] some same ends = absurd (omega arith)
  lies_front [] (b ∷ l) some same ends = let e : ◌≡◌ {A = Cell A} Unused (First b) = same 0 (omega arith) in cc
  lies_front (First a ∷ cs) (b ∷ l) some same ends =
      let e : ◌≡◌ {A = Cell A} (First a) (First b) = same 0 (omega arith) in
      let first : a ≡ b = cc in
      let rest = front_from l cs (λ i h. same (suc i) (omega arith)) ends in
      cc
  lies_front (Item a ∷ cs) (b ∷ l) some same ends = let e : ◌≡◌ {A = Cell A} (Item a) (First b) = same 0 (omega arith) in cc
  lies_front (Free t ∷ cs) (b ∷ l) some same ends = let e : ◌≡◌ {A = Cell A} (Free t) (First b) = same 0 (omega arith) in cc
  lies_front (Unused ∷ cs) (b ∷ l) some same ends = let e : ◌≡◌ {A = Cell A} Unused (First b) = same 0 (omega arith) in cc

  pub list_lies : (cells : List (Cell A)) (n : ℕ) (l : List A) → list_at cells n ≡ Some l → LiesAt cells n l
  unfolding list_at
  list_lies cells n l e =
      let lies = front_lies (drop n cells) l e in
      record { some = lies.0; same = λ i h. sym (cell-drop n cells i) ∙ lies.1 i h; ends = ap is_item (sym (cell-drop n cells (length l))) ∙ lies.2 }

  pub lies_list : (cells : List (Cell A)) (n : ℕ) (l : List A) → LiesAt cells n l → list_at cells n ≡ Some l
  unfolding list_at
  lies_list cells n l lies =
      lies_front (drop n cells) l lies.some (λ i h. cell-drop n cells i ∙ lies.same i h) (ap is_item (cell-drop n cells (length l)) ∙ lies.ends)

  front_first : (cs : List (Cell A)) (l : List A) → list_front cs ≡ Some l → is_first (cell cs 0) ≡ true
  front_first [] l e = cc
  front_first (First a ∷ cs) l e = refl
  front_first (Item a ∷ cs) l e = cc
  front_first (Free t ∷ cs) l e = cc
  front_first (Unused ∷ cs) l e = cc

  front_none : (cs : List (Cell A)) → is_first (cell cs 0) ≡ false → list_front cs ≡ None
  front_none [] e = refl
  front_none (First a ∷ cs) e = cc
  front_none (Item a ∷ cs) e = refl
  front_none (Free t ∷ cs) e = refl
  front_none (Unused ∷ cs) e = refl

  front_none_first : (cs : List (Cell A)) → list_front cs ≡ None → is_first (cell cs 0) ≡ false
  front_none_first [] e = refl
  front_none_first (First a ∷ cs) e = cc
  front_none_first (Item a ∷ cs) e = refl
  front_none_first (Free t ∷ cs) e = refl
  front_none_first (Unused ∷ cs) e = refl

  at_front : (n : ℕ) (cells : List (Cell A)) → cell (drop n cells) 0 ≡ cell cells n
  at_front n cells = cell-drop n cells 0 ∙ ap (cell cells) (let e : n + 0 ≡ n = omega arith in e)

  pub list_first : (cells : List (Cell A)) (n : ℕ) (l : List A) → list_at cells n ≡ Some l → is_first (cell cells n) ≡ true
  unfolding list_at
  list_first cells n l e = ap is_first (sym (at_front n cells)) ∙ front_first (drop n cells) l e

  pub no_list : (cells : List (Cell A)) (n : ℕ) → is_first (cell cells n) ≡ false → list_at cells n ≡ None
  unfolding list_at
  no_list cells n e = front_none (drop n cells) (ap is_first (at_front n cells) ∙ e)

  pub no_list_first : (cells : List (Cell A)) (n : ℕ) → list_at cells n ≡ None → is_first (cell cells n) ≡ false
  unfolding list_at
  no_list_first cells n e = ap is_first (sym (at_front n cells)) ∙ front_none_first (drop n cells) e

  pub list_begins : (cells : List (Cell A)) (n : ℕ) (l : List A) → list_at cells n ≡ Some l → begins (cell cells n) ≡ true
  list_begins cells n l e = begins_first _ (list_first cells n l e)
