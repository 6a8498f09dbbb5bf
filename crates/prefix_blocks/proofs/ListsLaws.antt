-- The finite map of the lists of a store.
use Rattle.std.specs.Prelude.{◌≡◌, ◌≢◌, ℕ, zero, suc, ◌+◌, ◌<◌, ◌==◌, Bool, true, false, cond, List, [], ◌∷◌, ◌++◌, length, take, drop, Some, None}
use Rattle.std.proofs.Common.{refl, sym, ap, ◌∙◌, arith}
use Rattle.std.specs.Ordering.{eq_by_cmp, nat_cmp, is_eq}
use Rattle.std.specs.Cmp.{nat_cmp_total, tied_itself, Equal-is}
use Rattle.prefix_blocks.proofs.Grows.{held_is, whole}
use Rattle.std.specs.FinMap.{nat_cmp-IsAntisymmetric}
use Rattle.std.specs.FinMap as map
use Rattle.std.specs.FinMap.Entries.{find}
use Rattle.std.specs.List.{insert, remove}
use Rattle.std.specs.Option.{unwrap_or}
use Rattle.std.proofs.lemmas.Bool.{cases_eq, eq-eqb, ne_eqb}
use Rattle.std.proofs.Math.Logic.{⊎_elim}
use Rattle.prefix_blocks.specs.declared.store.Cell.{Cell}
use Rattle.prefix_blocks.specs.declared.store.Cell.TheVariants.{First, Item, Free, Unused}
use Rattle.prefix_blocks.specs.Blocks.{list_named, held_by, without, with_list}
use Rattle.prefix_blocks.specs.Cells.{items_front, list_front, list_at, lists_from, lists_of, held, list_but, listed}

tied : (q k : ℕ) → q ≡ k → eq_by_cmp nat_cmp q k ≡ true
tied q k e = ap (λ q. eq_by_cmp nat_cmp q k) e ∙ ap is_eq (tied_itself nat_cmp_total k)

untied : (q k : ℕ) → q ≢ k → eq_by_cmp nat_cmp q k ≡ false
untied q k ne = go (eq_by_cmp nat_cmp q k) refl
  where
    go : (b : Bool) → eq_by_cmp nat_cmp q k ≡ b → b ≡ false
    go true h = absurd (ne (nat_cmp-IsAntisymmetric q k ((Equal-is _).0 h)))
    go false h = refl

module _ {A : Type 0} where
  find_below : (cells : List (Cell A)) (n q : ℕ) → q < n → find nat_cmp q (lists_from n cells) ≡ None
  find_below [] n q h = refl
  find_below (First a ∷ cs) n q h =
      ap (λ b. cond b (Some (a ∷ items_front cs)) (find nat_cmp q (lists_from (suc n) cs))) (untied q n (λ e. omega arith)) ∙ find_below cs (suc n) q (omega arith)
  find_below (Item a ∷ cs) n q h = find_below cs (suc n) q (omega arith)
  find_below (Free t ∷ cs) n q h = find_below cs (suc n) q (omega arith)
  find_below (Unused ∷ cs) n q h = find_below cs (suc n) q (omega arith)

  nothing_left : (i : ℕ) → None ≡ list_front (drop {A = Cell A} i [])
  nothing_left zero = refl
  nothing_left (suc i) = refl

  find_at : (cells : List (Cell A)) (n i q : ℕ) → q ≡ n + i → find nat_cmp q (lists_from n cells) ≡ list_front (drop i cells)
  find_at [] n i q e = nothing_left i
  find_at (First a ∷ cs) n zero q e = ap (λ b. cond b (Some (a ∷ items_front cs)) (find nat_cmp q (lists_from (suc n) cs))) (tied q n (omega arith))
  find_at (First a ∷ cs) n (suc i) q e =
      ap (λ b. cond b (Some (a ∷ items_front cs)) (find nat_cmp q (lists_from (suc n) cs))) (untied q n (λ h. omega arith)) ∙ find_at cs (suc n) i q (omega arith)
  find_at (Item a ∷ cs) n zero q e = find_below cs (suc n) q (omega arith)
  find_at (Item a ∷ cs) n (suc i) q e = find_at cs (suc n) i q (omega arith)
  find_at (Free t ∷ cs) n zero q e = find_below cs (suc n) q (omega arith)
  find_at (Free t ∷ cs) n (suc i) q e = find_at cs (suc n) i q (omega arith)
  find_at (Unused ∷ cs) n zero q e = find_below cs (suc n) q (omega arith)
  find_at (Unused ∷ cs) n (suc i) q e = find_at cs (suc n) i q (omega arith)

  pub get-lists_of : (cells : List (Cell A)) (n : ℕ) → map.get (lists_of cells) n ≡ list_at cells n
  unfolding lists_of list_at
  get-lists_of cells n = map.get-from_entries nat_cmp_total (lists_from 0 cells) n ∙ find_at cells 0 n n (omega arith)

  pub no_lists : lists_of {A = A} [] ≡ map.empty
  unfolding lists_of
  no_lists = refl

  pub named_is : (cells : List (Cell A)) (at : ℕ) → list_named (lists_of cells) at ≡ unwrap_or (list_at cells at) []
  named_is cells at = ap (λ o. unwrap_or o []) (get-lists_of cells at)

  pub held_named : (cells : List (Cell A)) (at count : ℕ) → 0 < count → held cells at count ≡ list_named (lists_of cells) at
  held_named cells at count some = held_is cells at count some ∙ sym (named_is cells at)

  pub held_is_by : (cells : List (Cell A)) (at count : ℕ) → held_by (lists_of cells) at count ≡ held cells at count
  held_is_by cells at count = ap (λ o. cond (count == 0) [] (unwrap_or o [])) (get-lists_of cells at)

  -- one list more or less, by what is found
  get_put : (lists : map.FinMap nat_cmp (List A)) (k q : ℕ) (l : List A) → q ≡ k → map.get (map.insert lists k l) q ≡ Some l
  get_put lists k q l e = map.get-insert nat_cmp_total lists k l q ∙ ap (λ b. cond b (Some l) (map.get lists q)) (tied q k e)

  get_other : (lists : map.FinMap nat_cmp (List A)) (k q : ℕ) (l : List A) → q ≢ k → map.get (map.insert lists k l) q ≡ map.get lists q
  get_other lists k q l ne = map.get-insert nat_cmp_total lists k l q ∙ ap (λ b. cond b (Some l) (map.get lists q)) (untied q k ne)

  get_gone : (lists : map.FinMap nat_cmp (List A)) (k q : ℕ) → q ≡ k → map.get (map.remove lists k) q ≡ None
  get_gone lists k q e = map.get-remove nat_cmp_total lists k q ∙ ap (λ b. cond b None (map.get lists q)) (tied q k e)

  get_left : (lists : map.FinMap nat_cmp (List A)) (k q : ℕ) → q ≢ k → map.get (map.remove lists k) q ≡ map.get lists q
  get_left lists k q ne = map.get-remove nat_cmp_total lists k q ∙ ap (λ b. cond b None (map.get lists q)) (untied q k ne)

  get_without_of : (cells : List (Cell A)) (at q : ℕ) (b : Bool)
      → map.get (cond b (lists_of cells) (map.remove (lists_of cells) at)) q ≡ cond b (list_at cells q) (cond (q == at) None (list_at cells q))
  get_without_of cells at q true = get-lists_of cells q
  get_without_of cells at q false =
      ⊎_elim
      (λ e. get_gone (lists_of cells) at q e ∙ ap (λ b. cond b None (list_at cells q)) (sym (eq-eqb q at e)))
      (λ ne. get_left (lists_of cells) at q ne ∙ get-lists_of cells q ∙ ap (λ b. cond b None (list_at cells q)) (sym (ne_eqb q at ne)))
      (cases_eq q at)

  pub get_without : (cells : List (Cell A)) (at count q : ℕ) → map.get (without (lists_of cells) at count) q ≡ list_but cells at count q
  get_without cells at count q = get_without_of cells at q (count == 0)

  -- a list was inserted into
  pub lists_inserted : (old new : List (Cell A)) (at count n place : ℕ) (item : A) → list_at new n ≡ Some (insert (held old at count) place item)
      → ((m : ℕ) → m ≢ n → list_at new m ≡ list_but old at count m)
      → lists_of new ≡ map.insert (without (lists_of old) at count) n (insert (held_by (lists_of old) at count) place item)
  lists_inserted old new at count n place item here others =
      map.same_map nat_cmp_total nat_cmp-IsAntisymmetric (lists_of new) _ (λ q. get-lists_of new q ∙ ⊎_elim
      (λ e. ap (list_at new) e ∙ here ∙ ap (λ l. Some (insert l place item)) (sym (held_is_by old at count)) ∙ sym (get_put _ n q _ e))
      (λ ne. others q ne ∙ sym (get_without old at count q) ∙ sym (get_other _ n q _ ne))
      (cases_eq q n))

  -- a list was added
  pub lists_added : (old new : List (Cell A)) (n : ℕ) (l : List A) → list_at new n ≡ Some l → ((m : ℕ) → m ≢ n → list_at new m ≡ list_at old m) → lists_of new ≡ map.insert (lists_of old) n l
  lists_added old new n l here others =
      map.same_map nat_cmp_total nat_cmp-IsAntisymmetric (lists_of new) _ (λ q. get-lists_of new q ∙ ⊎_elim
      (λ e. ap (list_at new) e ∙ here ∙ sym (get_put _ n q _ e))
      (λ ne. others q ne ∙ sym (get-lists_of old q) ∙ sym (get_other _ n q _ ne))
      (cases_eq q n))

  get_with_list : (lists : map.FinMap nat_cmp (List A)) (at q : ℕ) (l : List A) → q ≡ at → map.get (with_list lists at l) q ≡ listed l
  get_with_list lists at q [] e = get_gone lists at q e
  get_with_list lists at q (a ∷ l) e = get_put lists at q (a ∷ l) e

  get_beside_list : (lists : map.FinMap nat_cmp (List A)) (at q : ℕ) (l : List A) → q ≢ at → map.get (with_list lists at l) q ≡ map.get lists q
  get_beside_list lists at q [] ne = get_left lists at q ne
  get_beside_list lists at q (a ∷ l) ne = get_other lists at q (a ∷ l) ne

  -- one list is another now
  pub lists_put : (old new : List (Cell A)) (at : ℕ) (l : List A) → list_at new at ≡ listed l → ((m : ℕ) → m ≢ at → list_at new m ≡ list_at old m)
      → lists_of new ≡ with_list (lists_of old) at l
  lists_put old new at l here others =
      map.same_map nat_cmp_total nat_cmp-IsAntisymmetric (lists_of new) _ (λ q. get-lists_of new q ∙ ⊎_elim
      (λ e. ap (list_at new) e ∙ here ∙ sym (get_with_list (lists_of old) at q l e))
      (λ ne. others q ne ∙ sym (get-lists_of old q) ∙ sym (get_beside_list (lists_of old) at q l ne))
      (cases_eq q at))

  pub lists_same : (old new : List (Cell A)) → new ≡ old → lists_of new ≡ lists_of old
  lists_same old new e = ap lists_of e

  -- a vector that lent all its cells
  pub lists_removed : (cells lent new : List (Cell A)) (len at count place : ℕ) → lent ≡ cells → len ≡ length cells → length new ≡ length lent → 0 < count
      → list_at new at ≡ listed (remove (held lent at count) place) → ((m : ℕ) → m ≢ at → list_at new m ≡ list_at lent m)
      → lists_of (take len (new ++ drop (length new) cells)) ≡ with_list (lists_of cells) at (remove (list_named (lists_of cells) at) place)
  lists_removed cells lent new len at count place same long kept some here others =
      let size : length new ≡ length cells = kept ∙ ap length same in
      ap lists_of (sym (whole len new cells (long ∙ sym size) (sym size)))
      ∙ lists_put cells new at (remove (list_named (lists_of cells) at) place)
      (here ∙ ap (λ l. listed (remove l place)) (ap (λ cells. held cells at count) same ∙ held_named cells at count some))
      (λ m ne. others m ne ∙ ap (λ cells. list_at cells m) same)
