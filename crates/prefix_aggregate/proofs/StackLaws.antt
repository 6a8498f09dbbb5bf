-- The lists of change sets, as they are kept.
use Rattle.std.proofs.Common.{◌≡◌, ℕ, zero, suc, ◌+◌, ◌-◌, ◌<◌, ◌≤◌, List, [], ◌∷◌, ◌++◌, length, take, drop, map, reverse, refl, sym, ap, ◌∙◌, subst, arith, length-append, Some, None}
use Rattle.std.specs.Prelude.{◌==◌, true, false, T, slice_get, slice_index_or}
use mathlib.Core.Bool.{true≢false}
use Rattle.std.proofs.Math.Facts.{eqb_yes}
use Rattle.std.specs.Option.{option_map}
use Rattle.std.proofs.lemmas.List.{reverse-append, map-append, take_all, take-append-le}
use Rattle.prefix_model.specs.Candidates.{Candidates}
use Rattle.prefix_aggregate.specs.Parts.{as_candidates}
use Rattle.prefix_aggregate.specs.Stacks.{pieces, start_at, AreEnds, kept_lists}
use Rattle.prefix_aggregate.specs.declared.sets.Stacks.{Stacks}

-- ---- from the last to the first

module _ {A : Type 0} where
  get_front : (a b : List A) (i : ℕ) → i < length a → slice_get (a ++ b) i ≡ slice_get a i
  get_front [] b i w = absurd (omega arith)
  get_front (x ∷ a) b zero w = refl
  get_front (x ∷ a) b (suc i) w = get_front a b i (omega arith)

  get_end : (a : List A) (x : A) → slice_get (a ++ x ∷ []) (length a) ≡ Some x
  get_end [] x = refl
  get_end (y ∷ a) x = get_end a x

  pub reverse-cons : (x : A) (l : List A) → reverse (x ∷ l) ≡ reverse l ++ x ∷ []
  reverse-cons x l = reverse-append (x ∷ []) l

  pub length-reversed : (l : List A) → length (reverse l) ≡ length l
  length-reversed [] = refl
  length-reversed (x ∷ l) =
      let e = ap length (reverse-cons x l) ∙ length-append (reverse l) (x ∷ []) in
      let h = length-reversed l in
      omega (arith, e, h)

  pub get_reversed : (l : List A) (i : ℕ) → i < length l → slice_get (reverse l) i ≡ slice_get l (length l - 1 - i)
  get_reversed [] i w = absurd (omega arith)
  get_reversed (x ∷ l) i w = ap (λ k. slice_get k i) (reverse-cons x l) ∙ at (get_reversed l) (length l - i) refl
    where
      at : ((i : ℕ) → i < length l → slice_get (reverse l) i ≡ slice_get l (length l - 1 - i)) → (d : ℕ) → length l - i ≡ d → slice_get (reverse l ++ x ∷ []) i ≡ slice_get (x ∷ l) (suc (length l) - 1 - i)
      at rest zero e =
          let last : i ≡ length (reverse l) = (let h = length-reversed l in omega (arith, h, e)) in
          ap (slice_get (reverse l ++ x ∷ [])) last ∙ get_end (reverse l) x ∙ ap (slice_get (x ∷ l)) (let k : 0 ≡ suc (length l) - 1 - i = omega (arith, e) in k)
      at rest (suc d) e =
          get_front (reverse l) (x ∷ []) i (let h = length-reversed l in omega (arith, h, e))
          ∙ rest i (omega (arith, e))
          ∙ ap (slice_get (x ∷ l)) (let k : suc (length l - 1 - i) ≡ suc (length l) - 1 - i = omega (arith, e) in k)

get_map : {A B : Type 0} (f : A → B) (l : List A) (i : ℕ) → slice_get (map f l) i ≡ option_map f (slice_get l i)
get_map f [] i = refl
get_map f (x ∷ l) zero = refl
get_map f (x ∷ l) (suc i) = get_map f l i

length-mapped : {A B : Type 0} (f : A → B) (l : List A) → length (map f l) ≡ length l
length-mapped f [] = refl
length-mapped f (x ∷ l) = ap suc (length-mapped f l)

-- ---- pieces

pub ends_within : (a : ℕ) (es : List ℕ) (n : ℕ) → AreEnds a es n → a ≤ n
ends_within a [] n h = omega (arith, h)
ends_within a (e ∷ es) n h = let w = ends_within e es n h.1 in let s = h.0 in omega (arith, w, s)

pub start_before : (a : ℕ) (es : List ℕ) (k : ℕ) → 0 < k → k < length es → slice_index_or es (k - 1) 0 ≡ start_at a es k
start_before a [] k z w = absurd (omega arith)
start_before a (e ∷ es) zero z w = absurd (omega arith)
start_before a (e ∷ []) (suc zero) z w = absurd (omega arith)
start_before a (e ∷ f ∷ es) (suc zero) z w = refl
start_before a (e ∷ es) (suc (suc k)) z w =
    (let i : suc (suc k) - 1 ≡ suc k = omega arith in ap (λ i. slice_index_or (e ∷ es) i 0) i)
    ∙ (let i : k ≡ suc k - 1 = omega arith in ap (λ i. slice_index_or es i 0) i)
    ∙ start_before e es (suc k) (omega arith) (omega arith)

pub piece_within : (a : ℕ) (es : List ℕ) (n k : ℕ) → AreEnds a es n → k < length es → (start_at a es k ≤ slice_index_or es k 0) × (slice_index_or es k 0 ≤ n)
piece_within a [] n k h w = absurd (omega arith)
piece_within a (e ∷ es) n zero h w = (h.0, ends_within e es n h.1)
piece_within a (e ∷ es) n (suc k) h w = piece_within e es n k h.1 (omega arith)

module _ {V : Type 0} where
  pub piece_at : (a : ℕ) (es : List ℕ) (vs : List V) (k : ℕ) → k < length es → slice_get (pieces a es vs) k ≡ Some (take (slice_index_or es k 0 - start_at a es k) (drop (start_at a es k) vs))
  piece_at a [] vs k w = absurd (omega arith)
  piece_at a (e ∷ es) vs zero w = refl
  piece_at a (e ∷ es) vs (suc k) w = piece_at e es vs k (omega arith)

  length-pieces : (a : ℕ) (es : List ℕ) (vs : List V) → length (pieces a es vs) ≡ length es
  length-pieces a [] vs = refl
  length-pieces a (e ∷ es) vs = ap suc (length-pieces e es vs)

  front_kept : (s n : ℕ) (xs ys : List V) → s + n ≤ length xs → take n (drop s (xs ++ ys)) ≡ take n (drop s xs)
  front_kept zero n xs ys w = take-append-le n xs ys (omega arith)
  front_kept (suc s) n [] ys w = absurd (omega arith)
  front_kept (suc s) n (x ∷ xs) ys w = front_kept s n xs ys (omega arith)

  end_taken : (xs ys : List V) (n m : ℕ) → n ≡ length xs → m ≡ length xs + length ys → take (m - n) (drop n (xs ++ ys)) ≡ ys
  end_taken xs ys n m e f =
      (let k : m - n ≡ length ys = omega (arith, e, f) in λ i. take (k i) (drop (e i) (xs ++ ys))) ∙ rest xs
    where
      rest : (xs : List V) → take (length ys) (drop (length xs) (xs ++ ys)) ≡ ys
      rest [] = take_all (length ys) ys (omega arith)
      rest (x ∷ xs) = rest xs

  -- a list behind the others
  pub pieces_more : (a : ℕ) (es : List ℕ) (vs more : List V) → AreEnds a es (length vs) → pieces a (es ++ (length vs + length more) ∷ []) (vs ++ more) ≡ pieces a es vs ++ more ∷ []
  pieces_more a [] vs more h = ap (λ l. l ∷ []) (end_taken vs more a (length vs + length more) h refl)
  pieces_more a (e ∷ es) vs more h =
      let far = ends_within e es (length vs) h.1 in
      let near = h.0 in
      λ i. front_kept a (e - a) vs more (omega (arith, far, near)) i ∷ pieces_more e es vs more h.1 i

pub ends_more : (a : ℕ) (es : List ℕ) (n m : ℕ) → AreEnds a es n → n ≤ m → AreEnds a (es ++ m ∷ []) m
ends_more a [] n m h w = (omega (arith, h, w), refl)
ends_more a (e ∷ es) n m h w = (h.0, ends_more e es n m h.1 w)

-- ---- stacks

module _ {X : Type 0} where
  pub length-kept : (s : Stacks X) → length (kept_lists s) ≡ length s.ends.items
  length-kept s = length-reversed (map as_candidates (pieces 0 s.ends.items s.values.items)) ∙ length-mapped as_candidates (pieces 0 s.ends.items s.values.items) ∙ length-pieces 0 s.ends.items s.values.items

  pub kept_at : (s : Stacks X) (i : ℕ) (l : List X) → i < length s.ends.items → slice_get (pieces 0 s.ends.items s.values.items) (length s.ends.items - 1 - i) ≡ Some l → slice_get (kept_lists s) i ≡ Some (as_candidates l)
  kept_at s i l w e =
      let ps = pieces 0 s.ends.items s.values.items in
      let n : length (map as_candidates ps) ≡ length s.ends.items = length-mapped as_candidates ps ∙ length-pieces 0 s.ends.items s.values.items in
      get_reversed (map as_candidates ps) i (omega (arith, n, w))
      ∙ get_map as_candidates ps (length (map as_candidates ps) - 1 - i)
      ∙ ap (λ k. option_map as_candidates (slice_get ps (k - 1 - i))) n
      ∙ ap (option_map as_candidates) e

  pub lists_more : (es fs : List ℕ) (vs ws more : List X) → AreEnds 0 es (length vs) → ws ≡ vs ++ more → fs ≡ es ++ length ws ∷ []
      → reverse (map as_candidates (pieces 0 fs ws)) ≡ as_candidates more ∷ reverse (map as_candidates (pieces 0 es vs))
  lists_more es fs vs ws more h ew ef =
      let n : length ws ≡ length vs + length more = ap length ew ∙ length-append vs more in
      (λ i. reverse (map as_candidates (pieces 0 ((ef ∙ ap (λ k. es ++ k ∷ []) n) i) (ew i))))
      ∙ ap (λ l. reverse (map as_candidates l)) (pieces_more 0 es vs more h)
      ∙ ap reverse (map-append as_candidates (pieces 0 es vs) (more ∷ []))
      ∙ reverse-append (map as_candidates (pieces 0 es vs)) (as_candidates more ∷ [])

  -- a list that is read
  pub list_read : (s : Stacks X) (lists : List (Candidates X)) (es : List ℕ) (vs l : List X) (i n : ℕ) → kept_lists s ≡ lists → i < length lists → n ≡ length s.ends.items → es ≡ s.ends.items → vs ≡ s.values.items
      → slice_get (pieces 0 es vs) (n - 1 - i) ≡ Some l → slice_get lists i ≡ Some (as_candidates l)
  list_read s lists es vs l i n e w en ee ev h =
      ap (λ k. slice_get k i) (sym e)
      ∙ kept_at s i l (let size = length-kept s in let same : length (kept_lists s) ≡ length lists = ap length e in omega (arith, size, same, w)) (sym (λ j. slice_get (pieces 0 (ee j) (ev j)) (en j - 1 - i)) ∙ h)

  pub none_read : (l : List X) → true ≡ (length l == 0) → as_candidates l ≡ None
  none_read [] e = refl
  none_read (x ∷ l) e = absurd (let z : length (x ∷ l) ≡ 0 = eqb_yes (subst T (e) tt) in omega (arith, z))

  pub some_read : (l : List X) → false ≡ (length l == 0) → as_candidates l ≡ Some l
  some_read [] e = absurd (true≢false (sym e))
  some_read (x ∷ l) e = refl

  -- a list that is added
  pub stacked_more : (es fs : List ℕ) (vs ws more : List X) (n : ℕ) → AreEnds 0 es (length vs) → ws ≡ vs ++ more → n ≡ length ws → fs ≡ es ++ n ∷ [] → AreEnds 0 fs (length ws)
  stacked_more es fs vs ws more n h ew en ef =
      let size : length ws ≡ length vs + length more = ap length ew ∙ length-append vs more in
      subst (λ l. AreEnds 0 l (length ws)) (sym (ef ∙ ap (λ k. es ++ k ∷ []) en)) (ends_more 0 es (length vs) (length ws) h (omega (arith, size)))
