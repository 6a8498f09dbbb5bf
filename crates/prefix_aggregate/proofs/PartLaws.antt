-- Parts of the values in work.
use Rattle.std.proofs.Common.{◌≡◌, ◌≢◌, ℕ, zero, suc, ◌+◌, ◌-◌, ◌<◌, ◌≤◌, Bool, true, false, cond, List, [], ◌∷◌, ◌++◌, length, take, drop, map, refl, sym, ap, ◌∙◌, subst, arith, append_assoc, append-nil, length-append, length-drop}
use Rattle.std.proofs.lemmas.List.{take-map, drop-map, map-append, take-append-le, take_all, take-append-drop, length-take-le}
use Rattle.std.proofs.Math.Seq.{take-append_seam}
use Rattle.std.specs.Prelude.{◌&&◌, ◌||◌, Some, slice_get, get_or}
use Rattle.std.proofs.lemmas.Option.{slice_get-get_or}
use Rattle.std.specs.Borrow.{Bor}
use Rattle.std.specs.List.{filter}
use Rattle.std.specs.List.Sorted.{IsStrictlySortedBy}
use Rattle.std.specs.declared.cmp.Ordering.{Ordering}
use Rattle.std.specs.declared.cmp.Ordering.TheVariants.{Less, Equal, Greater}
use Rattle.std.specs.Ordering.{is_eq, is_lt, eq_by_cmp, match_ordering}
use Rattle.std.specs.Cmp.{IsTotalOrder}
use Rattle.prefix_model.specs.Candidates.{Candidates, has, intersection, union, added, joined, both_or_either, unless_empty}
use Rattle.prefix_aggregate.specs.Lists.{behind}
use Rattle.prefix_aggregate.specs.Parts.{as_candidates, values_of, told, IsPart, KeepsParts}
use Rattle.prefix_aggregate.specs.Same.{same_list, same_candidates}
use Rattle.prefix_aggregate.specs.declared.parts.Part.{Part}
use Rattle.prefix_aggregate.proofs.Ascending.{sorted_both_or_either}

-- ---- slices

module _ {T : Type 0} where
  pub length-behind : (vs : List (Bor T)) → length (behind vs) ≡ length vs
  length-behind [] = refl
  length-behind (v ∷ vs) = ap suc (length-behind vs)

  pub slice_values : (vs ws : List (Bor T)) (s l : ℕ) → ws ≡ vs → behind (take (s + l - s) (drop s ws)) ≡ take l (drop s (behind vs))
  slice_values vs ws s l e =
      let n : s + l - s ≡ l = omega arith in
      (λ i. behind (take (n i) (drop s (e i)))) ∙ sym (take-map (λ (r : Bor T). r.now) l (drop s vs)) ∙ ap (take l) (sym (drop-map (λ (r : Bor T). r.now) s vs))

  pub length-values : (vs : List (Bor T)) (s l : ℕ) → s + l ≤ length vs → length (take l (drop s (behind vs))) ≡ l
  length-values vs s l w =
      let size = length-behind vs in
      let rest = length-drop s (behind vs) in
      long l (drop s (behind vs)) (omega (arith, size, rest))
    where
      long : {X : Type 0} (n : ℕ) (xs : List X) → n ≤ length xs → length (take n xs) ≡ n
      long zero xs w = refl
      long (suc n) [] w = absurd (omega arith)
      long (suc n) (x ∷ xs) w = ap suc (long n xs (omega arith))

  -- what lies within the old values is the same
  pub part_kept : (old new : List (Bor T)) (part : Part) → KeepsParts old new → part.start + part.len ≤ length old → values_of new part ≡ values_of old part
  part_kept old new part kept w =
      let size = length-behind old in
      ap (λ l. take part.len (drop part.start l)) kept.values ∙ front part.start part.len (behind old) kept.added (omega (arith, size))
    where
      front : {X : Type 0} (s n : ℕ) (xs ys : List X) → s + n ≤ length xs → take n (drop s (xs ++ ys)) ≡ take n (drop s xs)
      front zero n xs ys w = take-append-le n xs ys (omega arith)
      front (suc s) n [] ys w = absurd (omega arith)
      front (suc s) n (x ∷ xs) ys w = front s n xs ys (omega arith)

  -- what was added at the end
  pub part_added : (old new : List (Bor T)) (more : List T) (start len : ℕ) → behind new ≡ behind old ++ more → start ≡ length old → len ≡ length more → take len (drop start (behind new)) ≡ more
  part_added old new more start len e s n =
      ap (λ l. take len (drop start l)) e ∙ (λ i. take (n i) (drop ((s ∙ sym (length-behind old)) i) (behind old ++ more))) ∙ rest (behind old)
    where
      rest : (xs : List T) → take (length more) (drop (length xs) (xs ++ more)) ≡ more
      rest [] = take_all (length more) more (omega arith)
      rest (x ∷ xs) = rest xs

  pub kept_none : (old : List (Bor T)) → KeepsParts old old
  kept_none old = record { added = []; values = sym (append-nil (behind old)) }

  pub kept_more : (old new more : List (Bor T)) → new ≡ old ++ more → KeepsParts old new
  kept_more old new more e = record { added = behind more; values = ap behind e ∙ map-append (λ (r : Bor T). r.now) old more }

  pub kept_then : (old mid new : List (Bor T)) → KeepsParts old mid → KeepsParts mid new → KeepsParts old new
  kept_then old mid new h k = record { added = h.added ++ k.added; values = k.values ∙ ap (λ l. l ++ k.added) h.values ∙ append_assoc (behind old) h.added k.added }

  pub length_kept : (old new : List (Bor T)) → KeepsParts old new → length old ≤ length new
  length_kept old new h =
      let a = length-behind old in
      let b = length-behind new in
      let c : length (behind new) ≡ length (behind old) + length h.added = ap length h.values ∙ length-append (behind old) h.added in
      omega (arith, a, b, c)

  pub told_kept : (old new : List (Bor T)) (part : Part) → KeepsParts old new → part.start + part.len ≤ length old → told new part ≡ told old part
  told_kept old new part kept w = ap as_candidates (part_kept old new part kept w)

  pub is_part_kept : (cmp : T → T → Ordering) (old new : List (Bor T)) (part : Part) → KeepsParts old new → IsPart cmp old part → IsPart cmp new part
  is_part_kept cmp old new part kept h =
      let more = length_kept old new kept in
      record { within = (let w = h.within in omega (arith, more, w)); ascends = subst (IsStrictlySortedBy cmp) (sym (part_kept old new part kept h.within)) h.ascends }

-- ---- the same lists

module _ {V : Type 0} (cmp : V → V → Ordering) where
  pub other_lengths : (a b : List V) → length a ≢ length b → false ≡ same_list cmp a b
  other_lengths [] [] n = absurd (n refl)
  other_lengths [] (y ∷ b) n = refl
  other_lengths (x ∷ a) [] n = refl
  other_lengths (x ∷ a) (y ∷ b) n =
      let rest : false ≡ same_list cmp a b = other_lengths a b (λ e. n (ap suc e)) in
      elim (eq_by_cmp cmp x y) as (λ t. false ≡ (t && same_list cmp a b)) [ true ↦ rest | false ↦ refl ]

  pub same_told : (a b : List V) → same_list cmp a b ≡ same_candidates cmp (as_candidates a) (as_candidates b)
  same_told [] [] = refl
  same_told [] (y ∷ b) = refl
  same_told (x ∷ a) [] = refl
  same_told (x ∷ a) (y ∷ b) = refl

-- ---- joining

module _ {V : Type 0} where
  filter_short : (p : V → Bool) (l : List V) → length (filter p l) ≤ length l
  filter_short p [] = omega arith
  filter_short p (x ∷ l) = go (p x) (filter_short p l)
    where
      go : (t : Bool) → length (filter p l) ≤ length l → length (cond t (x ∷ filter p l) (filter p l)) ≤ length (x ∷ l)
      go true h = omega arith
      go false h = omega arith

  -- a filter that keeps as many as there are keeps all
  filter_whole : (p : V → Bool) (l : List V) → length (filter p l) ≡ length l → filter p l ≡ l
  filter_whole p [] e = refl
  filter_whole p (x ∷ l) e =
      let whole : length (filter p l) ≡ length l → filter p l ≡ l = filter_whole p l in
      elim (p x) as (λ t. length (cond t (x ∷ filter p l) (filter p l)) ≡ length (x ∷ l) → cond t (x ∷ filter p l) (filter p l) ≡ x ∷ l) [
        | true ↦ λ e. ap (λ k. x ∷ k) (whole (omega arith))
        | false ↦ λ e. absurd (let h = filter_short p l in omega (arith, h))
      ] e

module _ {V : Type 0} (cmp : V → V → Ordering) where
  -- where the left list has no more than both have, it is that
  pub left_whole : (a b out : List V) → out ≡ intersection cmp a b → length out ≡ length a → out ≡ a
  left_whole a b out e n = e ∙ filter_whole (has cmp b) a (sym (ap length e) ∙ n)

  some_added : (x : V) (l : List V) → as_candidates (added cmp x l) ≡ Some (added cmp x l)
  some_added x [] = refl
  some_added x (y ∷ l) = elim (cmp x y) as (λ r. as_candidates (match_ordering r (x ∷ y ∷ l) (y ∷ l) (y ∷ added cmp x l)) ≡ Some (match_ordering r (x ∷ y ∷ l) (y ∷ l) (y ∷ added cmp x l))) [ Less ↦ refl | Equal ↦ refl | Greater ↦ refl ]

  pub new_joined : (a b l : List V) → 0 < length a → 0 < length b → l ≡ both_or_either cmp a b → as_candidates l ≡ joined cmp (as_candidates a) (as_candidates b)
  unfolding both_or_either
  new_joined [] b l z w e = absurd (omega arith)
  new_joined (x ∷ a) [] l z w e = absurd (omega arith)
  new_joined (x ∷ a) (y ∷ b) l z w e = ap as_candidates e ∙ some (intersection cmp (x ∷ a) (y ∷ b))
    where
      some : (k : List V) → as_candidates (unless_empty k (union cmp (x ∷ a) (y ∷ b))) ≡ Some (unless_empty k (union cmp (x ∷ a) (y ∷ b)))
      some [] = some_added x (union cmp a (y ∷ b))
      some (z ∷ k) = refl

  pub hole_left : (a : List V) (c : Candidates V) → length a ≡ 0 → as_candidates a ≡ joined cmp (as_candidates a) c
  hole_left [] c z = refl
  hole_left (x ∷ a) c z = absurd (omega arith)

  pub hole_right : (a b : List V) → length b ≡ 0 → as_candidates b ≡ joined cmp (as_candidates a) (as_candidates b)
  hole_right [] [] z = refl
  hole_right (x ∷ a) [] z = refl
  hole_right a (y ∷ b) z = absurd (omega arith)

-- ---- what was joined and added

module _ {T : Type 0} (cmp : T → T → Ordering) (old : List (Bor T)) (left right : Part) (first second : List (Bor T)) (ef : first ≡ old) (es : second ≡ old) (out : List (Bor T))
    (e : behind out ≡ both_or_either cmp (behind (take (left.start + left.len - left.start) (drop left.start first))) (behind (take (right.start + right.len - right.start) (drop right.start second)))) where
  pub out_joined : behind out ≡ both_or_either cmp (values_of old left) (values_of old right)
  out_joined = e ∙ (λ i. both_or_either cmp (slice_values old first left.start left.len ef i) (slice_values old second right.start right.len es i))

  module _ (hl : IsPart cmp old left) (hr : IsPart cmp old right) (some_left : 0 < left.len) (some_right : 0 < right.len) where
    told_joined : (l : List T) → l ≡ both_or_either cmp (values_of old left) (values_of old right) → as_candidates l ≡ joined cmp (told old left) (told old right)
    told_joined l e =
        let a = length-values old left.start left.len hl.within in
        let b = length-values old right.start right.len hr.within in
        new_joined cmp (values_of old left) (values_of old right) l (omega (arith, a)) (omega (arith, b)) e

    pub left_told : behind out ≡ behind (take (left.start + left.len - left.start) (drop left.start first)) → told old left ≡ joined cmp (told old left) (told old right)
    left_told h = told_joined (values_of old left) (sym (slice_values old first left.start left.len ef) ∙ sym h ∙ out_joined)

    module _ (o : IsTotalOrder cmp) (new : List (Bor T)) (start len : ℕ) (grown : new ≡ old ++ out) (es' : start ≡ length old) (el : len ≡ length out) where
      added_values : values_of new (record { start = start; len = len }) ≡ behind out
      added_values = part_added old new (behind out) start len (ap behind grown ∙ map-append (λ (r : Bor T). r.now) old out) es' (el ∙ sym (length-behind out))

      pub added_told : told new (record { start = start; len = len }) ≡ joined cmp (told old left) (told old right)
      added_told = ap as_candidates added_values ∙ told_joined (behind out) out_joined

      pub added_part : IsPart cmp new (record { start = start; len = len })
      added_part = record {
        within = (let n : length new ≡ length old + length out = ap length grown ∙ length-append old out in omega (arith, n, es', el));
        ascends = subst (IsStrictlySortedBy cmp) (sym (added_values ∙ out_joined)) (sorted_both_or_either o (values_of old left) (values_of old right) hl.ascends hr.ascends);
      }

-- ---- one value of each half

module _ {V : Type 0} (cmp : V → V → Ordering) where
  pub two_joined : (x y : V) (r : Ordering) → cmp x y ≡ r → match_ordering r (x ∷ y ∷ []) (x ∷ []) (y ∷ x ∷ []) ≡ both_or_either cmp (x ∷ []) (y ∷ [])
  unfolding both_or_either
  two_joined x y Less e = sym (λ i. unless_empty (cond (is_eq (e i) || false) (x ∷ []) []) (match_ordering (e i) (x ∷ y ∷ []) (y ∷ []) (y ∷ x ∷ [])))
  two_joined x y Equal e = sym (λ i. unless_empty (cond (is_eq (e i) || false) (x ∷ []) []) (match_ordering (e i) (x ∷ y ∷ []) (y ∷ []) (y ∷ x ∷ [])))
  two_joined x y Greater e = sym (λ i. unless_empty (cond (is_eq (e i) || false) (x ∷ []) []) (match_ordering (e i) (x ∷ y ∷ []) (y ∷ []) (y ∷ x ∷ [])))

-- the value of a part with one
pub one_of_part : {T : Type 0} (vs : List (Bor T)) (part : Part) (x : Bor T) → part.len ≡ 1 → slice_get vs part.start ≡ Some x → values_of vs part ≡ x.now ∷ []
one_of_part {T} vs part x one e = ap (λ n. take n (drop part.start (behind vs))) one ∙ at part.start vs e
  where
    at : (s : ℕ) (vs : List (Bor T)) → slice_get vs s ≡ Some x → take 1 (drop s (behind vs)) ≡ x.now ∷ []
    at s [] e = absurd cc
    at zero (v ∷ vs) e = let h : v ≡ x = cc in ap (λ (r : Bor T). r.now ∷ []) h
    at (suc s) (v ∷ vs) e = at s vs e

pub at_index : {A : Type 0} (xs : List A) (i : ℕ) (x : A) → i < length xs → x ≡ get_or xs i x → slice_get xs i ≡ Some x
at_index xs i x h e = slice_get-get_or xs i x h ∙ ap (λ y. Some y) (sym e)

-- parts of one value are the same where the values tie
pub one_same : {T : Type 0} (cmp : T → T → Ordering) (vs : List (Bor T)) (left right : Part) (x y : Bor T) → values_of vs left ≡ x.now ∷ [] → values_of vs right ≡ y.now ∷ []
    → is_eq (cmp x.now y.now) ≡ same_candidates cmp (told vs left) (told vs right)
one_same cmp vs left right x y ex ey = and_true (is_eq (cmp x.now y.now)) ∙ (λ i. same_candidates cmp (as_candidates (sym ex i)) (as_candidates (sym ey i)))
  where
    and_true : (t : Bool) → t ≡ (t && true)
    and_true true = refl
    and_true false = refl

pub last_order : (r : Ordering) → is_eq r ≡ false → is_lt r ≡ false → r ≡ Greater
last_order Less e l = absurd cc
last_order Equal e l = absurd cc
last_order Greater e l = refl

pub first_order : (r : Ordering) → is_lt r ≡ true → r ≡ Less
first_order Less l = refl
first_order Equal l = absurd cc
first_order Greater l = absurd cc

pub same_order : (r : Ordering) → is_eq r ≡ true → r ≡ Equal
same_order Less l = absurd cc
same_order Equal l = refl
same_order Greater l = absurd cc

module _ {T : Type 0} {cmp : T → T → Ordering} (o : IsTotalOrder cmp) (old : List (Bor T)) (left right : Part) (hl : IsPart cmp old left) (hr : IsPart cmp old right) (one_left : left.len ≡ 1) (one_right : right.len ≡ 1) (x y : Bor T) (ex : x ≡ get_or old left.start x) (ey : y ≡ get_or old right.start y) where
  left_value : values_of old left ≡ x.now ∷ []
  left_value = one_of_part old left x one_left (at_index old left.start x (let w = hl.within in omega (arith, w, one_left)) ex)

  right_value : values_of old right ≡ y.now ∷ []
  right_value = one_of_part old right y one_right (at_index old right.start y (let w = hr.within in omega (arith, w, one_right)) ey)

  pub one_told : cmp x.now y.now ≡ Equal → told old left ≡ joined cmp (told old left) (told old right)
  one_told e =
      (λ i. as_candidates (left_value i)) ∙ (λ i. Some (two_joined cmp x.now y.now Equal e i)) ∙ (λ i. joined cmp (as_candidates (sym left_value i)) (as_candidates (sym right_value i)))

  module _ (r : Ordering) (e : cmp x.now y.now ≡ r) (new : List (Bor T)) (part : Part) (is : values_of new part ≡ match_ordering r (x.now ∷ y.now ∷ []) (x.now ∷ []) (y.now ∷ x.now ∷ [])) where
    pair_values : values_of new part ≡ both_or_either cmp (values_of old left) (values_of old right)
    pair_values = is ∙ two_joined cmp x.now y.now r e ∙ (λ i. both_or_either cmp (sym left_value i) (sym right_value i))

    pub pair_told : told new part ≡ joined cmp (told old left) (told old right)
    pair_told =
        let a = length-values old left.start left.len hl.within in
        let b = length-values old right.start right.len hr.within in
        ap as_candidates pair_values ∙ new_joined cmp (values_of old left) (values_of old right) (both_or_either cmp (values_of old left) (values_of old right)) (omega (arith, a, one_left)) (omega (arith, b, one_right)) refl

    pub pair_part : part.start + part.len ≤ length new → IsPart cmp new part
    pair_part within = record {
      within = within;
      ascends = subst (IsStrictlySortedBy cmp) (sym pair_values) (sorted_both_or_either o (values_of old left) (values_of old right) hl.ascends hr.ascends);
    }

pub two_added : {T : Type 0} (old mid new : List (Bor T)) (x y : Bor T) (start : ℕ) → mid ≡ old ++ x ∷ [] → new ≡ mid ++ y ∷ [] → start ≡ length old → values_of new (record { start = start; len = 2 }) ≡ x.now ∷ y.now ∷ []
two_added {T} old mid new x y start em en es =
    part_added old new (x.now ∷ y.now ∷ []) start 2
    (ap behind (en ∙ ap (λ l. l ++ y ∷ []) em ∙ append_assoc old (x ∷ []) (y ∷ [])) ∙ map-append (λ (r : Bor T). r.now) old (x ∷ y ∷ [])) es refl

-- ---- values that are let go

module _ {T : Type 0} where
  pub front_kept : (n : ℕ) (vs : List (Bor T)) → KeepsParts (take n vs) vs
  front_kept n vs = kept_more (take n vs) vs (drop n vs) (sym (take-append-drop n vs))

  module _ (vs new slice : List (Bor T)) (start : ℕ) (part : Part) (from : start ≤ length vs) (within : part.start + part.len ≤ length vs) where
    -- the part lies before them
    pub front_values : part.start + part.len ≤ start → new ≡ take start vs → values_of new part ≡ values_of vs part
    front_values before e = ap (λ l. values_of l part) e ∙ sym (part_kept (take start vs) vs part (front_kept start vs) (let n = length-take-le start vs from in omega (arith, n, before)))

    -- or is moved down
    module _ (e : new ≡ take start vs ++ take (part.start + part.len - part.start) (drop part.start slice)) (is : slice ≡ vs) where
      pub moved_kept : KeepsParts (take start vs) new
      moved_kept = kept_more (take start vs) new (take (part.start + part.len - part.start) (drop part.start slice)) e

      values : behind (take (part.start + part.len - part.start) (drop part.start slice)) ≡ values_of vs part
      values = slice_values vs slice part.start part.len is

      pub moved_values : values_of new (record { start = start; len = part.len }) ≡ values_of vs part
      moved_values =
          part_added (take start vs) new (values_of vs part) start part.len
          (ap behind e ∙ map-append (λ (r : Bor T). r.now) (take start vs) (take (part.start + part.len - part.start) (drop part.start slice)) ∙ ap (λ l. behind (take start vs) ++ l) values)
          (sym (length-take-le start vs from)) (sym (length-values vs part.start part.len within))

      pub moved_within : start + part.len ≤ length new
      moved_within =
          let n = length-take-le start vs from in
          let m = length-append (take start vs) (take (part.start + part.len - part.start) (drop part.start slice)) in
          let l = ap length e in
          let k = sym (length-behind (take (part.start + part.len - part.start) (drop part.start slice))) ∙ ap length values ∙ length-values vs part.start part.len within in
          omega (arith, n, m, l, k)

-- what was kept before them is kept
pub kept_cut : {T : Type 0} (old mid new : List (Bor T)) (start : ℕ) → KeepsParts old mid → start ≡ length old → KeepsParts (take start mid) new → KeepsParts old new
kept_cut {T} old mid new start h e k = record {
  added = k.added;
  values = k.values ∙ ap (λ l. l ++ k.added)
      (sym (take-map (λ (r : Bor T). r.now) start mid) ∙ (λ i. take ((e ∙ sym (length-behind old)) i) (h.values i)) ∙ take-append_seam (behind old) h.added);
}

pub part_cut : {T : Type 0} (cmp : T → T → Ordering) (mid new : List (Bor T)) (part cut : Part) → IsPart cmp mid part → cut.start + cut.len ≤ length new → values_of new cut ≡ values_of mid part → IsPart cmp new cut
part_cut cmp mid new part cut h within e = record { within = within; ascends = subst (IsStrictlySortedBy cmp) (sym e) h.ascends }
