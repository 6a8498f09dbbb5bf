-- Tries from their nodes and back. A queue of tries is known by the nodes that come out of it, and nodes that fit together come out of one queue.
use Rattle.std.proofs.Common.{◌≡◌, ℕ, zero, suc, ◌+◌, ◌<◌, ◌≤◌, Bool, true, false, cond, ltb, List, [], ◌∷◌, ◌++◌, length, map, take, drop, replicate, filter, refl, sym, ap, ◌∙◌, subst, arith, inl, inr, Option, Some, None, zero-add}
use Rattle.std.specs.Prelude.{is_some, ◌||◌}
use Rattle.std.specs.List.{list_any, AllByRecursion}
use Rattle.std.proofs.lemmas.Bool.{ltb-false, ltb-true, lt-ltb, le-ltb, cases_lt}
use Rattle.std.proofs.lemmas.List.{length-append, take_at, drop_at, take-append-drop, length-replicate, length-map}
use Rattle.prefix_model.specs.Keys.{KeyBits, same_key}
use Rattle.prefix_model.specs.Positions.{data_places, child_places, count_true}
use Rattle.prefix_model.specs.FirstCause.{marked}
use Rattle.prefix_model.proofs.KeyLemmas.{same_key-same, all_append, all_map, all_filter, map_map}
use Rattle.prefix_model.proofs.Archive.Places.{Trie, sub, nothing, at, short, build, values_build, subs_build, build_again, build_short, build_long}
use Rattle.prefix_model.proofs.Archive.Count.{sum_of, sum_of-append, Narrow, count, count_zero, count_narrow, has}

pub record Node (V : Type 0) : Type 0 where
  pub values : List (Option V)
  pub kids : List Bool

pub record Shape : Type 0 where
  pub marks : List Bool
  pub kids : List Bool

-- the shape of a node
abbrev pub shape : {V : Type 0} → Node V → Shape
shape nd = record { marks = map is_some nd.values; kids = nd.kids }

-- ---- lists

length-filter : {A : Type 0} (p : A → Bool) (xs : List A) → length (filter p xs) ≡ count_true (map p xs)
length-filter p [] = refl
length-filter p (x ∷ xs) = elim (p x) as (λ t. length (cond t (x ∷ filter p xs) (filter p xs)) ≡ cond t 1 0 + count_true (map p xs)) [ true ↦ let ih = length-filter p xs in omega arith | false ↦ let ih = length-filter p xs in omega arith ]

-- the relation holds of the elements in pairs
abbrev pub Pairs : {A B : Type 0} → (A → B → Type 0) → List A → List B → Type 0
Pairs R [] [] = Unit {0}
Pairs R [] (y ∷ ys) = ⊥
Pairs R (x ∷ xs) [] = ⊥
Pairs R (x ∷ xs) (y ∷ ys) = R x y × Pairs R xs ys

pairs_split : {A B : Type 0} (R : A → B → Type 0) (xs zs : List A) (ys : List B) → Pairs R (xs ++ zs) ys → Pairs R xs (take (length xs) ys) × Pairs R zs (drop (length xs) ys)
pairs_split R [] zs ys h = (tt, h)
pairs_split R (x ∷ xs) zs [] h = absurd h
pairs_split R (x ∷ xs) zs (y ∷ ys) h = let r = pairs_split R xs zs ys h.1 in ((h.0, r.0), r.1)

pairs_same : {A B : Type 0} (R : A → B → Type 0) (n : ℕ) (x : A) (ys : List B) → Pairs R (replicate n x) ys → AllByRecursion (R x) ys × (length ys ≡ n)
pairs_same R zero x [] h = (tt, refl)
pairs_same R zero x (y ∷ ys) h = absurd h
pairs_same R (suc n) x [] h = absurd h
pairs_same R (suc n) x (y ∷ ys) h = let r = pairs_same R n x ys h.1 in ((h.0, r.0), ap suc r.1)

module _ (w : ℕ) where
  -- the node of this shape may stand at this depth
  pub record IsSound (d : ℕ) (s : Shape) : Type 0 where
    pub data_len : length s.marks ≡ 31
    pub kids_len : length s.kids ≡ 32
    pub depth : d ≤ w
    pub fits : list_any (λ p. ltb w (d + length p)) (marked data_places s.marks) ≡ false

  -- and these at these depths, where the children of each go to the end
  abbrev pub FitTogether : List ℕ → List Shape → Type 0
  FitTogether [] [] = Unit {0}
  FitTogether [] (s ∷ ss) = ⊥
  FitTogether (d ∷ ds) [] = ⊥
  FitTogether (d ∷ ds) (s ∷ ss) = IsSound d s × FitTogether (ds ++ replicate (count_true s.kids) (d + 5)) ss

-- the node is not empty
abbrev pub IsLively : Shape → Type 0
IsLively s = 0 < count_true s.marks + count_true s.kids

-- where neither of two tests holds
pub or_false : (a b : Bool) → (a || b) ≡ false → (a ≡ false) × (b ≡ false)
or_false true b e = cc
or_false false b e = (refl, e)

long_drop : (k : KeyBits) → short 5 k ≡ false → length k ≡ 5 + length (drop 5 k)
long_drop [] h = cc
long_drop (a ∷ []) h = cc
long_drop (a ∷ b ∷ []) h = cc
long_drop (a ∷ b ∷ c ∷ []) h = cc
long_drop (a ∷ b ∷ c ∷ d ∷ []) h = cc
long_drop (a ∷ b ∷ c ∷ d ∷ e ∷ k) h = omega arith

count_nothing : (V : Type 0) (n : ℕ) → count {V = V} n nothing ≡ 0
count_nothing V zero = refl
count_nothing V (suc n) = let ih = count_nothing V n in omega arith

has_nothing : (V : Type 0) (w : ℕ) → has {V = V} w nothing ≡ false
has_nothing V w = le-ltb 0 _ (omega (arith, count_nothing V w))

module _ {V : Type 0} (w : ℕ) where
  -- the first node of a trie
  abbrev pub root : Trie V → Node V
  root f = record { values = map f data_places; kids = map (λ c. has w (sub f c)) child_places }

  -- the tries behind its child bits
  abbrev pub children : Trie V → List (Trie V)
  children f = filter (has w) (map (sub f) child_places)

  -- the nodes that come out of a queue of tries, where the children of each go to its end
  abbrev pub Grows : List (Trie V) → List (Node V) → Type 0
  Grows [] [] = Unit {0}
  Grows [] (nd ∷ nds) = ⊥
  Grows (t ∷ ts) [] = ⊥
  Grows (t ∷ ts) (nd ∷ nds) = (root t ≡ nd) × Grows (ts ++ children t) nds

  -- one list of nodes comes out of a queue
  pub grows_one : (ts : List (Trie V)) (nds other : List (Node V)) → Grows ts nds → Grows ts other → nds ≡ other
  grows_one [] [] [] g h = refl
  grows_one [] [] (o ∷ os) g h = absurd h
  grows_one [] (nd ∷ nds) os g h = absurd g
  grows_one (t ∷ ts) [] os g h = absurd g
  grows_one (t ∷ ts) (nd ∷ nds) [] g h = absurd h
  grows_one (t ∷ ts) (nd ∷ nds) (o ∷ os) g h = let first = sym g.0 ∙ h.0 in let rest = grows_one (ts ++ children t) nds os g.1 h.1 in λ i. first i ∷ rest i

  -- a trie for each mark that is set
  abbrev pub placed : List Bool → List (Trie V) → List (Trie V)
  placed [] ts = []
  placed (false ∷ bs) ts = nothing ∷ placed bs ts
  placed (true ∷ bs) [] = nothing ∷ placed bs []
  placed (true ∷ bs) (t ∷ ts) = t ∷ placed bs ts

  -- the queue of k tries out of which these nodes come
  abbrev pub tries : ℕ → List (Node V) → List (Trie V)
  tries k [] = []
  tries zero (nd ∷ nds) = []
  tries (suc k) (nd ∷ nds) =
      let us = tries (k + count_true nd.kids) nds in
      build nd.values (placed nd.kids (drop k us)) ∷ take k us

  -- a trie without a value is empty
  pub has_none : (t : Trie V) → Narrow w t → has w t ≡ false → t ≡ nothing
  has_none t h e = λ i k. none k i
    where
      none : (k : KeyBits) → t k ≡ None
      none k = elim (cases_lt w (length k)) [ inl lt ↦ h k lt | inr le ↦ let zero_keys : count w t ≡ 0 = omega (arith, ltb-false 0 (count w t) e) in count_zero w t zero_keys k le ]

  placed_filter : (ts : List (Trie V)) → AllByRecursion (Narrow w) ts → placed (map (has w) ts) (filter (has w) ts) ≡ ts
  placed_filter [] h = refl
  placed_filter (t ∷ ts) h =
      elim (has w t) as (λ b. has w t ≡ b → placed (b ∷ map (has w) ts) (cond b (t ∷ filter (has w) ts) (filter (has w) ts)) ≡ t ∷ ts) [
        | true ↦ λ e. ap (λ r. t ∷ r) (placed_filter ts h.1)
        | false ↦ λ e. λ i. sym (has_none t h.0 e) i ∷ placed_filter ts h.1 i
      ] refl

  narrow_subs : (t : Trie V) → Narrow w t → AllByRecursion (Narrow w) (map (sub t) child_places)
  narrow_subs t h = all_map (Narrow w) (sub t) child_places (λ c k l. h (c ++ k) (omega (arith, length-append c k)))

  -- children have no longer keys
  pub narrow_children : (t : Trie V) → Narrow w t → AllByRecursion (Narrow w) (children t)
  narrow_children t h = all_filter (Narrow w) (has w) (map (sub t) child_places) (narrow_subs t h)

  -- a trie is built of its first node and its children
  pub rebuilt : (t : Trie V) → Narrow w t → build (root t).values (placed (root t).kids (children t)) ≡ t
  rebuilt t h =
      ap (λ kids. build (map t data_places) (placed kids (children t))) (sym (map_map (has w) (sub t) child_places))
      ∙ ap (build (map t data_places)) (placed_filter (map (sub t) child_places) (narrow_subs t h)) ∙ build_again t

  -- as many children as child bits
  pub length-children : (t : Trie V) → length (children t) ≡ count_true (root t).kids
  length-children t = length-filter (has w) (map (sub t) child_places) ∙ ap count_true (map_map (has w) (sub t) child_places)

  -- the queue is known by its nodes
  pub regrown : (ts : List (Trie V)) (nds : List (Node V)) → AllByRecursion (Narrow w) ts → Grows ts nds → tries (length ts) nds ≡ ts
  regrown [] [] h g = refl
  regrown [] (nd ∷ nds) h g = absurd g
  regrown (t ∷ ts) [] h g = absurd g
  regrown (t ∷ ts) (nd ∷ nds) h g =
      let k = length ts in
      let queue : tries (k + count_true (root t).kids) nds ≡ ts ++ children t
      = ap (λ n. tries n nds) (sym (length-append ts (children t) ∙ ap (λ n. k + n) (length-children t))) ∙ regrown (ts ++ children t) nds (all_append (Narrow w) ts (children t) h.1 (narrow_children t h.0)) g.1 in
      subst (λ nd. tries (suc k) (nd ∷ nds) ≡ t ∷ ts) g.0
      (λ i. (ap (λ us. build (root t).values (placed (root t).kids (drop k us))) queue ∙ ap (λ us. build (root t).values (placed (root t).kids us)) (drop_at ts (children t) k refl) ∙ rebuilt t h.0) i ∷ (ap (take k) queue ∙ take_at ts (children t) k refl) i)

  -- ---- nodes that fit together

  -- a trie at this depth has keys within the width
  abbrev pub Within : ℕ → Trie V → Type 0
  Within d t = (k : KeyBits) → w < d + length k → t k ≡ None

  pub record Lives (d : ℕ) (t : Trie V) : Type 0 where
    pub within : Within d t
    pub inhabited : has w t ≡ true

  module _ (d : ℕ) where
    length-placed : (bs : List Bool) (us : List (Trie V)) → length (placed bs us) ≡ length bs
    length-placed [] us = refl
    length-placed (false ∷ bs) us = ap suc (length-placed bs us)
    length-placed (true ∷ bs) [] = ap suc (length-placed bs [])
    length-placed (true ∷ bs) (u ∷ us) = ap suc (length-placed bs us)

    has_placed : (bs : List Bool) (us : List (Trie V)) → AllByRecursion (Lives d) us → length us ≡ count_true bs → map (has w) (placed bs us) ≡ bs
    has_placed [] us h l = refl
    has_placed (false ∷ bs) us h l = λ i. has_nothing V w i ∷ has_placed bs us h (omega arith) i
    has_placed (true ∷ bs) [] h l = absurd (omega arith)
    has_placed (true ∷ bs) (u ∷ us) h l = λ i. h.0.inhabited i ∷ has_placed bs us h.1 (omega arith) i

    filter_placed : (bs : List Bool) (us : List (Trie V)) → AllByRecursion (Lives d) us → length us ≡ count_true bs → filter (has w) (placed bs us) ≡ us
    filter_placed [] [] h l = refl
    filter_placed [] (u ∷ us) h l = absurd (omega arith)
    filter_placed (false ∷ bs) us h l = ap (λ b. cond b (nothing ∷ filter (has w) (placed bs us)) (filter (has w) (placed bs us))) (has_nothing V w) ∙ filter_placed bs us h (omega arith)
    filter_placed (true ∷ bs) [] h l = absurd (omega arith)
    filter_placed (true ∷ bs) (u ∷ us) h l = ap (λ b. cond b (u ∷ filter (has w) (placed bs us)) (filter (has w) (placed bs us))) h.0.inhabited ∙ ap (λ r. u ∷ r) (filter_placed bs us h.1 (omega arith))

    within_placed : (bs : List Bool) (us : List (Trie V)) → AllByRecursion (Lives d) us → AllByRecursion (Within d) (placed bs us)
    within_placed [] us h = tt
    within_placed (false ∷ bs) us h = (λ k l. refl, within_placed bs us h)
    within_placed (true ∷ bs) [] h = (λ k l. refl, within_placed bs [] h)
    within_placed (true ∷ bs) (u ∷ us) h = (h.0.within, within_placed bs us h.1)

    within_at : (ps : List KeyBits) (ts : List (Trie V)) (c : KeyBits) → AllByRecursion (Within d) ts → Within d (at nothing ps ts c)
    within_at [] ts c h = λ k l. refl
    within_at (p ∷ ps) [] c h = λ k l. refl
    within_at (p ∷ ps) (t ∷ ts) c h = elim (same_key c p) as (λ b. Within d (cond b t (at nothing ps ts c))) [ true ↦ h.0 | false ↦ within_at ps ts c h.1 ]

  fits_at : (d : ℕ) (ps : List KeyBits) (vs : List (Option V)) (k : KeyBits) → list_any (λ p. ltb w (d + length p)) (marked ps (map is_some vs)) ≡ false → w < d + length k → at None ps vs k ≡ None
  fits_at d [] vs k e l = refl
  fits_at d (p ∷ ps) [] k e l = refl
  fits_at d (p ∷ ps) (None ∷ vs) k e l = elim (same_key k p) as (λ b. cond b None (at None ps vs k) ≡ None) [ true ↦ refl | false ↦ fits_at d ps vs k e l ]
  fits_at d (p ∷ ps) (Some x ∷ vs) k e l =
      let parts = or_false (ltb w (d + length p)) (list_any (λ p. ltb w (d + length p)) (marked ps (map is_some vs))) e in
      elim (same_key k p) as (λ b. same_key k p ≡ b → cond b (Some x) (at None ps vs k) ≡ None) [
        | true ↦ λ same. let le : d + length p ≤ w = ltb-false w (d + length p) parts.0 in let eq : length k ≡ length p = ap length (same_key-same k p same) in absurd (omega arith)
        | false ↦ λ same. fits_at d ps vs k parts.1 l
      ] refl

  -- what is built from a node and its children stands at its depth
  record Stands (d : ℕ) (nd : Node V) (us : List (Trie V)) (t : Trie V) : Type 0 where
    root_is : root t ≡ nd
    children_are : children t ≡ us
    within : Within d t
    lives : IsLively (shape nd) → has w t ≡ true

  some_live : (d : ℕ) (us : List (Trie V)) → AllByRecursion (Lives d) us → length us ≤ sum_of (count w) us
  some_live d [] h = omega arith
  some_live d (u ∷ us) h = let ih = some_live d us h.1 in let one = ltb-true 0 (count w u) h.0.inhabited in omega arith

  sum_filter : (ts : List (Trie V)) → sum_of (count w) (filter (has w) ts) ≡ sum_of (count w) ts
  sum_filter [] = refl
  sum_filter (t ∷ ts) =
      elim (has w t) as (λ b. has w t ≡ b → sum_of (count w) (cond b (t ∷ filter (has w) ts) (filter (has w) ts)) ≡ count w t + sum_of (count w) ts) [
        | true ↦ λ e. ap (λ n. count w t + n) (sum_filter ts)
        | false ↦ λ e. let ih = sum_filter ts in let z = ltb-false 0 (count w t) e in omega arith
      ] refl

  -- the values of a trie are those of its first node and of its children
  pub count_parts : (t : Trie V) → Narrow w t → count w t ≡ count_true (map is_some (root t).values) + sum_of (count w) (children t)
  count_parts t h = count_narrow w t h ∙ ap (λ n. count_true (map is_some (map t data_places)) + n) (sym (sum_filter (map (sub t) child_places)))

  stands : (d : ℕ) (nd : Node V) (us : List (Trie V)) → IsSound w d (shape nd) → AllByRecursion (Lives (d + 5)) us → length us ≡ count_true nd.kids → Stands d nd us (build nd.values (placed nd.kids us))
  stands d nd us sound h l = record { root_is = root_is; children_are = children_are; within = within; lives = lives }
    where
      t : Trie V
      t = build nd.values (placed nd.kids us)

      subs_are : map (sub t) child_places ≡ placed nd.kids us
      subs_are = subs_build nd.values (placed nd.kids us) (length-placed (d + 5) nd.kids us ∙ sound.kids_len)

      values_are : map t data_places ≡ nd.values
      values_are = values_build nd.values (placed nd.kids us) (sym (length-map nd.values is_some) ∙ sound.data_len)

      kids_are : map (λ c. has w (sub t c)) child_places ≡ nd.kids
      kids_are = sym (map_map (has w) (sub t) child_places) ∙ ap (map (has w)) subs_are ∙ has_placed (d + 5) nd.kids us h l

      root_is : root t ≡ nd
      root_is = λ i. record { values = values_are i; kids = kids_are i }

      children_are : children t ≡ us
      children_are = ap (filter (has w)) subs_are ∙ filter_placed (d + 5) nd.kids us h l

      within : Within d t
      within k l =
          elim (short 5 k) as (λ b. short 5 k ≡ b → t k ≡ None) [
            | true ↦ λ e. build_short nd.values (placed nd.kids us) k e ∙ fits_at d data_places nd.values k sound.fits l
            | false ↦ λ e. let len = long_drop k e in build_long nd.values (placed nd.kids us) k e ∙ within_at (d + 5) child_places (placed nd.kids us) (take 5 k) (within_placed (d + 5) nd.kids us h) (drop 5 k) (omega arith)
          ] refl

      lives : IsLively (shape nd) → has w t ≡ true
      lives some =
          let parts = count_parts t (λ k l. within k (omega arith)) in
          let a = ap (λ vs. count_true (map is_some vs)) values_are in
          let b = ap (sum_of (count w)) children_are in
          let c = some_live (d + 5) us h in
          lt-ltb 0 (count w t) (omega arith)

  -- nodes that fit together, none of them empty, come out of a queue of tries that stand at these depths
  pub grown : (ds : List ℕ) (nds : List (Node V)) → FitTogether w ds (map shape nds) → AllByRecursion (λ nd. IsLively (shape nd)) nds → Pairs Lives ds (tries (length ds) nds) × Grows (tries (length ds) nds) nds
  grown [] [] fit lively = (tt, tt)
  grown [] (nd ∷ nds) fit lively = absurd fit
  grown (d ∷ ds) [] fit lively = absurd fit
  grown (d ∷ ds) (nd ∷ nds) fit lively =
      let k = length ds in
      let n = count_true nd.kids in
      let ih = grown (ds ++ replicate n (d + 5)) nds fit.1 lively.1 in
      let len : length (ds ++ replicate n (d + 5)) ≡ k + n = length-append ds (replicate n (d + 5)) ∙ ap (λ x. k + x) (length-replicate n (d + 5)) in
      let us = tries (k + n) nds in
      let live : Pairs Lives (ds ++ replicate n (d + 5)) us = subst (λ x. Pairs Lives (ds ++ replicate n (d + 5)) (tries x nds)) len ih.0 in
      let grows : Grows us nds = subst (λ x. Grows (tries x nds) nds) len ih.1 in
      let split = pairs_split Lives ds (replicate n (d + 5)) us live in
      let below = pairs_same Lives n (d + 5) (drop k us) split.1 in
      let s = stands d nd (drop k us) fit.0 below.0 below.1 in
      ((record { within = s.within; inhabited = s.lives lively.0 }, split.0), (s.root_is, subst (λ qs. Grows qs nds) (sym (take-append-drop k us) ∙ ap (λ vs. take k us ++ vs) (sym s.children_are)) grows))

  -- and likewise where the first may be empty
  pub grown_root : (nd : Node V) (nds : List (Node V)) → FitTogether w (0 ∷ []) (map shape (nd ∷ nds)) → AllByRecursion (λ nd. IsLively (shape nd)) nds → (t : Trie V) × Narrow w t × Grows (t ∷ []) (nd ∷ nds)
  grown_root nd nds fit lively =
      let n = count_true nd.kids in
      let ih = grown (replicate n 5) nds fit.1 lively in
      let us : List (Trie V) = tries (length (replicate n 5)) nds in
      let below = pairs_same Lives n 5 us ih.0 in
      let s = stands 0 nd us fit.0 below.0 below.1 in
      (build nd.values (placed nd.kids us), (λ k l. s.within k (subst (λ x. w < x) (sym (zero-add (length k))) l)), (s.root_is, subst (λ qs. Grows qs nds) (sym s.children_are) ih.1))

  -- how many keys a queue has
  pub count_grown : (ts : List (Trie V)) (nds : List (Node V)) → AllByRecursion (Narrow w) ts → Grows ts nds → sum_of (count w) ts ≡ sum_of (λ nd. count_true (map is_some nd.values)) nds
  count_grown [] [] h g = refl
  count_grown [] (nd ∷ nds) h g = absurd g
  count_grown (t ∷ ts) [] h g = absurd g
  count_grown (t ∷ ts) (nd ∷ nds) h g =
      let ih = count_grown (ts ++ children t) nds (all_append (Narrow w) ts (children t) h.1 (narrow_children t h.0)) g.1 in
      let a = sum_of-append (count w) ts (children t) in
      let b = count_parts t h.0 in
      let c = ap (λ (nd : Node V). count_true (map is_some nd.values)) g.0 in
      omega arith
