-- A walk from the last key seen, itself left out, is the rest of the walk.
use Rattle.std.specs.Prelude.{◌≡◌, Bool, true, false, cond, T, List, [], ◌∷◌, ◌++◌, is_some, Some}
use Rattle.std.specs.declared.cmp.Ordering.TheVariants.{Less, Equal, Greater}
use Rattle.std.specs.Ordering.{match_ordering, eq_by_cmp}
use Rattle.std.specs.FinMap.{is_sorted, entries, entries_sorted, find}
use Rattle.std.specs.FinMap.Entries.{below_all}
use Rattle.std.specs.FinMap as map
use Rattle.std.proofs.Common.{refl, sym, ap, ◌∙◌, subst, ℕ, take, Option, None}
use Rattle.prefix_model.specs.Keys.{KeyBits, key_cmp}
use Rattle.prefix_model.specs.Tables.{KeyMap}
use Rattle.prefix_model.specs.Walks.{begins_with, walk, walk_from, stands_from, walk_rest}
use Rattle.prefix_model.proofs.Order.{key_total, key_exact, turned, itself}
use Rattle.prefix_model.proofs.KeyLemmas.{holds_both, holds_first, holds_second, lt_to_less, same_key-same, same_key-itself}
use Rattle.prefix_model.proofs.WalkSplits.{those}
use Rattle.prefix_model.proofs.KeyLists.{tied-same_key}
use Rattle.prefix_model.proofs.Walking.SortedWalks.{walk_behind}

-- what stands from q on goes on upwards
upward : (i : Bool) (q a b : KeyBits) → stands_from i q a ≡ true → key_cmp a b ≡ Less → stands_from i q b ≡ true
upward i q a b s l =
    elim (key_cmp q a) as (λ o. key_cmp q a ≡ o → match_ordering o true i false ≡ true → stands_from i q b ≡ true) [
      | Less ↦ λ e t. ap (λ o. match_ordering o true i false) (key_total.trans q a b e l)
      | Equal ↦ λ e t. let same = key_exact q a e in ap (λ o. match_ordering o true i false) (subst (λ x. key_cmp x b ≡ Less) (sym same) l)
      | Greater ↦ λ e t. cc
    ] refl s

module _ {V : Type 0} where
  all_pass : (f : KeyBits → Bool) (d : KeyBits) → ((b : KeyBits) → key_cmp d b ≡ Less → f b ≡ true) → (es : List (KeyBits × V)) → T (below_all key_cmp d es) → those f es ≡ es
  all_pass f d h [] below = refl
  all_pass f d h (e ∷ es) below =
      let l = lt_to_less _ (holds_first _ _ below) in
      ap (λ b. cond b (e ∷ those f es) (those f es)) (h e.0 l) ∙ ap (λ xs. e ∷ xs) (all_pass f d h es (holds_second _ _ below))

  first_behind : (f : KeyBits → Bool) (d : KeyBits) (es : List (KeyBits × V)) (e : KeyBits × V) (rest : List (KeyBits × V)) → T (below_all key_cmp d es) → those f es ≡ e ∷ rest → key_cmp d e.0 ≡ Less
  first_behind f d [] e rest below h = cc
  first_behind f d (c ∷ es) e rest below h =
      elim (f c.0) as (λ b. cond b (c ∷ those f es) (those f es) ≡ e ∷ rest → key_cmp d e.0 ≡ Less) [
        | true ↦ λ g. let same : c ≡ e = cc in subst (λ x. key_cmp d x.0 ≡ Less) same (lt_to_less _ (holds_first _ _ below))
        | false ↦ λ g. first_behind f d es e rest (holds_second _ _ below) g
      ] h

  rest_of : (f : KeyBits → Bool) → ((a b : KeyBits) → f a ≡ true → key_cmp a b ≡ Less → f b ≡ true) → (es : List (KeyBits × V)) → T (is_sorted key_cmp es)
      → (e : KeyBits × V) (rest : List (KeyBits × V)) → those f es ≡ e ∷ rest → those (stands_from false e.0) es ≡ rest
  rest_of f up [] sorted e rest h = cc
  rest_of f up (d ∷ es) sorted e rest h =
      let below = holds_first _ _ sorted in
      let later = holds_second _ _ sorted in
      elim (f d.0) as (λ b. f d.0 ≡ b → cond b (d ∷ those f es) (those f es) ≡ e ∷ rest → those (stands_from false e.0) (d ∷ es) ≡ rest) [
        | true ↦ λ t g.
            let same : d ≡ e = cc in
            let others : those f es ≡ rest = cc in
            let all = all_pass f d.0 (λ b l. up d.0 b t l) es below in
            let after = all_pass (stands_from false d.0) d.0 (λ b l. ap (λ o. match_ordering o true false false) l) es below in
            let here : stands_from false d.0 d.0 ≡ false = ap (λ o. match_ordering o true false false) (itself d.0) in
            ap (λ x. those (stands_from false x.0) (d ∷ es)) (sym same)
            ∙ ap (λ b. cond b (d ∷ those (stands_from false d.0) es) (those (stands_from false d.0) es)) here ∙ after ∙ sym all ∙ others
        | false ↦ λ t g.
            let l = turned d.0 e.0 (first_behind f d.0 es e rest below g) in
            let here : stands_from false e.0 d.0 ≡ false = ap (λ o. match_ordering o true false false) l in
            ap (λ b. cond b (d ∷ those (stands_from false e.0) es) (those (stands_from false e.0) es)) here ∙ rest_of f up es later e rest g
      ] refl h

  below_those : (f : KeyBits → Bool) (k : KeyBits) (es : List (KeyBits × V)) → T (below_all key_cmp k es) → T (below_all key_cmp k (those f es))
  below_those f k [] h = h
  below_those f k (e ∷ es) h =
      let rest = below_those f k es (holds_second _ _ h) in
      elim (f e.0) as (λ b. T (below_all key_cmp k (cond b (e ∷ those f es) (those f es)))) [ true ↦ holds_both _ _ (holds_first _ _ h) rest | false ↦ rest ]

  pub sorted_those : (f : KeyBits → Bool) (es : List (KeyBits × V)) → T (is_sorted key_cmp es) → T (is_sorted key_cmp (those f es))
  sorted_those f [] h = h
  sorted_those f (e ∷ es) h =
      let rest = sorted_those f es (holds_second _ _ h) in
      elim (f e.0) as (λ b. T (is_sorted key_cmp (cond b (e ∷ those f es) (those f es)))) [ true ↦ holds_both _ _ (below_those f e.0 es (holds_first _ _ h)) rest | false ↦ rest ]

  -- walks ascend
  pub walk_sorted : (m : KeyMap V) (p : KeyBits) → T (is_sorted key_cmp (walk m p))
  walk_sorted m p = sorted_those (begins_with p) (entries m) (entries_sorted m)

  -- turned the first of what is left is the rest
  pub rest_after : (m : KeyMap V) (p q : KeyBits) (i : Bool) (e : KeyBits × V) (rest : List (KeyBits × V)) → walk_from m p q i ≡ e ∷ rest → walk_from m p e.0 false ≡ rest
  rest_after m p q i e rest h = rest_of (stands_from i q) (upward i q) (walk m p) (walk_sorted m p) e rest h

  -- turned any that was seen is the rest
  pub rest_behind : (m : KeyMap V) (p q : KeyBits) (i : Bool) (seen : List (KeyBits × V)) (last : KeyBits × V) (rest : List (KeyBits × V)) → walk_from m p q i ≡ seen ++ last ∷ rest → walk_from m p last.0 false ≡ rest
  rest_behind m p q i [] last rest h = rest_after m p q i last rest h
  rest_behind m p q i (d ∷ seen) last rest h = rest_behind m p d.0 false seen last rest (rest_after m p q i d (seen ++ last ∷ rest) h)

  -- the first of a filtered list passes, and stands in the list
  pub first_passes : (f : KeyBits → Bool) (es : List (KeyBits × V)) (e : KeyBits × V) (rest : List (KeyBits × V)) → those f es ≡ e ∷ rest → (f e.0 ≡ true) × (is_some (find key_cmp e.0 es) ≡ true)
  first_passes f [] e rest h = cc
  first_passes f (d ∷ es) e rest h =
      elim (f d.0) as (λ b. f d.0 ≡ b → cond b (d ∷ those f es) (those f es) ≡ e ∷ rest → (f e.0 ≡ true) × (is_some (find key_cmp e.0 (d ∷ es)) ≡ true)) [
        | true ↦ λ t g.
            let same : d ≡ e = cc in
            let k : d.0 ≡ e.0 = ap (λ x. x.0) same in
            let tied : eq_by_cmp key_cmp e.0 d.0 ≡ true = ap (eq_by_cmp key_cmp e.0) k ∙ tied-same_key e.0 e.0 ∙ same_key-itself e.0 in
            (subst (λ x. f x ≡ true) k t, ap (λ b. is_some (cond b (Some d.1) (find key_cmp e.0 es))) tied)
        | false ↦ λ t g.
            let r = first_passes f es e rest g in
            (r.0, elim (eq_by_cmp key_cmp e.0 d.0) as (λ b. is_some (cond b (Some d.1) (find key_cmp e.0 es)) ≡ true) [ true ↦ refl | false ↦ r.1 ])
      ] refl h

  -- ---- what is given, and what is left then

  pub first_value : (f : KeyBits → Bool) (es : List (KeyBits × V)) (e : KeyBits × V) (rest : List (KeyBits × V)) → those f es ≡ e ∷ rest → (f e.0 ≡ true) × (find key_cmp e.0 es ≡ Some e.1)
  first_value f [] e rest h = cc
  first_value f (d ∷ es) e rest h =
      elim (f d.0) as (λ b. f d.0 ≡ b → cond b (d ∷ those f es) (those f es) ≡ e ∷ rest → (f e.0 ≡ true) × (find key_cmp e.0 (d ∷ es) ≡ Some e.1)) [
        | true ↦ λ t g.
            let same : d ≡ e = cc in
            let k : d.0 ≡ e.0 = ap (λ x. x.0) same in
            let tied : eq_by_cmp key_cmp e.0 d.0 ≡ true = ap (eq_by_cmp key_cmp e.0) k ∙ tied-same_key e.0 e.0 ∙ same_key-itself e.0 in
            (subst (λ x. f x ≡ true) k t, ap (λ b. cond b (Some d.1) (find key_cmp e.0 es)) tied ∙ ap (λ x. Some x.1) same)
        | false ↦ λ t g.
            let r = first_value f es e rest g in (
              r.0,
              elim (eq_by_cmp key_cmp e.0 d.0) as (λ b. eq_by_cmp key_cmp e.0 d.0 ≡ b → cond b (Some d.1) (find key_cmp e.0 es) ≡ Some e.1) [
                | true ↦ λ b. let k = same_key-same e.0 d.0 (sym (tied-same_key e.0 d.0) ∙ b) in let z : f e.0 ≡ false = ap f k ∙ t in let y = r.0 in cc
                | false ↦ λ b. r.1
              ] refl,
            )
      ] refl h

-- what is left stays, where the value at the key of the walk was written
pub rest_written : {T : Type 0} (m : KeyMap T) (key near : KeyBits) (within : ℕ) (i : Bool) (v : T) → near ≡ key → i ≡ false → walk_rest m near within i ≡ walk_rest (map.insert m key v) near within i
rest_written m key near within i v is passed =
    ap (λ b. walk_rest m near within b) passed
    ∙ sym (walk_behind m (take within near) near v)
    ∙ ap (λ k. walk_rest (map.insert m k v) near within false) is
    ∙ ap (λ b. walk_rest (map.insert m key v) near within b) (sym passed)

-- and where the key of the walk was taken away
pub rest_removed : {T : Type 0} (m : KeyMap T) (key near : KeyBits) (within : ℕ) (i : Bool) (v : T) → near ≡ key → i ≡ false → walk_rest m near within i ≡ walk_rest (map.remove m key) near within i
rest_removed m key near within i v is passed =
    rest_written m key near within i v is passed
    ∙ ap (λ n. walk_rest n near within i) (sym (insert_removed m key v))
    ∙ sym (rest_written (map.remove m key) key near within i v is passed)
  where
    once : {T : Type 0} (v : T) (b : Bool) (o : Option T) → cond b (Some v) (cond b None o) ≡ cond b (Some v) o
    once v true o = refl
    once v false o = refl

    insert_removed : {T : Type 0} (m : KeyMap T) (key : KeyBits) (v : T) → map.insert (map.remove m key) key v ≡ map.insert m key v
    insert_removed m key v = map.same_map key_total key_exact _ _ (λ q.
        map.get-insert key_total (map.remove m key) key v q
        ∙ ap (cond (eq_by_cmp key_cmp q key) (Some v)) (map.get-remove key_total m key q)
        ∙ once v (eq_by_cmp key_cmp q key) (map.get m q)
        ∙ sym (map.get-insert key_total m key v q))
