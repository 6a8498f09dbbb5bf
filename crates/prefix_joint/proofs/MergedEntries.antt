-- What merged lists of entries have at each key.
use Rattle.std.proofs.Common.{◌≡◌, Bool, true, false, cond, T, List, [], ◌∷◌, Option, Some, None, refl, sym, ap, ◌∙◌, subst}
use Rattle.std.specs.Ordering.{is_lt, is_eq, eq_by_cmp, ordering_reverse, match_ordering}
use Rattle.std.specs.declared.cmp.Ordering.TheVariants.{Less, Equal, Greater}
use Rattle.std.specs.FinMap.{find, is_sorted, entries, entries_sorted, get-entries}
use Rattle.std.specs.FinMap.Entries.{below_all}
use Rattle.prefix_model.specs.Keys.{KeyBits, key_cmp}
use Rattle.prefix_model.proofs.Order.{key_total, key_exact}
use Rattle.prefix_model.proofs.KeyLemmas.{holds_both, holds_first, holds_second, lt_to_less}
use Rattle.prefix_joint_walks.specs.Unions.{on_left, on_right, on_both, merged}
use Rattle.prefix_joint.specs.UnionLaws.{sides_of, TellsBothMaps}

turned : (k l : KeyBits) → key_cmp k l ≡ Greater → key_cmp l k ≡ Less
turned k l e = key_total.antisymm l k ∙ ap ordering_reverse e

is_less : (k l : KeyBits) → key_cmp k l ≡ Less → T (is_lt (key_cmp k l))
is_less k l e = subst (λ o. T (is_lt o)) (sym e) tt

module _ {V : Type 0} where
  below_behind : (x y : KeyBits) (es : List (KeyBits × V)) → key_cmp x y ≡ Less → T (below_all key_cmp y es) → T (below_all key_cmp x es)
  below_behind x y [] less h = tt
  below_behind x y (e ∷ es) less h =
      holds_both _ _ (is_less x e.0 (key_total.trans x y e.0 less (lt_to_less _ (holds_first _ _ h)))) (below_behind x y es less (holds_second _ _ h))

  -- what stands behind a key does not hold it
  not_found : (k : KeyBits) (es : List (KeyBits × V)) → T (below_all key_cmp k es) → find key_cmp k es ≡ None
  not_found k [] h = refl
  not_found k (e ∷ es) h =
      ap (λ b. cond b (Some e.1) (find key_cmp k es)) (ap is_eq (lt_to_less _ (holds_first _ _ h))) ∙ not_found k es (holds_second _ _ h)

  not_found_by : (k l : KeyBits) (es : List (KeyBits × V)) → eq_by_cmp key_cmp k l ≡ true → T (below_all key_cmp l es) → find key_cmp k es ≡ None
  not_found_by k l es e h = ap (λ x. find key_cmp x es) (key_exact k l (tied (key_cmp k l) e)) ∙ not_found l es h
    where
      tied : (o : _) → is_eq o ≡ true → o ≡ Equal
      tied Less e = absurd (cc)
      tied Equal e = refl
      tied Greater e = absurd (cc)

module _ (L : Type 0) {R : Type 0} where
  below_rights : (k : KeyBits) (rs : List (KeyBits × R)) → T (below_all key_cmp k rs) → T (below_all key_cmp k (merged {L = L} [] rs))
  below_rights k [] h = tt
  below_rights k (r ∷ rs) h = holds_both _ _ (holds_first _ _ h) (below_rights k rs (holds_second _ _ h))

  sorted_rights : (rs : List (KeyBits × R)) → T (is_sorted key_cmp rs) → T (is_sorted key_cmp (merged {L = L} [] rs))
  sorted_rights [] h = tt
  sorted_rights (r ∷ rs) h = holds_both _ _ (below_rights r.0 rs (holds_first _ _ h)) (sorted_rights rs (holds_second _ _ h))

module _ {L R : Type 0} where
  -- a key of the left list that stands before all of the right one
  left_found : (b : Bool) (v : L) (x : Option L) (y : Option R) → (b ≡ true → y ≡ None) → cond b (Some (on_left v)) (sides_of x y) ≡ sides_of (cond b (Some v) x) y
  left_found true v x y none = sym (ap (sides_of (Some v)) (none refl))
  left_found false v x y none = refl

  right_found : (b : Bool) (v : R) (x : Option L) (y : Option R) → (b ≡ true → x ≡ None) → cond b (Some (on_right v)) (sides_of x y) ≡ sides_of x (cond b (Some v) y)
  right_found true v x y none = sym (ap (λ x. sides_of x (Some v)) (none refl))
  right_found false v x y none = refl

  both_found : (b : Bool) (v : L) (w : R) (x : Option L) (y : Option R) → cond b (Some (on_both v w)) (sides_of x y) ≡ sides_of (cond b (Some v) x) (cond b (Some w) y)
  both_found true v w x y = refl
  both_found false v w x y = refl

  find_rights : (k : KeyBits) (rs : List (KeyBits × R)) → find key_cmp k (merged {L = L} [] rs) ≡ sides_of None (find key_cmp k rs)
  find_rights k [] = refl
  find_rights k (r ∷ rs) =
      ap (cond (eq_by_cmp key_cmp k r.0) (Some (on_right r.1))) (find_rights k rs) ∙ right_found (eq_by_cmp key_cmp k r.0) r.1 None (find key_cmp k rs) (λ _. refl)

  below_merged : (k : KeyBits) (ls : List (KeyBits × L)) (rs : List (KeyBits × R)) → T (below_all key_cmp k ls) → T (below_all key_cmp k rs) → T (below_all key_cmp k (merged ls rs))
  below_merged k [] rs g h = below_rights L k rs h
  below_merged k (l ∷ ls) [] g h = holds_both _ _ (holds_first _ _ g) (below_merged k ls [] (holds_second _ _ g) h)
  below_merged k (l ∷ ls) (r ∷ rs) g h =
      let less = below_merged k ls (r ∷ rs) (holds_second _ _ g) h in
      let same = below_merged k ls rs (holds_second _ _ g) (holds_second _ _ h) in
      let more = below_merged k (l ∷ ls) rs g (holds_second _ _ h) in
      elim (key_cmp l.0 r.0) as (λ o. T (below_all key_cmp k (match_ordering o ((l.0, on_left l.1) ∷ merged ls (r ∷ rs)) ((l.0, on_both l.1 r.1) ∷ merged ls rs) ((r.0, on_right r.1) ∷ merged (l ∷ ls) rs)))) [
        | Less ↦ holds_both _ _ (holds_first _ _ g) less
        | Equal ↦ holds_both _ _ (holds_first _ _ g) same
        | Greater ↦ holds_both _ _ (holds_first _ _ h) more
      ]

  sorted_merged : (ls : List (KeyBits × L)) (rs : List (KeyBits × R)) → T (is_sorted key_cmp ls) → T (is_sorted key_cmp rs) → T (is_sorted key_cmp (merged ls rs))
  sorted_merged [] rs g h = sorted_rights L rs h
  sorted_merged (l ∷ ls) [] g h = holds_both _ _ (below_merged l.0 ls [] (holds_first _ _ g) tt) (sorted_merged ls [] (holds_second _ _ g) h)
  sorted_merged (l ∷ ls) (r ∷ rs) g h =
      let less = sorted_merged ls (r ∷ rs) (holds_second _ _ g) h in
      let same = sorted_merged ls rs (holds_second _ _ g) (holds_second _ _ h) in
      let more = sorted_merged (l ∷ ls) rs g (holds_second _ _ h) in
      elim (key_cmp l.0 r.0) as (λ o. key_cmp l.0 r.0 ≡ o → T (is_sorted key_cmp (match_ordering o ((l.0, on_left l.1) ∷ merged ls (r ∷ rs)) ((l.0, on_both l.1 r.1) ∷ merged ls rs) ((r.0, on_right r.1) ∷ merged (l ∷ ls) rs)))) [
        | Less ↦ λ o. holds_both _ _ (below_merged l.0 ls (r ∷ rs) (holds_first _ _ g) (holds_both _ _ (is_less l.0 r.0 o) (below_behind l.0 r.0 rs o (holds_first _ _ h)))) less
        | Equal ↦ λ o. holds_both _ _ (below_merged l.0 ls rs (holds_first _ _ g) (subst (λ x. T (below_all key_cmp x rs)) (sym (key_exact l.0 r.0 o)) (holds_first _ _ h))) same
        | Greater ↦ λ o.
            let t = turned l.0 r.0 o in
            holds_both _ _ (below_merged r.0 (l ∷ ls) rs (holds_both _ _ (is_less r.0 l.0 t) (below_behind r.0 l.0 ls t (holds_first _ _ g))) (holds_first _ _ h)) more
      ] refl

  find_merged : (k : KeyBits) (ls : List (KeyBits × L)) (rs : List (KeyBits × R)) → T (is_sorted key_cmp ls) → T (is_sorted key_cmp rs) → find key_cmp k (merged ls rs) ≡ sides_of (find key_cmp k ls) (find key_cmp k rs)
  find_merged k [] rs g h = find_rights k rs
  find_merged k (l ∷ ls) [] g h =
      ap (cond (eq_by_cmp key_cmp k l.0) (Some (on_left l.1))) (find_merged k ls [] (holds_second _ _ g) h) ∙ left_found (eq_by_cmp key_cmp k l.0) l.1 (find key_cmp k ls) None (λ _. refl)
  find_merged k (l ∷ ls) (r ∷ rs) g h =
      let less = find_merged k ls (r ∷ rs) (holds_second _ _ g) h in
      let same = find_merged k ls rs (holds_second _ _ g) (holds_second _ _ h) in
      let more = find_merged k (l ∷ ls) rs g (holds_second _ _ h) in
      elim (key_cmp l.0 r.0) as (λ o. key_cmp l.0 r.0 ≡ o → find key_cmp k (match_ordering o ((l.0, on_left l.1) ∷ merged ls (r ∷ rs)) ((l.0, on_both l.1 r.1) ∷ merged ls rs) ((r.0, on_right r.1) ∷ merged (l ∷ ls) rs)) ≡ sides_of (find key_cmp k (l ∷ ls)) (find key_cmp k (r ∷ rs))) [
        | Less ↦ λ o.
            ap (cond (eq_by_cmp key_cmp k l.0) (Some (on_left l.1))) less
            ∙ left_found (eq_by_cmp key_cmp k l.0) l.1 (find key_cmp k ls) (find key_cmp k (r ∷ rs))
            (λ e. not_found_by k l.0 (r ∷ rs) e (holds_both _ _ (is_less l.0 r.0 o) (below_behind l.0 r.0 rs o (holds_first _ _ h))))
        | Equal ↦ λ o.
            ap (cond (eq_by_cmp key_cmp k l.0) (Some (on_both l.1 r.1))) same
            ∙ both_found (eq_by_cmp key_cmp k l.0) l.1 r.1 (find key_cmp k ls) (find key_cmp k rs)
            ∙ ap (λ x. sides_of (find key_cmp k (l ∷ ls)) (cond (eq_by_cmp key_cmp k x) (Some r.1) (find key_cmp k rs))) (key_exact l.0 r.0 o)
        | Greater ↦ λ o.
            let t = turned l.0 r.0 o in
            ap (cond (eq_by_cmp key_cmp k r.0) (Some (on_right r.1))) more
            ∙ right_found (eq_by_cmp key_cmp k r.0) r.1 (find key_cmp k (l ∷ ls)) (find key_cmp k rs)
            (λ e. not_found_by k r.0 (l ∷ ls) e (holds_both _ _ (is_less r.0 l.0 t) (below_behind r.0 l.0 ls t (holds_first _ _ g))))
      ] refl

to_true : (b : Bool) → T b → b ≡ true
to_true true h = refl
to_true false h = absurd h

-- a union tells what both maps have
pub union_tells : (L R : Type 0) → TellsBothMaps L R
union_tells L R l r = (
  to_true _ (sorted_merged (entries l) (entries r) (entries_sorted l) (entries_sorted r)),
  λ k. find_merged k (entries l) (entries r) (entries_sorted l) (entries_sorted r) ∙ sym (λ i. sides_of (get-entries l k i) (get-entries r k i)),
)
