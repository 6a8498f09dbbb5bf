-- Walks over a table, from what its map holds.
use Rattle.std.specs.List.{filter}
use Rattle.std.specs.Ordering.{is_lt, is_eq, eq_by_cmp, ordering_reverse, match_ordering}
use Rattle.std.specs.declared.cmp.Ordering.TheVariants.{Less, Equal, Greater}
use Rattle.std.specs.FinMap as map_of
use Rattle.std.specs.FinMap.{find, is_sorted, get-entries, entries_sorted}
use Rattle.std.specs.FinMap.Entries.{below_all, put, by_order}
use Rattle.std.proofs.Common.{◌≡◌, true, [], ◌∷◌, refl, Bool, false, cond, ◌&&◌, not, T, List, Some, None, sym, ap, ◌∙◌, subst}
use Rattle.prefix_model.specs.Keys.{KeyBits, key_cmp}
use Rattle.prefix_model.specs.Searches.{comes_from, comes_before, IsFirst, in_walk}
use Rattle.prefix_model.specs.Tables.{KeyMap}
use Rattle.prefix_model.specs.Walks.{begins_with, stands_from, walk, walk_from}
use Rattle.prefix_model.proofs.Order.{key_total, key_exact, turned, itself}
use Rattle.prefix_model.proofs.KeyLemmas.{holds_first, holds_second, lt_to_less}

-- every key comes from the empty one
pub from_nil : (k : KeyBits) → comes_from [] true k ≡ true
from_nil [] = refl
from_nil (b ∷ k) = refl

-- how one key stands to another
data Stands (k l : KeyBits) : Type 0 where
  before : key_cmp k l ≡ Less → Stands k l
  same : k ≡ l → Stands k l
  behind : key_cmp l k ≡ Less → Stands k l

stands : (k l : KeyBits) → Stands k l
stands k l =
    elim (key_cmp k l) as (λ r. key_cmp k l ≡ r → Stands k l) [
      | Less ↦ λ e. before e
      | Equal ↦ λ e. same (key_exact k l e)
      | Greater ↦ λ e. behind (key_total.antisymm l k ∙ ap ordering_reverse e)
    ] refl

apart : (k l : KeyBits) → key_cmp k l ≡ Less → eq_by_cmp key_cmp k l ≡ false
apart k l e = ap is_eq e

apart_behind : (k l : KeyBits) → key_cmp l k ≡ Less → eq_by_cmp key_cmp k l ≡ false
apart_behind k l e = ap is_eq (turned l k e)

pub same_tests : {A : Type 0} (s t : A → Bool) (xs : List A) → ((x : A) → s x ≡ t x) → filter s xs ≡ filter t xs
same_tests s t [] e = refl
same_tests s t (x ∷ xs) e = (λ i. cond (e x i) (x ∷ same_tests s t xs e i) (same_tests s t xs e i))

twice_filtered : {A : Type 0} (s t : A → Bool) (xs : List A) → filter s (filter t xs) ≡ filter (λ x. t x && s x) xs
twice_filtered s t [] = refl
twice_filtered s t (x ∷ xs) =
    elim (t x) as (λ b. filter s (cond b (x ∷ filter t xs) (filter t xs)) ≡ cond (b && s x) (x ∷ filter (λ y. t y && s y) xs) (filter (λ y. t y && s y) xs)) [
      | true ↦ ap (λ (ys : List _). cond (s x) (x ∷ ys) ys) (twice_filtered s t xs)
      | false ↦ twice_filtered s t xs
    ]

no_and : (a b : Bool) → b ≡ false → (a && b) ≡ false
no_and true b e = e
no_and false b e = refl

module _ {V : Type 0} (t : KeyBits → Bool) where
  abbrev passing : List (KeyBits × V) → List (KeyBits × V)
  passing = filter (λ e. t e.0)

  -- where the first entry does not pass, it stands in the way of none that passes
  rest_none : (e : KeyBits × V) (es : List (KeyBits × V)) (x : KeyBits) → t e.0 ≡ false → t x ≡ true → find key_cmp x (e ∷ es) ≡ None → find key_cmp x es ≡ None
  rest_none e es x fails p none =
      elim (stands x e.0) [
        | before l ↦ sym (ap (λ b. cond b (Some e.1) (find key_cmp x es)) (apart x e.0 l)) ∙ none
        | same s ↦ let n = ap t s in absurd (cc)
        | behind l ↦ sym (ap (λ b. cond b (Some e.1) (find key_cmp x es)) (apart_behind x e.0 l)) ∙ none
      ]

  own_found : (e : KeyBits × V) (es : List (KeyBits × V)) → find key_cmp e.0 (e ∷ es) ≡ Some e.1
  own_found e es = ap (λ r. cond (is_eq r) (Some e.1) (find key_cmp e.0 es)) (itself e.0)

  pub passing_none : (es : List (KeyBits × V)) → ((k : KeyBits) → t k ≡ true → find key_cmp k es ≡ None) → passing es ≡ []
  passing_none [] none = refl
  passing_none (e ∷ es) none =
      elim (t e.0) as (λ b. t e.0 ≡ b → cond b (e ∷ passing es) (passing es) ≡ []) [
        | true ↦ λ p. let n = none e.0 p in let s = own_found e es in absurd (cc)
        | false ↦ λ fails. passing_none es (λ k p. rest_none e es k fails p (none k p))
      ] refl

  -- all entries stand behind the key
  passing_above : (k : KeyBits) (es : List (KeyBits × V)) → T (below_all key_cmp k es) → passing es ≡ filter (λ e. t e.0 && comes_before k e.0) es
  passing_above k [] h = refl
  passing_above k (e ∷ es) h =
      let l = ap is_lt (lt_to_less _ (holds_first _ _ h)) in
      let rest = passing_above k es (holds_second _ _ h) in
      (λ i. cond (and_true (t e.0) (comes_before k e.0) l i) (e ∷ rest i) (rest i))
    where
      and_true : (a b : Bool) → b ≡ true → a ≡ (a && b)
      and_true true b e = sym e
      and_true false b e = refl

  absent : (k l : KeyBits) (es : List (KeyBits × V)) → key_cmp k l ≡ Less → T (below_all key_cmp l es) → find key_cmp k es ≡ None
  absent k l [] less h = refl
  absent k l (e ∷ es) less h =
      let here = key_total.trans k l e.0 less (lt_to_less _ (holds_first _ _ h)) in
      ap (λ b. cond b (Some e.1) (find key_cmp k es)) (apart k e.0 here) ∙ absent k l es less (holds_second _ _ h)

  pub passing_some : (es : List (KeyBits × V)) (k : KeyBits) (v : V) → T (is_sorted key_cmp es) → t k ≡ true → find key_cmp k es ≡ Some v → ((x : KeyBits) → t x ≡ true → comes_before x k ≡ true → find key_cmp x es ≡ None)
      → passing es ≡ (k, v) ∷ filter (λ e. t e.0 && comes_before k e.0) es
  passing_some [] k v sorted p found earlier = absurd (cc)
  passing_some (e ∷ es) k v sorted p found earlier =
      elim (stands k e.0) [
        | before l ↦
            let none = absent k e.0 es l (holds_first _ _ sorted) in
            let down = ap (λ b. cond b (Some e.1) (find key_cmp k es)) (apart k e.0 l) in
            absurd (cc)
        | same s ↦
            let value : Some e.1 ≡ Some v = sym (own_found e es) ∙ ap (λ x. find key_cmp x (e ∷ es)) (sym s) ∙ found in
            let here : (e.0, e.1) ≡ (k, v) = (λ i. (sym s i, (let w : e.1 ≡ v = cc in w) i)) in
            let passes : t e.0 ≡ true = sym (ap t s) ∙ p in
            let skipped : (t e.0 && comes_before k e.0) ≡ false = no_and (t e.0) (comes_before k e.0) (ap (λ x. comes_before x e.0) s ∙ ap is_lt (itself e.0)) in
            let rest = passing_above e.0 es (holds_first _ _ sorted) in
            let tail : passing es ≡ filter (λ e. t e.0 && comes_before k e.0) es = rest ∙ ap (λ x. filter (λ e. t e.0 && comes_before x e.0) es) (sym s) in
            ap (λ b. cond b (e ∷ passing es) (passing es)) passes
            ∙ (λ i. here i ∷ tail i)
            ∙ ap (λ b. (k, v) ∷ cond b (e ∷ filter (λ e. t e.0 && comes_before k e.0) es) (filter (λ e. t e.0 && comes_before k e.0) es)) (sym skipped)
        | behind l ↦
            elim (t e.0) as (λ b. t e.0 ≡ b → cond b (e ∷ passing es) (passing es) ≡ (k, v) ∷ cond (b && comes_before k e.0) (e ∷ filter (λ e. t e.0 && comes_before k e.0) es) (filter (λ e. t e.0 && comes_before k e.0) es)) [
              | true ↦ λ q. let n = earlier e.0 q (ap is_lt l) in let s = own_found e es in absurd (cc)
              | false ↦ λ fails.
                  let deeper : find key_cmp k es ≡ Some v = sym (ap (λ b. cond b (Some e.1) (find key_cmp k es)) (apart_behind k e.0 l)) ∙ found in
                  passing_some es k v (holds_second _ _ sorted) p deeper (λ x q b. rest_none e es x fails q (earlier x q b))
            ] refl
      ]

-- the two forms of one test
pub stands_comes : (q : KeyBits) (i : Bool) (k : KeyBits) → stands_from i q k ≡ comes_from q i k
stands_comes q false k = elim (key_cmp q k) as (λ o. match_ordering o true false false ≡ is_lt o) [ Less ↦ refl | Equal ↦ refl | Greater ↦ refl ]
stands_comes q true k =
    elim (stands q k) [
      | before l ↦ ap (λ o. match_ordering o true true false) l ∙ sym (ap (λ o. not (is_lt o)) (turned q k l))
      | same s ↦ ap (λ x. match_ordering (key_cmp x k) true true false) s ∙ ap (λ o. match_ordering o true true false) (itself k) ∙ sym (ap (λ x. not (is_lt (key_cmp k x))) s ∙ ap (λ o. not (is_lt o)) (itself k))
      | behind l ↦ ap (λ o. match_ordering o true true false) (turned k q l) ∙ sym (ap (λ o. not (is_lt o)) l)
    ]

walk_comes : {V : Type 0} (m : KeyMap V) (w q : KeyBits) (i : Bool) → walk_from m w q i ≡ filter (λ e. comes_from q i e.0) (walk m w)
walk_comes m w q i = same_tests (λ e. stands_from i q e.0) (λ e. comes_from q i e.0) (walk m w) (λ e. stands_comes q i e.0)

-- ---- over the map of a table

module _ {V : Type 0} (m : KeyMap V) where
  pub entries_none : (t : KeyBits → Bool) → IsFirst (map_of.get m) t None → filter (λ e. t e.0) (map_of.entries m) ≡ []
  entries_none t first = passing_none t (map_of.entries m) (λ k p. sym (get-entries m k) ∙ first.none k p)

  pub entries_some : (t : KeyBits → Bool) (e : KeyBits × V) → IsFirst (map_of.get m) t (Some e) → filter (λ e. t e.0) (map_of.entries m) ≡ e ∷ filter (λ x. t x.0 && comes_before e.0 x.0) (map_of.entries m)
  entries_some t e first = passing_some t (map_of.entries m) e.0 e.1 (entries_sorted m) first.passes (sym (get-entries m e.0) ∙ first.stored) (λ x p b. sym (get-entries m x) ∙ first.before x p b)

  walk_list : (w q : KeyBits) (i : Bool) → walk_from m w q i ≡ filter (λ e. in_walk w q i e.0) (map_of.entries m)
  walk_list w q i = walk_comes m w q i ∙ twice_filtered (λ e. comes_from q i e.0) (λ e. begins_with w e.0) (map_of.entries m)

  pub walk_none : (w q : KeyBits) (i : Bool) → IsFirst (map_of.get m) (in_walk w q i) None → walk_from m w q i ≡ []
  walk_none w q i first = walk_list w q i ∙ entries_none (in_walk w q i) first

  -- what comes behind a key that comes from q comes from q
  comes_behind : (q k x : KeyBits) (i : Bool) → comes_from q i k ≡ true → comes_before k x ≡ true → comes_from q i x ≡ true
  comes_behind q k x false a b = ap is_lt (key_total.trans q k x (lt_to_less _ (subst T (sym a) tt)) (lt_to_less _ (subst T (sym b) tt)))
  comes_behind q k x true a b =
      let kx = lt_to_less _ (subst T (sym b) tt) in
      elim (stands x q) [
        | before l ↦ let n = ap is_lt (key_total.trans k x q kx l) in absurd (cc)
        | same s ↦ ap not (ap (λ y. comes_before y q) s ∙ ap is_lt (itself q))
        | behind l ↦ ap (λ r. not (is_lt r)) (turned q x l)
      ]

  both_again : (a b c : Bool) → (c ≡ true → b ≡ true) → ((a && b) && c) ≡ (a && c)
  both_again true true c h = refl
  both_again true false true h = absurd (let e = h refl in cc)
  both_again true false false h = refl
  both_again false b c h = refl

  pub walk_some : (w q : KeyBits) (i : Bool) (e : KeyBits × V) → IsFirst (map_of.get m) (in_walk w q i) (Some e) → walk_from m w q i ≡ e ∷ walk_from m w e.0 false
  walk_some w q i e first =
      walk_list w q i ∙ entries_some (in_walk w q i) e first
      ∙ ap (λ es. e ∷ es) (
      same_tests (λ x. in_walk w q i x.0 && comes_before e.0 x.0) (λ x. in_walk w e.0 false x.0) (map_of.entries m)
      (λ x. both_again (begins_with w x.0) (comes_from q i x.0) (comes_before e.0 x.0) (comes_behind q e.0 x.0 i (second_of (begins_with w e.0) (comes_from q i e.0) first.passes)))
      ∙ sym (walk_list w e.0 false)
      )
    where
      second_of : (a b : Bool) → (a && b) ≡ true → b ≡ true
      second_of true b h = h
      second_of false b h = absurd (cc)

-- ---- whole walks

filter_all : {A : Type 0} (xs : List A) → filter (λ _. true) xs ≡ xs
filter_all [] = refl
filter_all (x ∷ xs) = ap (λ ys. x ∷ ys) (filter_all xs)

pub front_from : (p k : KeyBits) → begins_with p k ≡ true → comes_from p true k ≡ true
front_from [] k e = from_nil k
front_from (a ∷ p) [] e = absurd (cc)
front_from (true ∷ p) (true ∷ k) e = front_from p k e
front_from (true ∷ p) (false ∷ k) e = absurd (cc)
front_from (false ∷ p) (true ∷ k) e = absurd (cc)
front_from (false ∷ p) (false ∷ k) e = front_from p k e

module _ {V : Type 0} (m : KeyMap V) where
  pub walk_all : walk_from m [] [] true ≡ map_of.entries m
  walk_all =
      walk_comes m [] [] true
      ∙ ap (filter (λ e. comes_from [] true e.0)) (same_tests (λ e. begins_with [] e.0) (λ e. true) (map_of.entries m) (λ e. refl) ∙ filter_all (map_of.entries m))
      ∙ same_tests (λ e. comes_from [] true e.0) (λ e. true) (map_of.entries m) (λ e. from_nil e.0) ∙ filter_all (map_of.entries m)

  -- ---- a value written at the key where a walk stands
  put_passed : (t : KeyBits → Bool) (k : KeyBits) (v : V) (es : List (KeyBits × V)) → t k ≡ false → filter (λ e. t e.0) (put key_cmp k v es) ≡ filter (λ e. t e.0) es
  put_passed t k v [] fails = ap (λ b. cond b ((k, v) ∷ []) []) fails
  put_passed t k v (e ∷ es) fails =
      elim (key_cmp k e.0) as (λ r. key_cmp k e.0 ≡ r → filter (λ x. t x.0) (by_order r ((k, v) ∷ e ∷ es) ((e.0, v) ∷ es) (e ∷ put key_cmp k v es)) ≡ filter (λ x. t x.0) (e ∷ es)) [
        | Less ↦ λ q. ap (λ b. cond b ((k, v) ∷ filter (λ x. t x.0) (e ∷ es)) (filter (λ x. t x.0) (e ∷ es))) fails
        | Equal ↦ λ q.
            let here : t e.0 ≡ false = sym (ap t (key_exact k e.0 q)) ∙ fails in
            ap (λ b. cond b ((e.0, v) ∷ filter (λ x. t x.0) es) (filter (λ x. t x.0) es)) here ∙ sym (ap (λ b. cond b (e ∷ filter (λ x. t x.0) es) (filter (λ x. t x.0) es)) here)
        | Greater ↦ λ q. (λ i. cond (t e.0) (e ∷ put_passed t k v es fails i) (put_passed t k v es fails i))
      ] refl

  pub walk_behind : (w k : KeyBits) (v : V) → walk_from (map_of.insert m k v) w k false ≡ walk_from m w k false
  walk_behind w k v =
      walk_comes (map_of.insert m k v) w k false
      ∙ twice_filtered (λ e. comes_from k false e.0) (λ e. begins_with w e.0) (map_of.entries (map_of.insert m k v))
      ∙ ap (filter (λ e. in_walk w k false e.0)) (map_of.entries-insert key_total m k v)
      ∙ put_passed (in_walk w k false) k v (map_of.entries m) (no_and (begins_with w k) (comes_before k k) (ap is_lt (itself k)))
      ∙ sym (walk_comes m w k false ∙ twice_filtered (λ e. comes_from k false e.0) (λ e. begins_with w e.0) (map_of.entries m))
