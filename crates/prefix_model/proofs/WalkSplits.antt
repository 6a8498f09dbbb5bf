-- A walk is what stands at the place, then the walk of one half, then that of the other.
use Rattle.std.specs.Prelude.{◌≡◌, ◌&&◌, ◌||◌, Bool, true, false, cond, T, List, [], ◌∷◌, ◌++◌, Some}
use Rattle.std.specs.declared.cmp.Ordering.TheVariants.{Less, Greater}
use Rattle.std.specs.Ordering.{match_ordering, ordering_reverse}
use Rattle.std.specs.List.{filter}
use Rattle.std.specs.FinMap.{is_sorted, find, get, entries, entries_sorted, get-entries}
use Rattle.std.specs.FinMap.Entries.{below_all}
use Rattle.std.proofs.Common.{refl, sym, ap, ◌∙◌, subst, append_assoc}
use Rattle.prefix_model.specs.Keys.{KeyBits, key_cmp, same_key}
use Rattle.prefix_model.specs.Tables.{KeyMap}
use Rattle.prefix_model.specs.Walks.{begins_with, walk, walk_from, stands_from, own}
use Rattle.prefix_model.proofs.Order.{key_total, key_exact}
use Rattle.prefix_model.proofs.KeyLemmas.{both_true, or_true, holds_first, holds_second, lt_to_less, same_key-same, tests_same, and_false, and_true}
use Rattle.prefix_model.proofs.Fronts.{follows, front_append, front_both, front_itself, append_none, cmp_front, front_front, same_key-front}

-- ---- the order of keys with a common front

pub stands_front : (i : Bool) (p q s : KeyBits) → stands_from i (p ++ q) (p ++ s) ≡ stands_from i q s
stands_front i p q s = ap (λ o. match_ordering o true i false) (cmp_front p q s)

same_front_key : (p s : KeyBits) → same_key p (p ++ s) ≡ same_key [] s
same_front_key p s = ap (λ x. same_key x (p ++ s)) (sym (append_none p)) ∙ same_key-front p [] s

not_less : (k : KeyBits) → key_cmp k k ≡ Less → ⊥
not_less k e = let a = key_total.antisymm k k in let b : ordering_reverse (key_cmp k k) ≡ Greater = ap ordering_reverse e in cc

not_both : (k l : KeyBits) → key_cmp k l ≡ Less → key_cmp l k ≡ Less → ⊥
not_both k l e f = let a = key_total.antisymm k l in let b : ordering_reverse (key_cmp l k) ≡ Greater = ap ordering_reverse f in cc

-- ---- lists of entries in order

module _ {V : Type 0} where
  abbrev pub those : (KeyBits → Bool) → List (KeyBits × V) → List (KeyBits × V)
  those f es = filter (λ e. f e.0) es

  pub those_both : (f g : KeyBits → Bool) (es : List (KeyBits × V)) → those g (those f es) ≡ those (λ k. f k && g k) es
  those_both f g [] = refl
  those_both f g (e ∷ es) =
      let rest = those_both f g es in
      elim (f e.0) as (λ b. those g (cond b (e ∷ those f es) (those f es)) ≡ cond (b && g e.0) (e ∷ those (λ k. f k && g k) es) (those (λ k. f k && g k) es)) [
        | true ↦ λ j. cond (g e.0) (e ∷ rest j) (rest j)
        | false ↦ rest
      ]

  pub those_same : (f g : KeyBits → Bool) → ((k : KeyBits) → f k ≡ g k) → (es : List (KeyBits × V)) → those f es ≡ those g es
  those_same f g h [] = refl
  those_same f g h (e ∷ es) = let rest = those_same f g h es in λ j. cond (h e.0 j) (e ∷ rest j) (rest j)

  pub those_none : (es : List (KeyBits × V)) → those (λ k. false) es ≡ []
  those_none [] = refl
  those_none (e ∷ es) = those_none es

-- f holds of what g or h holds of, and all of g stands before all of h
pub record Splits (f g h : KeyBits → Bool) : Type 0 where
  pub left : (k : KeyBits) → g k ≡ true → f k ≡ true
  pub right : (k : KeyBits) → h k ≡ true → f k ≡ true
  pub rest : (k : KeyBits) → g k ≡ false → h k ≡ false → f k ≡ false
  pub order : (k l : KeyBits) → g k ≡ true → h l ≡ true → key_cmp k l ≡ Less

module _ {V : Type 0} where
  none_before : (g h : KeyBits → Bool) → ((k l : KeyBits) → g k ≡ true → h l ≡ true → key_cmp k l ≡ Less) → (k : KeyBits) → h k ≡ true
      → (es : List (KeyBits × V)) → T (below_all key_cmp k es) → those g es ≡ []
  none_before g h order k here [] b = refl
  none_before g h order k here (e ∷ es) b =
      let less = lt_to_less _ (holds_first _ _ b) in
      let rest = none_before g h order k here es (holds_second _ _ b) in
      elim (g e.0) as (λ t. g e.0 ≡ t → cond t (e ∷ those g es) (those g es) ≡ []) [
        | true ↦ λ t. absurd (not_both k e.0 less (order e.0 k t here))
        | false ↦ λ t. rest
      ] refl

  pub split : (f g h : KeyBits → Bool) → Splits f g h → (es : List (KeyBits × V)) → T (is_sorted key_cmp es) → those f es ≡ those g es ++ those h es
  split f g h s [] sorted = refl
  split f g h s (e ∷ es) sorted =
      let below = holds_first _ _ sorted in
      let rest = split f g h s es (holds_second _ _ sorted) in
      elim (g e.0) as (λ b. g e.0 ≡ b → cond (f e.0) (e ∷ those f es) (those f es) ≡ cond b (e ∷ those g es) (those g es) ++ cond (h e.0) (e ∷ those h es) (those h es)) [
        | true ↦ λ gt. elim (h e.0) as (λ c. h e.0 ≡ c → cond (f e.0) (e ∷ those f es) (those f es) ≡ (e ∷ those g es) ++ cond c (e ∷ those h es) (those h es)) [
          | true ↦ λ ht. absurd (not_less e.0 (s.order e.0 e.0 gt ht))
          | false ↦ λ hf. ap (λ b. cond b (e ∷ those f es) (those f es)) (s.left e.0 gt) ∙ ap (λ xs. e ∷ xs) rest
        ] refl
        | false ↦ λ gf. elim (h e.0) as (λ c. h e.0 ≡ c → cond (f e.0) (e ∷ those f es) (those f es) ≡ those g es ++ cond c (e ∷ those h es) (those h es)) [
          | true ↦ λ ht.
              let none = none_before g h s.order e.0 ht es below in
              ap (λ b. cond b (e ∷ those f es) (those f es)) (s.right e.0 ht) ∙ ap (λ xs. e ∷ xs) (rest ∙ ap (λ xs. xs ++ those h es) none) ∙ ap (λ xs. xs ++ e ∷ those h es) (sym none)
          | false ↦ λ hf. ap (λ b. cond b (e ∷ those f es) (those f es)) (s.rest e.0 gf hf) ∙ rest
        ] refl
      ] refl

  none_same : (p : KeyBits) (es : List (KeyBits × V)) → T (below_all key_cmp p es) → those (same_key p) es ≡ []
  none_same p [] b = refl
  none_same p (e ∷ es) b =
      let less = lt_to_less _ (holds_first _ _ b) in
      let rest = none_same p es (holds_second _ _ b) in
      elim (same_key p e.0) as (λ t. same_key p e.0 ≡ t → cond t (e ∷ those (same_key p) es) (those (same_key p) es) ≡ []) [
        | true ↦ λ t. let s = same_key-same p e.0 t in absurd (not_less e.0 (subst (λ k. key_cmp k e.0 ≡ Less) s less))
        | false ↦ λ t. rest
      ] refl

  own_is : (p : KeyBits) (es : List (KeyBits × V)) → T (is_sorted key_cmp es) → those (same_key p) es ≡ own p (find key_cmp p es)
  own_is p [] sorted = refl
  own_is p (e ∷ es) sorted =
      let below = holds_first _ _ sorted in
      let rest = own_is p es (holds_second _ _ sorted) in
      ap (λ b. cond b (e ∷ those (same_key p) es) (those (same_key p) es)) refl
      ∙ elim (same_key p e.0) as (λ b. same_key p e.0 ≡ b → cond b (e ∷ those (same_key p) es) (those (same_key p) es) ≡ own p (cond b (Some e.1) (find key_cmp p es))) [
        | true ↦ λ t.
            let s = same_key-same p e.0 t in
            let none = none_same p es (subst (λ k. T (below_all key_cmp k es)) (sym s) below) in
            let h = sym s in
            λ j. (h j, e.1) ∷ none j
        | false ↦ λ t. rest
      ] refl
      ∙ ap (λ b. own p (cond b (Some e.1) (find key_cmp p es))) (sym (tests_same key_cmp key_total key_exact p e.0))

-- every key extends p or does not
by_place : (p : KeyBits) (P : KeyBits → Type 0) → ((k : KeyBits) → begins_with p k ≡ false → P k) → ((s : KeyBits) → P (p ++ s)) → (k : KeyBits) → P k
by_place p P out inside k =
    elim (begins_with p k) as (λ b. begins_with p k ≡ b → P k) [
      | true ↦ λ e. let f = follows p k e in subst P (sym f.whole) (inside f.rest)
      | false ↦ λ e. out k e
    ] refl

-- the keys that extend p and stand from q on
abbrev pub from : KeyBits → KeyBits → Bool → KeyBits → Bool
from p q i k = begins_with p k && stands_from i q k

outside : (p q k : KeyBits) → begins_with p k ≡ false → begins_with (p ++ q) k ≡ false
outside p q k e =
    elim (begins_with (p ++ q) k) as (λ b. begins_with (p ++ q) k ≡ b → b ≡ false) [
      | true ↦ λ t. let f = front_both p (p ++ q) k (front_append p q) t in cc
      | false ↦ λ t. refl
    ] refl

-- what is strictly below p
abbrev pub below_of : KeyBits → KeyBits → Bool
below_of p k = begins_with (p ++ false ∷ []) k || begins_with (p ++ true ∷ []) k

module _ (p : KeyBits) where
  in_half : (b : Bool) (s : KeyBits) → begins_with (p ++ b ∷ []) (p ++ s) ≡ begins_with (b ∷ []) s
  in_half b s = front_front p (b ∷ []) s

  below_at : (s : KeyBits) → below_of p (p ++ s) ≡ below_of [] s
  below_at s = λ j. in_half false s j || in_half true s j

  halves_order : (k l : KeyBits) → begins_with (p ++ false ∷ []) k ≡ true → begins_with (p ++ true ∷ []) l ≡ true → key_cmp k l ≡ Less
  halves_order k l e f =
      let a = follows (p ++ false ∷ []) k e in
      let b = follows (p ++ true ∷ []) l f in
      let ka = a.whole ∙ append_assoc p (false ∷ []) a.rest in
      let lb = b.whole ∙ append_assoc p (true ∷ []) b.rest in
      (λ j. key_cmp (ka j) (lb j)) ∙ cmp_front p (false ∷ a.rest) (true ∷ b.rest)

  pub halves : Splits (below_of p) (begins_with (p ++ false ∷ [])) (begins_with (p ++ true ∷ []))
  halves = record {
    left = λ k e. ap (λ b. b || begins_with (p ++ true ∷ []) k) e;
    right = λ k e. ap (λ b. begins_with (p ++ false ∷ []) k || b) e ∙ or_true _;
    rest = λ k e f. (λ j. e j || f j);
    order = halves_order;
  }

  -- what stands at p where it counts, and then what is strictly below p
  pub from_here : (i : Bool) → Splits (from p p i) (λ k. i && same_key p k) (below_of p)
  from_here i = record {
    left = λ k e.
        let both : (i ≡ true) × (same_key p k ≡ true) = both_true _ _ e in
        let same = same_key-same p k both.1 in
        subst (λ x. from p p i x ≡ true) same (at_here i both.0);
    right = by_place p (λ k. below_of p k ≡ true → from p p i k ≡ true)
        (λ k o e. let a = outside p (false ∷ []) k o in let b = outside p (true ∷ []) k o in let n : below_of p k ≡ false = (λ j. a j || b j) in cc)
        (λ s e. inside_right i s (sym (below_at s) ∙ e));
    rest = by_place p (λ k. (i && same_key p k) ≡ false → below_of p k ≡ false → from p p i k ≡ false)
        (λ k o e f. ap (λ b. b && stands_from i p k) o)
        (λ s e f. inside_rest i s e (sym (below_at s) ∙ f));
    order = λ k l e f.
        let same = same_key-same p k (both_true i _ e).1 in
        by_place p (λ x. below_of p x ≡ true → key_cmp k x ≡ Less)
        (λ x o g. let a = outside p (false ∷ []) x o in let b = outside p (true ∷ []) x o in let n : below_of p x ≡ false = (λ j. a j || b j) in cc)
        (λ s g. subst (λ y. key_cmp y (p ++ s) ≡ Less) same (after_here s (sym (below_at s) ∙ g))) l f;
  }
    where
      stands_here : (i : Bool) (s : KeyBits) → stands_from i p (p ++ s) ≡ stands_from i [] s
      stands_here i s = ap (λ x. stands_from i x (p ++ s)) (sym (append_none p)) ∙ stands_front i p [] s

      at_here : (i : Bool) → i ≡ true → from p p i p ≡ true
      at_here i e =
          let s : stands_from i p p ≡ i = ap (stands_from i p) (sym (append_none p)) ∙ stands_here i [] in
          λ j. front_itself p j && (s ∙ e) j

      inside_right : (i : Bool) (s : KeyBits) → below_of [] s ≡ true → from p p i (p ++ s) ≡ true
      inside_right i [] e = cc
      inside_right i (b ∷ s) e = λ j. front_append p (b ∷ s) j && stands_here i (b ∷ s) j

      inside_rest : (i : Bool) (s : KeyBits) → (i && same_key p (p ++ s)) ≡ false → below_of [] s ≡ false → from p p i (p ++ s) ≡ false
      inside_rest true [] e f = let t = same_front_key p [] in cc
      inside_rest false [] e f = (λ j. front_append p [] j && stands_here false [] j)
      inside_rest i (true ∷ s) e f = cc
      inside_rest i (false ∷ s) e f = cc

      after_here : (s : KeyBits) → below_of [] s ≡ true → key_cmp p (p ++ s) ≡ Less
      after_here [] e = cc
      after_here (b ∷ s) e = ap (λ x. key_cmp x (p ++ b ∷ s)) (sym (append_none p)) ∙ cmp_front p [] (b ∷ s)

  -- where q begins with p and a 0, what stands from q on in that half, and then the other half
  pub from_left : (i : Bool) (r : KeyBits) → Splits (from p (p ++ false ∷ r) i) (from (p ++ false ∷ []) (p ++ false ∷ r) i) (begins_with (p ++ true ∷ []))
  from_left i r = record {
    left = λ k e.
        let both : (begins_with (p ++ false ∷ []) k ≡ true) × (stands_from i (p ++ false ∷ r) k ≡ true) = both_true _ _ e in
        let f = front_both p (p ++ false ∷ []) k (front_append p (false ∷ [])) both.0 in
        λ j. f j && both.1 j;
    right = by_place p (λ k. begins_with (p ++ true ∷ []) k ≡ true → from p (p ++ false ∷ r) i k ≡ true)
        (λ k o e. let a = outside p (true ∷ []) k o in cc)
        (λ s e. inside_right s (sym (in_half true s) ∙ e));
    rest = by_place p (λ k. from (p ++ false ∷ []) (p ++ false ∷ r) i k ≡ false → begins_with (p ++ true ∷ []) k ≡ false → from p (p ++ false ∷ r) i k ≡ false)
        (λ k o e f. ap (λ b. b && stands_from i (p ++ false ∷ r) k) o)
        (λ s e f. inside_rest s e (sym (in_half true s) ∙ f));
    order = λ k l e f. halves_order k l (both_true _ _ e).0 f;
  }
    where
      inside_right : (s : KeyBits) → begins_with (true ∷ []) s ≡ true → from p (p ++ false ∷ r) i (p ++ s) ≡ true
      inside_right [] e = cc
      inside_right (false ∷ s) e = cc
      inside_right (true ∷ s) e = λ j. front_append p (true ∷ s) j && stands_front i p (false ∷ r) (true ∷ s) j

      inside_rest : (s : KeyBits) → from (p ++ false ∷ []) (p ++ false ∷ r) i (p ++ s) ≡ false → begins_with (true ∷ []) s ≡ false → from p (p ++ false ∷ r) i (p ++ s) ≡ false
      inside_rest [] e f = (λ j. front_append p [] j && stands_front i p (false ∷ r) [] j)
      inside_rest (true ∷ s) e f = cc
      inside_rest (false ∷ s) e f =
          let h = in_half false (false ∷ s) in
          (λ j. front_append p (false ∷ s) j && stands_from i (p ++ false ∷ r) (p ++ false ∷ s)) ∙ (λ j. sym h j && stands_from i (p ++ false ∷ r) (p ++ false ∷ s)) ∙ e

  -- where q begins with p and a 1, what stands from q on is in that half
  pub from_right : (i : Bool) (r k : KeyBits) → from p (p ++ true ∷ r) i k ≡ from (p ++ true ∷ []) (p ++ true ∷ r) i k
  from_right i r = by_place p (λ k. from p (p ++ true ∷ r) i k ≡ from (p ++ true ∷ []) (p ++ true ∷ r) i k)
      (λ k o. let a = outside p (true ∷ []) k o in (λ j. (o ∙ sym a) j && stands_from i (p ++ true ∷ r) k))
      inside
    where
      inside : (s : KeyBits) → from p (p ++ true ∷ r) i (p ++ s) ≡ from (p ++ true ∷ []) (p ++ true ∷ r) i (p ++ s)
      inside [] = let z = stands_front i p (true ∷ r) [] in ap (λ b. begins_with p (p ++ []) && b) z ∙ and_false _ ∙ sym (ap (λ b. begins_with (p ++ true ∷ []) (p ++ []) && b) z ∙ and_false _)
      inside (false ∷ s) = let z = stands_front i p (true ∷ r) (false ∷ s) in ap (λ b. begins_with p (p ++ false ∷ s) && b) z ∙ and_false _ ∙ sym (ap (λ b. begins_with (p ++ true ∷ []) (p ++ false ∷ s) && b) z ∙ and_false _)
      inside (true ∷ s) = let h = in_half true (true ∷ s) in (λ j. (front_append p (true ∷ s) ∙ sym h) j && stands_from i (p ++ true ∷ r) (p ++ true ∷ s))

  -- with p itself counted, all that extends p stands from p on
  pub from_itself : (k : KeyBits) → from p p true k ≡ begins_with p k
  from_itself = by_place p (λ k. from p p true k ≡ begins_with p k)
      (λ k o. ap (λ b. b && stands_from true p k) o ∙ sym o)
      inside
    where
      from_none : (s : KeyBits) → stands_from true [] s ≡ true
      from_none [] = refl
      from_none (b ∷ s) = refl

      inside : (s : KeyBits) → from p p true (p ++ s) ≡ begins_with p (p ++ s)
      inside s = ap (λ b. begins_with p (p ++ s) && b) (ap (λ x. stands_from true x (p ++ s)) (sym (append_none p)) ∙ stands_front true p [] s ∙ from_none s) ∙ and_true _

-- ---- walks

module _ {V : Type 0} (m : KeyMap V) where
  pub as_those : (p q : KeyBits) (i : Bool) → walk_from m p q i ≡ those (from p q i) (entries m)
  as_those p q i = those_both (begins_with p) (stands_from i q) (entries m)

  pub walk_is : (p : KeyBits) → walk_from m p p true ≡ walk m p
  walk_is p = as_those p p true ∙ those_same (from p p true) (begins_with p) (from_itself p) (entries m)

  sorted : T (is_sorted key_cmp (entries m))
  sorted = entries_sorted m

  walk_here : (i : Bool) (p : KeyBits) → those (λ k. i && same_key p k) (entries m) ≡ cond i (own p (get m p)) []
  walk_here true p = own_is p (entries m) sorted ∙ ap (own p) (sym (get-entries m p))
  walk_here false p = those_none (entries m)

  -- at the place
  pub walk_at : (p : KeyBits) (i : Bool) → walk_from m p p i ≡ cond i (own p (get m p)) [] ++ (walk_from m (p ++ false ∷ []) (p ++ false ∷ []) true ++ walk_from m (p ++ true ∷ []) (p ++ true ∷ []) true)
  walk_at p i =
      let a = walk_is (p ++ false ∷ []) in
      let b = walk_is (p ++ true ∷ []) in
      as_those p p i ∙ split (from p p i) (λ k. i && same_key p k) (below_of p) (from_here p i) (entries m) sorted
      ∙ (λ j. walk_here i p j ++ (split (below_of p) (begins_with (p ++ false ∷ [])) (begins_with (p ++ true ∷ [])) (halves p) (entries m) sorted ∙ (λ l. sym a l ++ sym b l)) j)

  -- from a key in the half of 0 on
  pub walk_left : (p r : KeyBits) (i : Bool) → walk_from m p (p ++ false ∷ r) i ≡ walk_from m (p ++ false ∷ []) (p ++ false ∷ r) i ++ walk_from m (p ++ true ∷ []) (p ++ true ∷ []) true
  walk_left p r i =
      let a = as_those (p ++ false ∷ []) (p ++ false ∷ r) i in
      let b = walk_is (p ++ true ∷ []) in
      as_those p (p ++ false ∷ r) i ∙ split (from p (p ++ false ∷ r) i) (from (p ++ false ∷ []) (p ++ false ∷ r) i) (begins_with (p ++ true ∷ [])) (from_left p i r) (entries m) sorted
      ∙ (λ j. sym a j ++ sym b j)

  -- from a key in the half of 1 on
  pub walk_right : (p r : KeyBits) (i : Bool) → walk_from m p (p ++ true ∷ r) i ≡ walk_from m (p ++ true ∷ []) (p ++ true ∷ r) i
  walk_right p r i =
      as_those p (p ++ true ∷ r) i ∙ those_same (from p (p ++ true ∷ r) i) (from (p ++ true ∷ []) (p ++ true ∷ r) i) (from_right p i r) (entries m)
      ∙ sym (as_those (p ++ true ∷ []) (p ++ true ∷ r) i)

  -- all of a walk
  pub walk_parts : (p : KeyBits) → walk m p ≡ own p (get m p) ++ (walk m (p ++ false ∷ []) ++ walk m (p ++ true ∷ []))
  walk_parts p = sym (walk_is p) ∙ walk_at p true ∙ (λ i. own p (get m p) ++ (walk_is (p ++ false ∷ []) i ++ walk_is (p ++ true ∷ []) i))
