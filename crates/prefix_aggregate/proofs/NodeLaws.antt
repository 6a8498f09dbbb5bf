-- The masks and lists that are kept of a node are those of its change set.
use Rattle.std.specs.Prelude.{◌==◌, ◌&&◌, ◌||◌, not, nat_le, get_or, slice_get}
use Rattle.std.specs.Int.{bit_at}
use Rattle.std.specs.List.{filter, list_all}
use Rattle.std.specs.Borrow.{Bor}
use Rattle.std.specs.declared.cmp.Ordering.{Ordering}
use Rattle.std.specs.Ordering.{is_eq}
use Rattle.std.specs.Cmp.{IsTotalOrder, tied_itself}
use Rattle.std.proofs.Common.{◌≡◌, ℕ, zero, suc, ◌+◌, ◌-◌, ◌/◌, ◌%◌, ◌<◌, ◌≤◌, Bool, true, false, cond, List, [], ◌∷◌, ◌^◌, ◌⊎◌, inl, inr, length, map, refl, sym, ap, ◌∙◌, subst, arith, Some, None}
use Rattle.std.proofs.lemmas.Option.{get_or_from_slice_get, slice_get-get_or, slice_get_within}
use borrow.Author.Tests.{leb-true}
use Rattle.prefix_model.specs.Keys.{KeyBits, same_key}
use Rattle.prefix_model.specs.Tables.{Values}
use Rattle.prefix_model.specs.Positions.{bitmap, data_places}
use Rattle.prefix_model.specs.Candidates.{Candidates}
use Rattle.prefix_model.specs.Rows.{count_up}
use Rattle.prefix_model.proofs.KeyLemmas.{both_true, same_key-same}
use Rattle.prefix_model.proofs.Bitmaps.NodeBits.{places_count}
use Rattle.prefix_aggregate.specs.Same.{same_list, same_candidates}
use Rattle.prefix_aggregate.specs.ChangeSets.{candidates_from, is_change, mask_of, lists_of, shortened}
use Rattle.prefix_aggregate.specs.Nodes.{list_at, is_kept, kept_mask, kept_of, AreNodeLists}
use Rattle.prefix_aggregate.specs.declared.parts.Part.{Part}
use Rattle.prefix_aggregate.proofs.Numbers.{not_equal}

-- ---- places

pub all_test : (t : ℕ → Bool) (k n b : ℕ) → list_all t (count_up k n) ≡ true → k ≤ b → b < k + n → t b ≡ true
all_test t k zero b h l u = absurd (omega arith)
all_test t k (suc n) b h l u =
    let parts = both_true (t k) (list_all t (count_up (k + 1) n)) h in
    of (b - k) refl parts.0 (λ w. all_test t (k + 1) n b parts.1 (omega (arith, w)) (omega (arith, u)))
  where
    of : (d : ℕ) → b - k ≡ d → t k ≡ true → (k < b → t b ≡ true) → t b ≡ true
    of zero e first rest = let same : b ≡ k = omega (arith, e) in ap t same ∙ first
    of (suc d) e first rest = rest (omega (arith, e))

parents : list_all (λ b. same_key (get_or data_places ((b - 1) / 2) []) (shortened (get_or data_places b []))) (count_up 1 30) ≡ true
unfolding data_places
parents = refl

longer : list_all (λ b. nat_le 1 (length (get_or data_places b []))) (count_up 1 30) ≡ true
unfolding data_places
longer = refl

pub first_place : (s : KeyBits) → slice_get data_places 0 ≡ Some s → s ≡ []
unfolding data_places
first_place s e = cc

module _ (b : ℕ) (s : KeyBits) (z : 0 < b) (e : slice_get data_places b ≡ Some s) where
  pub within : b < 31
  within = subst (λ n. b < n) places_count (slice_get_within data_places b s e)

  is : get_or data_places b [] ≡ s
  is = get_or_from_slice_get data_places b s [] e

  pub place_above : slice_get data_places ((b - 1) / 2) ≡ Some (shortened s)
  place_above =
      let w = within in
      slice_get-get_or data_places ((b - 1) / 2) [] (subst (λ n. (b - 1) / 2 < n) (sym places_count) (omega (arith, w)))
      ∙ ap (λ k. Some k) (same_key-same _ _ (all_test (λ b. same_key (get_or data_places ((b - 1) / 2) []) (shortened (get_or data_places b []))) 1 30 b parents (omega (arith, z)) (omega (arith, w))) ∙ ap shortened is)

  pub place_longer : 0 < length s
  place_longer = let w = within in let h = leb-true 1 (length (get_or data_places b [])) (all_test (λ b. nat_le 1 (length (get_or data_places b []))) 1 30 b longer (omega (arith, z)) (omega (arith, w))) in let n = ap length is in omega (arith, h, n)

pub at_most : (a b : ℕ) → a ≤ b → nat_le a b ≡ true
at_most a b h = grind (arith, h)

pub digit : (m : ℕ) → (m % 2 ≡ 1) ⊎ (m % 2 ≡ 0)
digit m = of (m % 2) refl
  where
    of : (d : ℕ) → m % 2 ≡ d → (m % 2 ≡ 1) ⊎ (m % 2 ≡ 0)
    of zero e = inr e
    of (suc zero) e = inl e
    of (suc (suc k)) e = absurd (omega (arith, e))

map_cond : {A B C : Type 0} (F : A → C) (G : B → C) (x : A) (y : B) (l : List A) (m : List B) (a b : Bool) → a ≡ b → (b ≡ true → F x ≡ G y) → map F l ≡ map G m → map F (cond a (x ∷ l) l) ≡ map G (cond b (y ∷ m) m)
map_cond F G x y l m a b e here rest = (λ i. map F (cond (e i) (x ∷ l) l)) ∙ either b here
  where
    either : (b : Bool) → (b ≡ true → F x ≡ G y) → map F (cond b (x ∷ l) l) ≡ map G (cond b (y ∷ m) m)
    either true here = λ i. here refl i ∷ rest i
    either false here = rest

-- places by number and by key
align : {C : Type 0} (kept : ℕ → Bool) (change : KeyBits → Bool) (F : ℕ → C) (G : KeyBits → C) (k n : ℕ) (ss : List KeyBits) → length ss ≡ n
    → ((i : ℕ) (s : KeyBits) → slice_get ss i ≡ Some s → (kept (k + i) ≡ change s) × (change s ≡ true → F (k + i) ≡ G s))
    → (map kept (count_up k n) ≡ map change ss) × (map F (filter kept (count_up k n)) ≡ map G (filter change ss))
align kept change F G k zero [] e h = (refl, refl)
align kept change F G k (suc n) [] e h = absurd (omega arith)
align kept change F G k zero (s ∷ ss) e h = absurd (omega arith)
align kept change F G k (suc n) (s ∷ ss) e h =
    let first = h 0 s refl in
    let z : k ≡ k + 0 = omega arith in
    let rest = align kept change F G (k + 1) n ss (omega arith) (λ i t g. (let more = h (suc i) t g in let m : k + 1 + i ≡ k + suc i = omega arith in (ap kept m ∙ more.0, λ c. ap F m ∙ more.1 c))) in (
      λ i. (ap kept z ∙ first.0) i ∷ rest.0 i,
      map_cond F G k s (filter kept (count_up (k + 1) n)) (filter change ss) (kept k) (change s) (ap kept z ∙ first.0) (λ c. ap F z ∙ first.1 c) rest.1,
    )

-- ---- the same candidates

module _ {V : Type 0} {cmp : V → V → Ordering} (o : IsTotalOrder cmp) where
  same_itself : (l : List V) → same_list cmp l l ≡ true
  same_itself [] = refl
  same_itself (x ∷ l) = (λ i. is_eq (tied_itself o x i) && same_list cmp l l) ∙ same_itself l

  pub candidates_same : (c : Candidates V) → same_candidates cmp c c ≡ true
  candidates_same None = refl
  candidates_same (Some l) = same_itself l

  module _ (vs : List (Bor V)) (lists : List Part) (inner n : ℕ) (f : Values V) (node : AreNodeLists cmp vs lists inner n f) where
    is_shown : (b : ℕ) (s : KeyBits) → slice_get data_places (suc b) ≡ Some s → bit_at inner ((suc b - 1) / 2) ≡ 1
        → not (same_candidates cmp (list_at vs lists (suc b)) (list_at vs lists ((suc b - 1) / 2))) ≡ (nat_le (length s) n && not (same_candidates cmp (candidates_from cmp n f s) (candidates_from cmp n f (shortened s))))
    is_shown b s e one =
        let here = node.seen (suc b) s (omega arith) e one in
        let there = seen_above ((suc b - 1) / 2) (shortened s) (place_above (suc b) s (omega arith) e) one in
        (λ i. not (same_candidates cmp (here.1 i) (there i)))
        ∙ ap (λ t. t && not (same_candidates cmp (candidates_from cmp n f s) (candidates_from cmp n f (shortened s)))) (sym (at_most (length s) n here.0))
      where
        seen_above : (d : ℕ) (t : KeyBits) → slice_get data_places d ≡ Some t → bit_at inner d ≡ 1 → list_at vs lists d ≡ candidates_from cmp n f t
        seen_above zero t e one = node.root ∙ ap (candidates_from cmp n f) (sym (first_place t e))
        seen_above (suc d) t e one = (node.seen (suc d) t (omega arith) e (node.above (suc d) (omega arith) (within (suc d) t (omega arith) e) one)).1

    is_hidden : (b : ℕ) (s : KeyBits) → slice_get data_places (suc b) ≡ Some s → bit_at inner ((suc b - 1) / 2) ≡ 0 → false ≡ (nat_le (length s) n && not (same_candidates cmp (candidates_from cmp n f s) (candidates_from cmp n f (shortened s))))
    is_hidden b s e none =
        elim (nat_le (length s) n) as (λ t. nat_le (length s) n ≡ t → false ≡ (t && not (same_candidates cmp (candidates_from cmp n f s) (candidates_from cmp n f (shortened s))))) [
          | true ↦ λ h.
              let same = node.hidden (suc b) s (omega arith) e none (leb-true (length s) n h) in
              sym ((λ i. not (same_candidates cmp (same i) (candidates_from cmp n f (shortened s)))) ∙ ap not (candidates_same (candidates_from cmp n f (shortened s))))
          | false ↦ λ h. refl
        ] refl

    kept_is_change : (b : ℕ) (s : KeyBits) → slice_get data_places b ≡ Some s → is_kept cmp vs lists inner b ≡ is_change cmp n f [] s
    kept_is_change zero s e = sym (ap (is_change cmp n f []) (first_place s e))
    kept_is_change (suc b) [] e = absurd (let h = place_longer (suc b) [] (omega arith) e in omega (arith, h))
    kept_is_change (suc b) (x ∷ s) e =
        let kept_one : (d : ℕ) → bit_at inner ((suc b - 1) / 2) ≡ d → is_kept cmp vs lists inner (suc b) ≡ ((d == 1) && not (same_candidates cmp (list_at vs lists (suc b)) (list_at vs lists ((suc b - 1) / 2)))) = λ d h.
        (λ i. not_equal (suc b) 0 (λ z. absurd (omega (arith, z))) i || ((h i == 1) && not (same_candidates cmp (list_at vs lists (suc b)) (list_at vs lists ((suc b - 1) / 2)))))
        in
        elim (digit (inner / 2 ^ ((suc b - 1) / 2))) [
          | inl one ↦ kept_one 1 one ∙ is_shown b (x ∷ s) e one
          | inr none ↦ kept_one 0 none ∙ is_hidden b (x ∷ s) e none
        ]

    kept_is_list : (b : ℕ) (s : KeyBits) → slice_get data_places b ≡ Some s → is_change cmp n f [] s ≡ true → list_at vs lists b ≡ candidates_from cmp n f s
    kept_is_list zero s e c = node.root ∙ ap (candidates_from cmp n f) (sym (first_place s e))
    kept_is_list (suc b) [] e c = absurd (let h = place_longer (suc b) [] (omega arith) e in omega (arith, h))
    kept_is_list (suc b) (x ∷ s) e c = elim (digit (inner / 2 ^ ((suc b - 1) / 2))) [
      | inl one ↦ (node.seen (suc b) (x ∷ s) (omega arith) e one).1
      | inr none ↦ absurd (let h = is_hidden b (x ∷ s) e none ∙ c in cc)
    ]

    both_kept : (map (is_kept cmp vs lists inner) (count_up 0 31) ≡ map (is_change cmp n f []) data_places)
        × (map (list_at vs lists) (filter (is_kept cmp vs lists inner) (count_up 0 31)) ≡ map (candidates_from cmp n f) (filter (is_change cmp n f []) data_places))
    both_kept = align (is_kept cmp vs lists inner) (is_change cmp n f []) (list_at vs lists) (candidates_from cmp n f) 0 31 data_places places_count (λ i s e.
        let z : 0 + i ≡ i = omega arith in
        (ap (is_kept cmp vs lists inner) z ∙ kept_is_change i s e, λ c. ap (list_at vs lists) z ∙ kept_is_list i s e c))

    -- what is kept of a node is its part of the change sets
    pub node_mask : kept_mask cmp vs lists inner ≡ mask_of cmp n f []
    unfolding kept_mask
    node_mask = ap bitmap both_kept.0

    pub node_lists : kept_of cmp vs lists inner ≡ lists_of cmp n f []
    unfolding kept_of
    node_lists = both_kept.1
