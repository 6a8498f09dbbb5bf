-- The least table at each key, and what the whole keys say of the recursion on bits.
use Rattle.std.proofs.Common.{◌≡◌, ℕ, zero, suc, ◌+◌, ◌-◌, ◌<◌, ◌≤◌, Bool, true, false, cond, List, [], ◌∷◌, ◌++◌, length, refl, sym, ap, ◌∙◌, subst, arith, append_assoc, append-nil, length-append, Option, Some, None}
use Rattle.std.specs.Prelude.{is_some}
use mathlib.Core.Bool.{true≢false}
use Rattle.std.specs.Option.{option_map}
use Rattle.std.specs.declared.cmp.Ordering.{Ordering}
use Rattle.std.specs.Cmp.{IsTotalOrder}
use Rattle.std.specs.FinMap as map
use Rattle.std.specs.FinMap.{IsAntisymmetric}
use Rattle.prefix_model.specs.Keys.{KeyBits}
use Rattle.prefix_model.specs.Tables.{KeyMap, Values, after, answer, answer_under}
use Rattle.prefix_model.specs.Candidates.{Candidates, candidates, joined, only, least, offers}
use Rattle.prefix_model.specs.LeastTable.{entry, with_halves, stored, inherited, placed, handed_down, candidates_at, inherited_at, place, least_table}
use Rattle.prefix_model.specs.LeastLaws.{CandidatesByBits, PlaceByBits, LeastAtKey, KnowsEachKey, TellsCoverage}
use Rattle.prefix_model.proofs.Entries.{held}
use Rattle.prefix_model.proofs.Fewest.Lists.{IsInhabited, least_in}
use Rattle.prefix_model.proofs.Fewest.Serving.{same_values, candidates_good, held_first, held_half, answer_first, answer_half, none_below}
use Rattle.prefix_model.proofs.Fewest.Tables.{get-from_entries}

-- r bits more than s has
abbrev over : KeyBits → ℕ → ℕ
over [] r = r
over (b ∷ s) r = suc (over s r)

over-is : (s : KeyBits) (r : ℕ) → over s r ≡ length s + r
over-is [] r = omega arith
over-is (b ∷ s) r = let e = over-is s r in omega arith

over-rest : (s : KeyBits) (w : ℕ) → length s ≤ w → over s (w - length s) ≡ w
over-rest s w h = let e = over-is s (w - length s) in omega arith

module _ {V : Type 0} (cmp : V → V → Ordering) where
  handed_on : (s : KeyBits) (b : Bool) (r : ℕ) (g : Values V) (v : Option V) →
      handed_down cmp (over s (suc r)) g v (s ++ b ∷ []) ≡ inherited cmp (candidates cmp (suc r) (λ k. g (s ++ k))) (handed_down cmp (over s (suc r)) g v s)
  handed_on [] b r g v = refl
  handed_on (c ∷ s) b r g v = handed_on s b r (after c g) (inherited cmp (candidates cmp (suc (over s (suc r))) g) v)

  inherited_some : (c : Candidates V) (v : Option V) → ((l : List V) → c ≡ Some l → is_some (least l) ≡ true) → is_some (inherited cmp c v) ≡ is_some c
  unfolding offers
  inherited_some None v h = refl
  inherited_some (Some l) None h = h l refl
  inherited_some (Some l) (Some x) h = elim (offers cmp l (Some x)) as (λ t. is_some (cond t (Some x) (least l)) ≡ true) [ true ↦ refl | false ↦ h l refl ]

  joined_some : (c d : Candidates V) → is_some c ≡ true → is_some d ≡ true → is_some (joined cmp c d) ≡ true
  joined_some None d p q = p
  joined_some (Some a) None p q = q
  joined_some (Some a) (Some b) p q = refl

  half_some : (c d : Candidates V) → is_some (joined cmp c d) ≡ true → (is_some c ≡ true) × (is_some d ≡ true)
  half_some None d p = absurd (true≢false (sym p))
  half_some (Some a) None p = absurd (true≢false (sym p))
  half_some (Some a) (Some b) p = (refl, refl)

  is_some-only : (x : Option V) → is_some (option_map only x) ≡ is_some x
  is_some-only None = refl
  is_some-only (Some x) = refl

  -- there are candidates just where each address has an answer
  pub covered : (n : ℕ) (g : Values V) → ((k : KeyBits) → length k ≡ n → is_some (g k) ≡ true) → is_some (candidates cmp n g) ≡ true
  covered zero g h = is_some-only (g []) ∙ h [] refl
  covered (suc n) g h = joined_some _ _ (covered n (after false g) (λ k e. h (false ∷ k) (ap suc e))) (covered n (after true g) (λ k e. h (true ∷ k) (ap suc e)))

  -- and where there are candidates each address has an answer
  pub all_covered : (n : ℕ) (g : Values V) → is_some (candidates cmp n g) ≡ true → (k : KeyBits) → length k ≡ n → is_some (g k) ≡ true
  all_covered zero g h [] e = sym (is_some-only (g [])) ∙ h
  all_covered zero g h (b ∷ k) e = absurd (omega arith)
  all_covered (suc n) g h [] e = absurd (omega arith)
  all_covered (suc n) g h (false ∷ k) e = all_covered n (after false g) (half_some (candidates cmp n (after false g)) (candidates cmp n (after true g)) h).0 k (omega arith)
  all_covered (suc n) g h (true ∷ k) e = all_covered n (after true g) (half_some (candidates cmp n (after false g)) (candidates cmp n (after true g)) h).1 k (omega arith)

module _ {V : Type 0} {cmp : V → V → Ordering} (o : IsTotalOrder cmp) (exact : IsAntisymmetric cmp) where
  held_at : (s : KeyBits) (r : ℕ) (g : Values V) (v : Option V) → held (placed cmp (over s r) g v) s ≡ stored cmp (candidates cmp r (λ k. g (s ++ k))) (handed_down cmp (over s r) g v s)
  held_at [] r g v = held_first o exact r v g
  held_at (b ∷ s) r g v = held_half o exact (over s r) v g b s ∙ held_at s r (after b g) (inherited cmp (candidates cmp (suc (over s r)) g) v)

  answer_at : (s : KeyBits) (r : ℕ) (g : Values V) (v : Option V) → (candidates cmp (over s r) g ≡ None → v ≡ None) →
      answer_under v (held (placed cmp (over s r) g v)) s ≡ inherited cmp (candidates cmp r (λ k. g (s ++ k))) (handed_down cmp (over s r) g v s)
  answer_at [] r g v z = answer_first o exact r v g z
  answer_at (b ∷ s) r g v z =
      answer_half o exact (over s r) v g z b s ∙ answer_at s r (after b g) (inherited cmp (candidates cmp (suc (over s r)) g) v) (none_below o exact (over s r) v g b)

  -- ---- at a key of a table

  module _ (w : ℕ) (m : KeyMap V) where
    -- what the least table stores at a key
    pub least_stores : (s : KeyBits) → length s ≤ w → map.get (least_table cmp w m) s ≡ stored cmp (candidates_at cmp w m s) (inherited_at cmp w m s)
    least_stores s h =
        get-from_entries (placed cmp w (answer m) None) s
        ∙ subst (λ n. held (placed cmp n (answer m) None) s ≡ stored cmp (candidates_at cmp w m s) (handed_down cmp n (answer m) None s)) (over-rest s w h) (held_at s (w - length s) (answer m) None)

    least_answers : (s : KeyBits) → length s ≤ w → answer (least_table cmp w m) s ≡ inherited cmp (candidates_at cmp w m s) (inherited_at cmp w m s)
    least_answers s h =
        same_values (map.get (least_table cmp w m)) (held (placed cmp w (answer m) None)) (get-from_entries (placed cmp w (answer m) None)) None s
        ∙ subst (λ n. answer_under None (held (placed cmp n (answer m) None)) s ≡ inherited cmp (candidates_at cmp w m s) (handed_down cmp n (answer m) None s)) (over-rest s w h) (answer_at s (w - length s) (answer m) None (λ _. refl))

    least_hands_on : (s : KeyBits) (b : Bool) → length s < w → inherited_at cmp w m (s ++ b ∷ []) ≡ inherited cmp (candidates_at cmp w m s) (inherited_at cmp w m s)
    least_hands_on s b h =
        let r : ℕ = w - suc (length s) in
        let one : suc r ≡ w - length s = omega arith in
        let all : over s (suc r) ≡ w = ap (over s) one ∙ over-rest s w (omega arith) in
        subst (λ n. handed_down cmp n (answer m) None (s ++ b ∷ []) ≡ inherited cmp (candidates_at cmp w m s) (handed_down cmp n (answer m) None s)) all
        (subst (λ t. handed_down cmp (over s (suc r)) (answer m) None (s ++ b ∷ []) ≡ inherited cmp (candidates cmp t (λ k. answer m (s ++ k))) (handed_down cmp (over s (suc r)) (answer m) None s)) one
        (handed_on cmp s b r (answer m) None))

    -- what is said of s with a bit more, as said of its half
    at_half : {X : Type 0} (F : ℕ → Values V → X) (s : KeyBits) (b : Bool) → F (w - length (s ++ b ∷ [])) (λ k. answer m ((s ++ b ∷ []) ++ k)) ≡ F (w - suc (length s)) (after b (λ k. answer m (s ++ k)))
    at_half F s b =
        let one : w - length (s ++ b ∷ []) ≡ w - suc (length s) = ap (λ n. w - n) (length-append s (b ∷ []) ∙ omega arith) in
        λ i. F (one i) (λ k. answer m (append_assoc s (b ∷ []) k i))

    more : (s : KeyBits) → length s < w → w - length s ≡ suc (w - suc (length s))
    more s h = omega arith

    none_left : (s : KeyBits) → length s ≡ w → w - length s ≡ 0
    none_left s e = omega arith

    candidates_by_bits : (s : KeyBits) → CandidatesByBits cmp w m s
    candidates_by_bits s = record {
      at_address = λ e. ap (λ n. candidates cmp n (λ k. answer m (s ++ k))) (none_left s e) ∙ ap (λ k. option_map only (answer m k)) (append-nil s);
      by_halves = λ h. ap (λ n. candidates cmp n (λ k. answer m (s ++ k))) (more s h) ∙ (λ i. joined cmp (sym (at_half (candidates cmp) s false) i) (sym (at_half (candidates cmp) s true) i));
    }

    place_by_bits : (s : KeyBits) (v : Option V) → PlaceByBits cmp w m s v
    place_by_bits s v = record { at_address = at_end; by_halves = in_halves }
      where
        at_end : length s ≡ w → place cmp w m s v ≡ entry (stored cmp (candidates_at cmp w m s) v)
        at_end e = subst (λ n. placed cmp n (λ k. answer m (s ++ k)) v ≡ entry (stored cmp (candidates cmp n (λ k. answer m (s ++ k))) v)) (sym (none_left s e)) refl

        placed_half : (b : Bool) (c : Candidates V) → placed cmp (w - suc (length s)) (after b (λ k. answer m (s ++ k))) (inherited cmp c v) ≡ place cmp w m (s ++ b ∷ []) (inherited cmp c v)
        placed_half b c = sym (at_half (λ n f. placed cmp n f (inherited cmp c v)) s b)

        in_halves : length s < w → place cmp w m s v
            ≡ with_halves (stored cmp (candidates_at cmp w m s) v) (place cmp w m (s ++ false ∷ []) (inherited cmp (candidates_at cmp w m s) v)) (place cmp w m (s ++ true ∷ []) (inherited cmp (candidates_at cmp w m s) v))
        in_halves h =
            subst (λ n. placed cmp n (λ k. answer m (s ++ k)) v
            ≡ with_halves (stored cmp (candidates cmp n (λ k. answer m (s ++ k))) v) (place cmp w m (s ++ false ∷ []) (inherited cmp (candidates cmp n (λ k. answer m (s ++ k))) v))
            (place cmp w m (s ++ true ∷ []) (inherited cmp (candidates cmp n (λ k. answer m (s ++ k))) v))) (sym (more s h))
            (λ i. with_halves (stored cmp (candidates cmp (suc (w - suc (length s))) (λ k. answer m (s ++ k))) v) (placed_half false (candidates cmp (suc (w - suc (length s))) (λ k. answer m (s ++ k))) i)
            (placed_half true (candidates cmp (suc (w - suc (length s))) (λ k. answer m (s ++ k))) i))

    least_at : (s : KeyBits) → length s ≤ w → LeastAtKey cmp w m s
    least_at s h = record { stored_there = least_stores s h; answered_there = least_answers s h; handed_on = λ b l. least_hands_on s b l }

  -- candidates, what is placed and what is stored, at each key
  pub knows_each_key : KnowsEachKey cmp
  knows_each_key w m s h = (candidates_by_bits w m s, least_at w m s h, λ v. place_by_bits w m s v)

  -- candidates have a least
  pub good_least : (c : Candidates V) → ((l : List V) → c ≡ Some l → IsInhabited cmp l) → (l : List V) → c ≡ Some l → is_some (least l) ≡ true
  good_least c h l e = let f = least_in o exact l (h l e) in ap is_some f.1

  -- the least table answers at a key just where each address below has an answer
  pub tells_coverage : TellsCoverage cmp
  tells_coverage w m s h =
      let f : Values V = λ k. answer m (s ++ k) in
      let n : ℕ = w - length s in
      let same : is_some (answer (least_table cmp w m) s) ≡ is_some (candidates cmp n f) =
      ap is_some (least_answers w m s h) ∙ inherited_some cmp (candidates_at cmp w m s) (inherited_at cmp w m s) (good_least (candidates_at cmp w m s) (candidates_good o exact n f)) in
      (λ all. same ∙ covered cmp n f (λ k e. all k (omega arith)), λ e k l. all_covered cmp n f (sym same ∙ e) k (omega arith))
