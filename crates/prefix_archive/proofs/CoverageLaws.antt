-- Which addresses at and below a key have an answer.
use Rattle.std.proofs.Common.{◌≡◌, ℕ, suc, ◌+◌, ◌≤◌, Bool, true, false, [], ◌∷◌, ◌++◌, length, take, replicate, Option, Some, None, refl, sym, ap, ◌∙◌, subst, arith, append_assoc, append-nil, length-take}
use Rattle.std.specs.Prelude.{◌↔◌, is_some, nat_lt, IsSome, IsTrue, MatchOption, ◌%◌, drop}
use Rattle.std.specs.Option.{option_map, option_or}
use Rattle.std.specs.FinMap.{get, contains_key}
use Rattle.std.proofs.lemmas.List.{length-replicate}
use borrow.Author.Tests.{ltb-true, ltb-false}
use Rattle.prefix_model.specs.Keys.{KeyBits}
use Rattle.prefix_model.specs.Tables.{KeyMap, Values, after, answer, answer_under}
use Rattle.prefix_model.specs.Coverage.{AllAnswered, IsCovered}
use Rattle.prefix_model.specs.Positions.{PositionSet}
use Rattle.prefix_model.specs.Walks.{begins_with, node_of, KeepsPositions, IsShown, Shows, IsMatchUnder}
use Rattle.prefix_model.specs.Walks.Shows.{entry, child}
use Rattle.prefix_model.proofs.Building.{answer_none}
use Rattle.prefix_model.proofs.Fronts.{follows, front_append, front_cut, take_drop}
use Rattle.prefix_model.proofs.Nodes.{parts, node_near}
use Rattle.prefix_model.proofs.Counting.CountLaws.{all_halves, all_half}
use Rattle.prefix_archive.proofs.Halves.{answered_from}
use Rattle.prefix_model.specs.Views.{Seen, moved, IsPlace, CanStep, CanFind}
use Rattle.prefix_model.proofs.Viewing.HalfSteps.{can_step}
use Rattle.prefix_archive.specs.Coverage.{IsViewOf, answers_from}

longer_front : (b : Bool) (q s : KeyBits) → begins_with q s ≡ true → begins_with (b ∷ q) (b ∷ s) ≡ true
longer_front true q s e = e
longer_front false q s e = e

module _ {V : Type 0} where
  -- a front that tells something answers each key
  told_by_front : (q rest : KeyBits) (v : Option V) (f : Values V) → is_some (f q) ≡ true → is_some (answer_under v f (q ++ rest)) ≡ true
  told_by_front [] rest v f h = answered_from rest v f h
  told_by_front (b ∷ q) rest v f h = told_by_front q rest (option_or (f []) v) (after b f) h

  -- where no front of s tells anything, the answers begin at s
  begins_at : (s k : KeyBits) (f : Values V) → ((q : KeyBits) → begins_with q s ≡ true → f q ≡ None) → answer_under None f (s ++ k) ≡ answer_under None (λ q. f (s ++ q)) k
  begins_at [] k f h = refl
  begins_at (b ∷ s) k f h = ap (λ x. answer_under (option_or x None) (after b f) (s ++ k)) (h [] refl) ∙ begins_at s k (after b f) (λ q e. h (b ∷ q) (longer_front b q s e))

module _ {V : Type 0} (m : KeyMap V) where
  -- the answers behind a bit
  after_bit : (s : KeyBits) (b : Bool) → get m s ≡ None → answers_from m (s ++ b ∷ []) ≡ after b (answers_from m s)
  after_bit s b none =
      (λ i k. answer_under (option_or (sym none i) None) (λ q. get m (append_assoc s (b ∷ []) q i)) k)
      ∙ (λ i k. answer_under (option_or (get m (sym (append-nil s) i)) None) (λ q. get m (s ++ b ∷ q)) k)

  pub none_stored : (s : KeyBits) (n : ℕ) → ((q : KeyBits) → get m (s ++ q) ≡ None) → AllAnswered n (answers_from m s) → ⊥
  none_stored s n none all =
      let some = all (replicate n false) (length-replicate n false) in
      let gone = ap is_some (answer_none None (λ q. get m (s ++ q)) none (replicate n false)) in
      absurd (cc)

  pub none_answers : (s : KeyBits) → ((q : KeyBits) → get m (s ++ q) ≡ None) → (k : KeyBits) → answers_from m s k ≡ None
  none_answers s none = answer_none None (λ q. get m (s ++ q)) none

  pub stored_here : (s : KeyBits) (n : ℕ) → is_some (get m s) ≡ true → AllAnswered n (answers_from m s)
  stored_here s n some k l = answered_from k None (λ q. get m (s ++ q)) (ap (λ q. is_some (get m q)) (append-nil s) ∙ some)

  -- an address at which nothing is stored
  pub ends_here : (s : KeyBits) → get m s ≡ None → answers_from m s [] ≡ None
  ends_here s none = ap (λ q. option_or (get m q) None) (append-nil s) ∙ ap (λ x. option_or x None) none

  pub no_end : (s : KeyBits) (n : ℕ) → n ≡ 0 → get m s ≡ None → AllAnswered n (answers_from m s) → ⊥
  no_end s n z none all =
      let gone = ap is_some (ends_here s none) in
      let some = all [] (sym z) in
      absurd (cc)

  pub both_halves : (s : KeyBits) (n k : ℕ) → n ≡ suc k → get m s ≡ None → AllAnswered k (answers_from m (s ++ false ∷ [])) → AllAnswered k (answers_from m (s ++ true ∷ [])) → AllAnswered n (answers_from m s)
  both_halves s n k e none low high =
      subst (λ x. AllAnswered x (answers_from m s)) (sym e)
      (all_halves k (answers_from m s) (subst (AllAnswered k) (after_bit s false none) low) (subst (AllAnswered k) (after_bit s true none) high))

  pub one_half : (s : KeyBits) (n k : ℕ) (b : Bool) → n ≡ suc k → get m s ≡ None → AllAnswered n (answers_from m s) → AllAnswered k (answers_from m (s ++ b ∷ []))
  one_half s n k b e none all =
      subst (AllAnswered k) (sym (after_bit s b none)) (all_half k (answers_from m s) b (subst (λ x. AllAnswered x (answers_from m s)) e all))

  pub half_answers : (s : KeyBits) (b : Bool) → get m s ≡ None → answers_from m (s ++ b ∷ []) ≡ after b (answers_from m s)
  half_answers s b none = after_bit s b none

  -- ---- behind a key that no stored key is a front of, and behind one that some is

  none_above : (s : KeyBits) → (((q : KeyBits) × IsMatchUnder m [] s q) → ⊥) → (q : KeyBits) → begins_with q s ≡ true → get m q ≡ None
  none_above s clear q e = of (get m q) refl
    where
      of : (o : Option V) → get m q ≡ o → get m q ≡ None
      of None h = h
      of (Some x) h = absurd (clear (q, record { stored = ap is_some h; below = refl; above = e }))

  pub covered_below : (w : ℕ) (s : KeyBits) → ((q : KeyBits) × IsMatchUnder m [] s q) → IsCovered w m s
  covered_below w s it k l =
      let f = follows it.0 s it.1.above in
      let e : s ++ k ≡ it.0 ++ (f.rest ++ k) = ap (λ x. x ++ k) f.whole ∙ append_assoc it.0 f.rest k in
      ap (λ x. is_some (answer m x)) e ∙ told_by_front it.0 (f.rest ++ k) None (get m) it.1.stored

  pub covered_from : (w n : ℕ) (s : KeyBits) → (((q : KeyBits) × IsMatchUnder m [] s q) → ⊥) → n + length s ≡ w → (t : Bool) → (IsTrue t ↔ AllAnswered n (answers_from m s)) → IsTrue t ↔ IsCovered w m s
  covered_from w n s clear size t h =
      let at : (k : KeyBits) → answer m (s ++ k) ≡ answers_from m s k = λ k. begins_at s k (get m) (none_above s clear) in
      (λ yes k l. ap is_some (at k) ∙ h.0 yes k (omega (arith, l, size)), λ all. h.1 (λ k l. sym (ap is_some (at k)) ∙ all k (omega (arith, l, size))))

-- ---- what views show

module _ {V : Type 0} (w : ℕ) (m : KeyMap V) (kept : PositionSet) (keeps : KeepsPositions w m kept) where
  kept_front : (q : KeyBits) → is_some (get m q) ≡ true → (n : ℕ) → n % 5 ≡ 0 → n ≤ length q → contains_key kept (take n q) ≡ true
  kept_front q stored n five l =
      let t = length-take n q in
      keeps.stored (take n q) (drop n q) (omega (arith, five, l, t)) (subst (λ x. IsSome (get m x)) (take_drop n q) stored)

  -- a key is shown where it is a front of a stored key
  pub shown_above : (k q : KeyBits) → is_some (get m q) ≡ true → begins_with k q ≡ true → IsShown m kept k
  shown_above k q stored front =
      let p = parts k in
      let f = follows k q front in
      let whole = f.whole ∙ ap (λ x. x ++ f.rest) p.whole ∙ append_assoc (node_of k) p.inner f.rest in
      let near = node_near k in
      let five = p.at_five in
      record {
        node = keeps.stored (node_of k) (p.inner ++ f.rest) five (subst (λ x. IsSome (get m x)) whole stored);
        below =
            elim (nat_lt (length q) (length (node_of k) + 5)) as (λ t. nat_lt (length q) (length (node_of k) + 5) ≡ t → Shows m kept k) [
              | true ↦ λ t. entry q front stored (ltb-true _ _ t)
              | false ↦ λ t.
                  let l = ltb-false _ _ t in
                  let n = length-take (length (node_of k) + 5) q in
                  child (take (length (node_of k) + 5) q) (front_cut k q (length (node_of k) + 5) (omega (arith, near)) front)
                  (kept_front q stored (length (node_of k) + 5) (omega (arith, five)) (omega (arith, l))) (omega (arith, n, l))
            ] refl;
      }

module _ {V : Type 0} (w : ℕ) (v : Seen V) (at : IsPlace w v) where
  -- where there is no view one bit longer, nothing is stored
  pub no_step : (b : Bool) → (CanStep w v b → ⊥) → (q : KeyBits) → get v.entries ((v.place ++ b ∷ []) ++ q) ≡ None
  no_step b stays q = of (get v.entries ((v.place ++ b ∷ []) ++ q)) refl
    where
      of : (o : Option V) → get v.entries ((v.place ++ b ∷ []) ++ q) ≡ o → get v.entries ((v.place ++ b ∷ []) ++ q) ≡ None
      of None e = e
      of (Some x) e = absurd (stays (can_step w v at b ((v.place ++ b ∷ []) ++ q) (ap is_some e) (front_append (v.place ++ b ∷ []) q)))

  -- nor where none is found
  no_find : (k : KeyBits) → v.place ≡ [] → (CanFind v k → ⊥) → (q : KeyBits) → get v.entries (k ++ q) ≡ None
  no_find k root stays q = of (get v.entries (k ++ q)) refl
    where
      of : (o : Option V) → get v.entries (k ++ q) ≡ o → get v.entries (k ++ q) ≡ None
      of None e = e
      of (Some x) e = absurd (stays (record { below = ap (λ p. begins_with p k) root; shown = shown_above w v.entries v.kept at.keeps k (k ++ q) (ap is_some e) (front_append k q) }))

  pub stepped_view : {X : Type 0} (seen : X → Seen V) (r : Option X) (b : Bool) → MatchOption r (CanStep w v b → ⊥) (λ x. CanStep w v b × (seen x ≡ moved v (v.place ++ b ∷ []))) → IsViewOf seen v.entries r (v.place ++ b ∷ [])
  stepped_view seen None b h = no_step b h
  stepped_view seen (Some x) b h = (ap (λ u. u.entries) h.1, ap (λ u. u.place) h.1)

  pub found_view : {X : Type 0} (seen : X → Seen V) (r : Option X) (k : KeyBits) → v.place ≡ [] → MatchOption r (CanFind v k → ⊥) (λ x. CanFind v k × (seen x ≡ moved v k)) → IsViewOf seen v.entries r k
  found_view seen None k root h = no_find k root h
  found_view seen (Some x) k root h = (ap (λ u. u.entries) h.1, ap (λ u. u.place) h.1)

-- ---- a view, or none

module _ {V X : Type 0} (seen : X → Seen V) (m : KeyMap V) (view : Option X) (s : KeyBits) (stands : IsViewOf seen m view s) where
  pub no_view : view ≡ None → (q : KeyBits) → get m (s ++ q) ≡ None
  no_view e = subst (λ o. IsViewOf seen m o s) e stands

  pub shown : (x : X) → view ≡ Some x → ((seen x).entries ≡ m) × ((seen x).place ≡ s)
  shown x e = subst (λ o. IsViewOf seen m o s) e stands

  pub own_value : (x : X) → view ≡ Some x → get (seen x).entries (seen x).place ≡ get m s
  own_value x e = let h = shown x e in λ i. get (h.0 i) (h.1 i)

  pub half_view : (x : X) (b : Bool) (r : Option X) → view ≡ Some x → IsViewOf seen (seen x).entries r ((seen x).place ++ b ∷ []) → IsViewOf seen m r (s ++ b ∷ [])
  half_view x b r e h =
      let a = shown x e in
      subst (λ p. IsViewOf seen m r (p ++ b ∷ [])) a.1 (subst (λ n. IsViewOf seen n r ((seen x).place ++ b ∷ [])) a.0 h)

-- ---- what was answered

pub is_told : {A B : Type 0} (f : A → B) (r : Option A) (o : Option B) (b : Bool) → option_map f r ≡ o → b ≡ is_some r → is_some o ≡ b
is_told f None o b e h = ap is_some (sym e) ∙ sym h
is_told f (Some x) o b e h = ap is_some (sym e) ∙ sym h

pub absent : {A : Type 0} (o : Option A) → is_some o ≡ false → o ≡ None
absent None e = refl
absent (Some x) e = cc
