-- Loops over the items of an iterator.
use Rattle.std.specs.Prelude.{slice_index_or}
use Rattle.std.specs.Iterator.{Count, IsFinite, size, MakesProgress, Yields, Drains, HoldsAlong}
use Rattle.std.specs.List.{All}
use Rattle.std.proofs.Common.{◌≡◌, ◌<◌, List, ◌∷◌, length, ap, arith, ℕ, zero, suc, [], ◌++◌, Option, Some, None, refl, sym, subst, length-append, map, ◌∙◌}

pub fewer : {A : Type 0} (es fs : List A) (x : A) → es ≡ x ∷ fs → length fs < length es
fewer es fs x e = let l = ap length e in omega (arith, l)

-- ---- a loop over an iterator

module _ {S A : Type 0} (can : S → Type 0) (left : S → Count) (steps : S → Option A → S → Type 0) where
  -- the calls so far led from s to t and gave these items
  pub record Ran (s t : S) : Type 0 where
    pub callable : can t
    pub ending : IsFinite (left t)
    pub seen : List A
    pub gave : Yields steps s seen t

  pub yields_more : (s : S) (xs : List A) (t : S) (x : A) (u : S) → Yields steps s xs t → steps t (Some x) u → Yields steps s (xs ++ x ∷ []) u
  yields_more s [] t x u e h = (u, subst (λ (z : S). steps z (Some x) u) (sym e) h, refl)
  yields_more s (y ∷ xs) t x u e h = (e.0, e.1, yields_more e.0 xs t x u e.2 h)

  pub goes_on : (s t : S) (r : Option A) (x : A) → r ≡ Some x → MakesProgress can left s r t → IsFinite (left s) → can t × IsFinite (left t) × (size (left t) < size (left s))
  goes_on s t None x e g h = absurd (cc)
  goes_on s t (Some y) x e g h = g.on h

  module _ (s t u : S) (r : Option A) (ran : Ran s t) (given : steps t r u) where
    abbrev pub ran_more : (x : A) → r ≡ Some x → MakesProgress can left t r u → Ran s u
    ran_more x e g =
        let on = goes_on t u r x e g ran.ending in
        record { callable = on.0; ending = on.1; seen = ran.seen ++ x ∷ []; gave = yields_more s ran.seen t x u ran.gave (subst (λ (q : Option A). steps t q u) e given) }

    pub fewer_left : (x : A) → r ≡ Some x → MakesProgress can left t r u → size (left u) < size (left t)
    fewer_left x e g = (goes_on t u r x e g ran.ending).2

    pub all_given : r ≡ None → Drains steps s ran.seen
    all_given e = (u, (t, ran.gave, subst (λ (q : Option A). steps t q u) e given))

at_end : {A : Type 0} (xs : List A) (x d : A) → slice_index_or (xs ++ x ∷ []) (length xs) d ≡ x
at_end [] x d = refl
at_end (y ∷ xs) x d = at_end xs x d

-- what holds of all items holds of the last
pub last_of : {A : Type 0} (Q : A → Type 0) (xs : List A) (x : A) → All Q (xs ++ x ∷ []) → Q x
last_of Q xs x h = subst Q (at_end xs x x) (h (length xs) x (omega (arith, length-append xs (x ∷ []))))

-- ---- what is made of the items so far, one after another

module _ {M E A : Type 0} (all : M → List E → M) (add : M → E → M) (entry : A → E) (none : (m : M) → all m [] ≡ m) (first : (m : M) (e : E) (es : List E) → all m (e ∷ es) ≡ all (add m e) es) where
  with_last : (m : M) (xs : List A) (x : A) → all m (map entry (xs ++ x ∷ [])) ≡ add (all m (map entry xs)) (entry x)
  with_last m [] x = first m (entry x) [] ∙ none (add m (entry x)) ∙ ap (λ k. add k (entry x)) (sym (none m))
  with_last m (y ∷ xs) x = first m (entry y) (map entry (xs ++ x ∷ [])) ∙ with_last (add m (entry y)) xs x ∙ ap (λ k. add k (entry x)) (sym (first m (entry y) (map entry xs)))

  pub one_more : (m made new : M) (xs : List A) (x : A) → made ≡ all m (map entry xs) → new ≡ add made (entry x) → new ≡ all m (map entry (xs ++ x ∷ []))
  one_more m made new xs x before stored = stored ∙ ap (λ k. add k (entry x)) before ∙ sym (with_last m xs x)

-- ---- what holds of all items

module _ {S A : Type 0} (steps : S → Option A → S → Type 0) (Q : A → Type 0) (each : (s t : S) (x : A) → steps s (Some x) t → Q x) where
  all_given_hold : (s : S) (xs : List A) (t : S) → Yields steps s xs t → (k : ℕ) (d : A) → k < length xs → Q (slice_index_or xs k d)
  all_given_hold s [] t y k d h = absurd (omega arith)
  all_given_hold s (x ∷ xs) t y zero d h = let (u, step, more) = y in each s u x step
  all_given_hold s (x ∷ xs) t y (suc k) d h = let (u, step, more) = y in all_given_hold u xs t more k d (omega (arith, h))

  pub holds_along : (s : S) → HoldsAlong steps s (All Q)
  holds_along s xs t y = all_given_hold s xs t y
