-- What is given by walks over an archived map, and what is left then.
use Rattle.std.proofs.Common.{◌≡◌, ℕ, ◌+◌, ◌≤◌, Bool, true, false, List, [], ◌∷◌, ◌++◌, length, take, Option, Some, None, refl, sym, ap, ◌∙◌, subst, arith, length-take}
use Rattle.std.specs.Prelude.{is_some, MatchOption}
use Rattle.std.specs.FinMap.{get, entries, get-entries}
use Rattle.prefix_model.specs.Keys.{KeyBits}
use Rattle.prefix_model.specs.Tables.{KeyMap}
use Rattle.prefix_model.specs.Walks.{begins_with, walk, walk_from}
use Rattle.prefix_model.proofs.Fronts.{follows, front_itself}
use Rattle.prefix_model.proofs.WalkSplits.{walk_is}
use Rattle.prefix_model.proofs.Walking.CoverLaws.{none_left, first_left}
use Rattle.prefix_model.proofs.Matching.FrontMatches.{shortest_entry}
use Rattle.prefix_model.specs.Views.{Seen, moved, CanFind}
use Rattle.prefix_model.proofs.Walking.WalkRest.{first_passes, rest_after}
use Rattle.prefix_archive.specs.Coverage.{IsViewOf}
use Rattle.prefix_archive.specs.Iterating.{left_of, is_inside, covers_from}
use Rattle.prefix_model.specs.Hits.{HasNoneIn, IsFirstIn}

module _ {V X : Type 0} (seen : X → Seen V) (view : Option X) (q : KeyBits) (i : Bool) where
  -- the first of a walk was given
  pub first_given : (x : X) (key : KeyBits) (v : V) (rest : List (KeyBits × V)) (last : KeyBits) → view ≡ Some x → walk_from (seen x).entries (seen x).place q i ≡ (key, v) ∷ rest → last ≡ key
      → left_of seen view q i ≡ (last, v) ∷ left_of seen view last false
  first_given x key v rest last is e same =
      subst (λ o. left_of seen o q i ≡ (last, v) ∷ left_of seen o last false) (sym is)
      (e ∙ (λ j. (sym same j, v) ∷ sym (rest_after (seen x).entries (seen x).place q i (key, v) rest e) j) ∙ ap (λ k. (last, v) ∷ walk_from (seen x).entries (seen x).place k false) (sym same))

  pub none_given : (x : X) → view ≡ Some x → walk_from (seen x).entries (seen x).place q i ≡ [] → left_of seen view q i ≡ []
  none_given x is e = subst (λ o. left_of seen o q i ≡ []) (sym is) e

  pub nothing_walked : view ≡ None → left_of seen view q i ≡ []
  nothing_walked is = subst (λ o. left_of seen o q i ≡ []) (sym is) refl

-- a key is at the place of the view that is found at it
pub inside_found : {V X : Type 0} (seen : X → Seen V) (v : Seen V) (r : Option X) (k : KeyBits) → MatchOption r (CanFind v k → ⊥) (λ x. CanFind v k × (seen x ≡ moved v k)) → is_inside seen r k ≡ true
inside_found seen v None k h = refl
inside_found seen v (Some x) k h = ap (λ u. begins_with u.place k) h.1 ∙ front_itself k

-- where nothing is stored from a key on, nothing is walked
none_walked : {V : Type 0} (m : KeyMap V) (k : KeyBits) → ((q : KeyBits) → get m (k ++ q) ≡ None) → walk m k ≡ []
none_walked m k none =
    elim (walk m k) as (λ x. walk m k ≡ x → x ≡ []) [
      | [] ↦ λ h. refl
      | e ∷ rest ↦ λ h.
          let f = first_passes (begins_with k) (entries m) e rest h in
          let w = follows k e.0 f.0 in
          let some = ap is_some (get-entries m e.0) ∙ f.1 in
          let gone = ap is_some (ap (get m) w.whole ∙ none w.rest) in
          absurd (cc)
    ] refl

-- the walk of a view at a key is that of the key
pub walked_below : {V X : Type 0} (seen : X → Seen V) (m : KeyMap V) (view : Option X) (k : KeyBits) → IsViewOf seen m view k → left_of seen view k true ≡ walk m k
walked_below seen m None k none = sym (none_walked m k none)
walked_below seen m (Some x) k h = (λ i. walk_from (h.0 i) (h.1 i) k true) ∙ walk_is m k

-- ---- covers

module _ {V : Type 0} (m : KeyMap V) (p bits : KeyBits) (to : ℕ) (is : take to bits ≡ p) (within : to ≤ length bits) where
  size : (n : ℕ) → n ≤ to → length (take n bits) ≡ n
  size n l = let a = length-take n bits in omega (arith, a, l, within)

  size_of : length p ≡ to
  size_of = sym (ap length is) ∙ size to (omega arith)

  pub no_cover : (from : ℕ) → HasNoneIn m bits from (to + 1) → covers_from m p from ≡ []
  no_cover from none = none_left m p bits to is size_of from (λ n a b. none n a (omega (arith, b)))

  pub next_cover : (from n : ℕ) (v : V) → IsFirstIn m bits from (to + 1) n v → (key : KeyBits) → key ≡ take n bits → covers_from m p from ≡ (key, v) ∷ covers_from m p (n + 1)
  next_cover from n v h key e =
      let below = h.below in
      let at = size n (omega (arith, below)) in
      first_left m p bits to is size_of from (take n bits, v) (shortest_entry m bits to within from n v h)
      ∙ (λ j. (sym e j, v) ∷ covers_from m p (at j + 1))
