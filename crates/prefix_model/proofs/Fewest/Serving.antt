-- What a table answers under an inherited value, a half at a time.
use Rattle.std.proofs.Common.{◌≡◌, ℕ, zero, suc, Bool, true, false, cond, List, [], ◌∷◌, length, refl, sym, ap, ◌∙◌, subst, arith, Option, Some, None}
use Rattle.std.specs.Prelude.{is_some}
use mathlib.Core.Bool.{true≢false}
use Rattle.std.specs.Option.{option_or, option_map}
use Rattle.std.specs.declared.cmp.Ordering.{Ordering}
use Rattle.std.specs.Cmp.{IsTotalOrder}
use Rattle.std.specs.FinMap.{IsAntisymmetric}
use Rattle.prefix_model.specs.Keys.{KeyBits}
use Rattle.prefix_model.specs.Tables.{Values, after, answer_under}
use Rattle.prefix_model.specs.Candidates.{Candidates, candidates, joined, only, both_or_either, least, offers}
use Rattle.prefix_model.specs.LeastTable.{stored, inherited, placed}
use Rattle.prefix_model.proofs.Entries.{held, held-with_halves_nil, held-with_halves_false, held-with_halves_true, held-entry}
use Rattle.prefix_model.proofs.Fewest.Lists.{IsInhabited, least_in, offers-one, inhabited}
use Rattle.prefix_model.proofs.Fewest.Uniform.{one_has}

-- what is stored in f answers g at each address, n bits on, where v is inherited
abbrev pub Serves : {V : Type 0} → ℕ → Option V → Values V → Values V → Type 0
Serves n v f g = (k : KeyBits) → length k ≡ n → answer_under v f k ≡ g k

module _ {V : Type 0} where
  -- what serves a key serves its halves, under what it hands down
  pub serves_half : (n : ℕ) (v : Option V) (f g : Values V) (b : Bool) → Serves (suc n) v f g → Serves n (option_or (f []) v) (after b f) (after b g)
  serves_half n v f g b s k e = s (b ∷ k) (ap suc e)

  or_some : (x v : Option V) → is_some v ≡ true → is_some (option_or x v) ≡ true
  or_some None v e = e
  or_some (Some y) v e = refl

  -- at an address whose keys inherit a value there is an answer
  pub answers_some : (k : KeyBits) (v : Option V) (f : Values V) → is_some v ≡ true → is_some (answer_under v f k) ≡ true
  answers_some [] v f e = or_some (f []) v e
  answers_some (b ∷ k) v f e = answers_some k (option_or (f []) v) (after b f) (or_some (f []) v e)

  -- equal values give equal answers
  pub same_values : (f g : Values V) → ((q : KeyBits) → f q ≡ g q) → (v : Option V) (k : KeyBits) → answer_under v f k ≡ answer_under v g k
  same_values f g h v k = λ i. answer_under v (λ q. h q i) k

module _ {V : Type 0} (cmp : V → V → Ordering) where
  -- a hole has a half that is a hole
  in_half : (c d : Candidates V) → joined cmp c d ≡ None → (c ≡ None → ⊥) → (d ≡ None → ⊥) → ⊥
  in_half None d e p q = p refl
  in_half (Some a) None e p q = q refl
  in_half (Some a) (Some b) e p q = true≢false (ap is_some e)

  -- where an address has no answer, nothing serves under a value
  pub hole_unserved : (n : ℕ) (v : Option V) (f g : Values V) → candidates cmp n g ≡ None → is_some v ≡ true → Serves n v f g → ⊥
  hole_unserved zero v f g e i s =
      elim (g []) as (λ x. option_map (only) x ≡ None → option_or (f []) v ≡ x → ⊥) [
        | None ↦ λ _ t. true≢false (sym (or_some (f []) v i) ∙ ap is_some t)
        | Some x ↦ λ e t. true≢false (ap is_some e)
      ] e (s [] refl)
  hole_unserved (suc n) v f g e i s =
      in_half (candidates cmp n (after false g)) (candidates cmp n (after true g)) e
      (λ z. hole_unserved n (option_or (f []) v) (after false f) (after false g) z (or_some (f []) v i) (serves_half n v f g false s))
      (λ z. hole_unserved n (option_or (f []) v) (after true f) (after true g) z (or_some (f []) v i) (serves_half n v f g true s))

  -- the same, of what the halves inherit
  pub hole_unserved_below : (n : ℕ) (u : Option V) (f g : Values V) → candidates cmp (suc n) g ≡ None → is_some u ≡ true → ((b : Bool) → Serves n u (after b f) (after b g)) → ⊥
  hole_unserved_below n u f g e i s =
      in_half (candidates cmp n (after false g)) (candidates cmp n (after true g)) e
      (λ z. hole_unserved n u (after false f) (after false g) z i (s false))
      (λ z. hole_unserved n u (after true f) (after true g) z i (s true))

module _ {V : Type 0} {cmp : V → V → Ordering} (o : IsTotalOrder cmp) (exact : IsAntisymmetric cmp) where
  abbrev IsGood : Candidates V → Type 0
  IsGood c = (s : List V) → c ≡ Some s → IsInhabited cmp s

  joined_good : (c d : Candidates V) → IsGood c → IsGood (joined cmp c d)
  joined_good None d h s e = absurd (true≢false (sym (ap is_some e)))
  joined_good (Some a) None h s e = absurd (true≢false (sym (ap is_some e)))
  joined_good (Some a) (Some b) h s e = subst (IsInhabited cmp) {x = both_or_either cmp a b} (cc e) (inhabited o exact a b (h a refl))

  -- the candidates, where there is no hole, are at least one
  pub candidates_good : (n : ℕ) (g : Values V) (s : List V) → candidates cmp n g ≡ Some s → IsInhabited cmp s
  candidates_good zero g =
      elim (g []) as (λ x. (s : List V) → option_map (only) x ≡ Some s → IsInhabited cmp s) [
        | None ↦ λ s e. absurd (true≢false (sym (ap is_some e)))
        | Some x ↦ λ s e. subst (IsInhabited cmp) {x = only x} (cc e) (x, one_has o x)
      ]
  candidates_good (suc n) g = joined_good (candidates cmp n (after false g)) (candidates cmp n (after true g)) (candidates_good n (after false g))

  or_stored : (c : Candidates V) (v : Option V) → IsGood c → (c ≡ None → v ≡ None) → option_or (stored cmp c v) v ≡ inherited cmp c v
  or_stored None v h z = z refl
  or_stored (Some s) v h z =
      let l = least_in o exact s (h s refl) in
      elim (offers cmp s v) as (λ b. option_or (cond b None (least s)) v ≡ cond b v (least s)) [
        | true ↦ refl
        | false ↦ ap (λ x. option_or x v) l.1 ∙ sym l.1
      ]

  hole_below : (c d : Candidates V) (v : Option V) (b : Bool) → cond b d c ≡ None → inherited cmp (joined cmp c d) v ≡ None
  hole_below None d v b e = refl
  hole_below (Some a) None v b e = refl
  hole_below (Some a) (Some b) v true e = absurd (true≢false (ap is_some e))
  hole_below (Some a) (Some b) v false e = absurd (true≢false (ap is_some e))

  at_address : (x v : Option V) → (option_map (only) x ≡ None → v ≡ None) → option_or (stored cmp (option_map (only) x) v) v ≡ x
  at_address None v z = z refl
  at_address (Some x) v z =
      elim (offers cmp (only x) v) as (λ b. offers cmp (only x) v ≡ b → option_or (cond b None (least (only x))) v ≡ Some x) [
        | true ↦ λ e. offers-one o exact x v e
        | false ↦ λ e. refl
      ] refl

  module _ (n : ℕ) (v : Option V) (g : Values V) where
    -- what is placed behind a bit is what is placed in that half
    pub held_half : (b : Bool) (q : KeyBits) → held (placed cmp (suc n) g v) (b ∷ q) ≡ held (placed cmp n (after b g) (inherited cmp (candidates cmp (suc n) g) v)) q
    held_half false q =
        held-with_halves_false (stored cmp (candidates cmp (suc n) g) v) (placed cmp n (after false g) (inherited cmp (candidates cmp (suc n) g) v)) (placed cmp n (after true g) (inherited cmp (candidates cmp (suc n) g) v)) q
    held_half true q =
        held-with_halves_true (stored cmp (candidates cmp (suc n) g) v) (placed cmp n (after false g) (inherited cmp (candidates cmp (suc n) g) v)) (placed cmp n (after true g) (inherited cmp (candidates cmp (suc n) g) v)) q

    held_here : held (placed cmp (suc n) g v) [] ≡ stored cmp (candidates cmp (suc n) g) v
    held_here =
        held-with_halves_nil (stored cmp (candidates cmp (suc n) g) v) (placed cmp n (after false g) (inherited cmp (candidates cmp (suc n) g) v)) (placed cmp n (after true g) (inherited cmp (candidates cmp (suc n) g) v))

  -- what is placed at the key
  pub held_first : (n : ℕ) (v : Option V) (g : Values V) → held (placed cmp n g v) [] ≡ stored cmp (candidates cmp n g) v
  held_first zero v g = held-entry (stored cmp (candidates cmp zero g) v)
  held_first (suc n) v g = held_here n v g

  -- what is placed answers at the key, and in a half as the half does
  pub answer_first : (n : ℕ) (v : Option V) (g : Values V) → (candidates cmp n g ≡ None → v ≡ None) → option_or (held (placed cmp n g v) []) v ≡ inherited cmp (candidates cmp n g) v
  answer_first n v g z = ap (λ y. option_or y v) (held_first n v g) ∙ or_stored (candidates cmp n g) v (candidates_good n g) z

  -- and so are its answers
  pub answer_half : (n : ℕ) (v : Option V) (g : Values V) → (candidates cmp (suc n) g ≡ None → v ≡ None) → (b : Bool) (k : KeyBits) →
      answer_under v (held (placed cmp (suc n) g v)) (b ∷ k) ≡ answer_under (inherited cmp (candidates cmp (suc n) g) v) (held (placed cmp n (after b g) (inherited cmp (candidates cmp (suc n) g) v))) k
  answer_half n v g z b k =
      ap (λ y. answer_under y (after b (held (placed cmp (suc n) g v))) k) (answer_first (suc n) v g z)
      ∙ same_values (after b (held (placed cmp (suc n) g v))) (held (placed cmp n (after b g) (inherited cmp (candidates cmp (suc n) g) v))) (held_half n v g b) (inherited cmp (candidates cmp (suc n) g) v) k

  -- a half that is a hole inherits nothing
  pub none_below : (n : ℕ) (v : Option V) (g : Values V) (b : Bool) → candidates cmp n (after b g) ≡ None → inherited cmp (candidates cmp (suc n) g) v ≡ None
  none_below n v g true e = hole_below (candidates cmp n (after false g)) (candidates cmp n (after true g)) v true e
  none_below n v g false e = hole_below (candidates cmp n (after false g)) (candidates cmp n (after true g)) v false e

  -- what is placed serves
  pub placed_serves : (n : ℕ) (v : Option V) (g : Values V) → (candidates cmp n g ≡ None → v ≡ None) → Serves n v (held (placed cmp n g v)) g
  placed_serves zero v g z [] e = ap (λ y. option_or y v) (held-entry (stored cmp (candidates cmp zero g) v)) ∙ at_address (g []) v z
  placed_serves zero v g z (b ∷ k) e = absurd (omega arith)
  placed_serves (suc n) v g z [] e = absurd (omega arith)
  placed_serves (suc n) v g z (b ∷ k) e =
      answer_half n v g z b k ∙ placed_serves n (inherited cmp (candidates cmp (suc n) g) v) (after b g) (none_below n v g b) k (omega arith)
