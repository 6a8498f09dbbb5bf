-- The least table needs no more bits than its keys have, and the bits that all keys begin with stay before it.
use Rattle.std.proofs.Common.{◌≡◌, ℕ, zero, suc, ◌<◌, ◌≤◌, Bool, true, false, cond, List, [], ◌∷◌, ◌++◌, length, refl, ap, ◌∙◌, arith, append-nil, Option, Some, None}
use Rattle.std.specs.Prelude.{nat_le}
use Rattle.std.specs.Option.{option_or}
use Rattle.std.specs.declared.cmp.Ordering.{Ordering}
use Rattle.std.specs.Cmp.{IsTotalOrder}
use Rattle.std.specs.List.{list_all}
use borrow.Author.Tests.{leb-true}
use Rattle.prefix_model.specs.Keys.{KeyBits, key_cmp, same_key}
use Rattle.prefix_model.specs.Tables.{Values, after, answer_under}
use Rattle.prefix_model.specs.Candidates.{Candidates, candidates, joined}
use Rattle.prefix_model.specs.LeastTable.{below, with_halves, placed, stored, inherited}
use Rattle.prefix_model.proofs.KeyLemmas.{both_true, same_key-same, tests_same}
use Rattle.prefix_model.proofs.Order.{key_total, key_exact}
use Rattle.prefix_model.proofs.Entries.{held, held-below, held-below_nil, held-below_other}
use Rattle.prefix_model.proofs.Building.{answer_none, answer_last}
use Rattle.prefix_model.proofs.Fewest.Serving.{same_values}
use Rattle.prefix_model.proofs.Fewest.Alike.{placed_alike}
use Rattle.prefix_model.proofs.Fewest.Uniform.{candidates_uniform, placed_uniform}

-- n more bits than d
abbrev pub wider : ℕ → ℕ → ℕ
wider zero d = d
wider (suc n) d = suc (wider n d)

-- the answer at k with more bits is that at k
abbrev pub KnownBy : {V : Type 0} → ℕ → Values V → Type 0
KnownBy n f = (k l : KeyBits) → length k ≡ n → f (k ++ l) ≡ f k

module _ {V : Type 0} {cmp : V → V → Ordering} (o : IsTotalOrder cmp) where
  candidates_wider : (n d : ℕ) (f : Values V) → KnownBy n f → candidates cmp (wider n d) f ≡ candidates cmp n f
  candidates_wider zero d f known = candidates_uniform o d f (f []) (λ k e. known [] k refl)
  candidates_wider (suc n) d f known =
      λ i. joined cmp (candidates_wider n d (after false f) (λ k l e. known (false ∷ k) l (ap suc e)) i) (candidates_wider n d (after true f) (λ k l e. known (true ∷ k) l (ap suc e)) i)

  -- bits that no answer depends on change nothing
  pub placed_wider : (n d : ℕ) (f : Values V) (v : Option V) → KnownBy n f → placed cmp (wider n d) f v ≡ placed cmp n f v
  placed_wider zero d f v known = placed_uniform o d f (f []) v (λ k e. known [] k refl)
  placed_wider (suc n) d f v known =
      let u : Option V = inherited cmp (candidates cmp (suc n) f) v in
      ap (λ c. with_halves (stored cmp c v) (placed cmp (wider n d) (after false f) (inherited cmp c v)) (placed cmp (wider n d) (after true f) (inherited cmp c v))) (candidates_wider (suc n) d f known)
      ∙ (λ i. with_halves (stored cmp (candidates cmp (suc n) f) v)
      (placed_wider n d (after false f) u (λ k l e. known (false ∷ k) l (ap suc e)) i) (placed_wider n d (after true f) u (λ k l e. known (true ∷ k) l (ap suc e)) i))

module _ {V : Type 0} where
  known_under : (n : ℕ) (v : Option V) (f : Values V) → ((q : KeyBits) → n < length q → f q ≡ None) → KnownBy n (answer_under v f)
  known_under zero v f short [] l e = answer_last v f (λ b k. short (b ∷ k) (omega arith)) l
  known_under zero v f short (b ∷ k) l e = absurd (omega arith)
  known_under (suc n) v f short [] l e = absurd (omega arith)
  known_under (suc n) v f short (b ∷ k) l e = known_under n (option_or (f []) v) (after b f) (λ q h. short (b ∷ q) (omega arith)) k l (omega arith)

  -- what the entries answer
  abbrev pub answers : List (KeyBits × V) → Values V
  answers es = answer_under None (held es)

  -- no key is longer than n bits
  abbrev pub all_short : ℕ → List (KeyBits × V) → Bool
  all_short n es = list_all (λ e. nat_le (length e.0) n) es

  held_short : (n : ℕ) (es : List (KeyBits × V)) → all_short n es ≡ true → (q : KeyBits) → n < length q → held es q ≡ None
  held_short n [] h q l = refl
  held_short n (e ∷ es) h q l =
      let parts = both_true (nat_le (length e.0) n) (all_short n es) h in
      ap (λ b. cond b (Some e.1) (held es q)) (tests_same key_cmp key_total key_exact q e.0 ∙ differ (same_key q e.0) refl (leb-true (length e.0) n parts.0))
      ∙ held_short n es parts.1 q l
    where
      differ : (b : Bool) → same_key q e.0 ≡ b → length e.0 ≤ n → b ≡ false
      differ false s m = refl
      differ true s m = absurd (let same : length q ≡ length e.0 = ap length (same_key-same q e.0 s) in omega (arith, same, m))

  -- what entries with short keys answer is known by the first n bits
  pub answers_known : (n : ℕ) (es : List (KeyBits × V)) → all_short n es ≡ true → KnownBy n (answers es)
  answers_known n es h = known_under n None (held es) (held_short n es h)

  -- ---- entries behind a key

  -- the entries behind this key
  abbrev pub behind : KeyBits → List (KeyBits × V) → List (KeyBits × V)
  behind [] es = es
  behind (b ∷ p) es = below b (behind p es)

  after_bit : (b : Bool) (es : List (KeyBits × V)) (k : KeyBits) → after b (answers (below b es)) k ≡ answers es k
  after_bit b es k = ap (λ v. answer_under v (after b (held (below b es))) k) (ap (λ x. option_or x None) (held-below_nil b es)) ∙ same_values (after b (held (below b es))) (held es) (held-below b es) None k

  after_false : (es : List (KeyBits × V)) (k : KeyBits) → after false (answers (below true es)) k ≡ None
  after_false es k = ap (λ v. answer_under v (after false (held (below true es))) k) (ap (λ x. option_or x None) (held-below_nil true es)) ∙ answer_none None (after false (held (below true es))) (held-below_other true es) k

  after_true : (es : List (KeyBits × V)) (k : KeyBits) → after true (answers (below false es)) k ≡ None
  after_true es k = ap (λ v. answer_under v (after true (held (below false es))) k) (ap (λ x. option_or x None) (held-below_nil false es)) ∙ answer_none None (after true (held (below false es))) (held-below_other false es) k

module _ {V : Type 0} {cmp : V → V → Ordering} (o : IsTotalOrder cmp) where
  hole_left : (c d : Candidates V) → c ≡ None → joined cmp c d ≡ None
  hole_left c d e = ap (λ x. joined cmp x d) e

  hole_right : (c d : Candidates V) → d ≡ None → joined cmp c d ≡ None
  hole_right None d e = refl
  hole_right (Some a) d e = ap (joined cmp (Some a)) e

  placed_bit : (b : Bool) (n : ℕ) (es : List (KeyBits × V)) → placed cmp (suc n) (answers (below b es)) None ≡ below b (placed cmp n (answers es) None)
  placed_bit false n es =
      let f : Values V = answers (below false es) in
      let hole : candidates cmp (suc n) f ≡ None = hole_right (candidates cmp n (after false f)) (candidates cmp n (after true f)) (candidates_uniform o n (after true f) None (λ k e. after_true es k)) in
      ap (λ c. with_halves (stored cmp c None) (placed cmp n (after false f) (inherited cmp c None)) (placed cmp n (after true f) (inherited cmp c None))) hole
      ∙ (λ i. with_halves None (placed_alike cmp n (after false f) (answers es) None (λ k e. after_bit false es k) i) (placed_uniform o n (after true f) None None (λ k e. after_true es k) i))
      ∙ append-nil (below false (placed cmp n (answers es) None))
  placed_bit true n es =
      let f : Values V = answers (below true es) in
      let hole : candidates cmp (suc n) f ≡ None = hole_left (candidates cmp n (after false f)) (candidates cmp n (after true f)) (candidates_uniform o n (after false f) None (λ k e. after_false es k)) in
      ap (λ c. with_halves (stored cmp c None) (placed cmp n (after false f) (inherited cmp c None)) (placed cmp n (after true f) (inherited cmp c None))) hole
      ∙ (λ i. with_halves None (placed_uniform o n (after false f) None None (λ k e. after_false es k) i) (placed_alike cmp n (after true f) (answers es) None (λ k e. after_bit true es k) i))

  -- what is placed for entries that stand behind one key stands behind it
  pub placed_behind : (p : KeyBits) (n : ℕ) (es : List (KeyBits × V)) → placed cmp (wider (length p) n) (answers (behind p es)) None ≡ behind p (placed cmp n (answers es) None)
  placed_behind [] n es = refl
  placed_behind (b ∷ p) n es = placed_bit b (wider (length p) n) (behind p es) ∙ ap (below b) (placed_behind p n es)
