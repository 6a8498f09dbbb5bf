-- Candidates and what is placed depend on the answers at the addresses alone, and no key that is placed is too long.
use Rattle.std.proofs.Common.{◌≡◌, ℕ, zero, suc, ◌≤◌, Bool, true, false, [], ◌∷◌, length, refl, sym, ap, ◌∙◌, arith, Option}
use Rattle.std.specs.Prelude.{is_some, IsSome}
use mathlib.Core.Bool.{true≢false}
use Rattle.std.specs.Option.{option_map}
use Rattle.std.specs.declared.cmp.Ordering.{Ordering}
use Rattle.prefix_model.specs.Keys.{KeyBits}
use Rattle.prefix_model.specs.Tables.{Values, after}
use Rattle.prefix_model.specs.Candidates.{candidates, joined, only}
use Rattle.prefix_model.specs.LeastTable.{with_halves, stored, inherited, placed, entry}
use Rattle.prefix_model.proofs.Entries.{held, held-with_halves_false, held-with_halves_true, held-entry_cons}

-- the same at each address, n bits on
abbrev pub AlikeAt : {V : Type 0} → ℕ → Values V → Values V → Type 0
AlikeAt n g h = (k : KeyBits) → length k ≡ n → g k ≡ h k

module _ {V : Type 0} (cmp : V → V → Ordering) where
  half_alike : (n : ℕ) (g h : Values V) (b : Bool) → AlikeAt (suc n) g h → AlikeAt n (after b g) (after b h)
  half_alike n g h b e k l = e (b ∷ k) (ap suc l)

  -- candidates depend on the answers at addresses alone
  pub candidates_alike : (n : ℕ) (g h : Values V) → AlikeAt n g h → candidates cmp n g ≡ candidates cmp n h
  candidates_alike zero g h e = ap (option_map only) (e [] refl)
  candidates_alike (suc n) g h e =
      λ i. joined cmp (candidates_alike n (after false g) (after false h) (half_alike n g h false e) i) (candidates_alike n (after true g) (after true h) (half_alike n g h true e) i)

  -- and so does what is placed
  pub placed_alike : (n : ℕ) (g h : Values V) (v : Option V) → AlikeAt n g h → placed cmp n g v ≡ placed cmp n h v
  placed_alike zero g h v e = ap (λ c. entry (stored cmp c v)) (candidates_alike zero g h e)
  placed_alike (suc n) g h v e =
      ap (λ c. with_halves (stored cmp c v) (placed cmp n (after false g) (inherited cmp c v)) (placed cmp n (after true g) (inherited cmp c v))) (candidates_alike (suc n) g h e)
      ∙ (λ i. with_halves (stored cmp (candidates cmp (suc n) h) v) (placed_alike n (after false g) (after false h) (inherited cmp (candidates cmp (suc n) h) v) (half_alike n g h false e) i) (placed_alike n (after true g) (after true h) (inherited cmp (candidates cmp (suc n) h) v) (half_alike n g h true e) i))

  -- no key that is placed is longer than n
  pub placed_short : (n : ℕ) (g : Values V) (v : Option V) (q : KeyBits) → IsSome (held (placed cmp n g v) q) → length q ≤ n
  placed_short zero g v [] e = omega arith
  placed_short zero g v (b ∷ q) e = absurd (true≢false (sym e ∙ ap is_some (held-entry_cons (stored cmp (candidates cmp zero g) v) b q)))
  placed_short (suc n) g v [] e = omega arith
  placed_short (suc n) g v (false ∷ q) e =
      let u = inherited cmp (candidates cmp (suc n) g) v in
      let h = placed_short n (after false g) u q (sym (ap is_some (held-with_halves_false (stored cmp (candidates cmp (suc n) g) v) (placed cmp n (after false g) u) (placed cmp n (after true g) u) q)) ∙ e) in
      omega arith
  placed_short (suc n) g v (true ∷ q) e =
      let u = inherited cmp (candidates cmp (suc n) g) v in
      let h = placed_short n (after true g) u q (sym (ap is_some (held-with_halves_true (stored cmp (candidates cmp (suc n) g) v) (placed cmp n (after false g) u) (placed cmp n (after true g) u) q)) ∙ e) in
      omega arith
