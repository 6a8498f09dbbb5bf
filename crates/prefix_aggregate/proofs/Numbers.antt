-- Which of two numbers is less, and whether they are the same.
use Rattle.std.proofs.Common.{◌≡◌, ◌≢◌, ◌⊎◌, inl, inr, ℕ, zero, suc, ◌<◌, ◌≤◌, Bool, true, false, refl, sym, ap, subst, arith}
use Rattle.std.specs.Prelude.{◌==◌, T}
use Rattle.std.proofs.Math.Facts.{eqb_yes}

pub nat_order : (a b : ℕ) → (a ≤ b) ⊎ (b < a)
nat_order zero b = inl (omega arith)
nat_order (suc a) zero = inr (omega arith)
nat_order (suc a) (suc b) = elim (nat_order a b) [ inl h ↦ inl (omega (arith, h)) | inr h ↦ inr (omega (arith, h)) ]

pub nat_same : (a b : ℕ) → (a ≡ b) ⊎ (a ≢ b)
nat_same zero zero = inl refl
nat_same zero (suc b) = inr (λ e. omega (arith, e))
nat_same (suc a) zero = inr (λ e. omega (arith, e))
nat_same (suc a) (suc b) = elim (nat_same a b) [
  | inl e ↦ inl (ap suc e)
  | inr n ↦ inr (λ e. n (omega (arith, e)))
]

pub not_equal : (d e : ℕ) → d ≢ e → (d == e) ≡ false
not_equal d e n = of (d == e) refl
  where
    of : (b : Bool) → (d == e) ≡ b → b ≡ false
    of true h = absurd (n (eqb_yes (subst T (sym h) tt)))
    of false h = refl
