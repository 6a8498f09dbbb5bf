-- What the check of one record tells of the check of all.
use Rattle.std.proofs.Common.{◌≡◌, ◌⊎◌, ℕ, ◌+◌, ◌^◌, ◌<◌, ◌≤◌, ◌≢◌, Bool, true, false, eqb, ltb, List, refl, sym, ap, ◌∙◌, arith, inl, inr, Result, Ok, Err}
use Rattle.std.specs.Prelude.{◌&&◌, count_ones}
use Rattle.std.proofs.lemmas.Bool.{eqb-true, cases_lt}
use Rattle.prefix_model.specs.declared.Cause.{Cause}
use Rattle.prefix_model.specs.declared.Cause.TheVariants.{ContainsEmptyNode, DepthExceedsPrefixRepr}
use Rattle.prefix_model.specs.Positions.{NodeRecord, bits_set}
use Rattle.prefix_model.specs.FirstCause.{◌>>=◌, is_too_deep, check_record}
use Rattle.prefix_model.proofs.Archive.Numbers.{bits_set-count_ones}
use Rattle.prefix_model.proofs.Archive.Linear.{check_from, record_of, check_step, next_level}
use Rattle.prefix_model.proofs.Archive.Scan.{passed}
use Rattle.prefix_layout.proofs.Deep.{deep_above}

pub ne_false : (x y : ℕ) → x ≢ y → eqb x y ≡ false
ne_false x y h = go (eqb x y) refl
  where
    go : (b : Bool) → eqb x y ≡ b → eqb x y ≡ false
    go true e = absurd (h (eqb-true x y e))
    go false e = e

-- before record i, whose level is the present one
pub record Levelled (w n : ℕ) (bytes : List ℕ) (d i e a c : ℕ) (whole : Result ℕ Cause) : Type 0 where
  pub same : check_from w n bytes d i e a c ≡ whole
  pub inside : i < e
  pub ends : e ≤ c

module _ (w n : ℕ) (bytes : List ℕ) (d i e a c : ℕ) (whole : Result ℕ Cause) where
  pub same_level : check_from w n bytes d i e a c ≡ whole → i ≤ e → e ≤ c → i ≢ e → (d2 e2 : ℕ) → d2 ≡ d → e2 ≡ e → Levelled w n bytes d2 i e2 a c whole
  same_level s h k l d2 e2 p q = record { same = (λ j. check_from w n bytes (p j) i (q j) a c) ∙ s; inside = omega arith; ends = omega arith }

  pub level_below : check_from w n bytes d i e a c ≡ whole → i ≡ e → i < c → (d2 e2 : ℕ) → d2 ≡ d + 5 → e2 ≡ c → Levelled w n bytes d2 i e2 a c whole
  level_below s h l d2 e2 p q = record {
    same = (λ j. check_from w n bytes (p j) i (q j) a c) ∙ sym (next_level w n bytes d i a c) ∙ ap (λ x. check_from w n bytes d i x a c) h ∙ s;
    inside = omega arith;
    ends = omega arith;
  }

  module _ (l : Levelled w n bytes d i e a c whole) (h : i < n) where
    abbrev r : NodeRecord
    r = record_of bytes i

    abbrev next : Result ℕ Cause
    next = check_from w n bytes d (i + 1) e (a + bits_set r.data_bits) (c + bits_set r.child_bits)

    step : (check_record w (ltb 0 i) d a c r >>= λ _. next) ≡ whole
    step = sym (check_step w n bytes d i e a c h l.inside l.ends) ∙ l.same

    pub refused_record : (x : Cause) → Err x ≡ check_record w (ltb 0 i) d a c r → Err x ≡ whole
    refused_record x t = ap (λ s. s >>= λ _. next) t ∙ step

    -- where the record passes
    pub record Passed : Type 0 where
      pub depth : d ≤ w
      pub same : check_from w n bytes d (i + 1) e (a + count_ones r.data_bits) (c + count_ones r.child_bits) ≡ whole

    pub passed_record : r.data_bits < 2 ^ 32 → r.child_bits < 2 ^ 32 → Ok tt ≡ check_record w (ltb 0 i) d a c r → Passed
    passed_record x y t = record {
      depth = shallow (cases_lt w d);
      same = (λ j. check_from w n bytes d (i + 1) e (a + sym (bits_set-count_ones r.data_bits x) j) (c + sym (bits_set-count_ones r.child_bits y) j)) ∙ ap (λ s. s >>= λ _. next) t ∙ step;
    }
      where
        shallow : (w < d) ⊎ (d ≤ w) → d ≤ w
        shallow (inr fine) = fine
        shallow (inl deep) =
            let p = passed (ltb 0 i && (eqb r.data_bits 0 && eqb r.child_bits 0)) ContainsEmptyNode _ tt (sym t) in
            let q = passed (is_too_deep w d r.data_bits) DepthExceedsPrefixRepr _ tt p.1 in
            let above = deep_above w d r.data_bits deep in absurd cc
