-- What it is that covers each bit.
use Rattle.std.specs.Prelude.{◌≡◌, ℕ, ◌+◌, ◌-◌, ◌*◌, ◌<◌, ◌≤◌, min, max, nat_lt, Bool, true, false, cond, bit_or}
use Rattle.std.proofs.Common.{sym, ap, ◌∙◌, arith, inl, inr}
use Rattle.std.specs.Int.{bit_at}
use Rattle.std.proofs.lemmas.Nat.Bits.{bit_at_or}
use Rattle.prefix_model.specs.Bits.{in_level, both}
use Rattle.prefix_model.proofs.Bitmaps.WordBits.{below_or_past, less, not_less, max_zero, in_level-true, in_level-below, in_level-above}

-- a bit to which a level adds nothing, and one to which it adds
same_out : (c f b x : ℕ) (t : Bool) → bit_at f b ≡ cond t x 0 → t ≡ false → bit_at (bit_or c f) b ≡ bit_at c b
same_out c f b x t h e = bit_at_or c f b ∙ ap (max (bit_at c b)) (h ∙ ap (λ t. cond t x 0) e) ∙ max_zero (bit_at c b)

same_in : (c f b x : ℕ) (t : Bool) → bit_at f b ≡ cond t x 0 → t ≡ true → bit_at (bit_or c f) b ≡ max (bit_at c b) x
same_in c f b x t h e = bit_at_or c f b ∙ ap (max (bit_at c b)) (h ∙ ap (λ t. cond t x 0) e)

module _ (d cc s f3 f2 f1 f0 : ℕ)
    (hs : (b : ℕ) → bit_at s b ≡ cond (in_level 4 b) (both cc (2 * (b - 15))) 0)
    (h3 : (b : ℕ) → bit_at f3 b ≡ cond (in_level 3 b) (both (bit_or d s) (2 * b + 1)) 0)
    (h2 : (b : ℕ) → bit_at f2 b ≡ cond (in_level 2 b) (both (bit_or (bit_or d s) f3) (2 * b + 1)) 0)
    (h1 : (b : ℕ) → bit_at f1 b ≡ cond (in_level 1 b) (both (bit_or (bit_or (bit_or d s) f3) f2) (2 * b + 1)) 0)
    (h0 : (b : ℕ) → bit_at f0 b ≡ cond (in_level 0 b) (both (bit_or (bit_or (bit_or (bit_or d s) f3) f2) f1) (2 * b + 1)) 0) where
  abbrev c4 : ℕ
  c4 = bit_or d s

  abbrev c3 : ℕ
  c3 = bit_or c4 f3

  abbrev c2 : ℕ
  c2 = bit_or c3 f2

  abbrev c1 : ℕ
  c1 = bit_or c2 f1

  abbrev whole : ℕ
  whole = bit_or c1 f0

  -- later steps leave the lower levels
  agree1 : (b : ℕ) → 2 ≤ b + 1 → bit_at whole b ≡ bit_at c1 b
  agree1 b l = same_out c1 f0 b (both c1 (2 * b + 1)) (in_level 0 b) (h0 b) (in_level-above 0 b (omega arith))

  agree2 : (b : ℕ) → 4 ≤ b + 1 → bit_at whole b ≡ bit_at c2 b
  agree2 b l = agree1 b (omega arith) ∙ same_out c2 f1 b (both c2 (2 * b + 1)) (in_level 1 b) (h1 b) (in_level-above 1 b (omega arith))

  agree3 : (b : ℕ) → 8 ≤ b + 1 → bit_at whole b ≡ bit_at c3 b
  agree3 b l = agree2 b (omega arith) ∙ same_out c3 f2 b (both c3 (2 * b + 1)) (in_level 2 b) (h2 b) (in_level-above 2 b (omega arith))

  agree4 : (b : ℕ) → 16 ≤ b + 1 → bit_at whole b ≡ bit_at c4 b
  agree4 b l = agree3 b (omega arith) ∙ same_out c4 f3 b (both c4 (2 * b + 1)) (in_level 3 b) (h3 b) (in_level-above 3 b (omega arith))

  -- earlier steps leave the upper levels
  data4 : (b : ℕ) → b + 1 < 16 → bit_at c4 b ≡ bit_at d b
  data4 b l = same_out d s b (both cc (2 * (b - 15))) (in_level 4 b) (hs b) (in_level-below 4 b (omega arith))

  data3 : (b : ℕ) → b + 1 < 8 → bit_at c3 b ≡ bit_at d b
  data3 b l = same_out c4 f3 b (both c4 (2 * b + 1)) (in_level 3 b) (h3 b) (in_level-below 3 b (omega arith)) ∙ data4 b (omega arith)

  data2 : (b : ℕ) → b + 1 < 4 → bit_at c2 b ≡ bit_at d b
  data2 b l = same_out c3 f2 b (both c3 (2 * b + 1)) (in_level 2 b) (h2 b) (in_level-below 2 b (omega arith)) ∙ data3 b (omega arith)

  data1 : (b : ℕ) → b + 1 < 2 → bit_at c1 b ≡ bit_at d b
  data1 b l = same_out c2 f1 b (both c2 (2 * b + 1)) (in_level 1 b) (h1 b) (in_level-below 1 b (omega arith)) ∙ data2 b (omega arith)

  abbrev Covers : ℕ → Type 0
  Covers b = bit_at whole b ≡ max (bit_at d b) (cond (in_level 4 b) (both cc (2 * (b - 15))) (cond (nat_lt b 15) (both whole (2 * b + 1)) 0))

  -- a bit above the last level
  covers_above : (b : ℕ) → b + 1 < 16 → bit_at whole b ≡ max (bit_at d b) (both whole (2 * b + 1)) → Covers b
  covers_above b l e =
      e ∙ sym (λ j. max (bit_at d b) (cond (in_level-below 4 b l j) (both cc (2 * (b - 15))) (cond (less b 15 (omega arith) j) (both whole (2 * b + 1)) 0)))

  level0 : (b : ℕ) → b < 1 → Covers b
  level0 b l = covers_above b (omega arith)
      (same_in c1 f0 b (both c1 (2 * b + 1)) (in_level 0 b) (h0 b) (in_level-true 0 b (omega arith) (omega arith))
      ∙ (λ j. max (data1 b (omega arith) j) (min (sym (agree1 (2 * b + 1) (omega arith)) j) (sym (agree1 (2 * b + 1 + 1) (omega arith)) j))))

  level1 : (b : ℕ) → 1 ≤ b → b < 3 → Covers b
  level1 b m l = covers_above b (omega arith)
      (agree1 b (omega arith) ∙ same_in c2 f1 b (both c2 (2 * b + 1)) (in_level 1 b) (h1 b) (in_level-true 1 b (omega arith) (omega arith))
      ∙ (λ j. max (data2 b (omega arith) j) (min (sym (agree2 (2 * b + 1) (omega arith)) j) (sym (agree2 (2 * b + 1 + 1) (omega arith)) j))))

  level2 : (b : ℕ) → 3 ≤ b → b < 7 → Covers b
  level2 b m l = covers_above b (omega arith)
      (agree2 b (omega arith) ∙ same_in c3 f2 b (both c3 (2 * b + 1)) (in_level 2 b) (h2 b) (in_level-true 2 b (omega arith) (omega arith))
      ∙ (λ j. max (data3 b (omega arith) j) (min (sym (agree3 (2 * b + 1) (omega arith)) j) (sym (agree3 (2 * b + 1 + 1) (omega arith)) j))))

  level3 : (b : ℕ) → 7 ≤ b → b < 15 → Covers b
  level3 b m l = covers_above b (omega arith)
      (agree3 b (omega arith) ∙ same_in c4 f3 b (both c4 (2 * b + 1)) (in_level 3 b) (h3 b) (in_level-true 3 b (omega arith) (omega arith))
      ∙ (λ j. max (data4 b (omega arith) j) (min (sym (agree4 (2 * b + 1) (omega arith)) j) (sym (agree4 (2 * b + 1 + 1) (omega arith)) j))))

  level4 : (b : ℕ) → 15 ≤ b → b < 31 → Covers b
  level4 b m l =
      agree4 b (omega arith) ∙ same_in d s b (both cc (2 * (b - 15))) (in_level 4 b) (hs b) (in_level-true 4 b (omega arith) (omega arith))
      ∙ sym (λ j. max (bit_at d b) (cond (in_level-true 4 b (omega arith) (omega arith) j) (both cc (2 * (b - 15))) (cond (nat_lt b 15) (both whole (2 * b + 1)) 0)))

  level5 : (b : ℕ) → 31 ≤ b → Covers b
  level5 b m =
      agree4 b (omega arith) ∙ same_out d s b (both cc (2 * (b - 15))) (in_level 4 b) (hs b) (in_level-above 4 b (omega arith))
      ∙ sym (max_zero (bit_at d b))
      ∙ sym (λ j. max (bit_at d b) (cond (in_level-above 4 b (omega arith) j) (both cc (2 * (b - 15))) (cond (not_less b 15 (omega arith) j) (both whole (2 * b + 1)) 0)))

  pub coverage_folds : (b : ℕ) → Covers b
  coverage_folds b = elim (below_or_past b 1) [
    | inl l ↦ level0 b l
    | inr m1 ↦ elim (below_or_past b 3) [
      | inl l ↦ level1 b m1 l
      | inr m2 ↦ elim (below_or_past b 7) [
        | inl l ↦ level2 b m2 l
        | inr m3 ↦ elim (below_or_past b 15) [
          | inl l ↦ level3 b m3 l
          | inr m4 ↦ elim (below_or_past b 31) [
            | inl l ↦ level4 b m4 l
            | inr m5 ↦ level5 b m5
          ]
        ]
      ]
    ]
  ]
