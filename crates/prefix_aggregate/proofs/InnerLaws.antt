-- The inner places of a node, by its words.
use Rattle.std.specs.Prelude.{◌≡◌, ℕ, zero, suc, ◌+◌, ◌-◌, ◌*◌, ◌/◌, ◌%◌, ◌^◌, ◌<◌, ◌≤◌, ◌==◌, ◌||◌, max, nat_lt, nat_le, Bool, true, false, cond, bit_or}
use Rattle.std.proofs.Common.{refl, sym, ap, ◌∙◌, arith, inl, inr}
use Rattle.std.specs.Int.{bit_at}
use Rattle.std.proofs.lemmas.Nat.Bits.{bit_at_or, bit_at-lt, bit_at-zero, bit_at_above}
use Rattle.prefix_model.specs.Bits.{in_level}
use Rattle.prefix_aggregate.specs.Inner.{has_pair, either, AreInner}
use Rattle.prefix_model.proofs.Bitmaps.WordBits.{below_or_past, less, not_less, max_zero, bit_at_shr, bit_at_shl_low, bit_at_shl_high, bit_at_shl_above, in_level-true, in_level-below, in_level-above}

pub halves_shown : (bits e : ℕ) → ((i : ℕ) → bit_at e i ≡ cond (nat_lt i 16) (bit_at (bit_or (bits * 2 ^ 1 % 4294967296) bits) (2 * i)) 0)
    → (b : ℕ) → bit_at (e / 2 ^ 1) b ≡ cond (nat_lt b 15) (either bits (2 * b + 1)) 0
halves_shown bits e h b =
    let first = bit_at_shr e 1 b ∙ h (1 + b) in
    elim (below_or_past b 15) [
      | inl l ↦
          let odd : 2 * (1 + b) - 1 ≡ 2 * b + 1 = omega arith in
          let even : 2 * (1 + b) ≡ 2 * b + 1 + 1 = omega arith in
          first ∙ ap (λ t. cond t (bit_at (bit_or (bits * 2 ^ 1 % 4294967296) bits) (2 * (1 + b))) 0) (less (1 + b) 16 (omega arith))
          ∙ bit_at_or (bits * 2 ^ 1 % 4294967296) bits (2 * (1 + b))
          ∙ (λ j. max ((bit_at_shl_high bits 1 (2 * (1 + b)) (omega arith) (omega arith) ∙ ap (bit_at bits) odd) j) (bit_at bits (even j)))
          ∙ sym (ap (λ t. cond t (either bits (2 * b + 1)) 0) (less b 15 l))
      | inr l ↦
          first ∙ ap (λ t. cond t (bit_at (bit_or (bits * 2 ^ 1 % 4294967296) bits) (2 * (1 + b))) 0) (not_less (1 + b) 16 (omega arith))
          ∙ sym (ap (λ t. cond t (either bits (2 * b + 1)) 0) (not_less b 15 l))
    ]

pub slots_shown : (child e : ℕ) → ((i : ℕ) → bit_at e i ≡ cond (nat_lt i 16) (bit_at (bit_or child (child / 2 ^ 1)) (2 * i)) 0)
    → (b : ℕ) → bit_at (e * 2 ^ 15 % 4294967296) b ≡ cond (in_level 4 b) (either child (2 * (b - 15))) 0
slots_shown child e h b =
    elim (below_or_past b 15) [
      | inl low ↦ bit_at_shl_low e 15 b low (omega arith) ∙ sym (ap (λ t. cond t (either child (2 * (b - 15))) 0) (in_level-below 4 b (omega arith)))
      | inr high ↦ elim (below_or_past b 32) [
        | inl within ↦ elim (below_or_past b 31) [
          | inl some ↦
              let next : 1 + 2 * (b - 15) ≡ 2 * (b - 15) + 1 = omega arith in
              bit_at_shl_high e 15 b high within ∙ h (b - 15)
              ∙ ap (λ t. cond t (bit_at (bit_or child (child / 2 ^ 1)) (2 * (b - 15))) 0) (less (b - 15) 16 (omega arith))
              ∙ bit_at_or child (child / 2 ^ 1) (2 * (b - 15))
              ∙ ap (max (bit_at child (2 * (b - 15)))) (bit_at_shr child 1 (2 * (b - 15)) ∙ ap (bit_at child) next)
              ∙ sym (ap (λ t. cond t (either child (2 * (b - 15))) 0) (in_level-true 4 b (omega arith) (omega arith)))
          | inr last ↦
              bit_at_shl_high e 15 b high within ∙ h (b - 15)
              ∙ ap (λ t. cond t (bit_at (bit_or child (child / 2 ^ 1)) (2 * (b - 15))) 0) (not_less (b - 15) 16 (omega arith))
              ∙ sym (ap (λ t. cond t (either child (2 * (b - 15))) 0) (in_level-above 4 b (omega arith)))
        ]
        | inr past ↦ bit_at_shl_above e 15 b past ∙ sym (ap (λ t. cond t (either child (2 * (b - 15))) 0) (in_level-above 4 b (omega arith)))
      ]
    ]

pub no_slots_shown : (child : ℕ) → child ≡ 0 → (b : ℕ) → bit_at 0 b ≡ cond (in_level 4 b) (either child (2 * (b - 15))) 0
no_slots_shown child none b = bit_at-zero b ∙ sym ((λ i. cond (in_level 4 b) (max (clear (2 * (b - 15)) i) (clear (2 * (b - 15) + 1) i)) 0) ∙ neither (in_level 4 b))
  where
    clear : (i : ℕ) → bit_at child i ≡ 0
    clear i = ap (λ n. bit_at n i) none ∙ bit_at-zero i

    neither : (t : Bool) → cond t (max 0 0) 0 ≡ 0
    neither true = refl
    neither false = refl

-- ---- step by step from the last level up

either_pair : (bits i : ℕ) → (either bits i == 1) ≡ has_pair bits i
either_pair bits i = of (bit_at bits i) (bit_at bits (i + 1)) (bit_at-lt bits i) (bit_at-lt bits (i + 1))
  where
    of : (x y : ℕ) → x < 2 → y < 2 → (max x y == 1) ≡ ((x == 1) || (y == 1))
    of zero zero l m = refl
    of zero (suc zero) l m = refl
    of (suc zero) zero l m = refl
    of (suc zero) (suc zero) l m = refl
    of zero (suc (suc y)) l m = absurd (omega arith)
    of (suc zero) (suc (suc y)) l m = absurd (omega arith)
    of (suc (suc x)) y l m = absurd (omega arith)

module _ (stored child last : ℕ) (slots : (b : ℕ) → bit_at last b ≡ cond (in_level 4 b) (either child (2 * (b - 15))) 0) where
  abbrev IsNext : ℕ → ℕ → Type 0
  IsNext m n = (b : ℕ) → bit_at n b ≡ max (bit_at last b) (cond (nat_lt b 15) (either (bit_or stored m) (2 * b + 1)) 0)

  alike : (m n i : ℕ) → bit_at m i ≡ bit_at n i → bit_at (bit_or stored m) i ≡ bit_at (bit_or stored n) i
  alike m n i e = bit_at_or stored m i ∙ ap (max (bit_at stored i)) e ∙ sym (bit_at_or stored n i)

  -- words that are alike from the halves of the place k on have steps that are alike from k on
  next_alike : (m n k : ℕ) → ((b : ℕ) → 2 * k + 1 ≤ b → bit_at m b ≡ bit_at n b) → (b : ℕ) → k ≤ b
      → max (bit_at last b) (cond (nat_lt b 15) (either (bit_or stored m) (2 * b + 1)) 0) ≡ max (bit_at last b) (cond (nat_lt b 15) (either (bit_or stored n) (2 * b + 1)) 0)
  next_alike m n k same b from =
      λ j. max (bit_at last b) (cond (nat_lt b 15) (max (alike m n (2 * b + 1) (same (2 * b + 1) (omega (arith, from))) j) (alike m n (2 * b + 1 + 1) (same (2 * b + 1 + 1) (omega (arith, from))) j)) 0)

  steps_alike : (m n o k : ℕ) → IsNext m n → IsNext n o → ((b : ℕ) → 2 * k + 1 ≤ b → bit_at m b ≡ bit_at n b) → (b : ℕ) → k ≤ b → bit_at n b ≡ bit_at o b
  steps_alike m n o k hn ho same b from = hn b ∙ next_alike m n k same b from ∙ sym (ho b)

  pub inner_found : (third second first inner : ℕ) → IsNext last third → IsNext third second → IsNext second first → IsNext first inner → AreInner stored child inner 0
  inner_found third second first inner h3 h2 h1 h0 b from small = elim (below_or_past b 15) [
    | inl low ↦
        ap (λ d. d == 1) (whole b ∙ (λ j. max ((slots b ∙ ap (λ t. cond t (either child (2 * (b - 15))) 0) (in_level-below 4 b (omega (arith, low)))) j) (cond (less b 15 low j) (either (bit_or stored inner) (2 * b + 1)) 0)) ∙ zero_max (either (bit_or stored inner) (2 * b + 1)))
        ∙ either_pair (bit_or stored inner) (2 * b + 1)
        ∙ sym (ap (λ t. cond t (has_pair child (2 * (b - 15))) (has_pair (bit_or stored inner) (2 * b + 1))) (not_le 15 b low))
    | inr high ↦
        ap (λ d. d == 1) (whole b ∙ (λ j. max ((slots b ∙ ap (λ t. cond t (either child (2 * (b - 15))) 0) (in_level-true 4 b (omega (arith, high)) (omega (arith, small)))) j) (cond (not_less b 15 high j) (either (bit_or stored inner) (2 * b + 1)) 0)) ∙ max_zero (either child (2 * (b - 15))))
        ∙ either_pair child (2 * (b - 15))
        ∙ sym (ap (λ t. cond t (has_pair child (2 * (b - 15))) (has_pair (bit_or stored inner) (2 * b + 1))) (is_le 15 b high))
  ]
    where
      zero_max : (x : ℕ) → max 0 x ≡ x
      zero_max x = omega arith

      not_le : (a b : ℕ) → b < a → nat_le a b ≡ false
      not_le a b h = grind (arith, h)

      is_le : (a b : ℕ) → a ≤ b → nat_le a b ≡ true
      is_le a b h = grind (arith, h)

      from_last : (b : ℕ) → 2 * 7 + 1 ≤ b → bit_at last b ≡ bit_at third b
      from_last b h = sym (h3 b ∙ ap (λ t. max (bit_at last b) (cond t (either (bit_or stored last) (2 * b + 1)) 0)) (not_less b 15 (omega (arith, h))) ∙ max_zero (bit_at last b))

      from_third : (b : ℕ) → 7 ≤ b → bit_at third b ≡ bit_at second b
      from_third = steps_alike last third second 7 h3 h2 from_last

      from_second : (b : ℕ) → 3 ≤ b → bit_at second b ≡ bit_at first b
      from_second = steps_alike third second first 3 h2 h1 (λ b h. from_third b (omega (arith, h)))

      from_first : (b : ℕ) → 1 ≤ b → bit_at first b ≡ bit_at inner b
      from_first = steps_alike second first inner 1 h1 h0 (λ b h. from_second b (omega (arith, h)))

      whole : (b : ℕ) → bit_at inner b ≡ max (bit_at last b) (cond (nat_lt b 15) (either (bit_or stored inner) (2 * b + 1)) 0)
      whole b = h0 b ∙ next_alike first inner 0 (λ b h. from_first b (omega (arith, h))) b (omega arith)

-- where there is no value but at the first place, and no child, no place is inner
pub none_inner : (stored child : ℕ) → stored ≤ 1 → child ≡ 0 → AreInner stored child 0 0
none_inner stored child few none b from within =
    ap (λ d. d == 1) (bit_at-zero b)
    ∙ sym ((λ i. cond (nat_le 15 b) (pair_clear child (2 * (b - 15)) (no_child (2 * (b - 15))) (no_child (2 * (b - 15) + 1)) i) (pair_clear (bit_or stored 0) (2 * b + 1) (no_value (2 * b + 1) (omega arith)) (no_value (2 * b + 1 + 1) (omega arith)) i))
    ∙ neither (nat_le 15 b))
  where
    no_child : (i : ℕ) → bit_at child i ≡ 0
    no_child i = ap (λ n. bit_at n i) none ∙ bit_at-zero i

    no_value : (i : ℕ) → 1 ≤ i → bit_at (bit_or stored 0) i ≡ 0
    no_value i h =
        let e = bit_at_or stored 0 i in
        let l = bit_at_above stored 1 i (omega (arith, few)) h in
        let z = bit_at-zero i in
        omega (arith, e, l, z)

    pair_clear : (bits i : ℕ) → bit_at bits i ≡ 0 → bit_at bits (i + 1) ≡ 0 → has_pair bits i ≡ false
    pair_clear bits i e f = λ j. (e j == 1) || (f j == 1)

    neither : (t : Bool) → cond t false false ≡ false
    neither true = refl
    neither false = refl
