-- What folds, pushes and coverage do to each bit.
use Rattle.std.specs.Prelude.{◌≡◌, ℕ, suc, ◌+◌, ◌-◌, ◌*◌, ◌/◌, ◌%◌, ◌^◌, ◌<◌, ◌≤◌, ◌&&◌, min, nat_lt, Bool, true, false, cond, List, [], ◌∷◌, map, drop, bit_and, bit_or}
use Rattle.std.proofs.Common.{refl, sym, ap, ◌∙◌, arith, get_or, inl, inr}
use Rattle.std.specs.Int.{bit_at}
use Rattle.std.specs.List.{range_with_len}
use Rattle.std.proofs.lemmas.Nat.Bits.{bit_at-lt, bit_at_and}
use Rattle.std.proofs.lemmas.List.FromFn.{get_or-map-range_with_len}
use lib.Pow.{pow_mono}
use Rattle.prefix_model.specs.Positions.{bits_of}
use Rattle.prefix_model.specs.Bits.{any_set, in_level, both, ancestors}
use Rattle.prefix_model.proofs.Bitmaps.WordBits.{Shows, itself, shows_itself, shows_and, shows_or, shows_shr, shows_shl, shown_one, shown, masked, either, raised, const_bits, below_or_past, any_cond, past_listed, less, not_less, under_mask, bit_at_shr, bit_at_shl_low, bit_at_shl_high, bit_at_shl_above, in_level-true, in_level-below, in_level-above, level_low, level_high}
use Rattle.prefix_model.proofs.KeyLemmas.{and_false}

-- `w & 0x5555_5555`, and then pairs, fours, eights and sixteens closer together
pub evens_shown : (y : ℕ) → y < 2 ^ 32 → (b : ℕ) →
    let ones : ℕ = bit_and y 1431655765 in
    let twos : ℕ = bit_and (bit_or ones (ones / 2 ^ 1)) 858993459 in
    let fours : ℕ = bit_and (bit_or twos (twos / 2 ^ 2)) 252645135 in
    let eights : ℕ = bit_and (bit_or fours (fours / 2 ^ 4)) 16711935 in
    bit_at (bit_and (bit_or eights (eights / 2 ^ 8)) 65535) b ≡ cond (nat_lt b 16) (bit_at y (2 * b)) 0
evens_shown y fits b =
    let step : (z k m : ℕ) (ss : List (List ℕ)) → m < 2 ^ 32 → Shows y z ss → Shows y (bit_and (bit_or z (z / 2 ^ k)) m) (masked (either ss (drop k ss)) (bits_of 32 m)) =
    λ z k m ss l h. shows_and y (bit_or z (z / 2 ^ k)) m (either ss (drop k ss)) l (shows_or y z (z / 2 ^ k) ss (drop k ss) h (shows_shr y z k ss h)) in
    let ones = shows_and y y 1431655765 itself (omega arith) (shows_itself y fits) in
    let twos = step _ 1 858993459 _ (omega arith) ones in
    let fours = step _ 2 252645135 _ (omega arith) twos in
    let eights = step _ 4 16711935 _ (omega arith) fours in
    let whole = step _ 8 65535 _ (omega arith) eights in
    shown_one y _ _ (λ n. nat_lt n 16) (λ n. 2 * n) whole refl (λ n l. not_less n 16 (omega arith)) b

pub doubled_shown : (y : ℕ) → y < 2 ^ 32 → (b : ℕ) →
    let whole : ℕ = bit_and y 65535 in
    let eights : ℕ = bit_and (bit_or whole (whole * 2 ^ 8 % 4294967296)) 16711935 in
    let fours : ℕ = bit_and (bit_or eights (eights * 2 ^ 4 % 4294967296)) 252645135 in
    let twos : ℕ = bit_and (bit_or fours (fours * 2 ^ 2 % 4294967296)) 858993459 in
    let ones : ℕ = bit_and (bit_or twos (twos * 2 ^ 1 % 4294967296)) 1431655765 in
    bit_at (bit_or ones (ones * 2 ^ 1 % 4294967296)) b ≡ cond (nat_lt b 32) (bit_at y (b / 2)) 0
doubled_shown y fits b =
    let spread : (z k : ℕ) (ss : List (List ℕ)) → Shows y z ss → Shows y (bit_or z (z * 2 ^ k % 4294967296)) (either ss (raised k ss)) =
    λ z k ss h. shows_or y z (z * 2 ^ k % 4294967296) ss (raised k ss) h (shows_shl y z k ss h) in
    let step : (z k m : ℕ) (ss : List (List ℕ)) → m < 2 ^ 32 → Shows y z ss → Shows y (bit_and (bit_or z (z * 2 ^ k % 4294967296)) m) (masked (either ss (raised k ss)) (bits_of 32 m)) =
    λ z k m ss l h. shows_and y (bit_or z (z * 2 ^ k % 4294967296)) m (either ss (raised k ss)) l (spread z k ss h) in
    let whole = shows_and y y 65535 itself (omega arith) (shows_itself y fits) in
    let eights = step _ 8 16711935 _ (omega arith) whole in
    let fours = step _ 4 252645135 _ (omega arith) eights in
    let twos = step _ 2 858993459 _ (omega arith) fours in
    let ones = step _ 1 1431655765 _ (omega arith) twos in
    let both = spread _ 1 _ ones in
    shown_one y _ _ (λ n. nat_lt n 32) (λ n. n / 2) both refl (λ n l. not_less n 32 l) b

-- a choice by a test
inside : (t : Bool) (x y : ℕ) → (t ≡ true → x ≡ y) → cond t x 0 ≡ cond t y 0
inside true x y h = h refl
inside false x y h = refl

-- ---- folds

pub parents_shown : (cov e : ℕ) → ((i : ℕ) → bit_at e i ≡ cond (nat_lt i 16) (bit_at (bit_and (cov * 2 ^ 1 % 4294967296) cov) (2 * i)) 0)
    → (b : ℕ) → bit_at (e / 2 ^ 1) b ≡ cond (nat_lt b 15) (both cov (2 * b + 1)) 0
parents_shown cov e h b =
    let first = bit_at_shr e 1 b ∙ h (1 + b) in
    elim (below_or_past b 15) [
      | inl l ↦
          let odd : 2 * (1 + b) - 1 ≡ 2 * b + 1 = omega arith in
          let even : 2 * (1 + b) ≡ 2 * b + 1 + 1 = omega arith in
          first ∙ ap (λ t. cond t (bit_at (bit_and (cov * 2 ^ 1 % 4294967296) cov) (2 * (1 + b))) 0) (less (1 + b) 16 (omega arith))
          ∙ bit_at_and (cov * 2 ^ 1 % 4294967296) cov (2 * (1 + b))
          ∙ (λ j. min ((bit_at_shl_high cov 1 (2 * (1 + b)) (omega arith) (omega arith) ∙ ap (bit_at cov) odd) j) (bit_at cov (even j)))
          ∙ sym (ap (λ t. cond t (both cov (2 * b + 1)) 0) (less b 15 l))
      | inr l ↦
          first ∙ ap (λ t. cond t (bit_at (bit_and (cov * 2 ^ 1 % 4294967296) cov) (2 * (1 + b))) 0) (not_less (1 + b) 16 (omega arith))
          ∙ sym (ap (λ t. cond t (both cov (2 * b + 1)) 0) (not_less b 15 l))
    ]

-- a word under a mask
under : (p m b : ℕ) (t : Bool) → bit_at m b ≡ cond t 1 0 → bit_at (bit_and p m) b ≡ cond t (bit_at p b) 0
under p m b t h = bit_at_and p m b ∙ ap (min (bit_at p b)) h ∙ under_mask (bit_at p b) t (bit_at-lt p b)

pub folded : (cov p m l : ℕ) → l < 4 → ((b : ℕ) → bit_at p b ≡ cond (nat_lt b 15) (both cov (2 * b + 1)) 0) → ((b : ℕ) → bit_at m b ≡ cond (in_level l b) 1 0)
    → (b : ℕ) → bit_at (bit_and p m) b ≡ cond (in_level l b) (both cov (2 * b + 1)) 0
folded cov p m l few h mask b =
    under p m b (in_level l b) (mask b)
    ∙ inside (in_level l b) (bit_at p b) (both cov (2 * b + 1)) (λ t.
    let high = level_high l b t in
    let top : 2 ^ suc l ≤ 2 ^ 4 = pow_mono (let s : suc l ≤ 4 = omega arith in s) in
    h b ∙ ap (λ t. cond t (both cov (2 * b + 1)) 0) (less b 15 (omega (arith, high, top))))

past_level : (l : ℕ) → l < 5 → (b : ℕ) → 32 ≤ b → in_level l b ≡ false
past_level l few b past =
    let top : 2 ^ suc l ≤ 2 ^ 5 = pow_mono (let s : suc l ≤ 5 = omega arith in s) in
    in_level-above l b (omega (arith, top))

-- the masks of the levels
pub level_0 : (b : ℕ) → bit_at 1 b ≡ cond (in_level 0 b) 1 0
level_0 = const_bits 1 (in_level 0) (omega arith) refl (past_level 0 (omega arith))

pub level_1 : (b : ℕ) → bit_at 6 b ≡ cond (in_level 1 b) 1 0
level_1 = const_bits 6 (in_level 1) (omega arith) refl (past_level 1 (omega arith))

pub level_2 : (b : ℕ) → bit_at 120 b ≡ cond (in_level 2 b) 1 0
level_2 = const_bits 120 (in_level 2) (omega arith) refl (past_level 2 (omega arith))

pub level_3 : (b : ℕ) → bit_at 32640 b ≡ cond (in_level 3 b) 1 0
level_3 = const_bits 32640 (in_level 3) (omega arith) refl (past_level 3 (omega arith))

pub level_4 : (b : ℕ) → bit_at 2147450880 b ≡ cond (in_level 4 b) 1 0
level_4 = const_bits 2147450880 (in_level 4) (omega arith) refl (past_level 4 (omega arith))

pub slots_folded : (cc e : ℕ) → ((i : ℕ) → bit_at e i ≡ cond (nat_lt i 16) (bit_at (bit_and cc (cc / 2 ^ 1)) (2 * i)) 0)
    → (b : ℕ) → bit_at (e * 2 ^ 15 % 4294967296) b ≡ cond (in_level 4 b) (both cc (2 * (b - 15))) 0
slots_folded cc e h b =
    elim (below_or_past b 15) [
      | inl low ↦ bit_at_shl_low e 15 b low (omega arith) ∙ sym (ap (λ t. cond t (both cc (2 * (b - 15))) 0) (in_level-below 4 b (omega arith)))
      | inr high ↦ elim (below_or_past b 32) [
        | inl within ↦ elim (below_or_past b 31) [
          | inl some ↦
              let next : 1 + 2 * (b - 15) ≡ 2 * (b - 15) + 1 = omega arith in
              bit_at_shl_high e 15 b high within ∙ h (b - 15)
              ∙ ap (λ t. cond t (bit_at (bit_and cc (cc / 2 ^ 1)) (2 * (b - 15))) 0) (less (b - 15) 16 (omega arith))
              ∙ bit_at_and cc (cc / 2 ^ 1) (2 * (b - 15))
              ∙ ap (min (bit_at cc (2 * (b - 15)))) (bit_at_shr cc 1 (2 * (b - 15)) ∙ ap (bit_at cc) next)
              ∙ sym (ap (λ t. cond t (both cc (2 * (b - 15))) 0) (in_level-true 4 b (omega arith) (omega arith)))
          | inr last ↦
              bit_at_shl_high e 15 b high within ∙ h (b - 15)
              ∙ ap (λ t. cond t (bit_at (bit_and cc (cc / 2 ^ 1)) (2 * (b - 15))) 0) (not_less (b - 15) 16 (omega arith))
              ∙ sym (ap (λ t. cond t (both cc (2 * (b - 15))) 0) (in_level-above 4 b (omega arith)))
        ]
        | inr past ↦ bit_at_shl_above e 15 b past ∙ sym (ap (λ t. cond t (both cc (2 * (b - 15))) 0) (in_level-above 4 b (omega arith)))
      ]
    ]

-- ---- pushes

pub halves_shown : (m d : ℕ) → ((i : ℕ) → bit_at d i ≡ cond (nat_lt i 32) (bit_at (m * 2 ^ 1 % 4294967296) (i / 2)) 0)
    → (b : ℕ) → bit_at (d / 2 ^ 1) b ≡ cond (nat_lt 0 b && nat_lt b 31) (bit_at m ((b - 1) / 2)) 0
halves_shown m d h b =
    let first = bit_at_shr d 1 b ∙ h (1 + b) in
    let target = λ (t : Bool). cond t (bit_at m ((b - 1) / 2)) 0 in
    elim (below_or_past 0 b) [
      | inl some ↦ elim (below_or_past b 31) [
        | inl l ↦
            let parent : (1 + b) / 2 - 1 ≡ (b - 1) / 2 = omega arith in
            first ∙ ap (λ t. cond t (bit_at (m * 2 ^ 1 % 4294967296) ((1 + b) / 2)) 0) (less (1 + b) 32 (omega arith))
            ∙ bit_at_shl_high m 1 ((1 + b) / 2) (omega arith) (omega arith) ∙ ap (bit_at m) parent
            ∙ sym (λ j. target (less 0 b some j && less b 31 l j))
        | inr l ↦
            first ∙ ap (λ t. cond t (bit_at (m * 2 ^ 1 % 4294967296) ((1 + b) / 2)) 0) (not_less (1 + b) 32 (omega arith))
            ∙ sym (ap target (ap (λ t. nat_lt 0 b && t) (not_less b 31 l) ∙ and_false (nat_lt 0 b)))
      ]
      | inr none ↦
          let zero_half : (1 + b) / 2 ≡ 0 = omega arith in
          first ∙ ap (λ t. cond t (bit_at (m * 2 ^ 1 % 4294967296) ((1 + b) / 2)) 0) (less (1 + b) 32 (omega arith))
          ∙ ap (bit_at (m * 2 ^ 1 % 4294967296)) zero_half ∙ bit_at_shl_low m 1 0 (omega arith) (omega arith)
          ∙ sym (ap target (ap (λ t. t && nat_lt b 31) (not_less 0 b none)))
    ]

pub pushed : (m p k l : ℕ) → l < 4 → ((b : ℕ) → bit_at p b ≡ cond (nat_lt 0 b && nat_lt b 31) (bit_at m ((b - 1) / 2)) 0) → ((b : ℕ) → bit_at k b ≡ cond (in_level (suc l) b) 1 0)
    → (b : ℕ) → bit_at (bit_and p k) b ≡ cond (in_level (suc l) b) (bit_at m ((b - 1) / 2)) 0
pushed m p k l few h mask b =
    under p k b (in_level (suc l) b) (mask b)
    ∙ inside (in_level (suc l) b) (bit_at p b) (bit_at m ((b - 1) / 2)) (λ t.
    let low = level_low (suc l) b t in
    let high = level_high (suc l) b t in
    let base : 2 ^ 1 ≤ 2 ^ suc l = pow_mono (let s : 1 ≤ suc l = omega arith in s) in
    let top : 2 ^ suc (suc l) ≤ 2 ^ 5 = pow_mono (let s : suc (suc l) ≤ 5 = omega arith in s) in
    h b ∙ (λ j. cond (less 0 b (omega (arith, low, base)) j && less b 31 (omega (arith, high, top)) j) (bit_at m ((b - 1) / 2)) 0))

pub slots_pushed : (m d : ℕ) → ((i : ℕ) → bit_at d i ≡ cond (nat_lt i 32) (bit_at (m / 2 ^ 15) (i / 2)) 0)
    → (c : ℕ) → bit_at d c ≡ cond (nat_lt c 32) (bit_at m (15 + c / 2)) 0
slots_pushed m d h c = h c ∙ ap (λ x. cond (nat_lt c 32) x 0) (bit_at_shr m 15 (c / 2))

-- ---- coverage by members

shows_push : (y m r l : ℕ) (ss : List (List ℕ)) → l < 4 → Shows y m ss → ((b : ℕ) → bit_at r b ≡ cond (in_level (suc l) b) (bit_at m ((b - 1) / 2)) 0)
    → Shows y r (map (λ b. cond (in_level (suc l) b) (get_or ss ((b - 1) / 2) []) []) (range_with_len 0 32))
unfolding Shows
shows_push y m r l ss few h push b =
    let f = λ (n : ℕ). cond (in_level (suc l) n) (get_or ss ((n - 1) / 2) []) [] in
    let first = push b ∙ ap (λ x. cond (in_level (suc l) b) x 0) (h ((b - 1) / 2)) ∙ sym (any_cond y (in_level (suc l) b) (get_or ss ((b - 1) / 2) [])) in
    elim (below_or_past b 32) [
      | inl within ↦ first ∙ ap (any_set y) (sym (get_or-map-range_with_len f 0 32 b b [] within (omega arith)))
      | inr past ↦ first ∙ ap (any_set y) (ap (λ t. cond t (get_or ss ((b - 1) / 2) []) []) (past_level (suc l) (omega arith) b past) ∙ sym (past_listed f b past))
    ]

shows_slots : (y m r : ℕ) (ss : List (List ℕ)) → Shows y m ss → ((c : ℕ) → bit_at r c ≡ cond (nat_lt c 32) (bit_at m (15 + c / 2)) 0)
    → Shows y r (map (λ c. cond (nat_lt c 32) (get_or ss (15 + c / 2) []) []) (range_with_len 0 32))
unfolding Shows
shows_slots y m r ss h push c =
    let f = λ (n : ℕ). cond (nat_lt n 32) (get_or ss (15 + n / 2) []) [] in
    let first = push c ∙ ap (λ x. cond (nat_lt c 32) x 0) (h (15 + c / 2)) ∙ sym (any_cond y (nat_lt c 32) (get_or ss (15 + c / 2) [])) in
    elim (below_or_past c 32) [
      | inl within ↦ first ∙ ap (any_set y) (sym (get_or-map-range_with_len f 0 32 c c [] within (omega arith)))
      | inr past ↦ first ∙ ap (any_set y) (ap (λ t. cond t (get_or ss (15 + c / 2) []) []) (not_less c 32 past) ∙ sym (past_listed f c past))
    ]

module _ (d first second third fourth : ℕ) (fits : d < 2 ^ 32)
    (h1 : (b : ℕ) → bit_at first b ≡ cond (in_level 1 b) (bit_at d ((b - 1) / 2)) 0)
    (h2 : (b : ℕ) → bit_at second b ≡ cond (in_level 2 b) (bit_at (bit_or d first) ((b - 1) / 2)) 0)
    (h3 : (b : ℕ) → bit_at third b ≡ cond (in_level 3 b) (bit_at (bit_or d second) ((b - 1) / 2)) 0)
    (h4 : (b : ℕ) → bit_at fourth b ≡ cond (in_level 4 b) (bit_at (bit_or d third) ((b - 1) / 2)) 0) where
  pub members_above : (b : ℕ) → bit_at (bit_or (bit_or (bit_or first second) third) fourth) b ≡ cond (nat_lt b 31) (any_set d (ancestors b)) 0
  members_above b =
      let s0 = shows_itself d fits in
      let s1 = shows_push d d first 0 itself (omega arith) s0 h1 in
      let s2 = shows_push d _ second 1 _ (omega arith) (shows_or d d first itself _ s0 s1) h2 in
      let s3 = shows_push d _ third 2 _ (omega arith) (shows_or d d second itself _ s0 s2) h3 in
      let s4 = shows_push d _ fourth 3 _ (omega arith) (shows_or d d third itself _ s0 s3) h4 in
      let all = shows_or d _ fourth _ _ (shows_or d _ third _ _ (shows_or d first second _ _ s1 s2) s3) s4 in
      shown d _ _ (λ n. cond (nat_lt n 31) (ancestors n) []) all refl (λ n l. ap (λ t. cond t (ancestors n) []) (not_less n 31 (omega arith))) b
      ∙ any_cond d (nat_lt b 31) (ancestors b)

  pub members_above_slots : (slots : ℕ) → ((c : ℕ) → bit_at slots c ≡ cond (nat_lt c 32) (bit_at (bit_or d fourth) (15 + c / 2)) 0)
      → (c : ℕ) → bit_at slots c ≡ cond (nat_lt c 32) (any_set d ((15 + c / 2) ∷ ancestors (15 + c / 2))) 0
  members_above_slots slots h5 c =
      let s0 = shows_itself d fits in
      let s1 = shows_push d d first 0 itself (omega arith) s0 h1 in
      let s2 = shows_push d _ second 1 _ (omega arith) (shows_or d d first itself _ s0 s1) h2 in
      let s3 = shows_push d _ third 2 _ (omega arith) (shows_or d d second itself _ s0 s2) h3 in
      let s4 = shows_push d _ fourth 3 _ (omega arith) (shows_or d d third itself _ s0 s3) h4 in
      let all = shows_slots d _ slots _ (shows_or d d fourth itself _ s0 s4) h5 in
      shown d _ _ (λ n. cond (nat_lt n 32) ((15 + n / 2) ∷ ancestors (15 + n / 2)) []) all refl (λ n l. ap (λ t. cond t ((15 + n / 2) ∷ ancestors (15 + n / 2)) []) (not_less n 32 l)) c
      ∙ any_cond d (nat_lt c 32) ((15 + c / 2) ∷ ancestors (15 + c / 2))
