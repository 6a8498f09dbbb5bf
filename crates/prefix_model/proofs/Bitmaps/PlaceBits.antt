-- The places of a node, by their bits.
use Rattle.std.specs.Prelude.{IsBitSet, ◌≡◌, ℕ, zero, suc, ◌+◌, ◌-◌, ◌*◌, ◌^◌, ◌<◌, ◌≤◌, Some, slice_get}
use Rattle.std.specs.Int.{bit_at}
use Rattle.std.proofs.Common.{◌≢◌, sym, ap, ◌∙◌, arith, refl, subst}
use Rattle.std.proofs.lemmas.Nat.Bits.{and_pow}
use Rattle.std.proofs.Math.Nat.{mod-eq_of_lt}
use Rattle.std.proofs.lemmas.Nat.{pow_pos, leading_top}
use lib.Count.{count_leading_zeros}
use Rattle.prefix_model.specs.Keys.{number, low_bits}
use Rattle.prefix_model.specs.Positions.{data_places}
use Rattle.prefix_model.proofs.KeyNumbers.{length-low_bits, number-low_bits}
use Rattle.prefix_model.proofs.KeyPlaces.{place_at}

pub set_from : (bits i : ℕ) → bit_at bits i ≡ 1 → IsBitSet bits i
set_from bits i one none = let p : bit_at bits i * 2 ^ i ≡ 0 = sym (and_pow bits i) ∙ none in positive i (bit_at bits i) one p
  where
    power : (i : ℕ) → 2 ^ i ≢ 0
    power zero e = omega arith
    power (suc i) e = power i (omega arith)

    positive : (i d : ℕ) → d ≡ 1 → d * 2 ^ i ≡ 0 → ⊥
    positive i d e p = power i ((let f : 2 ^ i ≡ 1 * 2 ^ i = omega arith in f) ∙ ap (λ k. k * 2 ^ i) (sym e) ∙ p)

-- the place of a data bit, by its level
pub place_of_level : (b l : ℕ) → l < 5 → 2 ^ l ≤ b + 1 → b + 1 < 2 ^ suc l → slice_get data_places b ≡ Some (low_bits l (b + 1 - 2 ^ l))
place_of_level b l few low high =
    let rest : b + 1 - 2 ^ l < 2 ^ l = omega (arith, low, high) in
    let n = number-low_bits l (b + 1 - 2 ^ l) ∙ mod-eq_of_lt rest in
    let e : b ≡ 2 ^ l - 1 + number (low_bits l (b + 1 - 2 ^ l)) = omega (arith, n, low) in
    ap (slice_get data_places) e ∙ place_at (low_bits l (b + 1 - 2 ^ l)) l (length-low_bits l _) few

level_small : (l : ℕ) → 2 ^ l < 32 → l < 5
level_small zero h = omega arith
level_small (suc zero) h = omega arith
level_small (suc (suc zero)) h = omega arith
level_small (suc (suc (suc zero))) h = omega arith
level_small (suc (suc (suc (suc zero)))) h = omega arith
level_small (suc (suc (suc (suc (suc l))))) h = let p = pow_pos l in absurd (omega (arith, p, h))

-- the level of a data bit
pub place_of_bit : (b : ℕ) → b < 31 → slice_get data_places b ≡ Some (low_bits (31 - count_leading_zeros 32 (b + 1)) (b + 1 - 2 ^ (31 - count_leading_zeros 32 (b + 1))))
place_of_bit b l =
    let top = leading_top 32 (b + 1) (omega arith) (omega arith) in
    let e : 31 - count_leading_zeros 32 (b + 1) ≡ top.0 = let f = top.1 in omega (arith, f) in
    let low = top.2 in
    let small = level_small top.0 (omega (arith, low)) in
    ap (slice_get data_places) refl ∙ place_of_level b top.0 small low top.3 ∙ ap (λ n. Some (low_bits n (b + 1 - 2 ^ n))) (sym e)

pub level_from : (b : ℕ) → b < 31 → 2 ^ (31 - count_leading_zeros 32 (b + 1)) ≤ b + 1
level_from b l =
    let top = leading_top 32 (b + 1) (omega arith) (omega arith) in
    let e : 31 - count_leading_zeros 32 (b + 1) ≡ top.0 = let f = top.1 in omega (arith, f) in
    subst (λ (n : ℕ). 2 ^ n ≤ b + 1) (sym e) top.2

pub level_to : (b : ℕ) → b < 31 → b + 1 < 2 * 2 ^ (31 - count_leading_zeros 32 (b + 1))
level_to b l =
    let top = leading_top 32 (b + 1) (omega arith) (omega arith) in
    let e : 31 - count_leading_zeros 32 (b + 1) ≡ top.0 = let f = top.1 in omega (arith, f) in
    let high = top.3 in
    subst (λ (n : ℕ). b + 1 < 2 * 2 ^ n) (sym e) (omega (arith, high))

pub level_limit : (b : ℕ) → b < 31 → 31 - count_leading_zeros 32 (b + 1) < 5
level_limit b l =
    let top = leading_top 32 (b + 1) (omega arith) (omega arith) in
    let e : 31 - count_leading_zeros 32 (b + 1) ≡ top.0 = let f = top.1 in omega (arith, f) in
    let low = top.2 in
    let small = level_small top.0 (omega (arith, low)) in
    omega (arith, e, small)
