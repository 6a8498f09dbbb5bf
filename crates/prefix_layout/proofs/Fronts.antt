-- Records in a front of bytes.
use Rattle.std.proofs.Common.{◌≡◌, ℕ, zero, suc, ◌+◌, ◌*◌, ◌≤◌, List, ◌∷◌, take, drop, refl, ap, ◌∙◌, arith}
use Rattle.std.proofs.lemmas.List.{take-take, drop-take}
use Rattle.std.specs.Int.{w32, from_le_bytes}
use Rattle.prefix_model.specs.FirstCause.{first_word, read_record, read_records}

-- a word is in the first four bytes
word_in_front : (k : ℕ) (bytes : List ℕ) → 4 ≤ k → first_word (take k bytes) ≡ first_word bytes
unfolding first_word
word_in_front k bytes h = ap (from_le_bytes w32) (take-take 4 k bytes h)

-- and so behind others
word_behind : (n k : ℕ) (bytes : List ℕ) → 4 ≤ k → first_word (drop n (take (n + k) bytes)) ≡ first_word (drop n bytes)
word_behind n k bytes h = ap first_word (drop-take n k bytes) ∙ word_in_front k (drop n bytes) h

-- a record is in the first sixteen bytes
record_in_front : (k : ℕ) (bytes : List ℕ) → read_record (take (16 + k) bytes) ≡ read_record bytes
record_in_front k bytes =
    let second : 16 + k ≡ 4 + (12 + k) = omega arith in
    let third : 16 + k ≡ 8 + (8 + k) = omega arith in
    let fourth : 16 + k ≡ 12 + (4 + k) = omega arith in
    λ i. record {
      data_bits = word_in_front (16 + k) bytes (omega arith) i;
      child_bits = (ap (λ n. first_word (drop 4 (take n bytes))) second ∙ word_behind 4 (12 + k) bytes (omega arith)) i;
      data_index = (ap (λ n. first_word (drop 8 (take n bytes))) third ∙ word_behind 8 (8 + k) bytes (omega arith)) i;
      child_index = (ap (λ n. first_word (drop 12 (take n bytes))) fourth ∙ word_behind 12 (4 + k) bytes (omega arith)) i;
    }

-- so many records are in so many bytes
pub records_in_front : (n : ℕ) (bytes : List ℕ) → read_records n (take (16 * n) bytes) ≡ read_records n bytes
records_in_front zero bytes = refl
records_in_front (suc n) bytes =
    let size : 16 * suc n ≡ 16 + 16 * n = omega arith in
    ap (λ m. read_records (suc n) (take m bytes)) size
    ∙ (λ i. record_in_front (16 * n) bytes i ∷ (ap (read_records n) (drop-take 16 (16 * n) bytes) ∙ records_in_front n (drop 16 bytes)) i)
