-- Which addresses have an answer.
--     AllAnswered n f      f has a value at each key of n bits
--     answered n f      at how many keys of n bits f has one
--     IsCovered w m s      each address of w bits that goes on from s has an answer
--     covered_addresses w m      how many addresses of w bits have one
use Rattle.std.specs.Prelude.{◌≡◌, ℕ, ◌+◌, ◌++◌, length, IsSome, is_some}
use Rattle.std.specs.List.{count_by}
use Rattle.prefix_model.specs.Keys.{KeyBits, keys_of_length}
use Rattle.prefix_model.specs.Tables.{KeyMap, Values, answer}

abbrev pub AllAnswered : {V : Type 0} → ℕ → Values V → Type 0
AllAnswered n f = (k : KeyBits) → length k ≡ n → IsSome (f k)

unfoldable pub answered : {V : Type 0} → ℕ → Values V → ℕ
answered n f = count_by (λ k. is_some (f k)) (keys_of_length n)

abbrev pub IsCovered : {V : Type 0} → ℕ → KeyMap V → KeyBits → Type 0
IsCovered w m s = (k : KeyBits) → length k + length s ≡ w → IsSome (answer m (s ++ k))

abbrev pub covered_addresses : {V : Type 0} → ℕ → KeyMap V → ℕ
covered_addresses w m = answered w (answer m)
