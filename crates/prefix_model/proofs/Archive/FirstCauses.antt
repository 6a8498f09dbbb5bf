-- The first cause in one family and in two, from that of each.
use Rattle.std.proofs.Common.{◌≡◌, ℕ, Bool, true, false, ◌<◌, ◌≤◌, ◌==◌, not, List, [], length, drop, refl, sym, ap, ◌∙◌, arith, append-nil, length-drop, Ok, Err}
use Rattle.std.proofs.lemmas.Bool.{eqb-true}
use Rattle.prefix_model.specs.declared.Cause.{Cause}
use Rattle.prefix_model.specs.declared.Cause.TheVariants as cause
use Rattle.prefix_model.specs.Tables.{KeyMap}
use Rattle.prefix_model.specs.Spelling.{Codec, Spells}
use Rattle.prefix_model.specs.FirstCause.{◌>>=◌, refuse_if, check, check_pair, check_alone}
use Rattle.prefix_model.proofs.Archive.Spelled.{accepts_spelled}

bytes_behind : (n : ℕ) → 0 < n → refuse_if (not (n == 0)) cause.TrailingBytes ≡ Err cause.TrailingBytes
bytes_behind n h = go (n == 0) refl
  where
    go : (b : Bool) → (n == 0) ≡ b → refuse_if (not (n == 0)) cause.TrailingBytes ≡ Err cause.TrailingBytes
    go true p = let z : n ≡ 0 = eqb-true n 0 p in absurd (omega arith)
    go false p = ap (λ b. refuse_if (not b) cause.TrailingBytes) p

module _ {V : Type 0} (codec : Codec V) where
  pub alone_refused : (w : ℕ) (bytes : List ℕ) (e : Cause) → check codec w bytes ≡ Err e → check_alone codec w bytes ≡ Err e
  alone_refused w bytes e h = ap (λ r. r >>= λ behind. refuse_if (not (length behind == 0)) cause.TrailingBytes) h

  pub alone_behind : (w : ℕ) (bytes : List ℕ) (n : ℕ) → check codec w bytes ≡ Ok (drop n bytes) → n < length bytes → check_alone codec w bytes ≡ Err cause.TrailingBytes
  alone_behind w bytes n h more =
      ap (λ r. r >>= λ behind. refuse_if (not (length behind == 0)) cause.TrailingBytes) h ∙ bytes_behind (length (drop n bytes)) (omega (arith, length-drop n bytes))

  pub alone_passed : (w : ℕ) (bytes : List ℕ) (n : ℕ) → check codec w bytes ≡ Ok (drop n bytes) → length bytes ≤ n → check_alone codec w bytes ≡ Ok tt
  alone_passed w bytes n h all =
      let e : length (drop n bytes) ≡ 0 = omega (arith, length-drop n bytes) in
      ap (λ r. r >>= λ behind. refuse_if (not (length behind == 0)) cause.TrailingBytes) h ∙ ap (λ k. refuse_if (not (k == 0)) cause.TrailingBytes) e

  pub pair_refused : (v w : ℕ) (bytes : List ℕ) (e : Cause) → check codec v bytes ≡ Err e → check_pair codec v w bytes ≡ Err e
  pair_refused v w bytes e h = ap (λ r. r >>= check_alone codec w) h

  -- there is no cause in a table alone
  pub spelled_alone : (w : ℕ) (bytes : List ℕ) (m : KeyMap V) → Spells codec w bytes m → check_alone codec w bytes ≡ Ok tt
  spelled_alone w bytes m s = ap (λ r. r >>= λ behind. refuse_if (not (length behind == 0)) cause.TrailingBytes) (ap (check codec w) (sym (append-nil bytes)) ∙ accepts_spelled codec w bytes [] m s)
