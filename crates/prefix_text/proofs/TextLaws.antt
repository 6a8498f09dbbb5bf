-- Pieces that are appended one after another.
use Rattle.std.proofs.Common.{◌≡◌, ℕ, suc, zero, ◌+◌, ◌-◌, ◌*◌, ◌/◌, ◌%◌, ◌^◌, ◌<◌, ◌≤◌, List, [], ◌∷◌, ◌++◌, refl, sym, ap, ◌∙◌, arith, append_assoc, append-nil, false}
use Rattle.std.proofs.lemmas.Grind.{pow_more}
use Rattle.std.specs.Fmt.{digit_glyph}
use Rattle.prefix_text.specs.Added.{Stays}
use Rattle.prefix_text.specs.Texts.{hex_digits}

pub stays_through : {a b c : List ℕ} → Stays a b → Stays b c → Stays a c
stays_through {a} {b} {c} s t = record { behind = s.behind ++ t.behind; same = t.same ∙ (ap (λ x. x ++ t.behind) s.same ∙ append_assoc a s.behind t.behind) }

pub stays_same : (a b : List ℕ) → b ≡ a → Stays a b
stays_same a b e = record { behind = []; same = e ∙ sym (append-nil a) }

pub stays_before : (a b x : List ℕ) → b ≡ a ++ x → Stays a b
stays_before a b x e = record { behind = x; same = e }

pub ruleset appending = (stays_through, stays_same, stays_before)

four_more : (m : ℕ) → 2 ^ (m + 4) ≡ 2 ^ m * 16
four_more m =
    let e : m + 4 ≡ m + 1 + 1 + 1 + 1 = omega arith in
    rw e (omega (arith, pow_more 2 m, pow_more 2 (m + 1), pow_more 2 (m + 1 + 1), pow_more 2 (m + 1 + 1 + 1)))

sixteens : (n : ℕ) → 16 ^ n ≡ 2 ^ (4 * n)
sixteens zero = refl
sixteens (suc n) =
    let e : suc n ≡ n + 1 = omega arith in
    let f : 4 * suc n ≡ 4 * n + 4 = omega arith in
    let g : 16 ^ (n + 1) ≡ 2 ^ (4 * n + 4) = omega (arith, pow_more 16 n, four_more (4 * n), sixteens n) in
    rw (f, e) g

-- the digits from a place on, the first of them apart
pub digits_from : (n x : ℕ) → 0 < n → hex_digits n x ≡ digit_glyph false (x / 2 ^ (4 * (n - 1)) % 16) ∷ hex_digits (n - 1) x
unfolding hex_digits
digits_from zero x h = absurd (omega arith)
digits_from (suc n) x h =
    let e : suc n - 1 ≡ n = omega arith in
    rw e (ap (λ p. digit_glyph false (x / p % 16) ∷ hex_digits n x) (sixteens n))

pub no_digits : (x : ℕ) → hex_digits 0 x ≡ []
unfolding hex_digits
no_digits x = refl

-- one digit more has been written
pub digit_written : (items new rest digits target : List ℕ) (d : ℕ) → new ≡ items ++ d ∷ [] → digits ≡ d ∷ rest → items ++ digits ≡ target → new ++ rest ≡ target
digit_written items new rest digits target d e f g =
    ap (λ x. x ++ rest) e ∙ (append_assoc items (d ∷ []) rest ∙ (ap (λ x. items ++ x) (sym f) ∙ g))

-- none is left
pub digits_written : (items target : List ℕ) (place x : ℕ) → place ≤ 0 → items ++ hex_digits place x ≡ target → items ≡ target
digits_written items target zero x l e = sym (append-nil items) ∙ (ap (λ ds. items ++ ds) (sym (no_digits x)) ∙ e)
digits_written items target (suc n) x l e = absurd (omega arith)
