-- The first line of a text and the first word of a line.
use Rattle.std.proofs.Common.{◌≡◌, ℕ, ◌+◌, ◌-◌, ◌<◌, ◌==◌, List, [], ◌∷◌, ◌++◌, length, take, drop, Option, Some, None, refl, sym, ap, ◌∙◌, arith, nat_lt, Bool, true, false, cond, if◌then◌else◌}
use Rattle.std.proofs.lemmas.Grind.{common_steps}
use Rattle.std.proofs.lemmas.Bool.Decides.{nat_tests}
use Rattle.std.proofs.lemmas.List.{take_rest}
use Rattle.std.proofs.lemmas.List.Elements.{All-head, All-tail}
use Rattle.std.proofs.lemmas.List.Splits.{slice_split_none, slice_split_first, length-slice_split}
use Rattle.std.proofs.lemmas.List.Sums.{split_at_first, fails_before_first, passes_at_first}
use Rattle.std.specs.List.{All, position, position_or_len, before_first, after_first, slice_split, onto_first}
use Rattle.prefix_text.specs.Lines.{lines, entry_in, entry_of}

-- ---- places

pub record IsPlace (p : ℕ → Bool) (xs : List ℕ) (i : ℕ) : Type 0 where
  pub place : position_or_len p xs ≡ i
  pub within : position_or_len p xs < length xs

some_same : {i j : ℕ} → ◌≡◌ {A = Option ℕ} (Some i) (Some j) → i ≡ j
some_same h = cc

some_none : {i : ℕ} → ◌≡◌ {A = Option ℕ} (Some i) None → ⊥
some_none h = cc

none_some : {i : ℕ} → ◌≡◌ {A = Option ℕ} None (Some i) → ⊥
none_some h = cc

pub place_is : (p : ℕ → Bool) (xs : List ℕ) (i : ℕ) → position p xs ≡ Some i → IsPlace p xs i
place_is p xs i h = by (nat_lt (position_or_len p xs) (length xs)) refl h
  where
    by : (b : Bool) → nat_lt (position_or_len p xs) (length xs) ≡ b → cond b (Some (position_or_len p xs)) None ≡ Some i → IsPlace p xs i
    by true e f = record { place = some_same f; within = grind (arith, nat_tests) }
    by false e f = absurd (none_some f)

pub no_place : (p : ℕ → Bool) (xs : List ℕ) → position p xs ≡ None → All (λ c. p c ≡ false) xs
no_place p xs h = by (nat_lt (position_or_len p xs) (length xs)) refl h
  where
    by : (b : Bool) → nat_lt (position_or_len p xs) (length xs) ≡ b → cond b (Some (position_or_len p xs)) None ≡ None → All (λ c. p c ≡ false) xs
    by true e f = absurd (some_none f)
    by false e f = λ k x m. let k' = fails_before_first p xs k x (grind (arith, nat_tests)) in grind (arith, common_steps)

-- ---- words

pub first_word_of : (d : ℕ) (xs : List ℕ) (i : ℕ) → position (λ c. c == d) xs ≡ Some i → slice_split (λ c. c == d) xs ≡ take i xs ∷ slice_split (λ c. c == d) (take (length xs - (i + 1)) (drop (i + 1) xs))
first_word_of d xs i h =
    let at = place_is (λ c. c == d) xs i h in
    rw (take_rest xs (i + 1)) (rw (← at.place) (slice_split_first (λ c. c == d) xs 0 at.within))

pub only_word : (d : ℕ) (xs : List ℕ) → position (λ c. c == d) xs ≡ None → slice_split (λ c. c == d) xs ≡ xs ∷ []
only_word d xs h = slice_split_none (λ c. c == d) xs (no_place (λ c. c == d) xs h)

-- a line of five words and more is no entry
pub too_many_words : (family address len value rest : List ℕ) → entry_in (family ∷ address ∷ len ∷ value ∷ slice_split (λ c. c == 32) rest) ≡ None
too_many_words family address len value rest = by (slice_split (λ c. c == 32) rest) (omega (arith, length-slice_split (λ c. c == 32) rest))
  where
    by : (ws : List (List ℕ)) → 0 < length ws → entry_in (family ∷ address ∷ len ∷ value ∷ ws) ≡ None
    by [] l = absurd (omega arith)
    by (w ∷ ws) l = refl

-- ---- lines

newline : ℕ → Bool
newline c = c == 10

lines_behind : (c : ℕ) (xs : List ℕ) → (c == 10) ≡ false → lines (c ∷ xs) ≡ onto_first c (lines xs)
lines_behind c xs e = ap (λ b. if b then [] ∷ lines xs else onto_first c (lines xs)) e

lines_ended : (c : ℕ) (xs : List ℕ) → (c == 10) ≡ true → lines (c ∷ xs) ≡ [] ∷ lines xs
lines_ended c xs e = ap (λ b. if b then [] ∷ lines xs else onto_first c (lines xs)) e

pub line_ends : (xs : List ℕ) (c : ℕ) (ys : List ℕ) → All (λ c. (c == 10) ≡ false) xs → (c == 10) ≡ true → lines (xs ++ c ∷ ys) ≡ xs ∷ lines ys
line_ends [] c ys h e = lines_ended c ys e
line_ends (x ∷ xs) c ys h e =
    lines_behind x (xs ++ c ∷ ys) (All-head (λ c. (c == 10) ≡ false) x xs h)
    ∙ ap (onto_first x) (line_ends xs c ys (All-tail (λ c. (c == 10) ≡ false) x xs h) e)

pub first_line_of : (xs : List ℕ) (i : ℕ) → position (λ c. c == 10) xs ≡ Some i → lines xs ≡ take i xs ∷ lines (take (length xs - (i + 1)) (drop (i + 1) xs))
first_line_of xs i h =
    let at = place_is (λ c. c == 10) xs i h in
    let l = at.within in
    let front : All (λ c. (c == 10) ≡ false) (before_first (λ c. c == 10) xs) = λ k e m. let k' = fails_before_first (λ c. c == 10) xs k e (grind (arith, common_steps)) in grind (arith, common_steps) in
    rw (take_rest xs (i + 1)) (rw (← at.place)
    (ap lines (split_at_first (λ c. c == 10) xs 0 l) ∙ line_ends (before_first (λ c. c == 10) xs) _ (after_first (λ c. c == 10) xs) front (passes_at_first (λ c. c == 10) xs 0 l)))

pub only_line : (xs : List ℕ) → 0 < length xs → position (λ c. c == 10) xs ≡ None → lines xs ≡ xs ∷ []
only_line xs l h = by xs l (no_place (λ c. c == 10) xs h)
  where
    by : (ys : List ℕ) → 0 < length ys → All (λ c. (c == 10) ≡ false) ys → lines ys ≡ ys ∷ []
    by [] m a = absurd (omega arith)
    by (y ∷ []) m a = lines_behind y [] (All-head (λ c. (c == 10) ≡ false) y [] a)
    by (y ∷ z ∷ zs) m a = lines_behind y (z ∷ zs) (All-head (λ c. (c == 10) ≡ false) y (z ∷ zs) a) ∙ ap (onto_first y) (by (z ∷ zs) (omega arith) (All-tail (λ c. (c == 10) ≡ false) y (z ∷ zs) a))

-- the words of a line come off one by one, and a fifth is too much
pub five_words : (line family a address b len value word rest : List ℕ)
    → slice_split (λ c. c == 32) line ≡ family ∷ slice_split (λ c. c == 32) a
    → slice_split (λ c. c == 32) a ≡ address ∷ slice_split (λ c. c == 32) b
    → slice_split (λ c. c == 32) b ≡ len ∷ slice_split (λ c. c == 32) value
    → slice_split (λ c. c == 32) value ≡ word ∷ slice_split (λ c. c == 32) rest
    → None ≡ entry_of line
five_words line family a address b len value word rest e f g h =
    let whole : slice_split (λ c. c == 32) line ≡ family ∷ address ∷ len ∷ word ∷ slice_split (λ c. c == 32) rest = cc in
    rw whole (sym (too_many_words family address len word rest))
