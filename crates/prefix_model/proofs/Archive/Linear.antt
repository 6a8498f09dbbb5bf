-- The check of the records as a loop makes it: the depths that wait are those of the rest of a level, and of what is known of the next.
use Rattle.std.proofs.Common.{◌≡◌, ℕ, zero, suc, ◌+◌, ◌-◌, ◌*◌, ◌<◌, ◌≤◌, Bool, true, false, ltb, List, [], ◌∷◌, ◌++◌, drop, replicate, refl, sym, ap, ◌∙◌, arith, append_assoc, Result, Ok, Err}
use Rattle.std.proofs.lemmas.Bool.{lt-ltb}
use Rattle.std.proofs.lemmas.List.{append-nil, drop-drop, replicate-append-replicate}
use Rattle.prefix_model.specs.declared.Cause.{Cause}
use Rattle.prefix_model.specs.declared.Cause.TheVariants.{NodeListTooShort, NodeListTooLong}
use Rattle.prefix_model.specs.Positions.{NodeRecord, bits_set}
use Rattle.prefix_model.specs.FirstCause.{◌>>=◌, refuse_if, check_record, check_records, read_record, read_records}

-- before record i, at depth d, where the level ends at e and c nodes are known
abbrev pub waiting : ℕ → ℕ → ℕ → ℕ → List ℕ
waiting d i e c = replicate (e - i) d ++ replicate (c - e) (d + 5)

-- the check from record i of n on
abbrev pub check_from : ℕ → ℕ → List ℕ → ℕ → ℕ → ℕ → ℕ → ℕ → Result ℕ Cause
check_from w n bytes d i e a c = check_records w (ltb 0 i) (waiting d i e c) a c (read_records (n - i) (drop (16 * i) bytes))

-- a test that holds refuses
pub refused : {B : Type 0} (b : Bool) (e : Cause) (f : Unit {0} → Result B Cause) → b ≡ true → (refuse_if b e >>= f) ≡ Err e
refused b e f h = ap (λ b. refuse_if b e >>= f) h

-- the check of all records is that from the first
pub check_start : (w n : ℕ) (bytes : List ℕ) → check_from w n bytes 0 0 1 0 1 ≡ check_records w false (0 ∷ []) 0 1 (read_records n bytes)
check_start w n bytes = λ i. check_records w false (first i) 0 1 (read_records (all i) bytes)
  where
    first : waiting 0 0 1 1 ≡ 0 ∷ []
    first = refl

    all : n - 0 ≡ n
    all = omega arith

-- the next level begins
pub next_level : (w n : ℕ) (bytes : List ℕ) (d i a c : ℕ) → check_from w n bytes d i i a c ≡ check_from w n bytes (d + 5) i c a c
next_level w n bytes d i a c = ap (λ ds. check_records w (ltb 0 i) ds a c (read_records (n - i) (drop (16 * i) bytes))) same
  where
    same : waiting d i i c ≡ waiting (d + 5) i c c
    same =
        let z : i - i ≡ 0 = omega arith in
        let y : c - c ≡ 0 = omega arith in
        (λ j. replicate (z j) d ++ replicate (c - i) (d + 5)) ∙ sym ((λ j. replicate (c - i) (d + 5) ++ replicate (y j) (d + 5 + 5)) ∙ append-nil (replicate (c - i) (d + 5)))

-- record i of these bytes
abbrev pub record_of : List ℕ → ℕ → NodeRecord
record_of bytes i = read_record (drop (16 * i) bytes)

-- the records from i on are record i and those from i + 1 on
pub read_next : (n i : ℕ) (bytes : List ℕ) → i < n → read_records (n - i) (drop (16 * i) bytes) ≡ record_of bytes i ∷ read_records (n - (i + 1)) (drop (16 * (i + 1)) bytes)
read_next n i bytes h =
    let one : n - i ≡ suc (n - (i + 1)) = omega arith in
    let more : 16 * i + 16 ≡ 16 * (i + 1) = omega arith in
    ap (λ k. read_records k (drop (16 * i) bytes)) one ∙ ap (λ bs. record_of bytes i ∷ read_records (n - (i + 1)) bs) (drop-drop 16 (16 * i) bytes ∙ ap (λ k. drop k bytes) more)

-- one record
pub check_step : (w n : ℕ) (bytes : List ℕ) (d i e a c : ℕ) → i < n → i < e → e ≤ c
    → check_from w n bytes d i e a c ≡ (check_record w (ltb 0 i) d a c (record_of bytes i) >>= λ _. check_from w n bytes d (i + 1) e (a + bits_set (record_of bytes i).data_bits) (c + bits_set (record_of bytes i).child_bits))
check_step w n bytes d i e a c h k l =
    (λ j. check_records w (ltb 0 i) (first j) a c (read_next n i bytes h j))
    ∙ ap (λ next. check_record w (ltb 0 i) d a c (record_of bytes i) >>= λ _. next) (λ j. check_records w (sym later j) (rest j) (a + bits_set (record_of bytes i).data_bits) (c + kids) (read_records (n - (i + 1)) (drop (16 * (i + 1)) bytes)))
  where
    kids : ℕ
    kids = bits_set (record_of bytes i).child_bits

    first : waiting d i e c ≡ d ∷ (replicate (e - (i + 1)) d ++ replicate (c - e) (d + 5))
    first = ap (λ x. replicate x d ++ replicate (c - e) (d + 5)) (let one : e - i ≡ suc (e - (i + 1)) = omega arith in one)

    later : ltb 0 (i + 1) ≡ true
    later = lt-ltb 0 (i + 1) (omega arith)

    rest : (replicate (e - (i + 1)) d ++ replicate (c - e) (d + 5)) ++ replicate kids (d + 5) ≡ waiting d (i + 1) e (c + kids)
    rest =
        append_assoc (replicate (e - (i + 1)) d) (replicate (c - e) (d + 5)) (replicate kids (d + 5))
        ∙ ap (λ r. replicate (e - (i + 1)) d ++ r) (replicate-append-replicate (c - e) kids (d + 5) ∙ ap (λ x. replicate x (d + 5)) (let sum : (c - e) + kids ≡ (c + kids) - e = omega arith in sum))

-- no node is known for the record
pub check_too_long : (w n : ℕ) (bytes : List ℕ) (d i e a c : ℕ) → i < n → i ≤ e → e ≤ c → c ≤ i → check_from w n bytes d i e a c ≡ Err NodeListTooLong
check_too_long w n bytes d i e a c h k l m =
    (λ j. check_records w (ltb 0 i) (none j) a c (read_next n i bytes h j))
  where
    none : waiting d i e c ≡ []
    none = let x : e - i ≡ 0 = omega arith in let y : c - e ≡ 0 = omega arith in λ j. replicate (x j) d ++ replicate (y j) (d + 5)

-- behind the last record
pub check_end : (w n : ℕ) (bytes : List ℕ) (d i e a c : ℕ) → i ≡ n → i ≤ e → e ≤ c → c ≤ i → check_from w n bytes d i e a c ≡ Ok a
check_end w n bytes d i e a c h k l m = (λ j. check_records w (ltb 0 i) (none j) a c (read_records (zero_left j) (drop (16 * i) bytes)))
  where
    none : waiting d i e c ≡ []
    none = let x : e - i ≡ 0 = omega arith in let y : c - e ≡ 0 = omega arith in λ j. replicate (x j) d ++ replicate (y j) (d + 5)

    zero_left : n - i ≡ 0
    zero_left = omega arith

-- after the last record a known node is left over
pub check_too_short : (w n : ℕ) (bytes : List ℕ) (d i e a c : ℕ) → i ≡ n → i ≤ e → e ≤ c → i < c → check_from w n bytes d i e a c ≡ Err NodeListTooShort
check_too_short w n bytes d i e a c h k l m = (λ j. check_records w (ltb 0 i) (waiting d i e c) a c (read_records (zero_left j) (drop (16 * i) bytes))) ∙ some (e - i) (c - e) (omega arith)
  where
    zero_left : n - i ≡ 0
    zero_left = omega arith

    some : (x y : ℕ) → 0 < x + y → check_records w (ltb 0 i) (replicate x d ++ replicate y (d + 5)) a c [] ≡ Err NodeListTooShort
    some zero zero p = absurd (omega arith)
    some zero (suc y) p = refl
    some (suc x) y p = refl
