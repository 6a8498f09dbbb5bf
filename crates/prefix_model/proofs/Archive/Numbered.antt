-- The check of records, with the number and the depth of each in place of a queue.
use Rattle.std.proofs.Common.{◌≡◌, ℕ, zero, suc, ◌+◌, ltb, leb, List, [], ◌∷◌, ◌++◌, length, get_or, replicate, refl, sym, ap, ◌∙◌, arith, Ok}
use Rattle.std.proofs.lemmas.Bool.{lt-ltb, le-ltb}
use borrow.Author.Tests.{le-leb, lt-leb}
use Rattle.std.proofs.lemmas.List.{length-append, length-replicate}
use Rattle.prefix_model.specs.declared.Cause.TheVariants.{NodeListTooLong, NodeListTooShort}
use Rattle.prefix_model.specs.Positions.{NodeRecord, bits_set}
use Rattle.prefix_model.specs.FirstCause.{◌>>=◌, check_record, check_records}
use Rattle.prefix_model.specs.Depths.{depths_tested, check_by_number, ChecksByNumber}
use Rattle.prefix_model.proofs.Archive.Scan.{passes}
use Rattle.prefix_model.proofs.Archive.Linear.{refused}

-- from record i on, where the queue has the depths of records i to b - 1
from_number : (w : ℕ) (ds depths : List ℕ) (i a b : ℕ) (rs : List NodeRecord) → length ds + i ≡ b → ((k : ℕ) → get_or depths (k + i) 0 ≡ get_or (depths_tested ds rs) k 0)
    → check_records w (ltb 0 i) ds a b rs ≡ check_by_number w depths i a b rs
from_number w [] depths i a b [] e h = sym (passes (ltb i b) NodeListTooShort (λ _. Ok a) (le-ltb i b (omega arith)))
from_number w (d ∷ ds) depths i a b [] e h = sym (refused (ltb i b) NodeListTooShort (λ _. Ok a) (lt-ltb i b (omega arith)))
from_number w [] depths i a b (r ∷ rs) e h = sym (refused (leb b i) NodeListTooLong _ (le-leb b i (omega arith)))
from_number w (d ∷ ds) depths i a b (r ∷ rs) e h =
    let kids : ℕ = bits_set r.child_bits in
    let next : List ℕ = ds ++ replicate kids (d + 5) in
    let later = from_number w next depths (i + 1) (a + bits_set r.data_bits) (b + kids) rs
    (omega (arith, length-append ds (replicate kids (d + 5)), length-replicate kids (d + 5)))
    (λ k. ap (λ n. get_or depths n 0) (omega arith) ∙ h (suc k)) in
    let same : 0 + i ≡ i = omega arith in
    let depth : get_or depths i 0 ≡ d = sym (ap (λ n. get_or depths n 0) same) ∙ h zero in
    (λ j. check_record w (ltb 0 i) (sym depth j) a b r >>= λ _. (ap (λ t. check_records w t next (a + bits_set r.data_bits) (b + kids) rs) (sym (lt-ltb 0 (i + 1) (omega arith))) ∙ later) j)
    ∙ sym (passes (leb b i) NodeListTooLong (λ _. check_record w (ltb 0 i) (get_or depths i 0) a b r >>= λ _. check_by_number w depths (i + 1) (a + bits_set r.data_bits) (b + kids) rs) (lt-leb b i (omega arith)))

-- the check of records is that by number and depth
pub checks_by_number : ChecksByNumber
checks_by_number w rs = from_number w (0 ∷ []) (depths_tested (0 ∷ []) rs) 0 0 1 rs refl (λ k. ap (λ n. get_or (depths_tested (0 ∷ []) rs) n 0) (omega arith))
