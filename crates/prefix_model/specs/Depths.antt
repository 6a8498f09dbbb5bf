-- The depths of records, by the child bits that count them. `FirstCause` hands the depths on in a queue; this is what they are.
--     depths_tested ds rs      the depths at which the check of records tests them
--     IsParent known rs j i      record j is the first for which the known nodes and the child bits of records 0 to j are more than i
--     DepthsFollowParents      the depth of a record is five more than that of its parent
--     check_by_number w depths i a b rs      the check of records from number i on, by these depths, without a queue
--     ChecksByNumber      the check of records is that
use Rattle.std.specs.Prelude.{◌≡◌, ℕ, zero, suc, ◌+◌, ◌<◌, ◌≤◌, nat_lt, nat_le, false, List, [], ◌∷◌, ◌++◌, length, get_or, replicate, Result, Ok}
use Rattle.prefix_model.specs.Positions.{NodeRecord, bits_set}
use Rattle.prefix_model.specs.declared.Cause.{Cause}
use Rattle.prefix_model.specs.declared.Cause.TheVariants.{NodeListTooLong, NodeListTooShort}
use Rattle.prefix_model.specs.FirstCause.{◌>>=◌, refuse_if, check_record, check_records}

-- the depths at which the check of records tests them
abbrev pub depths_tested : List ℕ → List NodeRecord → List ℕ
depths_tested ds [] = []
depths_tested [] (r ∷ rs) = []
depths_tested (d ∷ ds) (r ∷ rs) = d ∷ depths_tested (ds ++ replicate (bits_set r.child_bits) (d + 5)) rs

-- the child bits of records 0 to j
abbrev pub kids_through : List NodeRecord → ℕ → ℕ
kids_through [] j = 0
kids_through (r ∷ rs) zero = bits_set r.child_bits
kids_through (r ∷ rs) (suc j) = bits_set r.child_bits + kids_through rs j

-- j is the first record for which the known nodes, and the child bits of records 0 to j, are above i
pub record IsParent (known : ℕ) (rs : List NodeRecord) (j i : ℕ) : Type 0 where
  pub above : i < known + kids_through rs j
  pub first : (h : ℕ) → h < j → known + kids_through rs h ≤ i

-- a node is five bits deeper than the one whose child bits count it
abbrev pub DepthsFollowParents : Type 0
DepthsFollowParents = (rs : List NodeRecord) (i j : ℕ) → 0 < i → i < length (depths_tested (0 ∷ []) rs) → IsParent 1 rs j i
    → get_or (depths_tested (0 ∷ []) rs) i 0 ≡ get_or (depths_tested (0 ∷ []) rs) j 0 + 5

-- The check of the records from number i on, where a data bits and b - 1 child bits are set in the records before.
abbrev pub check_by_number : ℕ → List ℕ → ℕ → ℕ → ℕ → List NodeRecord → Result ℕ Cause
check_by_number w depths i a b [] = do
  _ ← refuse_if (nat_lt i b) NodeListTooShort
  Ok a
check_by_number w depths i a b (r ∷ rs) = do
  _ ← refuse_if (nat_le b i) NodeListTooLong
  _ ← check_record w (nat_lt 0 i) (get_or depths i 0) a b r
  check_by_number w depths (i + 1) (a + bits_set r.data_bits) (b + bits_set r.child_bits) rs

-- the check of records, with the number and the depth of each
abbrev pub ChecksByNumber : Type 0
ChecksByNumber = (w : ℕ) (rs : List NodeRecord) → check_records w false (0 ∷ []) 0 1 rs ≡ check_by_number w (depths_tested (0 ∷ []) rs) 0 0 1 rs
