-- A node is five bits deeper than the one whose child bits count it.
use Rattle.std.proofs.Common.{◌≡◌, ℕ, zero, suc, ◌+◌, ◌-◌, ◌<◌, ◌≤◌, List, [], ◌∷◌, ◌++◌, length, get_or, replicate, refl, ◌∙◌, arith}
use Rattle.std.proofs.lemmas.List.{length-append, length-replicate, get_or_append_left, get_or-append_right, get_or-replicate}
use Rattle.prefix_model.specs.Positions.{NodeRecord, bits_set}
use Rattle.prefix_model.specs.Depths.{depths_tested, kids_through, IsParent, DepthsFollowParents}

-- those that wait come first
waiting_first : (ds : List ℕ) (rs : List NodeRecord) (i : ℕ) → i < length ds → i < length (depths_tested ds rs) → get_or (depths_tested ds rs) i 0 ≡ get_or ds i 0
waiting_first ds [] i h l = absurd (omega arith)
waiting_first [] (r ∷ rs) i h l = absurd (omega arith)
waiting_first (d ∷ ds) (r ∷ rs) zero h l = refl
waiting_first (d ∷ ds) (r ∷ rs) (suc i) h l =
    let more = replicate (bits_set r.child_bits) (d + 5) in
    waiting_first (ds ++ more) rs i (omega (arith, length-append ds more)) (omega arith) ∙ get_or_append_left ds more 0 i (omega arith)

follow : (ds : List ℕ) (rs : List NodeRecord) (i j : ℕ) → length ds ≤ i → i < length (depths_tested ds rs) → IsParent (length ds) rs j i → get_or (depths_tested ds rs) i 0 ≡ get_or (depths_tested ds rs) j 0 + 5
follow ds [] i j h l p = absurd (omega arith)
follow [] (r ∷ rs) i j h l p = absurd (omega arith)
follow (d ∷ ds) (r ∷ rs) zero j h l p = absurd (omega arith)
follow (d ∷ ds) (r ∷ rs) (suc i) zero h l p =
    let k = bits_set r.child_bits in
    let more = replicate k (d + 5) in
    let above : suc i < suc (length ds) + k = p.above in
    let len = length-append ds more in
    let len_more = length-replicate k (d + 5) in
    waiting_first (ds ++ more) rs i (omega arith) (omega arith)
    ∙ get_or-append_right ds more (length ds) i 0 refl (omega arith)
    ∙ get_or-replicate k (i - length ds) (d + 5) 0 (omega arith)
follow (d ∷ ds) (r ∷ rs) (suc i) (suc j) h l p =
    let k = bits_set r.child_bits in
    let more = replicate k (d + 5) in
    let len = length-append ds more in
    let len_more = length-replicate k (d + 5) in
    let above : suc i < suc (length ds) + (k + kids_through rs j) = p.above in
    let at_first : suc (length ds) + k ≤ suc i = p.first zero (omega arith) in
    follow (ds ++ more) rs i j (omega arith) (omega arith) (record {
      above = omega arith;
      first = λ g b. let later : suc (length ds) + (k + kids_through rs g) ≤ suc i = p.first (suc g) (omega arith) in omega arith;
    })

-- the depth at which a record is tested is five more than that of its parent
pub depths_follow_parents : DepthsFollowParents
depths_follow_parents rs i j h l p = follow (0 ∷ []) rs i j (omega arith) l p
