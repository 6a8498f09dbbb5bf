-- Where every address below a key has an answer, some key of the least table is a prefix of the key.
use Rattle.std.proofs.Common.{◌≡◌, ℕ, true, length, take, drop, refl, sym, ap, ◌∙◌, Option, Some, None}
use Rattle.std.specs.Prelude.{IsSome, is_some}
use Rattle.std.specs.declared.cmp.Ordering.{Ordering}
use Rattle.std.specs.Cmp.{IsTotalOrder}
use Rattle.std.specs.FinMap.{IsAntisymmetric, get}
use Rattle.std.proofs.lemmas.List.{take-append-drop}
use Rattle.std.proofs.Math.Seq.{take-append_seam}
use Rattle.prefix_model.specs.Keys.{KeyBits}
use Rattle.prefix_model.specs.Tables.{KeyMap, answer, IsLongestMatch}
use Rattle.prefix_model.specs.Masks.{begins_with}
use Rattle.prefix_model.specs.LeastTable.{least_table}
use Rattle.prefix_model.specs.AggregateLaws.{HasPrefixOf, LeastHasPrefixes}
use Rattle.prefix_model.proofs.Fronts.{Follows, follows, front_append}
use Rattle.prefix_model.proofs.Fewest.Longest.{answers_longest_match}
use Rattle.prefix_model.proofs.Fewest.Keys.{tells_coverage}

begins_at : (k : KeyBits) (n : ℕ) → begins_with (take n k) k ≡ true
begins_at k n = ap (begins_with (take n k)) (sym (take-append-drop n k)) ∙ front_append (take n k) (drop n k)

front_taken : (q k : KeyBits) → Follows q k → take (length q) k ≡ q
front_taken q k f = ap (take (length q)) f.whole ∙ take-append_seam q f.rest

module _ {V : Type 0} where
  -- a key has an answer where a stored key is a prefix of it
  has_prefix : (m : KeyMap V) (k : KeyBits) (r : Option V) → IsLongestMatch m k r → IsSome r → HasPrefixOf m k
  has_prefix m k None h s = absurd cc
  has_prefix m k (Some x) h s = (take h.0 k, ap is_some h.2, begins_at k h.0)

  has_answer : (m : KeyMap V) (k : KeyBits) (r : Option V) → IsLongestMatch m k r → HasPrefixOf m k → IsSome r
  has_answer m k None h (q, s, b) =
      let none = sym (ap (get m) (front_taken q k (follows q k b))) ∙ h (length q) in
      absurd (let e = sym s ∙ ap is_some none in cc)
  has_answer m k (Some x) h p = refl

module _ {V : Type 0} {cmp : V → V → Ordering} (o : IsTotalOrder cmp) (exact : IsAntisymmetric cmp) where
  pub least_has_prefixes : LeastHasPrefixes cmp
  least_has_prefixes w m p within =
      let told = tells_coverage o exact w m p within in
      let match_at = answers_longest_match V (least_table cmp w m) p in
      (λ all. has_prefix (least_table cmp w m) p (answer (least_table cmp w m) p) match_at (told.0 all), λ h. told.1 (has_answer (least_table cmp w m) p (answer (least_table cmp w m) p) match_at h))
