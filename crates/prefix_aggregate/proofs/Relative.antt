-- The masks and lists of a node, by what follows its position.
use Rattle.std.proofs.Common.{◌≡◌, ℕ, ◌+◌, ◌-◌, ◌≤◌, [], ◌∷◌, ◌++◌, length, map, refl, ap, ◌∙◌, arith, append_assoc, length-append}
use Rattle.std.specs.Prelude.{◌&&◌, not, nat_le}
use Rattle.std.specs.List.{filter}
use Rattle.std.specs.declared.cmp.Ordering.{Ordering}
use Rattle.prefix_model.specs.Keys.{KeyBits}
use Rattle.prefix_model.specs.Tables.{Values}
use Rattle.prefix_model.specs.Positions.{bitmap, data_places}
use Rattle.prefix_model.specs.Candidates.{candidates}
use Rattle.prefix_aggregate.specs.Same.{same_candidates}
use Rattle.prefix_aggregate.specs.ChangeSets.{candidates_from, is_change, mask_of, lists_of, shortened}
use Rattle.prefix_aggregate.specs.Trees.{from}

module _ {V : Type 0} (cmp : V → V → Ordering) (w : ℕ) (f : Values V) (p : KeyBits) (within : length p ≤ w) where
  -- the candidates of a place
  candidates_there : (s : KeyBits) → candidates_from cmp w f (p ++ s) ≡ candidates_from cmp (w - length p) (from p f) s
  candidates_there s =
      (λ i. candidates cmp (w - length-append p s i) (λ k. f (append_assoc p s k i)))
      ∙ (let e : w - (length p + length s) ≡ w - length p - length s = omega arith in ap (λ n. candidates cmp n (λ k. f (p ++ (s ++ k)))) e)

  room_there : (n : ℕ) → nat_le (length p + n) w ≡ nat_le n (w - length p)
  room_there n = grind (arith, within)

  change_there : (s : KeyBits) → is_change cmp w f p s ≡ is_change cmp (w - length p) (from p f) [] s
  change_there [] = refl
  change_there (b ∷ s) =
      λ i. (ap (λ n. nat_le n w) (length-append p (b ∷ s)) ∙ room_there (length (b ∷ s))) i && not (same_candidates cmp (candidates_there (b ∷ s) i) (candidates_there (shortened (b ∷ s)) i))

  pub mask_there : mask_of cmp w f p ≡ mask_of cmp (w - length p) (from p f) []
  mask_there = λ i. bitmap (map (λ s. change_there s i) data_places)

  pub lists_there : lists_of cmp w f p ≡ lists_of cmp (w - length p) (from p f) []
  lists_there = λ i. map (λ s. candidates_there s i) (filter (λ s. change_there s i) data_places)
