-- Worked examples of change sets by computation. Where no key has more than n bits, they are those for addresses of n bits.
use Rattle.std.proofs.Common.{◌≡◌, ℕ, zero, suc, ◌+◌, ◌-◌, ◌≤◌, Bool, true, false, cond, List, [], ◌∷◌, ◌++◌, map, length, refl, ap, ◌∙◌, sym, arith, length-append, None}
use Rattle.std.specs.Prelude.{◌&&◌, not, nat_le}
use Rattle.std.specs.List.{filter, list_all}
use Rattle.std.specs.Ordering.{nat_cmp}
use Rattle.std.specs.Cmp.{IsTotalOrder, nat_cmp_total}
use Rattle.std.specs.declared.cmp.Ordering.{Ordering}
use borrow.Author.Tests.{leb-true}
use Rattle.prefix_model.specs.Keys.{KeyBits}
use Rattle.prefix_model.specs.Tables.{answer_under, Values, after}
use Rattle.prefix_model.specs.Candidates.{Candidates, candidates, joined}
use Rattle.prefix_model.specs.Positions.{bitmap, data_places}
use Rattle.prefix_model.proofs.KeyLemmas.{both_true}
use Rattle.prefix_model.proofs.Fewest.Tables.{get-from_entries}
use Rattle.prefix_model.proofs.Fewest.Uniform.{candidates_uniform}
use Rattle.prefix_model.proofs.Fewest.Wider.{wider, KnownBy, all_short, answers, answers_known}
use Rattle.prefix_aggregate.specs.Same.{same_candidates}
use Rattle.prefix_aggregate.specs.ChangeSets.{change_lists, candidates_from, is_change, shortened}
use Rattle.prefix_aggregate.specs.ChangeRows.{HasChanges}

map_cond : {A B : Type 0} (F G : A → B) (s : A) (l m : List A) (a b : Bool) → a ≡ b → F s ≡ G s → map F l ≡ map G m → map F (cond a (s ∷ l) l) ≡ map G (cond b (s ∷ m) m)
map_cond F G s l m a b e here rest = (λ i. map F (cond (e i) (s ∷ l) l)) ∙ either b
  where
    either : (b : Bool) → map F (cond b (s ∷ l) l) ≡ map G (cond b (s ∷ m) m)
    either true = λ i. here i ∷ rest i
    either false = rest

module _ {V : Type 0} {cmp : V → V → Ordering} (o : IsTotalOrder cmp) where
  candidates_wider : (n d : ℕ) (f : Values V) → KnownBy n f → candidates cmp (wider n d) f ≡ candidates cmp n f
  candidates_wider zero d f known = candidates_uniform o d f (f []) (λ k e. known [] k refl)
  candidates_wider (suc n) d f known =
      λ i. joined cmp (candidates_wider n d (after false f) (λ k l e. known (false ∷ k) l (ap suc e)) i) (candidates_wider n d (after true f) (λ k l e. known (true ∷ k) l (ap suc e)) i)

  -- the candidates of a key of at most n bits
  from_wider : (n d : ℕ) (f : Values V) (s : KeyBits) → length s ≤ n → KnownBy n f → candidates_from cmp (wider n d) f s ≡ candidates_from cmp n f s
  from_wider n d f [] h known = (let e : wider n d - 0 ≡ wider n d = omega arith in ap (λ m. candidates cmp m f) e) ∙ candidates_wider n d f known ∙ (let e : n ≡ n - 0 = omega arith in ap (λ m. candidates cmp m f) e)
  from_wider zero d f (b ∷ s) h known = absurd (omega arith)
  from_wider (suc n) d f (b ∷ s) h known =
      (let e : suc (wider n d) - suc (length s) ≡ wider n d - length s = omega arith in ap (λ m. candidates cmp m (λ k. f (b ∷ (s ++ k)))) e)
      ∙ from_wider n d (after b f) s (omega arith) (λ k l e. known (b ∷ k) l (ap suc e))
      ∙ (let e : n - length s ≡ suc n - suc (length s) = omega arith in ap (λ m. candidates cmp m (λ k. f (b ∷ (s ++ k)))) e)

  module _ (n d : ℕ) (f : Values V) (known : KnownBy n f) where
    length-shortened : (s : KeyBits) → length (shortened s) ≤ length s
    length-shortened [] = omega arith
    length-shortened (b ∷ []) = omega arith
    length-shortened (b ∷ c ∷ s) = let h = length-shortened (c ∷ s) in omega (arith, h)

    is_wide : (k : ℕ) → k ≤ n → nat_le k (wider n d) ≡ nat_le k n
    is_wide k h = grind (arith, wide n d)
      where
        wide : (n d : ℕ) → n ≤ wider n d
        wide zero d = omega arith
        wide (suc n) d = let h = wide n d in omega (arith, h)

    change_wider : (p s : KeyBits) → length p + length s ≤ n → is_change cmp (wider n d) f p s ≡ is_change cmp n f p s
    change_wider p [] h = refl
    change_wider p (b ∷ s) h =
        let size : length (p ++ b ∷ s) ≤ n = (let e = length-append p (b ∷ s) in omega (arith, e)) in
        let less : length (p ++ shortened (b ∷ s)) ≤ n = (let e = length-append p (shortened (b ∷ s)) in let g = length-shortened (b ∷ s) in omega (arith, e, g)) in
        λ i. is_wide (length (p ++ b ∷ s)) size i && not (same_candidates cmp (from_wider n d f (p ++ b ∷ s) size known i) (from_wider n d f (p ++ shortened (b ∷ s)) less known i))

    changes_wider : (p : KeyBits) (ss : List KeyBits) → list_all (λ s. nat_le (length p + length s) n) ss ≡ true
        → (map (is_change cmp (wider n d) f p) ss ≡ map (is_change cmp n f p) ss)
        × (map (λ s. candidates_from cmp (wider n d) f (p ++ s)) (filter (is_change cmp (wider n d) f p) ss) ≡ map (λ s. candidates_from cmp n f (p ++ s)) (filter (is_change cmp n f p) ss))
    changes_wider p [] h = (refl, refl)
    changes_wider p (s ∷ ss) h =
        let parts = both_true (nat_le (length p + length s) n) (list_all (λ s. nat_le (length p + length s) n) ss) h in
        let short : length p + length s ≤ n = leb-true (length p + length s) n parts.0 in
        let size : length (p ++ s) ≤ n = (let e = length-append p s in omega (arith, e, short)) in
        let rest = changes_wider p ss parts.1 in (
          λ i. change_wider p s short i ∷ rest.0 i,
          map_cond (λ s. candidates_from cmp (wider n d) f (p ++ s)) (λ s. candidates_from cmp n f (p ++ s)) s (filter (is_change cmp (wider n d) f p) ss) (filter (is_change cmp n f p) ss)
              (is_change cmp (wider n d) f p s) (is_change cmp n f p s) (change_wider p s short) (from_wider n d f (p ++ s) size known) rest.1,
        )

    -- nodes whose places have at most n bits
    lists_wider : (ps : List KeyBits) → list_all (λ p. list_all (λ s. nat_le (length p + length s) n) data_places) ps ≡ true → change_lists cmp (wider n d) f ps ≡ change_lists cmp n f ps
    lists_wider [] h = refl
    lists_wider (p ∷ ps) h =
        let parts = both_true (list_all (λ s. nat_le (length p + length s) n) data_places) (list_all (λ p. list_all (λ s. nat_le (length p + length s) n) data_places) ps) h in
        let here = changes_wider p data_places parts.0 in
        let rest = lists_wider ps parts.1 in
        λ i. record { masks = bitmap (here.0 i) ∷ (rest i).masks; lists = here.1 i ++ (rest i).lists }

-- the change sets of entries whose keys have n bits or fewer, at nodes whose places do
pub changes : (n d w : ℕ) (ps : List KeyBits) (es : List (KeyBits × ℕ)) (masks : List ℕ) (lists : List (Candidates ℕ)) → wider n d ≡ w → all_short n es ≡ true → list_all (λ p. list_all (λ s. nat_le (length p + length s) n) data_places) ps ≡ true
    → change_lists nat_cmp n (answers es) ps ≡ record { masks = masks; lists = lists } → HasChanges w ps es masks lists
unfolding HasChanges
changes n d w ps es masks lists bits short nodes e =
    (λ i. change_lists nat_cmp (sym bits i) (answer_under None (λ q. get-from_entries es q i)) ps) ∙ lists_wider nat_cmp_total n d (answers es) (answers_known n es short) ps nodes ∙ e
