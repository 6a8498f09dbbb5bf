-- The nodes that come out of a trie fit together.
use Rattle.std.proofs.Common.{◌≡◌, ℕ, zero, suc, ◌+◌, ◌≤◌, true, false, cond, ltb, List, [], ◌∷◌, ◌++◌, length, map, filter, replicate, refl, ap, ◌∙◌, subst, arith, inl, inr, Some, None}
use Rattle.std.specs.Prelude.{is_some, ◌||◌}
use Rattle.std.specs.List.{list_any, AllByRecursion}
use Rattle.std.proofs.lemmas.Bool.{ltb-true, le-ltb, cases_lt}
use Rattle.std.proofs.lemmas.List.{length-append, nil_from_length}
use Rattle.prefix_model.specs.Keys.{KeyBits}
use Rattle.prefix_model.specs.Positions.{data_places, child_places, count_true}
use Rattle.prefix_model.specs.FirstCause.{marked}
use Rattle.prefix_model.proofs.Archive.Places.{Trie, sub}
use Rattle.prefix_model.proofs.Archive.Count.{sum_of, Narrow, count, has}
use Rattle.prefix_model.proofs.Archive.Tries.{Node, shape, Pairs, IsSound, FitTogether, IsLively, Within, Lives, root, children, Grows, count_parts, length-children}
use Rattle.prefix_model.proofs.Archive.Ordered.{OfLength}
use Rattle.prefix_model.proofs.Archive.Levels.{has_found, five_bits}

-- pairs of two lists, one behind the other
pub pairs_append : {A B : Type 0} (R : A → B → Type 0) (xs zs : List A) (ys us : List B) → Pairs R xs ys → Pairs R zs us → Pairs R (xs ++ zs) (ys ++ us)
pairs_append R [] zs [] us h k = k
pairs_append R [] zs (y ∷ ys) us h k = absurd h
pairs_append R (x ∷ xs) zs [] us h k = absurd h
pairs_append R (x ∷ xs) zs (y ∷ ys) us h k = (h.0, pairs_append R xs zs ys us h.1 k)

pairs_replicate : {A B : Type 0} (R : A → B → Type 0) (n : ℕ) (x : A) (ys : List B) → length ys ≡ n → AllByRecursion (R x) ys → Pairs R (replicate n x) ys
pairs_replicate R zero x [] l h = tt
pairs_replicate R zero x (y ∷ ys) l h = absurd (omega arith)
pairs_replicate R (suc n) x [] l h = absurd (omega arith)
pairs_replicate R (suc n) x (y ∷ ys) l h = (h.0, pairs_replicate R n x ys (omega arith) h.1)

module _ {V : Type 0} (w : ℕ) where
  narrow_within : (d : ℕ) (t : Trie V) → Within w d t → Narrow w t
  narrow_within d t h k l = h k (omega arith)

  lives_depth : (d : ℕ) (t : Trie V) → Lives w d t → d ≤ w
  lives_depth d t h =
      elim (cases_lt w d) [
        | inl deep ↦ let r = has_found w t h.inhabited in let none = ap is_some (h.within r.0 (omega arith)) in let some = r.1 in absurd cc
        | inr fine ↦ fine
      ]

  root_sound : (d : ℕ) (t : Trie V) → d ≤ w → Within w d t → IsSound w d (shape (root w t))
  unfolding data_places child_places
  root_sound d t le h = record { data_len = refl; kids_len = refl; depth = le; fits = go data_places }
    where
      go : (ps : List KeyBits) → list_any (λ p. ltb w (d + length p)) (marked ps (map is_some (map t ps))) ≡ false
      go [] = refl
      go (p ∷ ps) =
          elim (t p) as (λ o. t p ≡ o → list_any (λ p. ltb w (d + length p)) (cond (is_some o) (p ∷ marked ps (map is_some (map t ps))) (marked ps (map is_some (map t ps)))) ≡ false) [
            | None ↦ λ e. go ps
            | Some x ↦ λ e. λ i. short x e i || go ps i
          ] refl
        where
          short : (x : V) → t p ≡ Some x → ltb w (d + length p) ≡ false
          short x e = elim (cases_lt w (d + length p)) [ inl long ↦ let none = h p long in absurd cc | inr fine ↦ le-ltb w (d + length p) fine ]

  root_lively : (t : Trie V) → Narrow w t → has w t ≡ true → IsLively (shape (root w t))
  root_lively t h e =
      let kids = count_true (root w t).kids in
      let parts = count_parts w t h in
      let some = ltb-true 0 (count w t) e in
      elim (cases_lt 0 kids) [
        | inl below ↦ omega arith
        | inr none ↦ let nil : children w t ≡ [] = nil_from_length (children w t) (length-children w t ∙ (let z : kids ≡ 0 = omega arith in z)) in let zero_below : sum_of (count w) (children w t) ≡ 0 = ap (sum_of (count w)) nil in omega arith
      ]

  children_live : (d : ℕ) (t : Trie V) → Within w d t → AllByRecursion (Lives w (d + 5)) (children w t)
  children_live d t h = go child_places five_bits
    where
      below : (c : KeyBits) → length c ≡ 5 → Within w (d + 5) (sub t c)
      below c e k l = h (c ++ k) (omega (arith, length-append c k))

      go : (cs : List KeyBits) → OfLength 5 cs → AllByRecursion (Lives w (d + 5)) (filter (has w) (map (sub t) cs))
      go [] l = tt
      go (c ∷ cs) l =
          elim (has w (sub t c)) as (λ b. has w (sub t c) ≡ b → AllByRecursion (Lives w (d + 5)) (cond b (sub t c ∷ filter (has w) (map (sub t) cs)) (filter (has w) (map (sub t) cs)))) [
            | true ↦ λ e. (record { within = below c l.0; inhabited = e }, go cs l.1)
            | false ↦ λ e. go cs l.1
          ] refl

  abbrev AllLively : List (Node V) → Type 0
  AllLively nds = AllByRecursion (λ (nd : Node V). IsLively (shape nd)) nds

  grows_fits : (ds : List ℕ) (ts : List (Trie V)) (nds : List (Node V)) → Pairs (Lives w) ds ts → Grows w ts nds → FitTogether w ds (map shape nds) × AllLively nds
  grows_fits [] [] [] h g = (tt, tt)
  grows_fits [] [] (nd ∷ nds) h g = absurd g
  grows_fits [] (t ∷ ts) nds h g = absurd h
  grows_fits (d ∷ ds) [] nds h g = absurd h
  grows_fits (d ∷ ds) (t ∷ ts) [] h g = absurd g
  grows_fits (d ∷ ds) (t ∷ ts) (nd ∷ nds) h g =
      let ih = grows_fits (ds ++ replicate (count_true (root w t).kids) (d + 5)) (ts ++ children w t) nds
      (pairs_append (Lives w) ds _ ts (children w t) h.1 (pairs_replicate (Lives w) (count_true (root w t).kids) (d + 5) (children w t) (length-children w t) (children_live d t h.0.within))) g.1 in (
        subst (λ (x : Node V). IsSound w d (shape x) × FitTogether w (ds ++ replicate (count_true x.kids) (d + 5)) (map shape nds)) g.0 (root_sound d t (lives_depth d t h.0) h.0.within, ih.0),
        (subst (λ (x : Node V). IsLively (shape x)) g.0 (root_lively t (narrow_within d t h.0.within) h.0.inhabited), ih.1),
      )

  -- the nodes of one trie, of which the first may be empty
  pub root_fits : (t : Trie V) (nd : Node V) (nds : List (Node V)) → Narrow w t → Grows w (t ∷ []) (nd ∷ nds) → FitTogether w (0 ∷ []) (map shape (nd ∷ nds)) × AllByRecursion (λ (nd : Node V). IsLively (shape nd)) nds
  root_fits t nd nds h g =
      let within : Within w 0 t = λ k l. h k (omega arith) in
      let ih = grows_fits (replicate (count_true (root w t).kids) 5) (children w t) nds
      (pairs_replicate (Lives w) (count_true (root w t).kids) 5 (children w t) (length-children w t) (children_live 0 t within)) g.1 in
      (subst (λ (x : Node V). IsSound w 0 (shape x) × FitTogether w (replicate (count_true x.kids) 5) (map shape nds)) g.0 (root_sound 0 t (omega arith) within, ih.0), ih.1)
