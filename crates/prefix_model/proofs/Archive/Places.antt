-- The places of a node: a trie is known by what stands at its data places and behind its child places.
use Rattle.std.proofs.Common.{◌≡◌, ℕ, zero, suc, Bool, true, false, cond, not, List, [], ◌∷◌, ◌++◌, length, map, take, drop, refl, sym, ap, ◌∙◌, Option, None}
use Rattle.std.specs.Prelude.{◌&&◌, ◌||◌}
use Rattle.std.proofs.lemmas.List.{take-append-drop}
use Rattle.std.specs.List.{list_all}
use Rattle.prefix_model.specs.Keys.{KeyBits, same_key, stands_in}
use Rattle.prefix_model.specs.Positions.{data_places, child_places}
use Rattle.prefix_model.proofs.KeyLemmas.{both_true, same_key-same, same_key-itself}

-- what each key holds
abbrev pub Trie : Type 0 → Type 0
Trie V = KeyBits → Option V

-- what f holds behind a key
abbrev pub sub : {V : Type 0} → Trie V → KeyBits → Trie V
sub f c k = f (c ++ k)

-- no values
abbrev pub nothing : {V : Type 0} → Trie V
nothing k = None

-- ---- elements by their keys

-- the item whose key is k, and d where there is none
abbrev pub at : {A : Type 0} → A → List KeyBits → List A → KeyBits → A
at d [] xs k = d
at d (p ∷ ps) [] k = d
at d (p ∷ ps) (x ∷ xs) k = cond (same_key k p) x (at d ps xs k)

abbrev others : KeyBits → List KeyBits → Bool
others p ps = list_all (λ s. not (same_key s p)) ps

abbrev apart : List KeyBits → Bool
apart [] = true
apart (p ∷ ps) = others p ps && apart ps

module _ {A : Type 0} (d : A) where
  skip_at : (p : KeyBits) (x : A) (g : KeyBits → A) (ps : List KeyBits) → others p ps ≡ true → map (λ s. cond (same_key s p) x (g s)) ps ≡ map g ps
  skip_at p x g [] e = refl
  skip_at p x g (s ∷ ps) e =
      let parts = both_true (not (same_key s p)) (others p ps) e in
      λ i. other (same_key s p) parts.0 i ∷ skip_at p x g ps parts.1 i
    where
      other : (b : Bool) → not b ≡ true → cond b x (g s) ≡ g s
      other true e = cc
      other false e = refl

  map-at : (ps : List KeyBits) (xs : List A) → apart ps ≡ true → length xs ≡ length ps → map (at d ps xs) ps ≡ xs
  map-at [] [] e l = refl
  map-at [] (x ∷ xs) e l = cc
  map-at (p ∷ ps) [] e l = cc
  map-at (p ∷ ps) (x ∷ xs) e l =
      let parts = both_true (others p ps) (apart ps) e in
      λ i. ap (λ b. cond b x (at d ps xs p)) (same_key-itself p) i ∷ (skip_at p x (at d ps xs) ps parts.0 ∙ map-at ps xs parts.1 (cc)) i

  at-map : (f : KeyBits → A) (ps : List KeyBits) (k : KeyBits) → stands_in ps k ≡ true → at d ps (map f ps) k ≡ f k
  at-map f [] k e = cc
  at-map f (p ∷ ps) k e =
      elim (same_key k p) as (λ b. same_key k p ≡ b → (b || stands_in ps k) ≡ true → cond b (f p) (at d ps (map f ps) k) ≡ f k) [
        | true ↦ λ same h. ap f (sym (same_key-same k p same))
        | false ↦ λ same h. at-map f ps k h
      ] refl e

-- ---- short keys

-- the key has fewer than n bits
abbrev pub short : ℕ → KeyBits → Bool
short zero k = false
short (suc n) [] = true
short (suc n) (b ∷ k) = short n k

-- each key of fewer than n bits passes
abbrev each : ℕ → (KeyBits → Bool) → Bool
each zero test = true
each (suc n) test = test [] && (each n (λ k. test (false ∷ k)) && each n (λ k. test (true ∷ k)))

each-holds : (n : ℕ) (test : KeyBits → Bool) → each n test ≡ true → (k : KeyBits) → short n k ≡ true → test k ≡ true
each-holds zero test e k h = cc
each-holds (suc n) test e [] h = (both_true _ _ e).0
each-holds (suc n) test e (false ∷ k) h = each-holds n (λ k. test (false ∷ k)) (both_true (each n (λ k. test (false ∷ k))) (each n (λ k. test (true ∷ k))) (both_true (test []) _ e).1).0 k h
each-holds (suc n) test e (true ∷ k) h = each-holds n (λ k. test (true ∷ k)) (both_true (each n (λ k. test (false ∷ k))) (each n (λ k. test (true ∷ k))) (both_true (test []) _ e).1).1 k h

-- a key of fewer than five bits is the place of a data bit
pub in_data : (k : KeyBits) → short 5 k ≡ true → stands_in data_places k ≡ true
unfolding data_places
in_data k h = each-holds 5 (stands_in data_places) refl k h

-- five bits are the place of a child
pub in_children : (k : KeyBits) → short 5 k ≡ false → stands_in child_places (take 5 k) ≡ true
unfolding child_places
in_children [] h = cc
in_children (a ∷ []) h = cc
in_children (a ∷ b ∷ []) h = cc
in_children (a ∷ b ∷ c ∷ []) h = cc
in_children (a ∷ b ∷ c ∷ d ∷ []) h = cc
in_children (a ∷ b ∷ c ∷ d ∷ e ∷ k) h = each-holds 6 (λ k. short 5 k || stands_in child_places k) refl (a ∷ b ∷ c ∷ d ∷ e ∷ []) refl

-- ---- tries

module _ {V : Type 0} where
  -- the trie with these values in its first node and these children
  pub build : List (Option V) → List (Trie V) → Trie V
  build vs ts k = cond (short 5 k) (at None data_places vs k) (at nothing child_places ts (take 5 k) (drop 5 k))

  -- it has these values
  pub values_build : (vs : List (Option V)) (ts : List (Trie V)) → length vs ≡ 31 → map (build vs ts) data_places ≡ vs
  unfolding build data_places
  values_build vs ts l = map-at None data_places vs refl l

  -- and these children
  pub subs_build : (vs : List (Option V)) (ts : List (Trie V)) → length ts ≡ 32 → map (sub (build vs ts)) child_places ≡ ts
  unfolding build child_places
  subs_build vs ts l = map-at nothing child_places ts refl l

  -- a trie is built from its values and children
  pub build_again : (f : Trie V) → build (map f data_places) (map (sub f) child_places) ≡ f
  unfolding build
  build_again f = λ i k. again k (short 5 k) refl i
    where
      again : (k : KeyBits) (b : Bool) → short 5 k ≡ b → cond b (at None data_places (map f data_places) k) (at nothing child_places (map (sub f) child_places) (take 5 k) (drop 5 k)) ≡ f k
      again k true e = at-map None f data_places k (in_data k e)
      again k false e = ap (λ g. g (drop 5 k)) (at-map nothing (sub f) child_places (take 5 k) (in_children k e)) ∙ ap f (take-append-drop 5 k)

  -- where the trie holds what it is built from
  pub build_short : (vs : List (Option V)) (ts : List (Trie V)) (k : KeyBits) → short 5 k ≡ true → build vs ts k ≡ at None data_places vs k
  unfolding build
  build_short vs ts k e = ap (λ b. cond b (at None data_places vs k) (at nothing child_places ts (take 5 k) (drop 5 k))) e

  -- and behind five bits what the child holds
  pub build_long : (vs : List (Option V)) (ts : List (Trie V)) (k : KeyBits) → short 5 k ≡ false → build vs ts k ≡ at nothing child_places ts (take 5 k) (drop 5 k)
  unfolding build
  build_long vs ts k e = ap (λ b. cond b (at None data_places vs k) (at nothing child_places ts (take 5 k) (drop 5 k))) e
