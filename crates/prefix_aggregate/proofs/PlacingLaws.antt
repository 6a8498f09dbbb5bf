-- Entries below a key, and keys that end in zeros.
use Rattle.std.proofs.Common.{◌≡◌, ℕ, zero, suc, ◌+◌, ◌-◌, ◌<◌, Bool, true, false, List, [], ◌∷◌, ◌++◌, take, drop, replicate, Option, refl, sym, ap, ◌∙◌, arith, append_assoc}
use Rattle.std.specs.Prelude.{slice_set}
use Rattle.std.proofs.lemmas.List.{map-append}
use Rattle.prefix_model.specs.Keys.{KeyBits}
use Rattle.prefix_model.specs.Tables.{KeyMap}
use Rattle.prefix_model.specs.Building.{insert_all}
use Rattle.prefix_model.proofs.Building.{insert_all-append}
use Rattle.prefix_model.specs.LeastTable.{entry, below, with_halves}
use Rattle.prefix_aggregate.specs.Lists.{at}

-- ---- entries below a key

module _ {V : Type 0} where
  at-below : (k : KeyBits) (b : Bool) (es : List (KeyBits × V)) → at k (below b es) ≡ at (k ++ b ∷ []) es
  at-below k b [] = refl
  at-below k b (e ∷ es) = λ i. (sym (append_assoc k (b ∷ []) e.0) i, e.1) ∷ at-below k b es i

  -- the entries of a key and of its halves, one after the other
  pub placed_halves : (k : KeyBits) (m : KeyMap V) (x : Option V) (es fs : List (KeyBits × V))
      → insert_all (insert_all (insert_all m (at k (entry x))) (at (k ++ false ∷ []) es)) (at (k ++ true ∷ []) fs) ≡ insert_all m (at k (with_halves x es fs))
  placed_halves k m x es fs = sym
      (ap (insert_all m) (map-append (λ e. (k ++ e.0, e.1)) (entry x) (below false es ++ below true fs))
      ∙ insert_all-append m (at k (entry x)) (at k (below false es ++ below true fs))
      ∙ ap (insert_all (insert_all m (at k (entry x)))) (map-append (λ e. (k ++ e.0, e.1)) (below false es) (below true fs))
      ∙ insert_all-append (insert_all m (at k (entry x))) (at k (below false es)) (at k (below true fs))
      ∙ (λ i. insert_all (insert_all (insert_all m (at k (entry x))) (at-below k false es i)) (at-below k true fs i)))

  pub at_front : (es : List (KeyBits × V)) → at [] es ≡ es
  at_front [] = refl
  at_front (e ∷ es) = ap (λ r. e ∷ r) (at_front es)

-- ---- keys that end in zeros

next_zero : (bits : KeyBits) (len m : ℕ) → drop len bits ≡ replicate (suc m) false → take (suc len) bits ≡ take len bits ++ false ∷ []
next_zero [] zero m e = absurd cc
next_zero (b ∷ bits) zero m e = let h : b ≡ false = cc in ap (λ b. b ∷ []) h
next_zero [] (suc len) m e = absurd cc
next_zero (b ∷ bits) (suc len) m e = ap (λ k. b ∷ k) (next_zero bits len m e)

zeros_left : (bits : KeyBits) (len m : ℕ) → drop len bits ≡ replicate (suc m) false → drop (suc len) bits ≡ replicate m false
zeros_left [] zero m e = absurd cc
zeros_left (b ∷ bits) zero m e = let t : bits ≡ replicate m false = cc in t
zeros_left [] (suc len) m e = absurd cc
zeros_left (b ∷ bits) (suc len) m e = zeros_left bits len m e

next_one : (bits : KeyBits) (len m : ℕ) → drop len bits ≡ replicate (suc m) false → take (suc len) (slice_set bits len true) ≡ take len bits ++ true ∷ []
next_one [] zero m e = absurd cc
next_one (b ∷ bits) zero m e = refl
next_one [] (suc len) m e = absurd cc
next_one (b ∷ bits) (suc len) m e = ap (λ k. b ∷ k) (next_one bits len m e)

rest_kept : (bits : KeyBits) (len : ℕ) → drop (suc len) (slice_set bits len true) ≡ drop (suc len) bits
rest_kept [] zero = refl
rest_kept (b ∷ bits) zero = refl
rest_kept [] (suc len) = refl
rest_kept (b ∷ bits) (suc len) = rest_kept bits len

-- of w bits all that follow the first len are zeros; one of them is left, and the next is as it is or is set
module _ (bits : KeyBits) (len w : ℕ) (within : len < w) (zeros : drop len bits ≡ replicate (w - len) false) where
  some_left : drop len bits ≡ replicate (suc (w - (len + 1))) false
  some_left = zeros ∙ ap (λ n. replicate n false) (let e : w - len ≡ suc (w - (len + 1)) = omega arith in e)

  one_more : len + 1 ≡ suc len
  one_more = omega arith

  pub key_zero : take (len + 1) bits ≡ take len bits ++ false ∷ []
  key_zero = ap (λ n. take n bits) one_more ∙ next_zero bits len (w - (len + 1)) some_left

  pub rest_zero : drop (len + 1) bits ≡ replicate (w - (len + 1)) false
  rest_zero = ap (λ n. drop n bits) one_more ∙ zeros_left bits len (w - (len + 1)) some_left

  pub key_one : take (len + 1) (slice_set bits len true) ≡ take len bits ++ true ∷ []
  key_one = ap (λ n. take n (slice_set bits len true)) one_more ∙ next_one bits len (w - (len + 1)) some_left

  pub rest_one : drop (len + 1) (slice_set bits len true) ≡ replicate (w - (len + 1)) false
  rest_one = ap (λ n. drop n (slice_set bits len true)) one_more ∙ rest_kept bits len ∙ zeros_left bits len (w - (len + 1)) some_left
