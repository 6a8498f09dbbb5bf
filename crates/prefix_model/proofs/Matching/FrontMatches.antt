-- Fronts of a key, from shorter to longer.
use Rattle.std.proofs.Common.{◌≡◌, ℕ, ◌+◌, ◌<◌, ◌≤◌, true, false, length, take, refl, sym, ap, subst, arith, inl, inr, Option, Some, None, length-take}
use Rattle.std.specs.Prelude.{is_some, IsSome, MatchOption, max}
use Rattle.std.specs.FinMap as finite
use Rattle.std.proofs.lemmas.Bool.{cases_lt}
use Rattle.prefix_model.specs.Keys.{KeyBits}
use Rattle.prefix_model.specs.Tables.{KeyMap}
use Rattle.prefix_model.specs.Walks.{begins_with}
use Rattle.prefix_model.proofs.Fronts.{taken_front}
use Rattle.prefix_model.specs.Matches.{IsShortestEntry, IsLongestEntry}
use Rattle.prefix_model.specs.Hits.{HasNoneIn, IsLastIn, IsFirstIn}

module _ {V : Type 0} (m : KeyMap V) (bits : KeyBits) where
  pub none_more : (a b n : ℕ) → HasNoneIn m bits a b → HasNoneIn m bits b n → HasNoneIn m bits a n
  none_more a b n h k j from below = elim (cases_lt j b) [ inl first ↦ h j from first | inr later ↦ k j later below ]

  pub best_more : (a b n len : ℕ) (v : V) → IsLastIn m bits a b len v → b ≤ n → HasNoneIn m bits b n → IsLastIn m bits a n len v
  best_more a b n len v h l k = record { from = h.from; below = let x = h.below in omega arith; stored = h.stored; longest = none_more (len + 1) b n h.longest k }

  pub best_from : (a b n len : ℕ) (v : V) → a ≤ b → IsLastIn m bits b n len v → IsLastIn m bits a n len v
  best_from a b n len v l h = record { from = let x = h.from in omega arith; below = h.below; stored = h.stored; longest = h.longest }

  -- where no stored key begins with the first d bits
  pub none_under : (d n : ℕ) → ((k : KeyBits) → IsSome (finite.get m k) → begins_with (take d bits) k ≡ true → ⊥) → HasNoneIn m bits d n
  none_under d n none j from below = go (finite.get m (take j bits)) refl
    where
      go : (o : Option V) → finite.get m (take j bits) ≡ o → finite.get m (take j bits) ≡ None
      go None e = e
      go (Some v) e = absurd (none (take j bits) (ap is_some e) (taken_front bits d j from))

  -- ---- of at most so many bits

  module _ (to : ℕ) (within : to ≤ length bits) where
    size : (n : ℕ) → n < to + 1 → length (take n bits) ≡ n
    size n l = let a = length-take n bits in omega (arith, a, l, within)

    pub shortest_entry : (from n : ℕ) (v : V) → IsFirstIn m bits from (to + 1) n v → IsShortestEntry (finite.get m) bits from to (take n bits, v)
    shortest_entry from n v h =
        let at = size n h.below in
        let least = h.from in
        let below = h.below in
        record {
          front = ap (λ k. take k bits) (sym at);
          least = omega (arith, at, least);
          most = omega (arith, at, below);
          stored = h.stored;
          before = λ j a b. h.shortest j a (omega (arith, at, b));
        }

    pub longest_entry : (n : ℕ) (v : V) → IsLastIn m bits 0 (to + 1) n v → IsLongestEntry (finite.get m) bits to (take n bits, v)
    longest_entry n v h =
        let at = size n h.below in
        let below = h.below in
        record {
          front = ap (λ k. take k bits) (sym at);
          most = omega (arith, at, below);
          stored = h.stored;
          behind = λ j a b. h.longest j (omega (arith, at, a)) (omega (arith, b));
        }

-- ---- what was found so far

module _ {V X : Type 0} (len_of : X → ℕ) (value_of : X → V) where
  -- the best of the fronts with at least a and fewer than n bits, or none
  abbrev pub TellsBest : KeyMap V → KeyBits → ℕ → ℕ → Option X → Type 0
  TellsBest m bits a n r = MatchOption r (HasNoneIn m bits a n) (λ x. IsLastIn m bits a n (len_of x) (value_of x))

  pub best_same : (r : Option X) (m k : KeyMap V) (bits other : KeyBits) (a b n l : ℕ) → m ≡ k → bits ≡ other → a ≡ b → n ≡ l → TellsBest m bits a n r → TellsBest k other b l r
  best_same r m k bits other a b n l em eb ea en h =
      subst (λ x. TellsBest k other b x r) en (subst (λ x. TellsBest k other x n r) ea (subst (λ x. TellsBest k x a n r) eb (subst (λ x. TellsBest x bits a n r) em h)))

  pub best_end : (m : KeyMap V) (bits : KeyBits) (r : Option X) (b n : ℕ) → TellsBest m bits 0 b r → b ≤ n → HasNoneIn m bits b n → TellsBest m bits 0 n r
  best_end m bits None b n h l k = none_more m bits 0 b n h k
  best_end m bits (Some x) b n h l k = best_more m bits 0 b n (len_of x) (value_of x) h l k

  pub best_deeper : (m : KeyMap V) (bits : KeyBits) (before found result : Option X) (b n : ℕ) → b ≤ n → TellsBest m bits 0 b before → TellsBest m bits b n found → MatchOption found (result ≡ before) (λ x. result ≡ found) → TellsBest m bits 0 n result
  best_deeper m bits before None result b n l h k e = subst (TellsBest m bits 0 n) (sym e) (best_end m bits before b n h l k)
  best_deeper m bits before (Some x) result b n l h k e = subst (TellsBest m bits 0 n) (sym e) (best_from m bits 0 b n (len_of x) (value_of x) (omega arith) k)

-- ---- the shortest so far

module _ {V X : Type 0} (len_of : X → ℕ) (value_of : X → V) (m : KeyMap V) (bits : KeyBits) where
  abbrev pub TellsFirst : ℕ → ℕ → Option X → Type 0
  TellsFirst a n r = MatchOption r (HasNoneIn m bits a n) (λ x. IsFirstIn m bits a n (len_of x) (value_of x))

  first_more : (a b n l : ℕ) (v : V) → a ≤ b → HasNoneIn m bits a b → IsFirstIn m bits b n l v → IsFirstIn m bits a n l v
  first_more a b n l v le none h = record { from = let x = h.from in omega arith; below = h.below; stored = h.stored; shortest = none_more m bits a b l none h.shortest }

  -- what is found in a node, or else nothing, and then the rest
  pub first_deeper : (from d n : ℕ) (found : Option X) → HasNoneIn m bits from d → TellsFirst (max from d) n found → TellsFirst from n found
  first_deeper from d n None h k = λ j a b. elim (cases_lt j d) [ inl l ↦ h j a l | inr l ↦ k j (omega (arith, a, l)) b ]
  first_deeper from d n (Some x) h k = record {
    from = let y = k.from in omega (arith, y);
    below = k.below;
    stored = k.stored;
    shortest = λ j a b. elim (cases_lt j d) [ inl l ↦ h j a l | inr l ↦ k.shortest j (omega (arith, a, l)) b ];
  }

  pub first_wider : (a n k : ℕ) (x : X) → n ≤ k → IsFirstIn m bits a n (len_of x) (value_of x) → IsFirstIn m bits a k (len_of x) (value_of x)
  first_wider a n k x l h = record { from = h.from; below = let y = h.below in omega (arith, y); stored = h.stored; shortest = h.shortest }

  pub none_then : (a b n : ℕ) → HasNoneIn m bits a b → HasNoneIn m bits b n → HasNoneIn m bits a n
  none_then a b n h k j from below = none_more m bits a b n h k j from below

  pub first_end : (a n k : ℕ) (found : Option X) → n ≡ k → TellsFirst a n found → TellsFirst a k found
  first_end a n k found e h = subst (λ x. TellsFirst a x found) e h

  pub none_found : (a n : ℕ) (found : Option X) → is_some found ≡ false → TellsFirst a n found → HasNoneIn m bits a n
  none_found a n None e h = h
  none_found a n (Some x) e h = cc

  pub some_wider : (a n k : ℕ) (found : Option X) → is_some found ≡ true → n ≤ k → TellsFirst a n found → TellsFirst a k found
  some_wider a n k None e l h = cc
  some_wider a n k (Some x) e l h = first_wider a n k x l h
