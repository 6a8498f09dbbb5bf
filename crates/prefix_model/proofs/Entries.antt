-- Lists of entries: those that go on with a bit, and those behind a bit.
use Rattle.std.proofs.Common.{◌≡◌, ℕ, suc, ◌+◌, ◌≤◌, Bool, true, false, cond, not, List, [], ◌∷◌, ◌++◌, length, refl, ap, ◌∙◌, arith, Option, Some, None}
use Rattle.std.specs.Prelude.{is_some}
use Rattle.std.specs.Option.{option_or}
use Rattle.std.specs.Ordering.{eq_by_cmp}
use Rattle.std.specs.FinMap.{find}
use Rattle.prefix_model.specs.Keys.{KeyBits, key_cmp}
use Rattle.prefix_model.specs.Tables.{Values}
use Rattle.prefix_model.specs.LeastTable.{entry, below, with_halves}

-- what the entries hold
abbrev pub held : {V : Type 0} → List (KeyBits × V) → Values V
held es q = find key_cmp q es

-- 1 where the test holds
abbrev pub mark : Bool → ℕ
mark b = cond b 1 0

module _ {V : Type 0} where
  held-append : (es fs : List (KeyBits × V)) (q : KeyBits) → held (es ++ fs) q ≡ option_or (held es q) (held fs q)
  held-append [] fs q = refl
  held-append (e ∷ es) fs q =
      elim (eq_by_cmp key_cmp q e.0) as (λ b. cond b (Some e.1) (held (es ++ fs) q) ≡ option_or (cond b (Some e.1) (held es q)) (held fs q)) [ true ↦ refl | false ↦ held-append es fs q ]

  -- entries behind a bit hold nothing at the empty key
  pub held-below_nil : (b : Bool) (es : List (KeyBits × V)) → held (below b es) [] ≡ None
  held-below_nil b [] = refl
  held-below_nil b (e ∷ es) = held-below_nil b es

  -- behind that bit what they held
  pub held-below : (b : Bool) (es : List (KeyBits × V)) (q : KeyBits) → held (below b es) (b ∷ q) ≡ held es q
  held-below b [] q = refl
  held-below true (e ∷ es) q = ap (cond (eq_by_cmp key_cmp q e.0) (Some e.1)) (held-below true es q)
  held-below false (e ∷ es) q = ap (cond (eq_by_cmp key_cmp q e.0) (Some e.1)) (held-below false es q)

  -- and nothing behind the other
  pub held-below_other : (b : Bool) (es : List (KeyBits × V)) (q : KeyBits) → held (below b es) (not b ∷ q) ≡ None
  held-below_other b [] q = refl
  held-below_other true (e ∷ es) q = held-below_other true es q
  held-below_other false (e ∷ es) q = held-below_other false es q

  -- an entry at the empty key holds it
  pub held-entry : (x : Option V) → held (entry x) [] ≡ x
  held-entry None = refl
  held-entry (Some x) = refl

  -- and nothing elsewhere
  pub held-entry_cons : (x : Option V) (b : Bool) (q : KeyBits) → held (entry x) (b ∷ q) ≡ None
  held-entry_cons None b q = refl
  held-entry_cons (Some x) b q = refl

  or-none : (x : Option V) → option_or x None ≡ x
  or-none None = refl
  or-none (Some x) = refl

  module _ (x : Option V) (es fs : List (KeyBits × V)) where
    -- a key and its halves: at the key
    pub held-with_halves_nil : held (with_halves x es fs) [] ≡ x
    held-with_halves_nil =
        held-append (entry x) (below false es ++ below true fs) []
        ∙ ap (λ y. option_or y (held (below false es ++ below true fs) [])) (held-entry x)
        ∙ ap (option_or x) (held-append (below false es) (below true fs) [] ∙ ap (λ y. option_or y (held (below true fs) [])) (held-below_nil false es) ∙ held-below_nil true fs)
        ∙ or-none x

    -- behind 0
    pub held-with_halves_false : (q : KeyBits) → held (with_halves x es fs) (false ∷ q) ≡ held es q
    held-with_halves_false q =
        held-append (entry x) (below false es ++ below true fs) (false ∷ q)
        ∙ ap (λ y. option_or y (held (below false es ++ below true fs) (false ∷ q))) (held-entry_cons x false q)
        ∙ held-append (below false es) (below true fs) (false ∷ q)
        ∙ ap (option_or (held (below false es) (false ∷ q))) (held-below_other true fs q)
        ∙ or-none _
        ∙ held-below false es q

    -- behind 1
    pub held-with_halves_true : (q : KeyBits) → held (with_halves x es fs) (true ∷ q) ≡ held fs q
    held-with_halves_true q =
        held-append (entry x) (below false es ++ below true fs) (true ∷ q)
        ∙ ap (λ y. option_or y (held (below false es ++ below true fs) (true ∷ q))) (held-entry_cons x true q)
        ∙ held-append (below false es) (below true fs) (true ∷ q)
        ∙ ap (λ y. option_or y (held (below true fs) (true ∷ q))) (held-below_other false es q)
        ∙ held-below true fs q

  length-append_pair : (es fs : List (KeyBits × V)) → length (es ++ fs) ≡ length es + length fs
  length-append_pair [] fs = omega arith
  length-append_pair (e ∷ es) fs = let ih = length-append_pair es fs in omega arith

  length-below : (b : Bool) (es : List (KeyBits × V)) → length (below b es) ≡ length es
  length-below b [] = refl
  length-below b (e ∷ es) = ap suc (length-below b es)

  -- how many entries these are
  pub length-entry : (x : Option V) → length (entry x) ≡ mark (is_some x)
  length-entry None = refl
  length-entry (Some x) = refl

  -- and these
  pub length-with_halves : (x : Option V) (es fs : List (KeyBits × V)) → length (with_halves x es fs) ≡ mark (is_some x) + (length es + length fs)
  length-with_halves x es fs =
      let a = length-append_pair (entry x) (below false es ++ below true fs) in
      let b = length-append_pair (below false es) (below true fs) in
      omega (arith, a, b, length-below false es, length-below true fs, length-entry x)

  -- the entry's rest, where it begins with the bit
  abbrev put_half : Bool → KeyBits → V → List (KeyBits × V) → List (KeyBits × V)
  put_half b [] x es = es
  put_half true (true ∷ k) x es = (k, x) ∷ es
  put_half true (false ∷ k) x es = es
  put_half false (true ∷ k) x es = es
  put_half false (false ∷ k) x es = (k, x) ∷ es

  -- the entries that begin with bit b, without it
  abbrev pub half : Bool → List (KeyBits × V) → List (KeyBits × V)
  half b [] = []
  half b (e ∷ es) = put_half b e.0 e.1 (half b es)

  held-put_half : (b : Bool) (k : KeyBits) (x : V) (es : List (KeyBits × V)) (q : KeyBits) → held (put_half b k x es) q ≡ cond (eq_by_cmp key_cmp (b ∷ q) k) (Some x) (held es q)
  held-put_half b [] x es q = refl
  held-put_half true (true ∷ k) x es q = refl
  held-put_half true (false ∷ k) x es q = refl
  held-put_half false (true ∷ k) x es q = refl
  held-put_half false (false ∷ k) x es q = refl

  -- the entries behind a bit hold what all do there
  pub held-half : (b : Bool) (es : List (KeyBits × V)) (q : KeyBits) → held (half b es) q ≡ held es (b ∷ q)
  held-half b [] q = refl
  held-half b (e ∷ es) q = held-put_half b e.0 e.1 (half b es) q ∙ ap (cond (eq_by_cmp key_cmp (b ∷ q) e.0) (Some e.1)) (held-half b es q)

  counted : (k : KeyBits) (x : V) (es fs gs : List (KeyBits × V)) → mark (is_some (held gs [])) + (length es + length fs) ≤ length gs → mark (is_some (held ((k, x) ∷ gs) [])) + (length (put_half false k x es) + length (put_half true k x fs)) ≤ suc (length gs)
  counted [] x es fs gs h = omega arith
  counted (true ∷ k) x es fs gs h = omega arith
  counted (false ∷ k) x es fs gs h = omega arith

  -- the halves and the entry at the empty key are no more than all
  pub length-half : (es : List (KeyBits × V)) → mark (is_some (held es [])) + (length (half false es) + length (half true es)) ≤ length es
  length-half [] = omega arith
  length-half (e ∷ es) = counted e.0 e.1 (half false es) (half true es) es (length-half es)
