-- Which lists of a node are kept.
use Rattle.std.proofs.Common.{◌≡◌, ◌≢◌, inl, inr, ℕ, zero, suc, ◌+◌, ◌-◌, ◌*◌, ◌/◌, ◌^◌, ◌<◌, Bool, true, false, cond, List, [], ◌∷◌, ◌++◌, map, refl, sym, ap, ◌∙◌, arith, append-nil, bit_or}
use Rattle.std.specs.Prelude.{◌==◌, ◌&&◌, ◌||◌, not, nat_lt, max, if◌then◌else◌}
use Rattle.std.specs.Int.{bit_at}
use Rattle.std.specs.List.{filter, range_with_len}
use Rattle.std.specs.Borrow.{Bor}
use Rattle.std.specs.declared.cmp.Ordering.{Ordering}
use Rattle.std.proofs.Math.Nat.{mul-add, mul_assoc}
use Rattle.std.proofs.lemmas.Nat.Bits.{bit_at_or, bit_at_above}
use Rattle.std.proofs.lemmas.List.{map-append}
use Rattle.std.proofs.lemmas.List.Elements.{filter-append}
use Rattle.prefix_model.specs.Masks.{set_bits}
use Rattle.prefix_model.specs.Positions.{bitmap}
use Rattle.prefix_model.specs.Rows.{count_up}
use Rattle.prefix_model.proofs.Archive.Numbers.{bitmap-lt}
use Rattle.prefix_model.proofs.Bitmaps.SetBits.{IsTop, top_of, set_bits-zero}
use lib.Count.{count_leading_zeros}
use Rattle.prefix_aggregate.proofs.Numbers.{nat_order, not_equal}
use Rattle.prefix_aggregate.specs.Same.{same_candidates}
use Rattle.prefix_aggregate.specs.Nodes.{list_at, differs, is_kept, kept_mask, kept_of}
use Rattle.prefix_aggregate.specs.declared.parts.Part.{Part}

-- ---- the places that a test passes

-- the sum of the bits of those that pass
abbrev pub weight : (ℕ → Bool) → List ℕ → ℕ
weight d [] = 0
weight d (b ∷ l) = cond (d b) (2 ^ b) 0 + weight d l

module _ (d : ℕ → Bool) where
  weight-append : (l m : List ℕ) → weight d (l ++ m) ≡ weight d l + weight d m
  weight-append [] m = omega arith
  weight-append (b ∷ l) m = let e = weight-append l m in omega (arith, e)

  -- of those that pass one test, and then another
  module _ (s : ℕ → Bool) where
    filter-both : (l : List ℕ) → filter d (filter s l) ≡ filter (λ b. s b && d b) l
    filter-both [] = refl
    filter-both (b ∷ l) = of (s b) ∙ ap (λ k. cond (s b && d b) (b ∷ k) k) (filter-both l)
      where
        of : (t : Bool) → filter d (cond t (b ∷ filter s l) (filter s l)) ≡ cond (t && d b) (b ∷ filter d (filter s l)) (filter d (filter s l))
        of true = refl
        of false = refl

    weight-both : (l : List ℕ) → weight d (filter s l) ≡ weight (λ b. s b && d b) l
    weight-both [] = refl
    weight-both (b ∷ l) = of (s b) ∙ ap (λ k. cond (s b && d b) (2 ^ b) 0 + k) (weight-both l)
      where
        of : (t : Bool) → weight d (cond t (b ∷ filter s l) (filter s l)) ≡ cond (t && d b) (2 ^ b) 0 + weight d (filter s l)
        of true = refl
        of false = omega arith

-- as a word
weight_word : (f : ℕ → Bool) (k n : ℕ) → weight f (count_up k n) ≡ 2 ^ k * bitmap (map f (count_up k n))
weight_word f k zero = let e : 0 ≡ 2 ^ k * 0 = omega arith in e
weight_word f k (suc n) =
    let double = power k in
    ap (λ m. cond (f k) (2 ^ k) 0 + m) (weight_word f (k + 1) n ∙ ap (λ m. m * bitmap (map f (count_up (k + 1) n))) double ∙ mul_assoc (2 ^ k) 2 (bitmap (map f (count_up (k + 1) n))))
    ∙ ap (λ m. m + 2 ^ k * (2 * bitmap (map f (count_up (k + 1) n)))) (one (f k))
    ∙ sym (mul-add (2 ^ k) (cond (f k) 1 0) (2 * bitmap (map f (count_up (k + 1) n))))
  where
    power : (k : ℕ) → 2 ^ (k + 1) ≡ 2 ^ k * 2
    power k = (let e : k + 1 ≡ suc k = omega arith in ap (λ m. 2 ^ m) e) ∙ next k
      where
        next : (k : ℕ) → 2 ^ suc k ≡ 2 ^ k * 2
        next k = omega arith

    one : (t : Bool) → cond t (2 ^ k) 0 ≡ 2 ^ k * cond t 1 0
    one true = let e : 2 ^ k ≡ 2 ^ k * 1 = omega arith in e
    one false = let e : 0 ≡ 2 ^ k * 0 = omega arith in e

-- tests that agree
same_filter : (f g : ℕ → Bool) (k n : ℕ) → ((b : ℕ) → b < k + n → f b ≡ g b) → filter f (count_up k n) ≡ filter g (count_up k n)
same_filter f g k zero h = refl
same_filter f g k (suc n) h = λ i. cond (h k (omega arith) i) (k ∷ same_filter f g (k + 1) n (λ b l. h b (omega (arith, l))) i) (same_filter f g (k + 1) n (λ b l. h b (omega (arith, l))) i)

same_map : (f g : ℕ → Bool) (k n : ℕ) → ((b : ℕ) → b < k + n → f b ≡ g b) → map f (count_up k n) ≡ map g (count_up k n)
same_map f g k zero h = refl
same_map f g k (suc n) h = λ i. h k (omega arith) i ∷ same_map f g (k + 1) n (λ b l. h b (omega (arith, l))) i

all_bits : range_with_len 0 32 ≡ count_up 0 31 ++ 31 ∷ []
all_bits = refl

-- ---- the lists that are kept, by the places whose place above is inner

less : (a b : ℕ) → a < b → nat_lt a b ≡ true
less a b h = grind (arith, h)

module _ {X : Type 0} (cmp : X → X → Ordering) (vs : List (Bor X)) (lists : List Part) (inner coverage : ℕ) (is : (b : ℕ) → bit_at coverage b ≡ (if nat_lt 0 b && nat_lt b 31 then bit_at inner ((b - 1) / 2) else 0)) where
  last_clear : bit_at (bit_or coverage 1) 31 ≡ 0
  last_clear = bit_at_or coverage 1 31 ∙ (λ i. max (is 31 i) (bit_at_above 1 1 31 (omega arith) (omega arith) i))

  pub shown_small : bit_or coverage 1 < 2 ^ 32 → bit_or coverage 1 < 2 ^ 31
  shown_small h = let e = last_clear in omega (arith, h, e)

  above_bit : (b : ℕ) → suc b < 31 → bit_at (bit_or coverage 1) (suc b) ≡ bit_at inner ((suc b - 1) / 2)
  above_bit b h =
      let c : bit_at coverage (suc b) ≡ bit_at inner ((suc b - 1) / 2) = is (suc b) ∙ (λ i. if less 0 (suc b) (omega arith) i && less (suc b) 31 h i then bit_at inner ((suc b - 1) / 2) else 0) in
      let one = bit_at_above 1 1 (suc b) (omega arith) (omega arith) in
      let e = bit_at_or coverage 1 (suc b) in
      omega (arith, c, one, e)

  kept_shown : (b : ℕ) → b < 0 + 31 → ((bit_at (bit_or coverage 1) b == 1) && differs cmp vs lists b) ≡ is_kept cmp vs lists inner b
  kept_shown zero h = ap (λ d. (d == 1) && differs cmp vs lists 0) (bit_at_or coverage 1 0 ∙ ap (λ d. max d 1) (is 0))
  kept_shown (suc b) h =
      let other = not_equal (suc b) 0 (λ e. omega (arith, e)) in
      let n = not (same_candidates cmp (list_at vs lists (suc b)) (list_at vs lists ((suc b - 1) / 2))) in
      (λ i. (above_bit b (omega (arith, h)) i == 1) && (other i || n)) ∙ (λ i. sym other i || ((bit_at inner ((suc b - 1) / 2) == 1) && n))

  last_out : ((bit_at (bit_or coverage 1) 31 == 1) && differs cmp vs lists 31) ≡ false
  last_out = ap (λ d. (d == 1) && differs cmp vs lists 31) last_clear

  pub all_lists : map (list_at vs lists) (filter (differs cmp vs lists) (set_bits (bit_or coverage 1))) ≡ kept_of cmp vs lists inner
  unfolding set_bits kept_of
  all_lists = ap (map (list_at vs lists))
      (filter-both (differs cmp vs lists) (λ b. bit_at (bit_or coverage 1) b == 1) (range_with_len 0 32)
      ∙ ap (filter (λ b. (bit_at (bit_or coverage 1) b == 1) && differs cmp vs lists b)) all_bits
      ∙ filter-append (λ b. (bit_at (bit_or coverage 1) b == 1) && differs cmp vs lists b) (count_up 0 31) (31 ∷ [])
      ∙ (λ i. same_filter (λ b. (bit_at (bit_or coverage 1) b == 1) && differs cmp vs lists b) (is_kept cmp vs lists inner) 0 31 kept_shown i ++ cond (last_out i) (31 ∷ []) [])
      ∙ append-nil (filter (is_kept cmp vs lists inner) (count_up 0 31)))

  pub all_weight : weight (differs cmp vs lists) (set_bits (bit_or coverage 1)) ≡ kept_mask cmp vs lists inner
  unfolding set_bits kept_mask
  all_weight =
      let word = weight_word (λ b. (bit_at (bit_or coverage 1) b == 1) && differs cmp vs lists b) 0 31 in
      let none : cond ((bit_at (bit_or coverage 1) 31 == 1) && differs cmp vs lists 31) (2 ^ 31) 0 ≡ 0 = ap (λ t. cond t (2 ^ 31) 0) last_out in
      weight-both (differs cmp vs lists) (λ b. bit_at (bit_or coverage 1) b == 1) (range_with_len 0 32)
      ∙ ap (weight (λ b. (bit_at (bit_or coverage 1) b == 1) && differs cmp vs lists b)) all_bits
      ∙ weight-append (λ b. (bit_at (bit_or coverage 1) b == 1) && differs cmp vs lists b) (count_up 0 31) (31 ∷ [])
      ∙ (λ i. word i + (none i + 0))
      ∙ one_times (bitmap (map (λ b. (bit_at (bit_or coverage 1) b == 1) && differs cmp vs lists b) (count_up 0 31)))
      ∙ ap bitmap (same_map (λ b. (bit_at (bit_or coverage 1) b == 1) && differs cmp vs lists b) (is_kept cmp vs lists inner) 0 31 kept_shown)
    where
      one_times : (m : ℕ) → 2 ^ 0 * m + (0 + 0) ≡ m
      one_times m = omega arith

module _ {X : Type 0} (cmp : X → X → Ordering) (vs : List (Bor X)) (lists : List Part) (inner : ℕ) where
  pub mask_small : kept_mask cmp vs lists inner < 2 ^ 31
  unfolding kept_mask
  mask_small = bitmap-lt (map (is_kept cmp vs lists inner) (count_up 0 31))

  -- the last place that is left goes
  module _ (rest fewer t : ℕ) (taken : set_bits rest ≡ set_bits fewer ++ t ∷ []) where
    pub weight_left : weight (differs cmp vs lists) (set_bits rest) ≡ weight (differs cmp vs lists) (set_bits fewer) + cond (differs cmp vs lists t) (2 ^ t) 0
    weight_left =
        let e = ap (weight (differs cmp vs lists)) taken ∙ weight-append (differs cmp vs lists) (set_bits fewer) (t ∷ []) in
        omega (arith, e)

    pub lists_left : map (list_at vs lists) (filter (differs cmp vs lists) (set_bits rest))
        ≡ map (list_at vs lists) (filter (differs cmp vs lists) (set_bits fewer)) ++ map (list_at vs lists) (filter (differs cmp vs lists) (t ∷ []))
    lists_left =
        ap (λ l. map (list_at vs lists) (filter (differs cmp vs lists) l)) taken
        ∙ ap (map (list_at vs lists)) (filter-append (differs cmp vs lists) (set_bits fewer) (t ∷ []))
        ∙ map-append (list_at vs lists) (filter (differs cmp vs lists) (set_bits fewer)) (filter (differs cmp vs lists) (t ∷ []))

  -- none is left
  module _ (rest : ℕ) (none : rest ≡ 0) where
    pub no_weight : weight (differs cmp vs lists) (set_bits rest) ≡ 0
    no_weight = ap (weight (differs cmp vs lists)) (set_bits-zero rest none)

    pub no_lists : map (list_at vs lists) (filter (differs cmp vs lists) (set_bits rest)) ≡ []
    no_lists = ap (λ l. map (list_at vs lists) (filter (differs cmp vs lists) l)) (set_bits-zero rest none)

pub top_small : (x : ℕ) → x < 2 ^ 31 → x ≢ 0 → 31 - count_leading_zeros 32 x < 31
top_small x small some =
    let top = top_of x (omega (arith, small)) (positive x some) in
    of (31 - count_leading_zeros 32 x) top
  where
    positive : (x : ℕ) → x ≢ 0 → 0 < x
    positive zero n = absurd (n refl)
    positive (suc x) n = omega arith

    of : (t : ℕ) → IsTop x t → t < 31
    of t top = elim (nat_order 31 t) [
      | inl high ↦ absurd (let e = bit_at_above x 31 t small high in let s = top.set in omega (arith, e, s))
      | inr low ↦ low
    ]
