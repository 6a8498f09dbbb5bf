-- The places and the children of a node, by the numbers of the bits that are set.
use Rattle.std.proofs.Common.{◌≡◌, ℕ, zero, suc, ◌+◌, ◌^◌, ◌<◌, ◌≤◌, Bool, true, false, cond, List, [], ◌∷◌, ◌++◌, length, map, get_or, refl, sym, ap, ◌∙◌, subst, arith, Option, Some, None}
use Rattle.std.specs.Prelude.{is_some, slice_get, ◌==◌, ◌/◌, ◌-◌, min, IsBitSet, bit_and}
use Rattle.std.specs.Int.{bit_at}
use Rattle.std.specs.List.{AllByRecursion, filter, filter_map, cons_option, flat_map, range_with_len}
use Rattle.std.proofs.lemmas.Nat.{bit_set_by_shift}
use Rattle.std.proofs.lemmas.Nat.Bits.{shr_and_one, bit_at_and, bit_at_ones, bit_at_ones_above, bit_at-lt}
use Rattle.std.proofs.lemmas.Nat.{shr-shr}
use Rattle.std.proofs.lemmas.List.{append-nil, map-append, length-map}
use Rattle.std.proofs.lemmas.List.Elements.{filter-append}
use Rattle.std.proofs.lemmas.List.FromFn.{length-range_with_len}
use Rattle.prefix_model.specs.Keys.{KeyBits, low_bits}
use Rattle.prefix_model.specs.Masks.{set_bits}
use Rattle.prefix_model.specs.Positions.{bitmap, data_bits, child_bits, data_places, child_places, bits_of}
use Rattle.prefix_model.specs.FirstCause.{marked}
use Rattle.prefix_model.specs.Spelling.{Codec}
use Rattle.prefix_model.proofs.MaskBits.{data_mask_tells, child_mask_tells, masks_fit}
use Rattle.prefix_model.proofs.KeyLemmas.{map_map, all_filter}
use Rattle.prefix_layout.proofs.Below.{bitmap_push, found_at, count_places}
use Rattle.prefix_model.specs.TableViews.{TableView, position_at}
use Rattle.prefix_layout.specs.Reads.{set_places, set_children}
use Rattle.prefix_layout.specs.Writing.{children_where, node_values, is_filled, filled_bits, positions_of_nodes}
use Rattle.prefix_layout.specs.declared.write.Placed.{Placed}

-- ---- lists

filter_same : {A : Type 0} (p q : A → Bool) (xs : List A) → AllByRecursion (λ x. p x ≡ q x) xs → filter p xs ≡ filter q xs
filter_same p q [] h = refl
filter_same p q (x ∷ xs) h = λ i. cond (h.0 i) (x ∷ filter_same p q xs h.1 i) (filter_same p q xs h.1 i)

pub filter_map_is : {A B : Type 0} (t : B → Bool) (h : A → B) (xs : List A) → filter t (map h xs) ≡ map h (filter (λ x. t (h x)) xs)
filter_map_is t h [] = refl
filter_map_is t h (x ∷ xs) = elim (t (h x)) as (λ b. cond b (h x ∷ filter t (map h xs)) (filter t (map h xs)) ≡ map h (cond b (x ∷ filter (λ y. t (h y)) xs) (filter (λ y. t (h y)) xs))) [
  | true ↦ ap (λ ys. h x ∷ ys) (filter_map_is t h xs)
  | false ↦ filter_map_is t h xs
]

all_passed : {A : Type 0} (P : A → Type 0) (t : A → Bool) (xs : List A) → AllByRecursion P xs → AllByRecursion (λ x. P x × (t x ≡ true)) (filter t xs)
all_passed P t [] h = tt
all_passed P t (x ∷ xs) h = go (t x) refl (all_passed P t xs h.1)
  where
    go : (b : Bool) → t x ≡ b → AllByRecursion (λ x. P x × (t x ≡ true)) (filter t xs) → AllByRecursion (λ x. P x × (t x ≡ true)) (cond b (x ∷ filter t xs) (filter t xs))
    go true e r = ((h.0, e), r)
    go false e r = r

pub all_weaker : {A : Type 0} (P Q : A → Type 0) (xs : List A) → ((x : A) → P x → Q x) → AllByRecursion P xs → AllByRecursion Q xs
all_weaker P Q [] f h = tt
all_weaker P Q (x ∷ xs) f h = (f x h.0, all_weaker P Q xs f h.1)

all_under : (m a n : ℕ) → a + n ≤ m → AllByRecursion (λ x. x < m) (range_with_len a n)
all_under m a zero l = tt
all_under m a (suc n) l = (omega arith, all_under m (a + 1) n (omega arith))

-- ---- children

-- the numbers of the bits of a word
numbers : List ℕ
numbers = range_with_len 0 32

numbers_small : AllByRecursion (λ b. b < 32) numbers
unfolding numbers
numbers_small = all_under 32 0 32 (omega arith)

pub set_bits_small : (n : ℕ) → AllByRecursion (λ b. b < 32) (set_bits n)
unfolding set_bits numbers
set_bits_small n = all_filter (λ b. b < 32) (λ b. bit_at n b == 1) numbers numbers_small

children_numbered : child_places ≡ map (low_bits 5) numbers
unfolding child_places low_bits numbers
children_numbered = refl

tested : (b : Bool) (n : ℕ) → n ≡ cond b 1 0 → (n == 1) ≡ b
tested true n e = ap (λ k. k == 1) e
tested false n e = ap (λ k. k == 1) e

module _ (k : KeyBits → Bool) (p : KeyBits) (n : ℕ) (e : n ≡ child_bits k p) where
  -- which of the numbers are those of set bits
  set_where : set_bits n ≡ filter (λ b. k (p ++ low_bits 5 b)) numbers
  unfolding set_bits numbers
  set_where = filter_same (λ b. bit_at n b == 1) (λ b. k (p ++ low_bits 5 b)) numbers (all_weaker (λ b. b < 32) _ numbers (λ b l. tested (k (p ++ low_bits 5 b)) (bit_at n b) (ap (λ m. bit_at m b) e ∙ child_mask_tells (λ c. k (p ++ c)) b l)) numbers_small)

  pub children_named : children_where k p ≡ map (λ b. p ++ low_bits 5 b) (set_bits n)
  children_named =
      ap (λ cs. filter k (map (λ c. p ++ c) cs)) children_numbered
      ∙ ap (filter k) (map_map (λ c. p ++ c) (low_bits 5) numbers)
      ∙ filter_map_is k (λ b. p ++ low_bits 5 b) numbers
      ∙ ap (map (λ b. p ++ low_bits 5 b)) (sym set_where)

  -- each set bit names a child that passes
  pub children_pass : AllByRecursion (λ b. (b < 32) × (k (p ++ low_bits 5 b) ≡ true)) (set_bits n)
  children_pass = subst (AllByRecursion (λ b. (b < 32) × (k (p ++ low_bits 5 b) ≡ true))) (sym set_where) (all_passed (λ b. b < 32) (λ b. k (p ++ low_bits 5 b)) numbers numbers_small)

-- ---- sums of bits

-- the bits bs that pass
abbrev pub passed_bits : (ℕ → Bool) → List ℕ → ℕ
passed_bits h [] = 0
passed_bits h (b ∷ bs) = cond (h b) (2 ^ b) 0 + passed_bits h bs

passed_append : (h : ℕ → Bool) (xs ys : List ℕ) → passed_bits h (xs ++ ys) ≡ passed_bits h xs + passed_bits h ys
passed_append h [] ys = omega arith
passed_append h (x ∷ xs) ys = let ih = passed_append h xs ys in omega arith

range_more : (a n : ℕ) → range_with_len a (suc n) ≡ range_with_len a n ++ (a + n) ∷ []
range_more a zero = let e : a ≡ a + 0 = omega arith in ap (λ x. x ∷ []) e
range_more a (suc n) = let e : a + 1 + n ≡ a + suc n = omega arith in ap (λ xs. a ∷ xs) (range_more (a + 1) n ∙ ap (λ x. range_with_len (a + 1) n ++ x ∷ []) e)

passed_bitmap : (h : ℕ → Bool) (n : ℕ) → passed_bits h (range_with_len 0 n) ≡ bitmap (map h (range_with_len 0 n))
passed_bitmap h zero = refl
passed_bitmap h (suc n) =
    let xs = range_with_len 0 n in
    let b : ℕ = 0 + n in
    let ih : passed_bits h xs ≡ bitmap (map h xs) = passed_bitmap h n in
    let size : length (map h xs) ≡ b = length-map xs h ∙ length-range_with_len 0 n ∙ (let e : n ≡ 0 + n = omega arith in e) in
    let none : passed_bits h (b ∷ []) ≡ cond (h b) (2 ^ b) 0 = omega arith in
    ap (passed_bits h) (range_more 0 n)
    ∙ passed_append h xs (b ∷ [])
    ∙ (λ i. ih i + none i)
    ∙ ap (λ m. bitmap (map h xs) + cond (h b) (2 ^ m) 0) (sym size)
    ∙ sym (ap (λ ys. bitmap (map h ys)) (range_more 0 n) ∙ ap bitmap (map-append h xs (b ∷ [])) ∙ bitmap_push (map h xs) (h b))

passed_filter : (h k : ℕ → Bool) → ((b : ℕ) → h b ≡ true → k b ≡ true) → (xs : List ℕ) → passed_bits h (filter k xs) ≡ passed_bits h xs
passed_filter h k sub [] = refl
passed_filter h k sub (x ∷ xs) = go (k x) refl (passed_filter h k sub xs)
  where
    off : (b : Bool) → h x ≡ b → k x ≡ false → cond b (2 ^ x) 0 ≡ 0
    off false e f = refl
    off true e f = absurd (let yes = sub x e in cc)

    go : (b : Bool) → k x ≡ b → passed_bits h (filter k xs) ≡ passed_bits h xs → passed_bits h (cond b (x ∷ filter k xs) (filter k xs)) ≡ cond (h x) (2 ^ x) 0 + passed_bits h xs
    go true e ih = ap (λ m. cond (h x) (2 ^ x) 0 + m) ih
    go false e ih = let zero_bit = off (h x) refl e in omega arith

pub passed_children : (w k : KeyBits → Bool) (p : KeyBits) (n : ℕ) → n ≡ child_bits k p → ((q : KeyBits) → w q ≡ true → k q ≡ true) → passed_bits (λ b. w (p ++ low_bits 5 b)) (set_bits n) ≡ child_bits w p
unfolding numbers
passed_children w k p n e sub =
    let h = λ (b : ℕ). w (p ++ low_bits 5 b) in
    ap (passed_bits h) (set_where k p n e)
    ∙ passed_filter h (λ b. k (p ++ low_bits 5 b)) (λ b. sub (p ++ low_bits 5 b)) numbers
    ∙ passed_bitmap h 32
    ∙ sym (ap (λ cs. bitmap (map (λ c. w (p ++ c)) cs)) children_numbered ∙ ap bitmap (map_map (λ c. w (p ++ c)) (low_bits 5) numbers))

-- of children that stand at these bits, those that are filled
pub filled_passed : {V : Type 0} (view : TableView V) (w : KeyBits → Bool) (p : KeyBits) (bs : List ℕ) (ns : List Placed) → positions_of_nodes view ns ≡ map (λ b. p ++ low_bits 5 b) bs → AllByRecursion (λ n. w (position_at view n.at) ≡ is_filled n) ns → filled_bits bs ns ≡ passed_bits (λ b. w (p ++ low_bits 5 b)) bs
filled_passed view w p [] ns e h = refl
filled_passed view w p (b ∷ bs) [] e h = cc
filled_passed view w p (b ∷ bs) (n ∷ ns) e h =
    let first : position_at view n.at ≡ p ++ low_bits 5 b = cc in
    let rest : positions_of_nodes view ns ≡ map (λ b. p ++ low_bits 5 b) bs = cc in
    let same : is_filled n ≡ w (p ++ low_bits 5 b) = sym h.0 ∙ ap w first in
    λ i. cond (same i) (2 ^ b) 0 + filled_passed view w p bs ns rest h.1 i

-- ---- places

-- what a data bit adds to the key of its node
unfoldable pub place : ℕ → KeyBits
place b = get_or data_places b []

-- the numbers of the data bits
data_numbers : List ℕ
data_numbers = range_with_len 0 31

places_numbered : data_places ≡ map place data_numbers
unfolding data_places place data_numbers
places_numbered = refl

numbers_split : numbers ≡ data_numbers ++ 31 ∷ []
unfolding numbers data_numbers
numbers_split = refl

data_numbers_small : AllByRecursion (λ b. b < 31) data_numbers
unfolding data_numbers
data_numbers_small = all_under 31 0 31 (omega arith)

pub place_found : (b : ℕ) → b < 31 → slice_get data_places b ≡ Some (place b)
unfolding place
place_found b l = found_at data_places b [] (omega (arith, count_places))

filter_map_numbered : {A B C : Type 0} (g : B → Option C) (h : A → B) (xs : List A) → filter_map g (map h xs) ≡ filter_map (λ x. g (h x)) xs
filter_map_numbered g h [] = refl
filter_map_numbered g h (x ∷ xs) = ap (cons_option (g (h x))) (filter_map_numbered g h xs)

filter_map_some : {A B : Type 0} (g : A → Option B) (xs : List A) → filter_map g (filter (λ x. is_some (g x)) xs) ≡ filter_map g xs
filter_map_some {A} {B} g [] = refl
filter_map_some {A} {B} g (x ∷ xs) = go (g x) refl (filter_map_some g xs)
  where
    go : (o : Option B) → g x ≡ o → filter_map g (filter (λ x. is_some (g x)) xs) ≡ filter_map g xs → filter_map g (cond (is_some o) (x ∷ filter (λ x. is_some (g x)) xs) (filter (λ x. is_some (g x)) xs)) ≡ cons_option o (filter_map g xs)
    go None e ih = ih
    go (Some v) e ih = (λ i. cons_option (e i) (ih i))

-- the bytes of the values at these data bits of the node at p
abbrev pub values_at : {V : Type 0} → Codec V → (KeyBits → Option V) → KeyBits → List ℕ → List ℕ
values_at codec f p bs = flat_map codec.spell (filter_map (λ b. f (p ++ place b)) bs)

pub value_first : {V : Type 0} (codec : Codec V) (f : KeyBits → Option V) (p : KeyBits) (b : ℕ) (bs : List ℕ) (v : V) → f (p ++ place b) ≡ Some v → values_at codec f p (b ∷ bs) ≡ codec.spell v ++ values_at codec f p bs
value_first codec f p b bs v e = ap (λ o. flat_map codec.spell (cons_option o (filter_map (λ b. f (p ++ place b)) bs))) e

module _ {V : Type 0} (f : KeyBits → Option V) (p : KeyBits) (n : ℕ) (e : n ≡ data_bits f p) where
  bit_tells : (b : ℕ) → b < 31 → bit_at n b ≡ cond (is_some (f (p ++ place b))) 1 0
  bit_tells b l = ap (λ m. bit_at m b) e ∙ data_mask_tells (λ s. is_some (f (p ++ s))) b (place b) (place_found b l)

  data_where : set_bits n ≡ filter (λ b. is_some (f (p ++ place b))) data_numbers
  unfolding set_bits numbers
  data_where =
      let t = λ (b : ℕ). bit_at n b == 1 in
      let small : n < 2 ^ 31 = let fit = (masks_fit (λ s. is_some (f (p ++ s)))).0 in omega (arith, fit) in
      let last : bit_at n 31 ≡ 0 = omega arith in
      ap (filter t) numbers_split
      ∙ filter-append t data_numbers (31 ∷ [])
      ∙ ap (λ b. filter t data_numbers ++ cond b (31 ∷ []) []) (ap (λ m. m == 1) last)
      ∙ append-nil (filter t data_numbers)
      ∙ filter_same t (λ b. is_some (f (p ++ place b))) data_numbers (all_weaker (λ b. b < 31) _ data_numbers (λ b l. tested (is_some (f (p ++ place b))) (bit_at n b) (bit_tells b l)) data_numbers_small)

  pub values_named : (codec : Codec V) → node_values codec f p ≡ values_at codec f p (set_bits n)
  values_named codec =
      ap (flat_map codec.spell)
      (ap (filter_map (λ s. f (p ++ s))) places_numbered
      ∙ filter_map_numbered (λ s. f (p ++ s)) place data_numbers
      ∙ sym (filter_map_some (λ b. f (p ++ place b)) data_numbers)
      ∙ ap (filter_map (λ b. f (p ++ place b))) (sym data_where))

  -- each set bit names a place
  pub places_set : AllByRecursion (λ b. (b < 31) × IsBitSet n b) (set_bits n)
  places_set =
      subst (AllByRecursion (λ b. (b < 31) × IsBitSet n b)) (sym data_where)
      (all_weaker (λ b. (b < 31) × (is_some (f (p ++ place b)) ≡ true)) (λ b. (b < 31) × IsBitSet n b) _ (λ b h. (h.0, (bit_set_by_shift n b).0 (shr_and_one n b ∙ bit_tells b h.0 ∙ ap (λ s. cond s 1 0) h.1)))
      (all_passed (λ b. b < 31) (λ b. is_some (f (p ++ place b))) data_numbers data_numbers_small))

-- ---- the set bits of a record

marked_range : (f : ℕ → KeyBits) (x i n : ℕ) → marked (map f (range_with_len i n)) (bits_of n (x / 2 ^ i)) ≡ map f (filter (λ b. bit_at x b == 1) (range_with_len i n))
marked_range f x i zero = refl
marked_range f x i (suc n) = ap (λ ps. cond (bit_at x i == 1) (f i ∷ ps) ps) (ap (λ y. marked (map f (range_with_len (i + 1) n)) (bits_of n y)) (shr-shr x i 1) ∙ marked_range f x (i + 1) n) ∙ go (bit_at x i == 1)
  where
    go : (b : Bool) → cond b (f i ∷ map f (filter (λ b. bit_at x b == 1) (range_with_len (i + 1) n))) (map f (filter (λ b. bit_at x b == 1) (range_with_len (i + 1) n))) ≡ map f (cond b (i ∷ filter (λ b. bit_at x b == 1) (range_with_len (i + 1) n)) (filter (λ b. bit_at x b == 1) (range_with_len (i + 1) n)))
    go true = refl
    go false = refl

whole_word : (x : ℕ) → x ≡ x / 2 ^ 0
whole_word x = omega arith

pub children_read : (x : ℕ) → set_children x ≡ map (low_bits 5) (set_bits x)
unfolding set_bits numbers
children_read x = (λ i. marked (children_numbered i) (bits_of 32 (whole_word x i))) ∙ marked_range (low_bits 5) x 0 32

in_word : (x b : ℕ) → b < 31 → bit_at (bit_and x 2147483647) b ≡ bit_at x b
in_word x b l = bit_at_and x (2 ^ 31 - 1) b ∙ ap (min (bit_at x b)) (bit_at_ones 31 b l) ∙ (let s = bit_at-lt x b in let e : min (bit_at x b) 1 ≡ bit_at x b = omega arith in e)

word_places : (x : ℕ) → set_bits (bit_and x 2147483647) ≡ filter (λ b. bit_at x b == 1) data_numbers
unfolding set_bits numbers
word_places x =
    let y = bit_and x 2147483647 in
    let t = λ (b : ℕ). bit_at y b == 1 in
    let last : bit_at y 31 ≡ 0 = bit_at_and x (2 ^ 31 - 1) 31 ∙ ap (min (bit_at x 31)) (bit_at_ones_above 31 31 (omega arith)) ∙ (let e : min (bit_at x 31) 0 ≡ 0 = omega arith in e) in
    ap (filter t) numbers_split
    ∙ filter-append t data_numbers (31 ∷ [])
    ∙ ap (λ b. filter t data_numbers ++ cond b (31 ∷ []) []) (ap (λ m. m == 1) last)
    ∙ append-nil (filter t data_numbers)
    ∙ filter_same t (λ b. bit_at x b == 1) data_numbers (all_weaker (λ b. b < 31) _ data_numbers (λ b l. ap (λ m. m == 1) (in_word x b l)) data_numbers_small)

pub places_read : (x : ℕ) → set_places x ≡ map place (set_bits (bit_and x 2147483647))
unfolding data_numbers
places_read x = (λ i. marked (places_numbered i) (bits_of 31 (whole_word x i))) ∙ marked_range place x 0 31 ∙ ap (map place) (sym (word_places x))

pub word_small : (x : ℕ) → AllByRecursion (λ b. b < 31) (set_bits (bit_and x 2147483647))
word_small x = subst (AllByRecursion (λ b. b < 31)) (sym (word_places x)) (all_filter (λ b. b < 31) (λ b. bit_at x b == 1) data_numbers data_numbers_small)
