-- Places below which a node has nothing.
use Rattle.std.proofs.Common.{◌≡◌, ℕ, zero, suc, ◌+◌, ◌-◌, ◌*◌, ◌/◌, ◌%◌, ◌^◌, ◌<◌, ◌≤◌, Bool, true, false, cond, [], ◌∷◌, ◌++◌, length, take, drop, Option, Some, None, refl, sym, ap, ◌∙◌, arith, inl, inr, append_assoc, length-append, length-take, bit_and}
use Rattle.std.specs.Prelude.{◌==◌, not, is_some, slice_get, min}
use Rattle.std.specs.Int.{bit_at}
use Rattle.std.specs.FinMap as map
use Rattle.std.proofs.Math.Nat.{mod-eq_of_lt, mul_assoc}
use Rattle.std.proofs.Math.Pow.{pow_mono}
use Rattle.std.proofs.lemmas.Bool.{cases_lt}
use Rattle.std.proofs.lemmas.Bool.Decides.{nat_tests}
use Rattle.std.proofs.lemmas.Nat.{pow_pos, shr-shr}
use Rattle.std.proofs.lemmas.Nat.Bits.{bit_at_and, bit_at_ones, bit_at-zero}
use Rattle.prefix_model.specs.Keys.{KeyBits, low_bits, number, keys_of_length}
use Rattle.prefix_model.specs.Positions.{data_places, child_places, data_bits, child_bits}
use Rattle.prefix_model.proofs.KeyNumbers.{length-low_bits, number-low_bits}
use Rattle.prefix_model.specs.TableViews.{TableView, HoldsPositions}
use Rattle.prefix_model.proofs.KeyPlaces.{place_at, number-lt, key_at_number, number-append}
use Rattle.prefix_model.proofs.Bitmaps.SlotLaws.{shifted_one}
use Rattle.prefix_model.proofs.MaskBits.{bitmap_bit}
use Rattle.prefix_model.proofs.TablePositions.{none_from}

-- ---- bits and numbers

-- where a mask of a run of bits takes nothing, they are clear
pub run_clear : (bits start count : ℕ) → count < 32 → bit_and (bits / 2 ^ start) (1 * 2 ^ count % 4294967296 - 1) ≡ 0 → (i : ℕ) → i < count → bit_at bits (start + i) ≡ 0
run_clear bits start count short none i within =
    let x = bits / 2 ^ start in
    let masked : bit_and x (2 ^ count - 1) ≡ 0 = ap (λ m. bit_and x (m - 1)) (sym (shifted_one count short)) ∙ none in
    let both : min (bit_at x i) (bit_at (2 ^ count - 1) i) ≡ 0 = sym (bit_at_and x (2 ^ count - 1) i) ∙ ap (λ n. bit_at n i) masked ∙ bit_at-zero i in
    let one = bit_at_ones count i within in
    let bit : bit_at x i ≡ 0 = omega (arith, both, one) in
    ap (λ m. m % 2) (sym (shr-shr bits start i)) ∙ bit

pub none_set : (n : ℕ) → not (n == 0) ≡ false → n ≡ 0
none_set n e = grind (arith, nat_tests)

pub not_true : (b : Bool) → not b ≡ true → b ≡ false
not_true false e = refl
not_true true e = absurd cc

no_item : {T : Type 0} (o : Option T) → ◌≡◌ {A = ℕ} (cond (is_some o) 1 0) 0 → o ≡ None
no_item None e = refl
no_item (Some x) e = absurd (omega arith)

no_flag : (b : Bool) → ◌≡◌ {A = ℕ} (cond b 1 0) 0 → b ≡ false
no_flag false e = refl
no_flag true e = absurd (omega arith)

child_named : (s : KeyBits) → length s ≡ 5 → slice_get child_places (number s) ≡ Some s
unfolding child_places
child_named s five = ap (λ k. slice_get (keys_of_length k) (number s)) (sym five) ∙ key_at_number s

take_rest : (n : ℕ) (q : KeyBits) → take n q ++ drop n q ≡ q
take_rest zero q = refl
take_rest (suc n) [] = refl
take_rest (suc n) (b ∷ q) = ap (λ r. b ∷ r) (take_rest n q)

-- ---- what lies behind a place

module _ {T : Type 0} (view : TableView T) (p : KeyBits) (l n : ℕ) where
  -- Nothing is stored less than k bits behind the node's key. The numbers of the keys k bits behind it, at and below the place, are `count` from `start` on.
  pub record IsBareTo (k start count : ℕ) : Type 0 where
    pub counted : count ≡ 2 ^ (k - l)
    pub started : start ≡ n * count
    pub within : start + count ≤ 2 ^ k
    pub small : 2 * count ≤ 2 ^ k
    pub clear : (q : KeyBits) → l + length q < k → map.get view.entries (p ++ (low_bits l n ++ q)) ≡ None

  pub run_starts : (k start count : ℕ) → k < 5 → IsBareTo k start count → 1 * 2 ^ k % 4294967296 - 1 + start < 32
  run_starts k start count short bare =
      let one = shifted_one k (omega arith) in
      let deep : k ≤ 4 = omega arith in
      let most : 2 ^ k ≤ 2 ^ 4 = pow_mono deep in
      let within = bare.within in
      omega (arith, one, most, within)

  pub children_start : (k start count : ℕ) → k ≤ 5 → IsBareTo k start count → start < 32
  children_start k start count short bare =
      let some : 0 < 2 ^ (k - l) = pow_pos (k - l) in
      let counted = bare.counted in
      let most : 2 ^ k ≤ 2 ^ 5 = pow_mono short in
      let within = bare.within in
      omega (arith, some, counted, most, within)

  pub run_short : (k start count : ℕ) → k ≤ 5 → IsBareTo k start count → count < 32
  run_short k start count short bare =
      let most : 2 ^ k ≤ 2 ^ 5 = pow_mono short in
      let small = bare.small in
      omega (arith, most, small)

  module _ (fits : n < 2 ^ l) where
    number_behind : (q : KeyBits) → number (low_bits l n ++ q) ≡ n * 2 ^ length q + number q
    number_behind q = number-append (low_bits l n) q ∙ ap (λ x. x * 2 ^ length q + number q) (number-low_bits l n ∙ mod-eq_of_lt fits)

    length_behind : (q : KeyBits) → length (low_bits l n ++ q) ≡ l + length q
    length_behind q = length-append (low_bits l n) q ∙ ap (λ k. k + length q) (length-low_bits l n)

    number_from : (k start count : ℕ) → IsBareTo k start count → (q : KeyBits) → l + length q ≡ k → (number (low_bits l n ++ q) ≡ start + number q) × (number q < count)
    number_from k start count bare q size =
        let same : count ≡ 2 ^ length q = bare.counted ∙ ap (λ m. 2 ^ m) (let e : k - l ≡ length q = omega arith in e) in
        let below = number-lt q in
        (number_behind q ∙ ap (λ m. n * m + number q) (sym same) ∙ ap (λ m. m + number q) (sym bare.started), omega (arith, same, below))

    -- nothing is stored k bits behind the node's key either
    pub level_bare : (bits k start count : ℕ) → bits ≡ data_bits (map.get view.entries) p → k < 5 → IsBareTo k start count
        → ((i : ℕ) → i < count → bit_at bits (1 * 2 ^ k % 4294967296 - 1 + start + i) ≡ 0)
        → (q : KeyBits) → l + length q ≡ k → map.get view.entries (p ++ (low_bits l n ++ q)) ≡ None
    level_bare bits k start count e short bare clear q size =
        let s = low_bits l n ++ q in
        let from = number_from k start count bare q size in
        let b : ℕ = 1 * 2 ^ k % 4294967296 - 1 + start + number q in
        let one = shifted_one k (omega arith) in
        let same : b ≡ 2 ^ k - 1 + number s = let f = from.0 in omega (arith, f, one) in
        let named : slice_get data_places b ≡ Some s = ap (slice_get data_places) same ∙ place_at s k (length_behind q ∙ size) short in
        no_item (map.get view.entries (p ++ s))
        (sym (bitmap_bit data_places (λ s. is_some (map.get view.entries (p ++ s))) b s named) ∙ ap (λ n. bit_at n b) (sym e) ∙ clear (number q) from.1)

    pub bare_starts : 0 < l → IsBareTo l n 1
    bare_starts some = record {
      counted = ap (λ m. 2 ^ m) (let e : 0 ≡ l - l = omega arith in e);
      started = omega arith;
      within = omega arith;
      small = pow_mono some;
      clear = λ q less. absurd (omega arith);
    }

    pub bare_grows : (bits k start count next start2 count2 : ℕ) → bits ≡ data_bits (map.get view.entries) p → k < 5 → l ≤ k → IsBareTo k start count
        → ((i : ℕ) → i < count → bit_at bits (1 * 2 ^ k % 4294967296 - 1 + start + i) ≡ 0)
        → next ≡ k + 1 → start2 ≡ start * 2 → count2 ≡ count * 2 → IsBareTo next start2 count2
    bare_grows bits k start count next start2 count2 e short deep bare clear f g h = record {
      counted = h ∙ (let e : count * 2 ≡ 2 ^ suc (k - l) = let c = bare.counted in omega (arith, c) in e) ∙ ap (λ m. 2 ^ m) (let e : suc (k - l) ≡ next - l = omega arith in e);
      started = g ∙ (let s = bare.started in let e : start * 2 ≡ n * count * 2 = omega (arith, s) in e) ∙ mul_assoc n count 2 ∙ ap (λ m. n * m) (sym h);
      within = let w = bare.within in omega (arith, w, twice);
      small = let w = bare.small in omega (arith, w, twice);
      clear = λ q less. either q (l + length q) refl (omega arith);
    }
      where
        twice : 2 ^ next ≡ 2 * 2 ^ k
        twice = let e : 2 ^ next ≡ 2 ^ suc k = ap (λ m. 2 ^ m) (let e : next ≡ suc k = omega arith in e) in omega (arith, e)

        either : (q : KeyBits) (d : ℕ) → l + length q ≡ d → d < suc k → map.get view.entries (p ++ (low_bits l n ++ q)) ≡ None
        either q d size less = elim (cases_lt d k) [
          | inl a ↦ bare.clear q (omega arith)
          | inr b ↦ level_bare bits k start count e short bare clear q (omega arith)
        ]

    -- where the node has no child either, nothing is stored at any depth
    pub all_bare : HoldsPositions view → length p % 5 ≡ 0 → (bits k start count : ℕ) → bits ≡ child_bits (map.contains_key view.kept) p → l < 5 → k ≡ 5 → IsBareTo k start count
        → ((i : ℕ) → i < count → bit_at bits (start + i) ≡ 0)
        → (q : KeyBits) → map.get view.entries ((p ++ low_bits l n) ++ q) ≡ None
    all_bare holds node bits k start count e short five bare clear q = ap (map.get view.entries) (append_assoc p (low_bits l n) q) ∙ near_or_far
      where
        front : KeyBits
        front = take (5 - l) q

        s : KeyBits
        s = low_bits l n ++ front

        far : 5 ≤ l + length q → map.get view.entries (p ++ (low_bits l n ++ q)) ≡ None
        far long =
            let part = length-take (5 - l) q in
            let size : l + length front ≡ 5 = omega (arith, part) in
            let whole : length s ≡ 5 = length_behind front ∙ size in
            let from = number_from k start count bare front (size ∙ sym five) in
            let named : slice_get child_places (start + number front) ≡ Some s = ap (slice_get child_places) (sym from.0) ∙ child_named s whole in
            let gone : map.contains_key view.kept (p ++ s) ≡ false =
            no_flag (map.contains_key view.kept (p ++ s))
            (sym (bitmap_bit child_places (λ c. map.contains_key view.kept (p ++ c)) (start + number front) s named) ∙ ap (λ n. bit_at n (start + number front)) (sym e) ∙ clear (number front) from.1) in
            let deep = length-append p s in
            ap (map.get view.entries) (ap (λ r. p ++ (low_bits l n ++ r)) (sym (take_rest (5 - l) q)) ∙ ap (λ r. p ++ r) (sym (append_assoc (low_bits l n) front (drop (5 - l) q))) ∙ sym (append_assoc p s (drop (5 - l) q)))
            ∙ none_from view holds (p ++ s) (omega (arith, deep, whole, node)) gone (drop (5 - l) q)

        near_or_far : map.get view.entries (p ++ (low_bits l n ++ q)) ≡ None
        near_or_far = elim (cases_lt (l + length q) 5) [
          | inl a ↦ bare.clear q (omega arith)
          | inr b ↦ far b
        ]
