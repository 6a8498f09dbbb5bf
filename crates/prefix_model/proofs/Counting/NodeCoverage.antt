-- What the bits of a node tell of the addresses below it.
use Rattle.std.specs.Prelude.{◌↔◌, ◌==◌, max, is_some, IsSome, nat_lt, slice_get}
use Rattle.std.specs.Int.{bit_at}
use Rattle.std.specs.List.{range_with_len}
use Rattle.std.specs.Option.{option_or, option_map}
use Rattle.std.proofs.Common.{◌≡◌, ℕ, zero, suc, ◌+◌, ◌-◌, ◌/◌, ◌^◌, ◌<◌, ◌≤◌, Bool, true, false, cond, List, [], ◌∷◌, ◌++◌, length, take, drop, map, Option, Some, None, refl, sym, ap, ◌∙◌, subst, arith, append_assoc, append-nil, length-append, length-take, length-drop, bit_or}
use Rattle.std.proofs.lemmas.List.{take-append-drop}
use Rattle.std.proofs.Math.Seq.{take-append-add}
use Rattle.std.proofs.lemmas.List.FromFn.{get_or-range_with_len, length-range_with_len}
use Rattle.std.proofs.lemmas.Option.{slice_get-map, slice_get-get_or, same_Some}
use Rattle.std.proofs.lemmas.Nat.Bits.{bit_at_or}
use lib.Pow.{pow_mono}
use Rattle.prefix_model.specs.Keys.{KeyBits, low_bits, number}
use Rattle.prefix_model.specs.Masks.{begins_with}
use Rattle.prefix_model.specs.Tables.{Values, after, answer_under}
use Rattle.prefix_model.specs.Aggregates.{above_under}
use Rattle.prefix_model.specs.Coverage.{AllAnswered}
use Rattle.prefix_model.specs.Bits.{any_set, ancestors}
use Rattle.prefix_model.proofs.KeyNumbers.{length-low_bits, low_bits-append}
use Rattle.prefix_model.proofs.Fronts.{follows, front_append}
use Rattle.prefix_model.proofs.KeyPlaces.{low_bits-number, number-lt}
use Rattle.prefix_model.proofs.Fewest.Serving.{answers_some}
use Rattle.prefix_model.proofs.Bitmaps.WordBits.{less}

-- ---- the bits above a bit

-- the bits of the proper fronts of the l bits with the number n, the nearest first
abbrev pub fronts : ℕ → ℕ → List ℕ
fronts zero n = []
fronts (suc l) n = (2 ^ l - 1 + n / 2) ∷ fronts l (n / 2)

from_lists : {A : Type 0} (f g : ℕ → A) (k : ℕ) → map f (range_with_len 0 k) ≡ map g (range_with_len 0 k) → (n : ℕ) → n < k → f n ≡ g n
from_lists f g k e n l =
    let at : slice_get (range_with_len 0 k) n ≡ Some n =
    slice_get-get_or (range_with_len 0 k) n 0 (let c = length-range_with_len 0 k in omega (arith, c)) ∙ ap Some (get_or-range_with_len 0 k n 0 l ∙ (let z : 0 + n ≡ n = omega arith in z)) in
    same_Some (f n) (g n)
    (sym (slice_get-map f (range_with_len 0 k) n ∙ ap (option_map f) at) ∙ ap (λ s. slice_get s n) e ∙ slice_get-map g (range_with_len 0 k) n ∙ ap (option_map g) at)

ancestors_of_level : (l n : ℕ) → l < 5 → n < 2 ^ l → ancestors (2 ^ l - 1 + n) ≡ fronts l n
ancestors_of_level zero n s m = from_lists (λ k. ancestors (2 ^ 0 - 1 + k)) (fronts 0) 1 refl n m
ancestors_of_level (suc zero) n s m = from_lists (λ k. ancestors (2 ^ 1 - 1 + k)) (fronts 1) 2 refl n m
ancestors_of_level (suc (suc zero)) n s m = from_lists (λ k. ancestors (2 ^ 2 - 1 + k)) (fronts 2) 4 refl n m
ancestors_of_level (suc (suc (suc zero))) n s m = from_lists (λ k. ancestors (2 ^ 3 - 1 + k)) (fronts 3) 8 refl n m
ancestors_of_level (suc (suc (suc (suc zero)))) n s m = from_lists (λ k. ancestors (2 ^ 4 - 1 + k)) (fronts 4) 16 refl n m
ancestors_of_level (suc (suc (suc (suc (suc l))))) n s m = absurd (omega arith)

above_slots : (c : ℕ) → c < 32 → (15 + c / 2) ∷ ancestors (15 + c / 2) ≡ fronts 5 c
above_slots = from_lists (λ c. (15 + c / 2) ∷ ancestors (15 + c / 2)) (fronts 5) 32 refl

-- each place of l bits that goes on from r is covered
abbrev pub EachPlace : ℕ → ℕ → KeyBits → Type 0
EachPlace covered l r = (n : ℕ) → n < 2 ^ l → begins_with r (low_bits l n) ≡ true → bit_at covered (2 ^ l - 1 + n) ≡ 1

-- a slot is asked for where it is below r and no value stands above it
abbrev pub IsAsked : ℕ → ℕ → KeyBits → Type 0
IsAsked word slots r = (c : ℕ) → c < 32 → (bit_at word c ≡ 1) ↔ ((begins_with r (low_bits 5 c) ≡ true) × (bit_at slots c ≡ 0))

-- ---- answers behind a front

max_cond : {V : Type 0} (x v : Option V) → max (cond (is_some x) 1 0) (cond (is_some v) 1 0) ≡ cond (is_some (option_or x v)) 1 0
max_cond None None = refl
max_cond None (Some v) = refl
max_cond (Some x) None = refl
max_cond (Some x) (Some v) = refl

pub set_of : (t : Bool) → ◌≡◌ {A = ℕ} (cond t 1 0) 1 → t ≡ true
set_of true e = refl
set_of false e = absurd (omega arith)

pub clear_of : {V : Type 0} (o : Option V) → ◌≡◌ {A = ℕ} (cond (is_some o) 1 0) 0 → o ≡ None
clear_of None e = refl
clear_of (Some x) e = absurd (omega arith)

last_bit : (l n : ℕ) → low_bits (suc l) n ≡ low_bits l (n / 2) ++ (bit_at n 0 == 1) ∷ []
unfolding low_bits
last_bit l n =
    let e : suc l ≡ l + 1 = omega arith in
    ap (λ k. low_bits k n) e ∙ low_bits-append l 1 n ∙ ap (λ m. low_bits l m ++ (bit_at n 0 == 1) ∷ []) (let h : n / 2 ^ 1 ≡ n / 2 = omega arith in h)

place_below : (l n : ℕ) → l < 5 → n < 2 ^ l → 2 ^ l - 1 + n < 31
place_below l n s m = let p : 2 ^ suc l ≤ 2 ^ 5 = pow_mono (let e : suc l ≤ 5 = omega arith in e) in omega (arith, p, m)

module _ {V : Type 0} where
  pub answers_behind : (s q : KeyBits) (v : Option V) (g : Values V) → answer_under v g (s ++ q) ≡ answer_under (above_under v g s) (λ k. g (s ++ k)) q
  answers_behind [] q v g = refl
  answers_behind (b ∷ s) q v g = answers_behind s q (option_or (g []) v) (after b g)

  above-push : (s : KeyBits) (b : Bool) (v : Option V) (g : Values V) → above_under v g (s ++ b ∷ []) ≡ option_or (g s) (above_under v g s)
  above-push [] b v g = refl
  above-push (a ∷ s) b v g = above-push s b (option_or (g []) v) (after a g)

  -- the node's bits: each tells whether something is stored at its place
  abbrev pub TellsPlaces : ℕ → Values V → Type 0
  TellsPlaces d g = (l n : ℕ) → l < 5 → n < 2 ^ l → bit_at d (2 ^ l - 1 + n) ≡ cond (is_some (g (low_bits l n))) 1 0

  -- whether a value stands above some bits
  any_front : (d : ℕ) (g : Values V) → TellsPlaces d g → (l n : ℕ) → l < 6 → n < 2 ^ l → any_set d (fronts l n) ≡ cond (is_some (above_under None g (low_bits l n))) 1 0
  unfolding low_bits
  any_front d g tells zero n s m = refl
  any_front d g tells (suc l) n s m =
      let half : n / 2 < 2 ^ l = omega (arith, m) in
      (λ j. max (tells l (n / 2) (omega arith) half j) (any_front d g tells l (n / 2) (omega arith) half j))
      ∙ max_cond (g (low_bits l (n / 2))) (above_under None g (low_bits l (n / 2)))
      ∙ sym (ap (λ s. cond (is_some (above_under None g s)) 1 0) (last_bit l n) ∙ ap (λ o. cond (is_some o) 1 0) (above-push (low_bits l (n / 2)) (bit_at n 0 == 1) None g))

  -- the address behind a front at and above which nothing stands has the answers of what is stored from there on
  pub behind_clear : (g : Values V) (s q : KeyBits) → above_under None g s ≡ None → answer_under None g (s ++ q) ≡ answer_under None (λ k. g (s ++ k)) q
  behind_clear g s q none = answers_behind s q None g ∙ ap (λ v. answer_under v (λ k. g (s ++ k)) q) none

  pub behind_set : (g : Values V) (s q : KeyBits) → is_some (above_under None g s) ≡ true → IsSome (answer_under None g (s ++ q))
  behind_set g s q some = ap is_some (answers_behind s q None g) ∙ answers_some q (above_under None g s) (λ k. g (s ++ k)) some

  -- each address of these slots has an answer of its own
  abbrev pub EachSlot : Values V → ℕ → ℕ → Type 0
  EachSlot g word m = (c : ℕ) → c < 32 → bit_at word c ≡ 1 → AllAnswered m (answer_under None (λ k. g (low_bits 5 c ++ k)))

  -- each address that goes on from r, with n bits from the node on, has an answer
  abbrev pub AllBehind : Values V → KeyBits → ℕ → Type 0
  AllBehind g r n = (k : KeyBits) → length r + length k ≡ n → IsSome (answer_under None g (r ++ k))

  module _ (d : ℕ) (g : Values V) (tells : TellsPlaces d g) where
    -- the slots with a value above
    pub slot_told : (slots c : ℕ) → c < 32 → bit_at slots c ≡ cond (nat_lt c 32) (any_set d ((15 + c / 2) ∷ ancestors (15 + c / 2))) 0 → bit_at slots c ≡ cond (is_some (above_under None g (low_bits 5 c))) 1 0
    slot_told slots c l e =
        e ∙ ap (λ t. cond t (any_set d ((15 + c / 2) ∷ ancestors (15 + c / 2))) 0) (less c 32 l)
        ∙ ap (any_set d) (above_slots c l) ∙ any_front d g tells 5 c (omega arith) l

    -- the key of a slot, as the first bits of an address
    slot_of_key : (k : KeyBits) (m : ℕ) → length k ≡ 5 + m → (c : ℕ) × (c < 32) × (low_bits 5 c ≡ take 5 k)
    slot_of_key k m e =
        let n = length-take 5 k in
        let five : length (take 5 k) ≡ 5 = omega (arith, n, e) in
        let small = number-lt (take 5 k) in
        (number (take 5 k), subst (λ (x : ℕ). number (take 5 k) < 2 ^ x) five small, ap (λ x. low_bits x (number (take 5 k))) (sym five) ∙ low_bits-number (take 5 k))

    pub slots_all : (word slots : ℕ) (r : KeyBits) (m : ℕ) → ((c : ℕ) → c < 32 → bit_at slots c ≡ cond (is_some (above_under None g (low_bits 5 c))) 1 0) → IsAsked word slots r → length r ≤ 5 → AllBehind g r (5 + m) → EachSlot g word m
    slots_all word slots r m told asked short all c l set k e =
        let ask = (asked c l).0 set in
        let none = clear_of (above_under None g (low_bits 5 c)) (sym (told c l) ∙ ask.1) in
        let f = follows r (low_bits 5 c) ask.0 in
        let five = length-low_bits 5 c in
        let whole = ap length f.whole in
        let parts = length-append r f.rest in
        let more = length-append f.rest k in
        let some = all (f.rest ++ k) (omega (arith, five, whole, parts, more, e)) in
        sym (ap is_some (behind_clear g (low_bits 5 c) k none)) ∙ ap (λ s. is_some (answer_under None g (s ++ k))) f.whole ∙ ap (λ s. is_some (answer_under None g s)) (append_assoc r f.rest k) ∙ some

    pub all_slots : (word slots : ℕ) (r : KeyBits) (m : ℕ) → ((c : ℕ) → c < 32 → bit_at slots c ≡ cond (is_some (above_under None g (low_bits 5 c))) 1 0) → IsAsked word slots r → length r ≤ 5 → EachSlot g word m → AllBehind g r (5 + m)
    all_slots word slots r m told asked short each k e = by (slot_of_key (r ++ k) m (length-append r k ∙ e))
      where
        by : (c : ℕ) × (c < 32) × (low_bits 5 c ≡ take 5 (r ++ k)) → IsSome (answer_under None g (r ++ k))
        by (c, l, front) =
            let split : r ++ k ≡ low_bits 5 c ++ drop 5 (r ++ k) = sym (take-append-drop 5 (r ++ k)) ∙ ap (λ s. s ++ drop 5 (r ++ k)) (sym front) in
            ap (λ s. is_some (answer_under None g s)) split ∙ answered (above_under None g (low_bits 5 c)) refl
          where
            below : begins_with r (low_bits 5 c) ≡ true
            below =
                let five : 5 ≡ length r + (5 - length r) = omega arith in
                ap (begins_with r) (front ∙ ap (λ n. take n (r ++ k)) five ∙ take-append-add r k (5 - length r)) ∙ front_append r (take (5 - length r) k)

            answered : (o : Option V) → above_under None g (low_bits 5 c) ≡ o → IsSome (answer_under None g (low_bits 5 c ++ drop 5 (r ++ k)))
            answered (Some x) h = behind_set g (low_bits 5 c) (drop 5 (r ++ k)) (ap is_some h)
            answered None h =
                let clear : bit_at slots c ≡ 0 = told c l ∙ ap (λ o. cond (is_some o) 1 0) h in
                let whole = length-append r k in
                let left = length-drop 5 (r ++ k) in
                ap is_some (behind_clear g (low_bits 5 c) (drop 5 (r ++ k)) h)
                ∙ each c l ((asked c l).1 (below, clear)) (drop 5 (r ++ k)) (omega (arith, whole, left, e))

    -- ---- a node whose addresses are places of its own

    -- the bit of a place at or above which a value stands
    pub covered_told : (inside l n : ℕ) → l < 5 → n < 2 ^ l → bit_at inside (2 ^ l - 1 + n) ≡ cond (nat_lt (2 ^ l - 1 + n) 31) (any_set d (ancestors (2 ^ l - 1 + n))) 0
        → bit_at (bit_or d inside) (2 ^ l - 1 + n) ≡ cond (is_some (answer_under None g (low_bits l n))) 1 0
    covered_told inside l n s m e =
        let small = place_below l n s m in
        bit_at_or d inside (2 ^ l - 1 + n)
        ∙ (λ j. max (tells l n s m j) ((e ∙ ap (λ t. cond t (any_set d (ancestors (2 ^ l - 1 + n))) 0) (less (2 ^ l - 1 + n) 31 small) ∙ ap (any_set d) (ancestors_of_level l n s m) ∙ any_front d g tells l n (omega arith) m) j))
        ∙ max_cond (g (low_bits l n)) (above_under None g (low_bits l n))
        ∙ sym (ap (λ o. cond (is_some o) 1 0) (answer_last (low_bits l n)))
      where
        answer_last : (s : KeyBits) → answer_under None g s ≡ option_or (g s) (above_under None g s)
        answer_last s = ap (answer_under None g) (sym (append-nil s)) ∙ answers_behind s [] None g ∙ ap (λ q. option_or (g q) (above_under None g s)) (append-nil s)

    pub places_all : (covered l : ℕ) (r : KeyBits) → ((n : ℕ) → n < 2 ^ l → bit_at covered (2 ^ l - 1 + n) ≡ cond (is_some (answer_under None g (low_bits l n))) 1 0) → AllBehind g r l → EachPlace covered l r
    places_all covered l r told all n m below =
        let f = follows r (low_bits l n) below in
        let whole = ap length f.whole in
        let count = length-low_bits l n in
        let parts = length-append r f.rest in
        let some = all f.rest (omega (arith, whole, count, parts)) in
        told n m ∙ ap (λ t. cond t 1 0) (ap (λ s. is_some (answer_under None g s)) f.whole ∙ some)

    pub all_places : (covered l : ℕ) (r : KeyBits) → ((n : ℕ) → n < 2 ^ l → bit_at covered (2 ^ l - 1 + n) ≡ cond (is_some (answer_under None g (low_bits l n))) 1 0) → EachPlace covered l r → AllBehind g r l
    all_places covered l r told each k e =
        let whole : length (r ++ k) ≡ l = length-append r k ∙ e in
        let small : number (r ++ k) < 2 ^ l = subst (λ (n : ℕ). number (r ++ k) < 2 ^ n) whole (number-lt (r ++ k)) in
        let key : low_bits l (number (r ++ k)) ≡ r ++ k = ap (λ n. low_bits n (number (r ++ k))) (sym whole) ∙ low_bits-number (r ++ k) in
        let one = each (number (r ++ k)) small (ap (begins_with r) key ∙ front_append r k) in
        ap (λ s. is_some (answer_under None g s)) (sym key) ∙ set_of _ (sym (told (number (r ++ k)) small) ∙ one)
