-- Slots: the place of an item, one item changed, one item added.
use Rattle.std.specs.Prelude.{◌≡◌, ◌≢◌, ℕ, zero, suc, ◌+◌, ◌-◌, ◌*◌, ◌/◌, ◌%◌, ◌^◌, ◌<◌, ◌≤◌, ◌==◌, true, false, cond, List, [], ◌∷◌, length, drop, Option, Some, None, is_some, slice_get, slice_set, Result, Ok, Err, is_ok, IsOk, if◌then◌else◌, bit_and}
use Rattle.std.specs.Int.{bit_at}
use Rattle.std.specs.List.{insert}
use Rattle.std.proofs.Common.{refl, sym, ap, ◌∙◌, arith, length-drop, get_or}
use Rattle.std.proofs.lemmas.Nat.{mod-pow-add, and_mask, zero_from_ones}
use Rattle.std.proofs.lemmas.Nat.Bits.{bit_at-suc, bit_at_lowest, bit_at-lt}
use Rattle.std.proofs.Math.Nat.{mod-eq_of_lt}
use Rattle.std.proofs.lemmas.Option.{slice_get_read}
use Rattle.std.proofs.Math.Pow.{pow-lt}
use lib.Pow.{pow_mono}
use lib.Count.{ones, ones_step, ones_cat}
use Rattle.prefix_model.specs.Slots.{picked, place}
use Rattle.prefix_model.proofs.KeyPlaces.{slice_get-drop}
use Rattle.prefix_model.proofs.MaskBits.{clear_from}

-- an odd or an even number
pub data Parity (n : ℕ) : Type 0 where
  even : n % 2 ≡ 0 → Parity n
  odd : n % 2 ≡ 1 → Parity n

parity_of : (n d : ℕ) → n % 2 ≡ d → d < 2 → Parity n
parity_of n zero e l = even e
parity_of n (suc zero) e l = odd e
parity_of n (suc (suc d)) e l = absurd (omega arith)

pub parity : (n : ℕ) → Parity n
parity n = parity_of n (n % 2) refl (omega arith)

ones_of_bit : (d : ℕ) → d < 2 → ones d ≡ d
unfolding ones
ones_of_bit zero l = refl
ones_of_bit (suc zero) l = refl
ones_of_bit (suc (suc d)) l = absurd (omega arith)

pub place-ones : (bits i : ℕ) → place bits i ≡ ones (bits % 2 ^ i)
unfolding place
place-ones bits zero = sym (ones_of_bit 0 (omega arith)) ∙ ap ones (let e : 0 ≡ bits % 2 ^ 0 = omega arith in e)
place-ones bits (suc i) =
    let l : bits % 2 < 2 ^ 1 = omega arith in
    let e : bits % 2 ^ suc i ≡ (bits / 2 % 2 ^ i) * 2 ^ 1 + bits % 2 = ap (λ n. bits % 2 ^ n) (let k : suc i ≡ i + 1 = omega arith in k) ∙ mod-pow-add bits i 1 in
    let c = ones_cat 1 (bits / 2 % 2 ^ i) (bits % 2) l in
    let b = ones_of_bit (bits % 2) (omega arith) in
    let r = place-ones (bits / 2) i in
    let whole = ap ones e in
    omega (arith, c, b, r, whole)

pub drop-none : {A : Type 0} (n : ℕ) → drop {A = A} n [] ≡ []
drop-none zero = refl
drop-none (suc n) = refl

pub picked-none : {A : Type 0} (bits i : ℕ) → picked {A = A} bits [] i ≡ None
unfolding picked
picked-none {A} bits zero = elim (bits % 2 == 1) as (λ b. cond {A = Option A} b None None ≡ None) [ true ↦ refl | false ↦ refl ]
picked-none {A} bits (suc i) = ap (λ items. picked {A = A} (bits / 2) items i) (drop-none (bits % 2)) ∙ picked-none (bits / 2) i

-- the item of a slot, by its place
pub picked-place : {A : Type 0} (bits : ℕ) (items : List A) (i : ℕ) → picked bits items i ≡ cond (bit_at bits i == 1) (slice_get items (place bits i)) None
unfolding picked place
picked-place bits items zero = ap (λ n. cond (n == 1) (slice_get items 0) None) (sym (bit_at_lowest bits))
picked-place bits items (suc i) =
    picked-place (bits / 2) (drop (bits % 2) items) i
    ∙ (λ j. cond (sym (bit_at-suc bits i) j == 1) (slice_get-drop items (bits % 2) (place (bits / 2) i) j) None)

length-drop_of : {A : Type 0} (items : List A) (n k : ℕ) → length items ≡ n + k → length (drop n items) ≡ k
length-drop_of items zero k e = omega (arith, e)
length-drop_of [] (suc n) k e = absurd (omega arith)
length-drop_of (x ∷ items) (suc n) k e = length-drop_of items n k (omega arith)

first_some : {A : Type 0} (items : List A) (d k : ℕ) → length items ≡ d + k → d < 2 → is_some (cond (d == 1) (slice_get items 0) None) ≡ (d == 1)
first_some items zero k e l = refl
first_some [] (suc zero) k e l = absurd (omega arith)
first_some (x ∷ items) (suc zero) k e l = refl
first_some items (suc (suc d)) k e l = absurd (omega arith)

-- every slot whose bit is set has an item
pub is_some-picked : {A : Type 0} (bits : ℕ) (items : List A) (i : ℕ) → length items ≡ ones bits → is_some (picked bits items i) ≡ (bit_at bits i == 1)
unfolding picked
is_some-picked bits items zero e = first_some items (bits % 2) (ones (bits / 2)) (e ∙ ones_step bits) (omega arith) ∙ ap (λ n. n == 1) (sym (bit_at_lowest bits))
is_some-picked bits items (suc i) e =
    is_some-picked (bits / 2) (drop (bits % 2) items) i (length-drop_of items (bits % 2) (ones (bits / 2)) (e ∙ ones_step bits))
    ∙ ap (λ n. n == 1) (sym (bit_at-suc bits i))

drop-set : {A : Type 0} (items : List A) (d r k : ℕ) (x : A) → k ≡ d + r → drop d (slice_set items k x) ≡ slice_set (drop d items) r x
drop-set items zero r k x e = ap (λ n. slice_set items n x) (let same : k ≡ r = omega arith in same)
drop-set [] (suc d) r k x e = refl
drop-set (y ∷ items) (suc d) r zero x e = absurd (omega arith)
drop-set (y ∷ items) (suc d) r (suc k) x e = drop-set items d r k x (omega arith)

-- one item changed
pub picked-set_same : {A : Type 0} (bits : ℕ) (items : List A) (i : ℕ) (x : A) → bit_at bits i ≡ 1 → place bits i < length items
    → picked bits (slice_set items (place bits i) x) i ≡ Some x
unfolding picked place
picked-set_same bits [] i x set within = absurd (omega arith)
picked-set_same bits (y ∷ items) zero x set within = ap (λ n. cond (n == 1) (Some x) None) (sym (bit_at_lowest bits) ∙ set)
picked-set_same bits items (suc i) x set within =
    ap (λ rest. picked (bits / 2) rest i) (drop-set items (bits % 2) (place (bits / 2) i) _ x refl)
    ∙ picked-set_same (bits / 2) (drop (bits % 2) items) i x (sym (bit_at-suc bits i) ∙ set) (omega (arith, length-drop (bits % 2) items))

first_other : {A : Type 0} (items : List A) (d r k : ℕ) (x : A) → d < 2 → k ≡ d + r → cond (d == 1) (slice_get (slice_set items k x) 0) None ≡ cond (d == 1) (slice_get items 0) None
first_other items zero r k x two e = refl
first_other [] (suc zero) r k x two e = refl
first_other (y ∷ items) (suc zero) r zero x two e = absurd (omega arith)
first_other (y ∷ items) (suc zero) r (suc k) x two e = refl
first_other items (suc (suc d)) r k x two e = absurd (omega arith)

rest_other : {A : Type 0} (items : List A) (d : ℕ) (x : A) → d ≡ 1 → drop d (slice_set items 0 x) ≡ drop d items
rest_other items zero x e = absurd (omega arith)
rest_other [] (suc d) x e = refl
rest_other (y ∷ items) (suc d) x e = refl

first_before : {A : Type 0} (items : List A) (d r k : ℕ) (x : A) → d < 2 → k ≡ d + r → k ≤ length items → cond (d == 1) (slice_get (insert items k x) 0) None ≡ cond (d == 1) (slice_get items 0) None
first_before items zero r k x two e l = refl
first_before [] (suc zero) r k x two e l = absurd (omega arith)
first_before (y ∷ items) (suc zero) r zero x two e l = absurd (omega arith)
first_before (y ∷ items) (suc zero) r (suc k) x two e l = refl
first_before items (suc (suc d)) r k x two e l = absurd (omega arith)

pub picked-set_other : {A : Type 0} (bits : ℕ) (items : List A) (i : ℕ) (x : A) (j : ℕ) → bit_at bits i ≡ 1 → j ≢ i
    → picked bits (slice_set items (place bits i) x) j ≡ picked bits items j
unfolding picked place
picked-set_other bits items zero x zero set other = absurd (other refl)
picked-set_other bits items zero x (suc j) set other = ap (λ rest. picked (bits / 2) rest j) (rest_other items (bits % 2) x (sym (bit_at_lowest bits) ∙ set))
picked-set_other bits items (suc i) x zero set other = first_other items (bits % 2) (place (bits / 2) i) _ x (omega arith) refl
picked-set_other bits items (suc i) x (suc j) set other =
    ap (λ rest. picked (bits / 2) rest j) (drop-set items (bits % 2) (place (bits / 2) i) _ x refl)
    ∙ picked-set_other (bits / 2) (drop (bits % 2) items) i x j (sym (bit_at-suc bits i) ∙ set) (λ e. other (ap suc e))

drop-insert : {A : Type 0} (items : List A) (d r k : ℕ) (x : A) → k ≡ d + r → k ≤ length items → drop d (insert items k x) ≡ insert (drop d items) r x
drop-insert items zero r k x e l = ap (λ n. insert items n x) (let same : k ≡ r = omega arith in same)
drop-insert [] (suc d) r k x e l = absurd (omega arith)
drop-insert (y ∷ items) (suc d) r zero x e l = absurd (omega arith)
drop-insert (y ∷ items) (suc d) r (suc k) x e l = drop-insert items d r k x (omega arith) (omega arith)

-- one item added
pub picked-insert_same : {A : Type 0} (bits : ℕ) (items : List A) (i : ℕ) (x : A) → bit_at bits i ≡ 0 → place bits i ≤ length items
    → picked (bits + 2 ^ i) (insert items (place bits i) x) i ≡ Some x
unfolding picked place
picked-insert_same bits items zero x clear within =
    let low = bit_at_lowest bits in
    ap (λ n. cond (n == 1) (Some x) None) (let e : (bits + 2 ^ 0) % 2 ≡ 1 = omega (arith, clear, low) in e)
picked-insert_same bits items (suc i) x clear within =
    let digit : (bits + 2 ^ suc i) % 2 ≡ bits % 2 = omega arith in
    let half : (bits + 2 ^ suc i) / 2 ≡ bits / 2 + 2 ^ i = omega arith in
    (λ j. picked (half j) (drop (digit j) (insert items (bits % 2 + place (bits / 2) i) x)) i)
    ∙ ap (λ rest. picked (bits / 2 + 2 ^ i) rest i) (drop-insert items (bits % 2) (place (bits / 2) i) _ x refl within)
    ∙ picked-insert_same (bits / 2) (drop (bits % 2) items) i x (sym (bit_at-suc bits i) ∙ clear) (omega (arith, length-drop (bits % 2) items))

pub picked-insert_other : {A : Type 0} (bits : ℕ) (items : List A) (i : ℕ) (x : A) (j : ℕ) → bit_at bits i ≡ 0 → place bits i ≤ length items → j ≢ i
    → picked (bits + 2 ^ i) (insert items (place bits i) x) j ≡ picked bits items j
unfolding picked place
picked-insert_other bits items zero x zero clear within other = absurd (other refl)
picked-insert_other bits items zero x (suc j) clear within other =
    let low = bit_at_lowest bits in
    let digit : (bits + 2 ^ 0) % 2 ≡ 1 = omega (arith, clear, low) in
    let half : (bits + 2 ^ 0) / 2 ≡ bits / 2 = omega (arith, clear, low) in
    let none : bits % 2 ≡ 0 = omega (arith, clear, low) in
    (λ k. picked (half k) (drop (digit k) (x ∷ items)) j) ∙ ap (λ n. picked (bits / 2) (drop n items) j) (sym none)
picked-insert_other bits items (suc i) x zero clear within other =
    let digit : (bits + 2 ^ suc i) % 2 ≡ bits % 2 = omega arith in
    ap (λ d. cond (d == 1) (slice_get (insert items (bits % 2 + place (bits / 2) i) x) 0) None) digit
    ∙ first_before items (bits % 2) (place (bits / 2) i) _ x (omega arith) refl within
picked-insert_other bits items (suc i) x (suc j) clear within other =
    let digit : (bits + 2 ^ suc i) % 2 ≡ bits % 2 = omega arith in
    let half : (bits + 2 ^ suc i) / 2 ≡ bits / 2 + 2 ^ i = omega arith in
    (λ k. picked (half k) (drop (digit k) (insert items (bits % 2 + place (bits / 2) i) x)) j)
    ∙ ap (λ rest. picked (bits / 2 + 2 ^ i) rest j) (drop-insert items (bits % 2) (place (bits / 2) i) _ x refl within)
    ∙ picked-insert_other (bits / 2) (drop (bits % 2) items) i x j (sym (bit_at-suc bits i) ∙ clear) (omega (arith, length-drop (bits % 2) items)) (λ e. other (ap suc e))

-- one more bit is set
pub ones-set : (bits i : ℕ) → bit_at bits i ≡ 0 → ones (bits + 2 ^ i) ≡ ones bits + 1
ones-set bits zero clear =
    let low = bit_at_lowest bits in
    let digit : (bits + 2 ^ 0) % 2 ≡ 1 = omega (arith, clear, low) in
    let half : (bits + 2 ^ 0) / 2 ≡ bits / 2 = omega (arith, clear, low) in
    let old = ones_step bits in
    let new = ones_step (bits + 2 ^ 0) in
    let same = ap ones half in
    omega (arith, clear, low, old, new, same, digit)
ones-set bits (suc i) clear =
    let digit : (bits + 2 ^ suc i) % 2 ≡ bits % 2 = omega arith in
    let half : (bits + 2 ^ suc i) / 2 ≡ bits / 2 + 2 ^ i = omega arith in
    let old = ones_step bits in
    let new = ones_step (bits + 2 ^ suc i) in
    let same = ap ones half in
    let rest = ones-set (bits / 2) i (sym (bit_at-suc bits i) ∙ clear) in
    omega (arith, old, new, same, digit, rest)

-- the place of a set bit is below the count, and that of a clear one at most the count
pub place-lt : (bits i : ℕ) → bit_at bits i ≡ 1 → place bits i < ones bits
unfolding place
place-lt bits zero set = let low = bit_at_lowest bits in let all = ones_step bits in omega (arith, set, low, all)
place-lt bits (suc i) set =
    let rest = place-lt (bits / 2) i (sym (bit_at-suc bits i) ∙ set) in
    let all = ones_step bits in
    omega (arith, rest, all)

pub place-le : (bits i : ℕ) → place bits i ≤ ones bits
unfolding place
place-le bits zero = omega arith
place-le bits (suc i) = let rest = place-le (bits / 2) i in let all = ones_step bits in omega (arith, rest, all)

pub shifted_one : (i : ℕ) → i < 32 → 1 * 2 ^ i % 2 ^ 32 ≡ 2 ^ i
shifted_one i l =
    let small = pow-lt l in
    ap (λ n. n % 2 ^ 32) (let one : 1 * 2 ^ i ≡ 2 ^ i = omega arith in one) ∙ mod-eq_of_lt small

-- the first bit of a level, and then some
pub level_within : (k n m : ℕ) → k < 5 → n ≡ m → m < 2 ^ k → 1 * 2 ^ k % 2 ^ 32 - 1 + n < 31
level_within k n m l is below =
    let p : 2 ^ suc k ≤ 2 ^ 5 = pow_mono (let e : suc k ≤ 5 = omega arith in e) in
    let small : 2 * 2 ^ k ≤ 32 = omega (arith, p) in
    let e = shifted_one k (omega arith) in
    omega (arith, e, small)

-- `bits & ((1 << i) - 1)`
pub and_below : (bits i : ℕ) → i < 32 → bit_and bits (1 * 2 ^ i % 2 ^ 32 - 1) ≡ bits % 2 ^ i
and_below bits i l = ap (λ n. bit_and bits (n - 1)) (shifted_one i l) ∙ and_mask bits i

-- an item that was read
pub picked_read : {A : Type 0} (bits : ℕ) (items : List A) (i p : ℕ) (x : A) → length items ≡ ones bits → bit_at bits i ≡ 1 → p ≡ place bits i → x ≡ get_or items p x → picked bits items i ≡ Some x
picked_read bits items i p x count set is read =
    let below = place-lt bits i set in
    picked-place bits items i
    ∙ ap (λ n. cond (n == 1) (slice_get items (place bits i)) None) set
    ∙ ap (slice_get items) (sym is)
    ∙ slice_get_read items (length items) p x refl (omega arith) read

pub place_within : (bits i p n : ℕ) → n ≡ ones bits → bit_at bits i ≡ 1 → p ≡ place bits i → p < n
place_within bits i p n count set is = let below = place-lt bits i set in omega arith

pub picked_clear : {A : Type 0} (bits : ℕ) (items : List A) (i : ℕ) → bit_at bits i ≢ 1 → picked bits items i ≡ None
picked_clear bits items i clear =
    let two = bit_at-lt bits i in
    let z : bit_at bits i ≡ 0 = omega arith in
    picked-place bits items i ∙ ap (λ n. cond (n == 1) (slice_get items (place bits i)) None) z

-- one more bit fits
pub set_within : (bits i n : ℕ) → bit_at bits i ≡ 0 → bits < 2 ^ n → i < n → bits + 2 ^ i < 2 ^ n
set_within bits i zero clear l m = absurd (omega arith)
set_within bits zero (suc n) clear l m = let low = bit_at_lowest bits in omega (arith, clear, low, l)
set_within bits (suc i) (suc n) clear l m =
    let rest = set_within (bits / 2) i n (sym (bit_at-suc bits i) ∙ clear) (omega (arith, l)) (omega arith) in
    omega (arith, rest)

pub place_at_most : (bits i p n : ℕ) → n ≡ ones bits → p ≡ place bits i → p ≤ n
place_at_most bits i p n count is = let below = place-le bits i in omega arith

pub length-set_at : {A : Type 0} (items : List A) (i : ℕ) (x : A) → length (slice_set items i x) ≡ length items
length-set_at [] i x = refl
length-set_at (y ∷ items) zero x = refl
length-set_at (y ∷ items) (suc i) x = ap suc (length-set_at items i x)

pub length-inserted : {A : Type 0} (items : List A) (i : ℕ) (x : A) → i ≤ length items → length (insert items i x) ≡ length items + 1
length-inserted items zero x l = omega arith
length-inserted [] (suc i) x l = absurd (omega arith)
length-inserted (y ∷ items) (suc i) x l = let r = length-inserted items i x (omega arith) in omega (arith, r)

pub bit_clear : {A : Type 0} (bits : ℕ) (items : List A) (i : ℕ) → length items ≡ ones bits → picked bits items i ≡ None → bit_at bits i ≡ 0
bit_clear bits items i count none =
    clear_from bits i (λ one. let some = is_some-picked bits items i count in let no = ap is_some none in let yes = ap (λ n. n == 1) one in absurd (cc))

-- an item inserted where there was room
pub inserted : {A E : Type 0} (result : Result (Unit {0}) E) (old new wanted : List A) → new ≡ (if is_ok result then wanted else old) → IsOk result → new ≡ wanted
inserted (Ok u) old new wanted e ok = e
inserted (Err x) old new wanted e ok = absurd (cc)

pub ones_zero : ones 0 ≡ 0
unfolding ones
ones_zero = refl

pub ones_some : (bits : ℕ) → bits ≢ 0 → ones bits ≢ 0
ones_some bits some z = some (zero_from_ones bits z)
