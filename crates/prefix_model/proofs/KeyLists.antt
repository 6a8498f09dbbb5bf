-- Lists of keys: the index of one, keys that differ, keys with a common front.
use Rattle.std.specs.Prelude.{◌≡◌, ◌↔◌, ℕ, zero, suc, ◌+◌, ◌-◌, ◌^◌, ◌<◌, ◌≤◌, Bool, true, false, cond, not, ◌&&◌, List, [], ◌∷◌, ◌++◌, length, map, take, drop, Option, Some, None, is_some, slice_get, ◌≢◌}
use Rattle.std.specs.Option.{option_map}
use Rattle.std.specs.Ordering.{eq_by_cmp}
use Rattle.std.proofs.Common.{refl, sym, ap, ◌∙◌, arith, length-append, length-take}
use Rattle.std.proofs.lemmas.List.{take-append-drop}
use Rattle.std.proofs.Math.Seq.{take-append_seam}
use lib.Dec.{leb}
use borrow.Author.Tests.{lt-leb}
use Rattle.prefix_model.specs.Keys.{KeyBits, key_cmp, number, same_key}
use Rattle.prefix_model.specs.Positions.{data_places}
use Rattle.prefix_model.specs.Slots.{picked, index_of, apart}
use Rattle.prefix_model.specs.Masks.{begins_with}
use Rattle.prefix_model.proofs.Order.{key_exact, key_total}
use Rattle.prefix_model.proofs.KeyLemmas.{same_key-same, same_key-itself, tests_same, both_ways}
use Rattle.prefix_model.proofs.Fronts.{same_key-front, Follows, follows, front_append}
use Rattle.prefix_model.proofs.KeyPlaces.{place_at}
use Rattle.prefix_model.proofs.Bitmaps.SlotLaws.{picked-none}

-- whether two keys are one
pub data Same (q p : KeyBits) : Type 0 where
  same : q ≡ p → Same q p
  other : same_key q p ≡ false → Same q p

pub same_or_other : (q p : KeyBits) → Same q p
same_or_other q p = elim (same_key q p) as (λ b. same_key q p ≡ b → Same q p) [ true ↦ λ e. same (same_key-same q p e) | false ↦ λ e. other e ] refl

pub tied-same_key : (q p : KeyBits) → eq_by_cmp key_cmp q p ≡ same_key q p
tied-same_key = tests_same key_cmp key_total key_exact

pub index_of-front : (p : KeyBits) (ps : List KeyBits) (q : KeyBits) → index_of (map (λ s. p ++ s) ps) (p ++ q) ≡ index_of ps q
index_of-front p [] q = refl
index_of-front p (s ∷ ps) q = λ i. cond (same_key-front p q s i) (Some 0) (option_map suc (index_of-front p ps q i))

pub apart-front : (p : KeyBits) (ps : List KeyBits) → apart (map (λ s. p ++ s) ps) ≡ apart ps
apart-front p [] = refl
apart-front p (s ∷ ps) = λ i. not (is_some (index_of-front p ps s i)) && apart-front p ps i

-- ---- the index of a key

pub data Found (b : Bool) (o : Option ℕ) (i : ℕ) : Type 0 where
  first : b ≡ true → i ≡ 0 → Found b o i
  later : (j : ℕ) → b ≡ false → o ≡ Some j → i ≡ suc j → Found b o i

pub not_found : (b : Bool) (o : Option ℕ) → cond b (Some 0) (option_map suc o) ≡ None → (b ≡ false) × (o ≡ None)
not_found true o e = cc
not_found false None e = (refl, refl)
not_found false (Some i) e = cc

pub found : (b : Bool) (o : Option ℕ) (i : ℕ) → cond b (Some 0) (option_map suc o) ≡ Some i → Found b o i
found true o i e = first refl (let z : 0 ≡ i = cc in sym z)
found false None i e = cc
found false (Some j) i e = later j refl refl (let z : suc j ≡ i = cc in sym z)

pub index_of-slice_get : (ps : List KeyBits) (q : KeyBits) (i : ℕ) → index_of ps q ≡ Some i → slice_get ps i ≡ Some q
index_of-slice_get [] q i e = cc
index_of-slice_get (p ∷ ps) q i e =
    elim (found (same_key q p) (index_of ps q) i e) [
      | first t z ↦ ap (slice_get (p ∷ ps)) z ∙ ap Some (sym (same_key-same q p t))
      | later j f o z ↦ ap (slice_get (p ∷ ps)) z ∙ index_of-slice_get ps q j o
    ]

pub both_parts : (a b : Bool) → (not a && b) ≡ true → (a ≡ false) × (b ≡ true)
both_parts true b e = cc
both_parts false b e = (refl, e)

pub slice_get-index_of : (ps : List KeyBits) (q : KeyBits) (i : ℕ) → apart ps ≡ true → slice_get ps i ≡ Some q → index_of ps q ≡ Some i
slice_get-index_of [] q i a e = cc
slice_get-index_of (p ∷ ps) q zero a e =
    let z : p ≡ q = cc in
    ap (λ b. cond b (Some 0) (option_map suc (index_of ps q))) (ap (same_key q) z ∙ same_key-itself q)
slice_get-index_of (p ∷ ps) q (suc i) a e =
    let parts = both_parts (is_some (index_of ps p)) (apart ps) a in
    let rest = slice_get-index_of ps q i parts.1 e in
    elim (same_or_other q p) [
      | same z ↦ let s : is_some (index_of ps p) ≡ true = ap (λ k. is_some (index_of ps k)) (sym z) ∙ ap is_some rest in absurd (let t = parts.0 in cc)
      | other f ↦ (λ j. cond (f j) (Some 0) (option_map suc (rest j)))
    ]

-- ---- what a node's entries answer

pub is_none : (o : Option ℕ) → is_some o ≡ false → o ≡ None
is_none None e = refl
is_none (Some x) e = cc

-- the item of the slot whose key is q
abbrev pub item_at : {T : Type 0} → ℕ → List T → Option ℕ → Option T
item_at bits items None = None
item_at bits items (Some i) = picked bits items i

pub item_at-none : {T : Type 0} (bits : ℕ) (o : Option ℕ) → item_at {T = T} bits [] o ≡ None
item_at-none bits None = refl
item_at-none bits (Some i) = picked-none bits i

absent : (ps : List KeyBits) (p : KeyBits) → is_some (index_of ps p) ≡ false → index_of ps p ≡ None
absent ps p e = is_none (index_of ps p) e

-- ---- the places of a node

pub places_apart : apart data_places ≡ true
unfolding data_places
places_apart = refl

pub place_index : (s : KeyBits) → length s < 5 → index_of data_places s ≡ Some (2 ^ length s - 1 + number s)
place_index s short = slice_get-index_of data_places s _ places_apart (place_at s (length s) refl short)

-- ---- one key at the front of another

pub take_take : {A : Type 0} (xs : List A) (n m : ℕ) → n ≤ m → take n (take m xs) ≡ take n xs
take_take xs zero m l = refl
take_take xs (suc n) zero l = absurd (omega arith)
take_take [] (suc n) (suc m) l = refl
take_take (x ∷ xs) (suc n) (suc m) l = ap (λ r. x ∷ r) (take_take xs n m (omega arith))

-- a test of the front of q tells whether q begins with p
pub front_told : (r : Bool) (p q : KeyBits) → (r ≡ true → p ≡ take (length p) q) → (p ≡ take (length p) q → r ≡ true) → r ≡ begins_with p q
front_told r p q there back = both_ways r (begins_with p q) (λ t. begins (there t)) (λ e. back (taken (follows p q e)))
  where
    begins : p ≡ take (length p) q → begins_with p q ≡ true
    begins e = ap (begins_with p) (sym (take-append-drop (length p) q) ∙ ap (λ s. s ++ drop (length p) q) (sym e)) ∙ front_append p (drop (length p) q)

    taken : Follows p q → p ≡ take (length p) q
    taken f = sym (ap (take (length p)) f.whole ∙ take-append_seam p f.rest)

-- no key begins with a longer one
pub longer_not_front : (p q : KeyBits) → length q < length p → false ≡ begins_with p q
longer_not_front p q l = both_ways false (begins_with p q) (λ e. absurd cc) (λ e. let f = follows p q e in let n = ap length f.whole in let m = length-append p f.rest in absurd (omega (arith, n, m)))

-- what a test of the first bits of two integers tells of the keys that they begin with
pub front_tested : (r : Bool) (a b p q : KeyBits) (m n len : ℕ) → p ≡ take m a → q ≡ take n b → len ≡ m → m ≤ n → m ≤ length a → (r ≡ true) ↔ (take len a ≡ take len b) → r ≡ begins_with p q
front_tested r a b p q m n len at_p at_q counted short within test =
    let count : length p ≡ m = let l = length-take m a in let e = ap length at_p in omega (arith, l, e) in
    let left : take len a ≡ p = ap (λ k. take k a) counted ∙ sym at_p in
    let right : take len b ≡ take (length p) q = ap (λ k. take k b) counted ∙ sym (take_take b m n short) ∙ (λ j. take (sym count j) (sym at_q j)) in
    front_told r p q (λ t. sym left ∙ test.0 t ∙ right) (λ e. test.1 (left ∙ e ∙ sym right))

-- and where the first is longer than the second
pub longer_tested : (a b p q : KeyBits) (m n x y : ℕ) → p ≡ take m a → q ≡ take n b → m ≤ length a → x ≡ m → y ≡ n → y < x → leb x y ≡ begins_with p q
longer_tested a b p q m n x y at_p at_q within same_x same_y longer =
    let l = length-take m a in
    let e = ap length at_p in
    let k = length-take n b in
    let f = ap length at_q in
    lt-leb x y longer ∙ longer_not_front p q (omega (arith, l, e, k, f))

-- ---- keys

pub not_same : (q p : KeyBits) → (q ≢ p) → same_key q p ≡ false
not_same q p differ = elim (same_or_other q p) [ same e ↦ absurd (differ e) | other e ↦ e ]

pub not_one : (q p : KeyBits) → same_key q p ≡ false → q ≢ p
not_one q p e z = let yes = ap (λ k. same_key k p) z ∙ same_key-itself p in cc
