-- Lists in blocks: one that grows, one that shrinks, and the others.
use Rattle.std.specs.Prelude.{◌≡◌, ◌≢◌, ℕ, zero, suc, ◌+◌, ◌-◌, ◌*◌, ◌/◌, ◌%◌, ◌⊎◌, ◌^◌, ◌<◌, ◌≤◌, ◌==◌, Bool, true, false, cond, List, [], ◌∷◌, length, Option, Some, None, slice_get}
use Rattle.std.specs.Option.{unwrap_or}
use Rattle.std.specs.Int.{bit_at}
use Rattle.std.specs.List.{insert as inserted, remove as removed}
use Rattle.std.specs.Cmp.{nat_cmp_total, unsigned_tied}
use Rattle.std.specs.FinMap as map_of
use Rattle.std.proofs.Common.{refl, sym, ap, ◌∙◌, arith, inl, inr}
use Rattle.std.proofs.lemmas.Bool.{ne_eqb}
use Rattle.std.proofs.lemmas.Bool.Decides.{eqb_tells}
use Rattle.std.proofs.Math.Nat.{add-mul-mod_self_right, pow-suc}
use Rattle.std.proofs.lemmas.Nat.Bits.{bit_at-suc, bit_at_lowest, bit_at-zero}
use lib.Count.{ones, ones_step}
use Rattle.prefix_model.specs.Slots.{picked, place}
use Rattle.prefix_model.proofs.Bitmaps.SlotLaws.{place-ones, picked_clear, ones-set, length-inserted, place-le, picked-insert_same, picked-insert_other, ones_zero, ones_some}
use Rattle.prefix_blocks.specs.Blocks.{with_list}
use Rattle.prefix_table.specs.NodeLists.{ListsOf, block, items_of, without}
use Rattle.prefix_table.proofs.TrieWays.{items_some}

-- the place of a slot is told by the bits below it
pub place_set : (bits i : ℕ) → place (bits + 2 ^ i) i ≡ place bits i
place_set bits i = place-ones (bits + 2 ^ i) i ∙ ap ones (let e : (bits + 2 ^ i) % 2 ^ i ≡ bits % 2 ^ i = ap (λ k. (bits + k) % 2 ^ i) (let o : 2 ^ i ≡ 1 * 2 ^ i = omega arith in o) ∙ add-mul-mod_self_right bits 1 (2 ^ i) in e) ∙ sym (place-ones bits i)

pub alike : (a : ℕ) → (a == a) ≡ true
alike a = elim (eqb_tells a a) [ inl here ↦ here.0 | inr differ ↦ absurd (differ.1 refl) ]

-- at most n bits are set in a number of n bits
pub ones_within : (n bits : ℕ) → bits < 2 ^ n → ones bits ≤ n
ones_within zero bits l = let z : bits ≡ 0 = omega arith in let e = ap ones z in let o = ones_zero in omega (arith, e, o)
ones_within (suc n) bits l =
    let r = ones_within n (bits / 2) (omega (arith, l)) in
    let s = ones_step bits in
    omega (arith, r, s)

pub bits_more : (bits slot : ℕ) → bits + 2 ^ slot ≢ 0
bits_more bits slot z = let p = pow_some slot in omega (arith, z, p)
  where
    pow_some : (n : ℕ) → 0 < 2 ^ n
    pow_some zero = omega arith
    pow_some (suc n) = let r = pow_some n in omega (arith, r)

module _ {A : Type 0} where
  pub get_same : (lists : ListsOf A) (at : ℕ) (items : List A) → map_of.get (map_of.insert lists at items) at ≡ Some items
  get_same lists at items = map_of.get-insert nat_cmp_total lists at items at ∙ ap (λ b. cond b (Some items) (map_of.get lists at)) (unsigned_tied at at ∙ alike at)

  pub get_other : (lists : ListsOf A) (at b : ℕ) (items : List A) → b ≢ at → map_of.get (map_of.insert lists at items) b ≡ map_of.get lists b
  get_other lists at b items differ = map_of.get-insert nat_cmp_total lists at items b ∙ ap (λ t. cond t (Some items) (map_of.get lists b)) (unsigned_tied b at ∙ ne_eqb b at differ)

  pub get_removed : (lists : ListsOf A) (at b : ℕ) → b ≢ at → map_of.get (map_of.remove lists at) b ≡ map_of.get lists b
  get_removed lists at b differ = map_of.get-remove nat_cmp_total lists at b ∙ ap (λ t. cond t None (map_of.get lists b)) (unsigned_tied b at ∙ ne_eqb b at differ)

  -- a list that has items stands in a block
  pub block_some : (lists : ListsOf A) (at : ℕ) → length (block lists at) ≢ 0 → map_of.get lists at ≡ Some (block lists at)
  block_some lists at some = of (map_of.get lists at) some
    where
      of : (o : Option (List A)) → length (unwrap_or o []) ≢ 0 → o ≡ Some (unwrap_or o [])
      of None more = absurd (more refl)
      of (Some items) more = refl

  -- the items by their bits and by their count
  pub items_by_count : (lists : ListsOf A) (bits at : ℕ) → items_of lists (ones bits) at ≡ items_of lists bits at
  items_by_count lists bits at = elim (eqb_tells bits 0) [
    | inl none ↦ (λ j. items_of lists (ones (none.1 j)) at) ∙ (λ j. items_of lists (ones_zero j) at) ∙ (λ j. items_of lists (sym none.1 j) at)
    | inr some ↦ items_some lists (ones bits) at (ones_some bits some.1) ∙ sym (items_some lists bits at some.1)
  ]

  -- the list of these bits has one more item, in the block b
  pub record IsGrownIn (old new : ListsOf A) (bits at b slot : ℕ) (item : A) : Type 0 where
    pub lists : new ≡ map_of.insert (without old (ones bits) at) b (inserted (items_of old (ones bits) at) (place bits slot) item)
    pub fresh : map_of.get (without old (ones bits) at) b ≡ None

  -- another list
  pub record IsApart (old new : ListsOf A) (bits at b : ℕ) : Type 0 where
    pub other_block : bits ≢ 0 → at ≢ b
    pub items : items_of new bits at ≡ items_of old bits at

  without_other : (old : ListsOf A) (bits at m : ℕ) → (bits ≢ 0 → m ≢ at) → map_of.get (without old (ones bits) at) m ≡ map_of.get old m
  without_other old bits at m differ = elim (eqb_tells (ones bits) 0) [
    | inl none ↦ ap (λ t. map_of.get (cond t old (map_of.remove old at)) m) none.0
    | inr some ↦ ap (λ t. map_of.get (cond t old (map_of.remove old at)) m) some.0 ∙ get_removed old at m (differ (λ z. some.1 (ap ones z ∙ ones_zero)))
  ]

  pub grown_other : (old new : ListsOf A) (bits at b slot : ℕ) (item : A) → IsGrownIn old new bits at b slot item → (m m_at : ℕ) → length (items_of old m m_at) ≡ ones m → (m ≢ 0 → bits ≢ 0 → m_at ≢ at)
      → IsApart old new m m_at b
  grown_other old new bits at b slot item g m m_at count differ = elim (eqb_tells m 0) [
    | inl none ↦ record { other_block = λ some. absurd (some none.1); items = (λ j. items_of new (none.1 j) m_at) ∙ (λ j. items_of old (sym none.1 j) m_at) }
    | inr some ↦
        let more = some.1 in
        let held_length = ap length (items_some old m m_at more) in
        let there : map_of.get old m_at ≡ Some (block old m_at) = block_some old m_at (λ z. ones_some m more (sym count ∙ held_length ∙ z)) in
        let still = without_other old bits at m_at (differ more) in
        let apart : m_at ≢ b = (λ z. let none = ap (map_of.get (without old (ones bits) at)) z ∙ g.fresh in let is = sym still ∙ none in cc) in
        record {
          other_block = λ some. apart;
          items = items_some new m m_at more
              ∙ ap (λ o. unwrap_or o []) (ap (λ l. map_of.get l m_at) g.lists ∙ get_other (without old (ones bits) at) b m_at _ apart ∙ still)
              ∙ sym (items_some old m m_at more);
        }
  ]

  pub grown_here : (old new : ListsOf A) (bits at b slot : ℕ) (item : A) → IsGrownIn old new bits at b slot item → (more : ℕ) → more ≢ 0 → items_of new more b ≡ inserted (items_of old bits at) (place bits slot) item
  grown_here old new bits at b slot item g more some =
      items_some new more b some
      ∙ ap (λ o. unwrap_or o []) (ap (λ l. map_of.get l b) g.lists ∙ get_same (without old (ones bits) at) b _)
      ∙ ap (λ items. inserted items (place bits slot) item) (items_by_count old bits at)

  pub grown_count : (old new : ListsOf A) (bits at b slot : ℕ) (item : A) → IsGrownIn old new bits at b slot item → bit_at bits slot ≡ 0 → length (items_of old bits at) ≡ ones bits
      → length (items_of new (bits + 2 ^ slot) b) ≡ ones (bits + 2 ^ slot)
  grown_count old new bits at b slot item g clear count =
      ap length (grown_here old new bits at b slot item g (bits + 2 ^ slot) (bits_more bits slot))
      ∙ length-inserted (items_of old bits at) (place bits slot) item (let l = place-le bits slot in omega (arith, l, count))
      ∙ ap (λ n. n + 1) count ∙ sym (ones-set bits slot clear)

  pub grown_picked : (old new : ListsOf A) (bits at b slot : ℕ) (item : A) → IsGrownIn old new bits at b slot item → bit_at bits slot ≡ 0 → length (items_of old bits at) ≡ ones bits
      → (j : ℕ) → picked (bits + 2 ^ slot) (items_of new (bits + 2 ^ slot) b) j ≡ cond (j == slot) (Some item) (picked bits (items_of old bits at) j)
  grown_picked old new bits at b slot item g clear count j =
      ap (λ items. picked (bits + 2 ^ slot) items j) (grown_here old new bits at b slot item g (bits + 2 ^ slot) (bits_more bits slot))
      ∙ elim (eqb_tells j slot) [
        | inl here ↦
            ap (picked (bits + 2 ^ slot) (inserted (items_of old bits at) (place bits slot) item)) here.1
            ∙ picked-insert_same bits (items_of old bits at) slot item clear within
            ∙ ap (λ t. cond t (Some item) (picked bits (items_of old bits at) j)) (sym here.0)
        | inr away ↦
            picked-insert_other bits (items_of old bits at) slot item j clear within away.1
            ∙ ap (λ t. cond t (Some item) (picked bits (items_of old bits at) j)) (sym away.0)
      ]
    where
      within : place bits slot ≤ length (items_of old bits at)
      within = let l = place-le bits slot in omega (arith, l, count)

  -- what inserting an item tells
  pub grown_in : (old new : ListsOf A) (bits at b slot p : ℕ) (item : A) → p ≡ place bits slot → new ≡ map_of.insert (without old (ones bits) at) b (inserted (items_of old (ones bits) at) p item)
      → map_of.get (without old (ones bits) at) b ≡ None → IsGrownIn old new bits at b slot item
  grown_in old new bits at b slot p item is lists fresh = record {
    lists = lists ∙ ap (λ k. map_of.insert (without old (ones bits) at) b (inserted (items_of old (ones bits) at) k item)) is;
    fresh = fresh;
  }

-- ---- a list that shrinks

-- a bit that is set, apart from the others
pub record IsSplit (bits slot m : ℕ) : Type 0 where
  pub bits_are : bits ≡ m + 2 ^ slot
  pub clear : bit_at m slot ≡ 0

pub bit_split : (bits slot : ℕ) → bit_at bits slot ≡ 1 → (m : ℕ) × IsSplit bits slot m
bit_split bits zero set =
    let low = bit_at_lowest bits in
    let m = bits - 1 in
    let low_m = bit_at_lowest m in
    (m, record { bits_are = omega (arith, set, low); clear = omega (arith, set, low, low_m) })
bit_split bits (suc slot) set =
    let rest = bit_split (bits / 2) slot (sym (bit_at-suc bits slot) ∙ set) in
    let m = 2 * rest.0 + bits % 2 in
    let sum = rest.1.bits_are in
    let half : m / 2 ≡ rest.0 = omega arith in
    (m, record { bits_are = omega (arith, sum); clear = bit_at-suc m slot ∙ ap (λ k. bit_at k slot) half ∙ rest.1.clear })

-- a bit that is set is one of the bits of the number
pub slot_below : (bits slot n : ℕ) → bit_at bits slot ≡ 1 → bits < 2 ^ n → slot < n
slot_below bits slot zero set l =
    let none : bits ≡ 0 = omega (arith, l) in
    let clear = ap (λ b. bit_at b slot) none ∙ bit_at-zero slot in
    absurd (omega (arith, set, clear))
slot_below bits zero (suc n) set l = omega arith
slot_below bits (suc slot) (suc n) set l =
    let p = pow-suc 2 n in
    let rest = slot_below (bits / 2) slot n (sym (bit_at-suc bits slot) ∙ set) (omega (arith, l, p)) in
    omega (arith, rest)

pub split_less : (bits slot m : ℕ) → IsSplit bits slot m → bits - 2 ^ slot ≡ m
split_less bits slot m s = let e = s.bits_are in omega (arith, e)

insert_removed : {A : Type 0} (items : List A) (p : ℕ) (x : A) → slice_get items p ≡ Some x → inserted (removed items p) p x ≡ items
insert_removed [] p x e = absurd cc
insert_removed (y ∷ items) zero x e = let z : y ≡ x = cc in (λ j. sym z j ∷ items)
insert_removed (y ∷ items) (suc p) x e = ap (λ rest. y ∷ rest) (insert_removed items p x e)

length-removed : {A : Type 0} (items : List A) (p : ℕ) (x : A) → slice_get items p ≡ Some x → length items ≡ length (removed items p) + 1
length-removed [] p x e = absurd cc
length-removed (y ∷ items) zero x e = omega arith
length-removed (y ∷ items) (suc p) x e = let r = length-removed items p x e in omega (arith, r)

module _ {A : Type 0} where
  -- the list of these bits has lost the item x of a slot, in its block
  pub record IsShrunkIn (old new : ListsOf A) (bits at m slot : ℕ) (x : A) : Type 0 where
    pub split : IsSplit bits slot m
    pub item : slice_get (block old at) (place bits slot) ≡ Some x
    pub lists : new ≡ cond (ones bits == 1) (map_of.remove old at) (map_of.insert old at (removed (block old at) (place bits slot)))

  pub shrunk_other : (old new : ListsOf A) (bits at m slot : ℕ) (x : A) → IsShrunkIn old new bits at m slot x → (k k_at : ℕ) → (k ≢ 0 → k_at ≢ at) → items_of new k k_at ≡ items_of old k k_at
  shrunk_other old new bits at m slot x s k k_at differ = elim (eqb_tells k 0) [
    | inl none ↦ (λ j. items_of new (none.1 j) k_at) ∙ (λ j. items_of old (sym none.1 j) k_at)
    | inr some ↦
        items_some new k k_at some.1
        ∙ ap (λ o. unwrap_or o []) (ap (λ l. map_of.get l k_at) s.lists ∙ of (ones bits == 1) (differ some.1))
        ∙ sym (items_some old k k_at some.1)
  ]
    where
      of : (b : Bool) → k_at ≢ at → map_of.get (cond b (map_of.remove old at) (map_of.insert old at (removed (block old at) (place bits slot)))) k_at ≡ map_of.get old k_at
      of true apart = get_removed old at k_at apart
      of false apart = get_other old at k_at _ apart

  pub shrunk_here : (old new : ListsOf A) (bits at m slot : ℕ) (x : A) → IsShrunkIn old new bits at m slot x → length (items_of old bits at) ≡ ones bits → items_of new m at ≡ removed (items_of old bits at) (place bits slot)
  shrunk_here old new bits at m slot x s count = of (eqb_tells m 0)
    where
      sum : bits ≡ m + 2 ^ slot
      sum = s.split.bits_are

      some : bits ≢ 0
      some z = bits_more m slot (sym sum ∙ z)

      old_items : items_of old bits at ≡ block old at
      old_items = items_some old bits at some

      ones_are : ones bits ≡ ones m + 1
      ones_are = ap ones sum ∙ ones-set m slot s.split.clear

      gone : length (removed (items_of old bits at) (place bits slot)) ≡ ones m
      gone = let l = length-removed (items_of old bits at) (place bits slot) x (ap (λ items. slice_get items (place bits slot)) old_items ∙ s.item) in omega (arith, l, count, ones_are)

      none_left : (items : List A) → length items ≡ 0 → [] ≡ items
      none_left [] e = refl
      none_left (y ∷ items) e = absurd (omega arith)

      of : (((m == 0) ≡ true) × (m ≡ 0)) ⊎ (((m == 0) ≡ false) × (m ≢ 0)) → items_of new m at ≡ removed (items_of old bits at) (place bits slot)
      of (inl none) = ap (λ b. cond b [] (block new at)) none.0 ∙ none_left (removed (items_of old bits at) (place bits slot)) (gone ∙ ap ones none.1 ∙ ones_zero)
      of (inr more) =
          items_some new m at more.1
          ∙ ap (λ o. unwrap_or o []) (ap (λ l. map_of.get l at) s.lists
          ∙ ap (λ b. map_of.get (cond b (map_of.remove old at) (map_of.insert old at (removed (block old at) (place bits slot)))) at) (ne_eqb (ones bits) 1 (λ z. ones_some m more.1 (let e : ones m ≡ 0 = omega (arith, z, ones_are) in e)))
          ∙ get_same old at _)
          ∙ ap (λ items. removed items (place bits slot)) (sym old_items)

  pub shrunk_count : (old new : ListsOf A) (bits at m slot : ℕ) (x : A) → IsShrunkIn old new bits at m slot x → length (items_of old bits at) ≡ ones bits → length (items_of new m at) ≡ ones m
  shrunk_count old new bits at m slot x s count =
      let sum = s.split.bits_are in
      let some : bits ≢ 0 = (λ z. bits_more m slot (sym sum ∙ z)) in
      let l = length-removed (items_of old bits at) (place bits slot) x (ap (λ items. slice_get items (place bits slot)) (items_some old bits at some) ∙ s.item) in
      let ones_are : ones bits ≡ ones m + 1 = ap ones sum ∙ ones-set m slot s.split.clear in
      ap length (shrunk_here old new bits at m slot x s count) ∙ (let e : length (removed (items_of old bits at) (place bits slot)) ≡ ones m = omega (arith, l, count, ones_are) in e)

  pub shrunk_picked : (old new : ListsOf A) (bits at m slot : ℕ) (x : A) → IsShrunkIn old new bits at m slot x → length (items_of old bits at) ≡ ones bits → (j : ℕ) → picked m (items_of new m at) j ≡ cond (j == slot) None (picked bits (items_of old bits at) j)
  shrunk_picked old new bits at m slot x s count j =
      ap (λ items. picked m items j) (shrunk_here old new bits at m slot x s count)
      ∙ elim (eqb_tells j slot) [
        | inl here ↦
            picked_clear m rest j (λ one. let z = ap (bit_at m) here.1 in let c = s.split.clear in omega (arith, one, z, c))
            ∙ ap (λ t. cond t None (picked bits (items_of old bits at) j)) (sym here.0)
        | inr away ↦
            sym (picked-insert_other m rest slot x j s.split.clear within away.1)
            ∙ (λ i. picked (sym sum i) (whole i) j)
            ∙ ap (λ t. cond t None (picked bits (items_of old bits at) j)) (sym away.0)
      ]
    where
      sum : bits ≡ m + 2 ^ slot
      sum = s.split.bits_are

      rest : List A
      rest = removed (items_of old bits at) (place bits slot)

      same_place : place m slot ≡ place bits slot
      same_place = sym (place_set m slot) ∙ ap (λ b. place b slot) (sym sum)

      whole : inserted rest (place m slot) x ≡ items_of old bits at
      whole = ap (λ p. inserted rest p x) same_place ∙ insert_removed (items_of old bits at) (place bits slot) x (ap (λ items. slice_get items (place bits slot)) (items_some old bits at (λ z. bits_more m slot (sym sum ∙ z))) ∙ s.item)

      within : place m slot ≤ length rest
      within =
          let l = shrunk_count old new bits at m slot x s count in
          let h = ap length (shrunk_here old new bits at m slot x s count) in
          let p = place-le m slot in
          omega (arith, l, h, p)

  -- what removing an item tells
  pub shrunk_in : (old new : ListsOf A) (bits at m slot p : ℕ) (x : A) → IsSplit bits slot m → p ≡ place bits slot → slice_get (block old at) p ≡ Some x
      → length (items_of old bits at) ≡ ones bits → new ≡ with_list old at (removed (block old at) p) → IsShrunkIn old new bits at m slot x
  shrunk_in old new bits at m slot p x split is item count lists = record {
    split = split;
    item = ap (slice_get (block old at)) (sym is) ∙ item;
    lists = lists ∙ by_count (removed (block old at) p) (eqb_tells (ones bits) 1) left ∙ ap (λ k. cond (ones bits == 1) (map_of.remove old at) (map_of.insert old at (removed (block old at) k))) is;
  }
    where
      some : bits ≢ 0
      some z = bits_more m slot (sym split.bits_are ∙ z)

      left : ones bits ≡ length (removed (block old at) p) + 1
      left = sym count ∙ ap length (items_some old bits at some) ∙ length-removed (block old at) p x item

      by_count : (l : List A) → (((ones bits == 1) ≡ true) × (ones bits ≡ 1)) ⊎ (((ones bits == 1) ≡ false) × (ones bits ≢ 1)) → ones bits ≡ length l + 1
          → with_list old at l ≡ cond (ones bits == 1) (map_of.remove old at) (map_of.insert old at l)
      by_count [] (inl one) e = ap (λ b. cond b (map_of.remove old at) (map_of.insert old at [])) (sym one.0)
      by_count [] (inr more) e = absurd (more.1 e)
      by_count (y ∷ l) (inl one) e = absurd (omega (arith, one.1, e))
      by_count (y ∷ l) (inr more) e = ap (λ b. cond b (map_of.remove old at) (map_of.insert old at (y ∷ l))) (sym more.0)
