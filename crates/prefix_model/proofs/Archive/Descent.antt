-- The record of number i is that of the node at the i-th position, and leads to the values and children of the node.
use Rattle.std.proofs.Common.{◌≡◌, ℕ, zero, suc, ◌+◌, Bool, true, false, cond, eqb, inr, List, [], ◌∷◌, ◌++◌, length, map, take, filter, refl, sym, ap, ◌∙◌, arith, Option, Some, None}
use Rattle.std.specs.Prelude.{is_some, slice_get}
use Rattle.std.specs.Option.{option_map}
use Rattle.std.specs.List.{flat_map, filter_map, cons_option}
use Rattle.std.specs.Int.{bit_at}
use Rattle.std.specs.FinMap as finite
use Rattle.std.proofs.lemmas.Nat.Bits.{bit_at-suc, bit_at_lowest}
use Rattle.std.proofs.lemmas.List.{length-append}
use Rattle.std.proofs.lemmas.Option.{slice_get-map}
use Rattle.prefix_model.specs.Keys.{KeyBits, stands_in}
use Rattle.prefix_model.specs.Tables.{KeyMap}
use Rattle.prefix_model.specs.Positions.{NodeRecord, records, data_places, child_places, data_bits, child_bits, bitmap, bits_of, bits_set, count_true, positions_in, has_node_length}
use Rattle.prefix_model.specs.Reading.{ComesOut, positions_below}
use Rattle.prefix_model.specs.InPlace.{is_position, table_records, table_values, bits_below, IsRecordOf, LeadsDown}
use Rattle.prefix_model.proofs.KeyLemmas.{map_map, stands_in-keys}
use Rattle.prefix_model.proofs.Archive.Numbers.{low_bit, high_bits, count_none}
use Rattle.prefix_model.proofs.Archive.Levels.{positions_come_out, lists_positions}
use Rattle.prefix_model.proofs.Archive.Spelled.{marks_fit, kids_fit}

-- ---- lists

get_left : {A : Type 0} (xs ys : List A) (i : ℕ) (x : A) → slice_get xs i ≡ Some x → slice_get (xs ++ ys) i ≡ Some x
get_left [] ys i x e = cc
get_left (y ∷ xs) ys zero x e = e
get_left (y ∷ xs) ys (suc i) x e = get_left xs ys i x e

get_right : {A : Type 0} (xs ys : List A) (k i : ℕ) → k ≡ length xs + i → slice_get (xs ++ ys) k ≡ slice_get ys i
get_right [] ys k i e = ap (slice_get ys) (let f : k ≡ i = omega arith in f)
get_right (x ∷ xs) ys zero i e = absurd (omega arith)
get_right (x ∷ xs) ys (suc k) i e = get_right xs ys k i (omega arith)

-- the sum of h over the first i elements
abbrev before : {A : Type 0} → (A → ℕ) → List A → ℕ → ℕ
before h [] i = 0
before h (x ∷ xs) zero = 0
before h (x ∷ xs) (suc i) = h x + before h xs i

before_same : {A : Type 0} (h k : A → ℕ) (xs : List A) (i : ℕ) → ((x : A) → h x ≡ k x) → before h xs i ≡ before k xs i
before_same h k [] i e = refl
before_same h k (x ∷ xs) zero e = refl
before_same h k (x ∷ xs) (suc i) e = λ j. e x j + before_same h k xs i e j

-- an element of one of several lists, one behind the other
get_flat : {A B : Type 0} (h : A → List B) (xs : List A) (i t : ℕ) (x : A) (y : B) → slice_get xs i ≡ Some x → slice_get (h x) t ≡ Some y → slice_get (flat_map h xs) (before (λ z. length (h z)) xs i + t) ≡ Some y
get_flat h [] i t x y e f = cc
get_flat h (z ∷ xs) zero t x y e f =
    let same : z ≡ x = cc in
    let none : 0 + t ≡ t = omega arith in
    ap (slice_get (h z ++ flat_map h xs)) none ∙ get_left (h z) (flat_map h xs) t y (ap (λ z. slice_get (h z) t) same ∙ f)
get_flat h (z ∷ xs) (suc i) t x y e f =
    get_right (h z) (flat_map h xs) ((length (h z) + before (λ z. length (h z)) xs i) + t) (before (λ z. length (h z)) xs i + t) (omega arith)
    ∙ get_flat h xs i t x y e f

-- what is kept of a list
pub length-filter_map : {A B : Type 0} (h : A → Option B) (xs : List A) → length (filter_map h xs) ≡ count_true (map (λ x. is_some (h x)) xs)
length-filter_map h [] = refl
length-filter_map h (x ∷ xs) = one (h x) (filter_map h xs) ∙ ap (λ n. cond (is_some (h x)) 1 0 + n) (length-filter_map h xs)
  where
    one : {B : Type 0} (o : Option B) (ys : List B) → length (cons_option o ys) ≡ cond (is_some o) 1 0 + length ys
    one None ys = omega arith
    one (Some y) ys = omega arith

get_filter_map : {A B : Type 0} (h : A → Option B) (xs : List A) (b : ℕ) (s : A) (v : B) → slice_get xs b ≡ Some s → h s ≡ Some v → slice_get (filter_map h xs) (count_true (take b (map (λ x. is_some (h x)) xs))) ≡ Some v
get_filter_map h [] b s v e f = cc
get_filter_map h (x ∷ xs) zero s v e f = let same : x ≡ s = cc in ap (λ o. slice_get (cons_option o (filter_map h xs)) 0) (ap h same ∙ f)
get_filter_map h (x ∷ xs) (suc b) s v e f = behind (h x) (filter_map h xs) (count_true (take b (map (λ x. is_some (h x)) xs))) v (get_filter_map h xs b s v e f)
  where
    behind : {B : Type 0} (o : Option B) (ys : List B) (n : ℕ) (v : B) → slice_get ys n ≡ Some v → slice_get (cons_option o ys) (cond (is_some o) 1 0 + n) ≡ Some v
    behind None ys n v e = ap (slice_get ys) (let k : 0 + n ≡ n = omega arith in k) ∙ e
    behind (Some y) ys n v e = ap (slice_get (y ∷ ys)) (let k : 1 + n ≡ suc n = omega arith in k) ∙ e

length-kept : {A : Type 0} (p : A → Bool) (xs : List A) → length (filter p xs) ≡ count_true (map p xs)
length-kept p [] = refl
length-kept p (x ∷ xs) = elim (p x) as (λ t. length (cond t (x ∷ filter p xs) (filter p xs)) ≡ cond t 1 0 + count_true (map p xs)) [ true ↦ let ih = length-kept p xs in omega arith | false ↦ let ih = length-kept p xs in omega arith ]

get_filter : {A : Type 0} (p : A → Bool) (xs : List A) (c : ℕ) (x : A) → slice_get xs c ≡ Some x → p x ≡ true → slice_get (filter p xs) (count_true (take c (map p xs))) ≡ Some x
get_filter p [] c x e f = cc
get_filter p (y ∷ xs) zero x e f = let same : y ≡ x = cc in ap (λ t. slice_get (cond t (y ∷ filter p xs) (filter p xs)) 0) (ap p same ∙ f) ∙ ap Some same
get_filter p (y ∷ xs) (suc c) x e f =
    let n = count_true (take c (map p xs)) in
    let ih = get_filter p xs c x e f in
    elim (p y) as (λ t. slice_get (cond t (y ∷ filter p xs) (filter p xs)) (cond t 1 0 + n) ≡ Some x) [
      | true ↦ ap (slice_get (y ∷ filter p xs)) (let k : 1 + n ≡ suc n = omega arith in k) ∙ ih
      | false ↦ ap (slice_get (filter p xs)) (let k : 0 + n ≡ n = omega arith in k) ∙ ih
    ]

-- the set bits below a place
below_bitmap : (n : ℕ) (bs : List Bool) → bits_below n (bitmap bs) ≡ count_true (take n bs)
below_bitmap zero bs = refl
below_bitmap (suc n) [] = count_none (suc n)
below_bitmap (suc n) (b ∷ bs) = λ i. cond (low_bit b (bitmap bs) i) 1 0 + (ap (λ x. count_true (bits_of n x)) (high_bits b (bitmap bs)) ∙ below_bitmap n bs) i

-- ---- queues

-- what stands in the queue comes out first
front_out : (follow : KeyBits → List KeyBits) (qs ps : List KeyBits) (t : ℕ) (q : KeyBits) → ComesOut follow qs ps → slice_get qs t ≡ Some q → slice_get ps t ≡ Some q
front_out follow [] ps t q h e = cc
front_out follow (x ∷ qs) [] t q h e = absurd h
front_out follow (x ∷ qs) (p ∷ ps) zero q h e = ap Some (sym h.0) ∙ e
front_out follow (x ∷ qs) (p ∷ ps) (suc t) q h e = front_out follow (qs ++ follow x) ps t q h.1 (get_left qs (follow x) t q e)

-- and then what follows each
later_out : (follow : KeyBits → List KeyBits) (qs ps : List KeyBits) (i t : ℕ) (p q : KeyBits) → ComesOut follow qs ps → slice_get ps i ≡ Some p → slice_get (follow p) t ≡ Some q
    → slice_get ps (length qs + (before (λ x. length (follow x)) ps i + t)) ≡ Some q
later_out follow [] [] i t p q h e f = cc
later_out follow [] (x ∷ ps) i t p q h e f = absurd h
later_out follow (x ∷ qs) [] i t p q h e f = absurd h
later_out follow (x ∷ qs) (y ∷ ps) zero t p q h e f =
    let same : x ≡ p = h.0 ∙ (let k : y ≡ p = cc in k) in
    ap (slice_get (y ∷ ps)) (let k : length (x ∷ qs) + (0 + t) ≡ suc (length qs + t) = omega arith in k)
    ∙ front_out follow (qs ++ follow x) ps (length qs + t) q h.1 (get_right qs (follow x) (length qs + t) t refl ∙ ap (λ k. slice_get (follow k) t) same ∙ f)
later_out follow (x ∷ qs) (y ∷ ps) (suc i) t p q h e f =
    let n : ℕ = before (λ x. length (follow x)) ps i in
    let len : length (follow x) ≡ length (follow y) = ap (λ k. length (follow k)) h.0 in
    let a = length-append qs (follow x) in
    ap (slice_get (y ∷ ps)) (let k : length (x ∷ qs) + ((length (follow y) + n) + t) ≡ suc (length (qs ++ follow x) + (n + t)) = omega (arith, a, len) in k)
    ∙ later_out follow (qs ++ follow x) ps i t p q h.1 e f

-- ---- records

module _ {V : Type 0} (f : KeyBits → Option V) (g : KeyBits → Bool) where
  -- the record at the i-th of these keys
  abbrev record_after : ℕ → ℕ → List KeyBits → ℕ → KeyBits → NodeRecord
  record_after a b ps i p = record {
    data_bits = data_bits f p;
    child_bits = child_bits g p;
    data_index = a + before (λ q. bits_set (data_bits f q)) ps i;
    child_index = b + before (λ q. bits_set (child_bits g q)) ps i;
  }

  get_record : (a b : ℕ) (ps : List KeyBits) (i : ℕ) (p : KeyBits) → slice_get ps i ≡ Some p → slice_get (records f g a b ps) i ≡ Some (record_after a b ps i p)
  get_record a b [] i p e = cc
  get_record a b (q ∷ ps) zero p e =
      let same : q ≡ p = cc in
      let x : a ≡ a + 0 = omega arith in
      let y : b ≡ b + 0 = omega arith in
      λ j. Some (record { data_bits = data_bits f (same j); child_bits = child_bits g (same j); data_index = x j; child_index = y j })
  get_record a b (q ∷ ps) (suc i) p e =
      let m : ℕ = before (λ q. bits_set (data_bits f q)) ps i in
      let n : ℕ = before (λ q. bits_set (child_bits g q)) ps i in
      let x : (a + bits_set (data_bits f q)) + m ≡ a + (bits_set (data_bits f q) + m) = omega arith in
      let y : (b + bits_set (child_bits g q)) + n ≡ b + (bits_set (child_bits g q) + n) = omega arith in
      get_record (a + bits_set (data_bits f q)) (b + bits_set (child_bits g q)) ps i p e
      ∙ λ j. Some (record { data_bits = data_bits f p; child_bits = child_bits g p; data_index = x j; child_index = y j })

module _ {V : Type 0} (m : KeyMap V) where
  stored_at : KeyBits → List V
  stored_at p = filter_map (λ s. finite.get m (p ++ s)) data_places

  -- as many values as data bits
  values_fit : (p : KeyBits) → bits_set (data_bits (finite.get m) p) ≡ length (stored_at p)
  unfolding stored_at
  values_fit p = marks_fit (finite.get m) (is_position m) p ∙ sym (length-filter_map (λ s. finite.get m (p ++ s)) data_places)

  below : KeyBits → List KeyBits
  below p = positions_below (finite.keys m) p

  -- and as many positions right below as child bits
  children_fit : (p : KeyBits) → bits_set (child_bits (is_position m) p) ≡ length (below p)
  unfolding below is_position
  children_fit p =
      kids_fit (finite.get m) (is_position m) p
      ∙ ap count_true (sym (map_map (is_position m) (λ c. p ++ c) child_places))
      ∙ sym (length-kept (is_position m) (map (λ c. p ++ c) child_places))

  value_at : (i : ℕ) (p : KeyBits) → slice_get (positions_in m) i ≡ Some p → (b : ℕ) (s : KeyBits) (v : V) → slice_get data_places b ≡ Some s → finite.get m (p ++ s) ≡ Some v
      → slice_get (table_values m) ((0 + before (λ q. bits_set (data_bits (finite.get m) q)) (positions_in m) i) + bits_below b (data_bits (finite.get m) p)) ≡ Some v
  unfolding table_values stored_at
  value_at i p at b s v place e =
      let sums = before_same (λ q. bits_set (data_bits (finite.get m) q)) (λ q. length (stored_at q)) (positions_in m) i values_fit in
      let none : 0 + before (λ q. length (stored_at q)) (positions_in m) i ≡ before (λ q. length (stored_at q)) (positions_in m) i = omega arith in
      (λ j. slice_get (table_values m) (((λ k. 0 + sums k) ∙ none) j + below_bitmap b (map (λ s. is_some (finite.get m (p ++ s))) data_places) j))
      ∙ get_flat stored_at (positions_in m) i _ p v at (get_filter_map (λ s. finite.get m (p ++ s)) data_places b s v place e)

  child_at : (i : ℕ) (p : KeyBits) → slice_get (positions_in m) i ≡ Some p → (c : ℕ) (s : KeyBits) → slice_get child_places c ≡ Some s → is_position m (p ++ s) ≡ true
      → slice_get (positions_in m) ((1 + before (λ q. bits_set (child_bits (is_position m) q)) (positions_in m) i) + bits_below c (child_bits (is_position m) p)) ≡ Some (p ++ s)
  unfolding is_position below
  child_at i p at c s place e =
      let sums = before_same (λ q. bits_set (child_bits (is_position m) q)) (λ q. length (below q)) (positions_in m) i children_fit in
      let n : ℕ = before (λ q. length (below q)) (positions_in m) i in
      let kept : List Bool = map (λ c. is_position m (p ++ c)) child_places in
      let counted : bits_below c (child_bits (is_position m) p) ≡ count_true (take c (map (is_position m) (map (λ c. p ++ c) child_places)))
      = below_bitmap c kept ∙ ap (λ bs. count_true (take c bs)) (sym (map_map (is_position m) (λ c. p ++ c) child_places)) in
      let there : slice_get (map (λ c. p ++ c) child_places) c ≡ Some (p ++ s) = slice_get-map (λ c. p ++ c) child_places c ∙ ap (option_map (λ c. p ++ c)) place in
      let t : ℕ = count_true (take c (map (is_position m) (map (λ c. p ++ c) child_places))) in
      let grouped : (1 + n) + t ≡ 1 + (n + t) = omega arith in
      (λ j. slice_get (positions_in m) ((1 + sums j) + counted j))
      ∙ ap (slice_get (positions_in m)) grouped
      ∙ later_out below ([] ∷ []) (positions_in m) i t p (p ++ s) (positions_come_out (finite.keys m)) at (get_filter (is_position m) (map (λ c. p ++ c) child_places) c (p ++ s) there e)

-- the record of number i is that of the node at the i-th position
pub leads_down : (V : Type 0) → LeadsDown V
unfolding table_records
leads_down V m i p at = (
  record_after (finite.get m) (is_position m) 0 1 (positions_in m) i p,
  get_record (finite.get m) (is_position m) 0 1 (positions_in m) i p at,
  record { data_bits_are = refl; child_bits_are = refl; value = value_at m i p at; child = child_at m i p at },
)

-- ---- the root, and bits that are set

-- the first position is the root
pub root_first : {V : Type 0} (m : KeyMap V) → slice_get (positions_in m) 0 ≡ Some []
root_first m = front_out (positions_below (finite.keys m)) ([] ∷ []) (positions_in m) 0 [] (positions_come_out (finite.keys m)) refl

-- a bit of a bitmap
bit_of_bitmap : (bs : List Bool) (n : ℕ) (b : Bool) → slice_get bs n ≡ Some b → eqb (bit_at (bitmap bs) n) 1 ≡ b
bit_of_bitmap [] n b e = cc
bit_of_bitmap (x ∷ bs) zero b e = ap (λ k. eqb k 1) (bit_at_lowest (bitmap (x ∷ bs))) ∙ low_bit x (bitmap bs) ∙ (let same : x ≡ b = cc in same)
bit_of_bitmap (x ∷ bs) (suc n) b e = ap (λ k. eqb k 1) (bit_at-suc (bitmap (x ∷ bs)) n ∙ ap (λ k. bit_at k n) (high_bits x (bitmap bs))) ∙ bit_of_bitmap bs n b e

module _ {V : Type 0} (m : KeyMap V) (p : KeyBits) (r : NodeRecord) (h : IsRecordOf m p r) where
  -- a data bit is set where the place is stored
  pub data_bit_tells : (b : ℕ) (s : KeyBits) → slice_get data_places b ≡ Some s → eqb (bit_at r.data_bits b) 1 ≡ is_some (finite.get m (p ++ s))
  data_bit_tells b s e =
      ap (λ k. eqb (bit_at k b) 1) h.data_bits_are
      ∙ bit_of_bitmap (map (λ s. is_some (finite.get m (p ++ s))) data_places) b (is_some (finite.get m (p ++ s))) (slice_get-map (λ s. is_some (finite.get m (p ++ s))) data_places b ∙ ap (option_map (λ s. is_some (finite.get m (p ++ s)))) e)

  -- and a child bit where the child's key is a position
  pub child_bit_tells : (c : ℕ) (s : KeyBits) → slice_get child_places c ≡ Some s → eqb (bit_at r.child_bits c) 1 ≡ is_position m (p ++ s)
  child_bit_tells c s e =
      ap (λ k. eqb (bit_at k c) 1) h.child_bits_are
      ∙ bit_of_bitmap (map (λ s. is_position m (p ++ s)) child_places) c (is_position m (p ++ s)) (slice_get-map (λ s. is_position m (p ++ s)) child_places c ∙ ap (option_map (λ s. is_position m (p ++ s))) e)

-- a front of a stored key is a position where it has the length of one
pub stored_position : {V : Type 0} (m : KeyMap V) (q rest : KeyBits) → has_node_length q ≡ true → is_some (finite.get m (q ++ rest)) ≡ true → is_position m q ≡ true
unfolding is_position
stored_position m q rest l e = ((lists_positions (finite.keys m)).members q).1 (inr (l, (q ++ rest, rest, stands_in-keys m (q ++ rest) ∙ e, refl)))
