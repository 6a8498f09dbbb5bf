-- What the second walk reads: keys of places, parts of a list, and the masks and lists below a key.
use Rattle.std.proofs.Common.{◌≡◌, inl, inr, ℕ, zero, suc, ◌+◌, ◌-◌, ◌*◌, ◌/◌, ◌%◌, ◌^◌, ◌<◌, ◌≤◌, Bool, true, false, cond, List, [], ◌∷◌, ◌++◌, length, map, drop, Option, Some, refl, sym, ap, ◌∙◌, subst, arith, append_assoc, append-nil, length-append, length-drop}
use Rattle.std.specs.Prelude.{◌&&◌, nat_le, get_or, slice_get}
use Rattle.std.specs.Int.{bit_at}
use Rattle.std.specs.List.{filter, flat_map, list_all}
use Rattle.std.specs.Option.{option_or}
use Rattle.std.specs.FinMap as fin
use Rattle.std.specs.declared.cmp.Ordering.{Ordering}
use Rattle.std.proofs.Math.Seq.{drop-append_seam}
use Rattle.std.proofs.lemmas.Option.{slice_get-get_or, slice_get_within}
use Rattle.prefix_model.specs.Keys.{KeyBits, low_bits, same_key, keys_of_length}
use Rattle.prefix_model.specs.Tables.{Values}
use Rattle.prefix_model.specs.Positions.{bitmap, data_places, child_places, child_bits}
use Rattle.prefix_model.specs.Rows.{count_up}
use Rattle.prefix_model.proofs.KeyLemmas.{same_key-same}
use Rattle.prefix_model.proofs.KeyNumbers.{length-low_bits}
use Rattle.prefix_model.specs.Slots.{place}
use Rattle.prefix_model.specs.TableViews.{TableView}
use Rattle.prefix_model.proofs.KeyPlaces.{slice_get-drop}
use Rattle.prefix_model.specs.Places.{answers_from}
use Rattle.prefix_aggregate.specs.ChangeSets.{mask_of, lists_of}
use Rattle.prefix_aggregate.specs.Trees.{from, tree_masks, tree_lists}
use Rattle.prefix_aggregate.specs.Reading.{place_key, StandsAt, node_masks, node_lists, masks_below, lists_below, nodes_below}
use Rattle.prefix_aggregate.specs.Inner.{AreInner}
use Rattle.prefix_aggregate.proofs.NodeLaws.{all_test, at_most}
use Rattle.prefix_model.proofs.Bitmaps.NodeBits.{places_count}
use Rattle.prefix_aggregate.proofs.TreeLaws.{flat-two, flat-mapped}
use Rattle.prefix_model.proofs.Counting.NodeViews.{answers_after}
use Rattle.prefix_aggregate.proofs.InnerCandidates.{no_flag, not_filled, no_slots, slot_named, last_long}
use Rattle.prefix_model.proofs.MaskBits.{bitmap_bit}
use Rattle.prefix_aggregate.proofs.Numbers.{nat_order}

-- ---- keys of places

all_places : List KeyBits
all_places = data_places ++ child_places

many_keys : length (data_places ++ child_places) ≡ 63
unfolding data_places child_places
many_keys = refl

front_get : {A : Type 0} (xs ys : List A) (i : ℕ) → i < length xs → slice_get xs i ≡ slice_get (xs ++ ys) i
front_get [] ys i h = absurd (omega arith)
front_get (x ∷ xs) ys zero h = refl
front_get (x ∷ xs) ys (suc i) h = front_get xs ys i (omega arith)

pub key_place : (b : ℕ) → b < 31 → slice_get data_places b ≡ Some (place_key b)
unfolding place_key
key_place b h =
    front_get data_places child_places b (subst (λ n. b < n) (sym places_count) h)
    ∙ slice_get-get_or (data_places ++ child_places) b [] (subst (λ n. b < n) (sym many_keys) (omega (arith, h)))

abbrev half_test : Bool → ℕ → Bool
half_test x b = same_key (place_key (2 * b + 1 + cond x 1 0)) (place_key b ++ x ∷ [])

low_halves : list_all (half_test false) (count_up 0 31) ≡ true
unfolding place_key data_places child_places
low_halves = refl

high_halves : list_all (half_test true) (count_up 0 31) ≡ true
unfolding place_key data_places child_places
high_halves = refl

pub key_half : (b : ℕ) → b < 31 → (x : Bool) → place_key (2 * b + 1 + cond x 1 0) ≡ place_key b ++ x ∷ []
key_half b h x = same_key-same _ _ (tested x)
  where
    tested : (x : Bool) → half_test x b ≡ true
    tested true = all_test (half_test true) 0 31 b high_halves (omega arith) (omega (arith, h))
    tested false = all_test (half_test false) 0 31 b low_halves (omega arith) (omega (arith, h))

slots : list_all (λ b. same_key (place_key b) (low_bits 5 (b - 31))) (count_up 31 32) ≡ true
unfolding place_key data_places child_places low_bits
slots = refl

pub key_slot : (b : ℕ) → 31 ≤ b → b < 63 → place_key b ≡ low_bits 5 (b - 31)
key_slot b h l = same_key-same _ _ (all_test (λ b. same_key (place_key b) (low_bits 5 (b - 31))) 31 32 b slots h (omega (arith, l)))

shorts : list_all (λ b. nat_le (length (place_key b)) 4) (count_up 0 31) ≡ true
unfolding place_key data_places child_places
shorts = refl

pub key_short : (b : ℕ) → b < 31 → length (place_key b) ≤ 4
key_short b h = of (length (place_key b)) (all_test (λ b. nat_le (length (place_key b)) 4) 0 31 b shorts (omega arith) (omega (arith, h)))
  where
    of : (n : ℕ) → nat_le n 4 ≡ true → n ≤ 4
    of n e = grind (arith, e)

pub key_first : place_key 0 ≡ []
unfolding place_key data_places child_places
key_first = refl

pub slot_long : (b : ℕ) → 31 ≤ b → b < 63 → length (place_key b) ≡ 5
slot_long b h l = ap length (key_slot b h l) ∙ length-low_bits 5 (b - 31)

-- ---- parts of a list

drop-more : {A : Type 0} (xs : List A) (i n : ℕ) → drop (i + n) xs ≡ drop n (drop i xs)
drop-more xs zero n = ap (λ k. drop k xs) (let e : 0 + n ≡ n = omega arith in e)
drop-more [] (suc i) n = none (suc i + n) ∙ sym (none n)
  where
    none : {A : Type 0} (k : ℕ) → drop {A = A} k [] ≡ []
    none zero = refl
    none (suc k) = refl
drop-more (x ∷ xs) (suc i) n = ap (λ k. drop k (x ∷ xs)) (let e : suc i + n ≡ suc (i + n) = omega arith in e) ∙ drop-more xs i n

module _ {A : Type 0} (xs : List A) (i : ℕ) (ys zs : List A) (h : StandsAt xs i (ys ++ zs)) where
  then : i + length (ys ++ zs) ≡ i + length ys + length zs
  then = let n = length-append ys zs in omega (arith, n)

  whole : drop i xs ≡ ys ++ (zs ++ drop (i + length ys + length zs) xs)
  whole = h ∙ append_assoc ys zs _ ∙ ap (λ n. ys ++ (zs ++ drop n xs)) then

  pub stands_rest : StandsAt xs (i + length ys) zs
  stands_rest = drop-more xs i (length ys) ∙ ap (drop (length ys)) whole ∙ drop-append_seam ys _

  pub stands_first : StandsAt xs i ys
  stands_first = whole ∙ ap (λ l. ys ++ l) (sym stands_rest)

pub stands_within : {A : Type 0} (xs : List A) (i : ℕ) (ys : List A) → StandsAt xs i ys → 0 < length ys → i + length ys ≤ length xs
stands_within xs i ys h some =
    let a = length-drop i xs in
    let b = length-append ys (drop (i + length ys) xs) in
    let c = length-drop (i + length ys) xs in
    let e = ap length h in
    omega (arith, a, b, c, e, some)

pub stands_get : {A : Type 0} (xs : List A) (i : ℕ) (ys : List A) → StandsAt xs i ys → (k : ℕ) (y : A) → slice_get ys k ≡ Some y → slice_get xs (i + k) ≡ Some y
stands_get xs i ys h k y e =
    sym (slice_get-drop xs i k) ∙ ap (λ l. slice_get l k) h ∙ sym (front_get ys _ k (slice_get_within ys k y e)) ∙ e

-- ---- how many bits of a mask are set before a place

module _ (test : KeyBits → Bool) where
  bit_small : (b : Bool) → cond b 1 0 ≤ 1
  bit_small true = omega arith
  bit_small false = omega arith

  first_bit : (t : Bool) (m : ℕ) → (cond t 1 0 + 2 * m) % 2 ≡ cond t 1 0
  first_bit true m = omega arith
  first_bit false m = omega arith

  other_bits : (t : Bool) (m : ℕ) → (cond t 1 0 + 2 * m) / 2 ≡ m
  other_bits true m = omega arith
  other_bits false m = omega arith

  place-mask : (t : Bool) (m i : ℕ) → place (cond t 1 0 + 2 * m) (suc i) ≡ cond t 1 0 + place m i
  unfolding place
  place-mask t m i = λ j. first_bit t m j + place (other_bits t m j) i

  place-none : (m : ℕ) → place m zero ≡ 0
  unfolding place
  place-none m = refl

  -- the count at the end is that of all
  pub place-all : (ss : List KeyBits) → place (bitmap (map test ss)) (length ss) ≡ length (filter test ss)
  place-all [] = place-none 0
  place-all (s ∷ ss) = place-mask (test s) (bitmap (map test ss)) (length ss) ∙ ap (λ n. cond (test s) 1 0 + n) (place-all ss) ∙ counted (test s)
    where
      counted : (t : Bool) → cond t 1 0 + length (filter test ss) ≡ length (cond t (s ∷ filter test ss) (filter test ss))
      counted true = omega arith
      counted false = omega arith

  -- a list that is kept has the number of the kept ones before it
  pub kept_number : {C : Type 0} (F : KeyBits → C) (ss : List KeyBits) (b : ℕ) (s : KeyBits) → slice_get ss b ≡ Some s → test s ≡ true → slice_get (map F (filter test ss)) (place (bitmap (map test ss)) b) ≡ Some (F s)
  kept_number F [] b s e t = absurd cc
  kept_number F (u ∷ ss) zero s e t =
      let same : u ≡ s = cc in
      ap (slice_get (map F (filter test (u ∷ ss)))) (place-none (bitmap (map test (u ∷ ss))))
      ∙ ap (λ x. slice_get (map F (cond x (u ∷ filter test ss) (filter test ss))) 0) (ap test same ∙ t) ∙ ap (λ k. Some (F k)) same
  kept_number {C} F (u ∷ ss) (suc b) s e t =
      ap (slice_get (map F (filter test (u ∷ ss)))) (place-mask (test u) (bitmap (map test ss)) b) ∙ go (kept_number F ss b s e t) (test u)
    where
      go : slice_get (map F (filter test ss)) (place (bitmap (map test ss)) b) ≡ Some (F s) → (x : Bool) → slice_get (map F (cond x (u ∷ filter test ss) (filter test ss))) (cond x 1 0 + place (bitmap (map test ss)) b) ≡ Some (F s)
      go rest true = ap (slice_get (F u ∷ map F (filter test ss))) (let e : 1 + place (bitmap (map test ss)) b ≡ suc (place (bitmap (map test ss)) b) = omega arith in e) ∙ rest
      go rest false = ap (slice_get (map F (filter test ss))) (let e : 0 + place (bitmap (map test ss)) b ≡ place (bitmap (map test ss)) b = omega arith in e) ∙ rest

  pub mask_small : (ss : List KeyBits) → bitmap (map test ss) < 2 ^ length ss
  mask_small [] = omega arith
  mask_small (s ∷ ss) =
      let h = mask_small ss in
      let b = bit_small (test s) in
      let e : 2 ^ suc (length ss) ≡ 2 * 2 ^ length ss = power (length ss) in
      omega (arith, h, b, e)
    where
      power : (k : ℕ) → 2 ^ suc k ≡ 2 * 2 ^ k
      power k = omega arith

-- ---- the masks and lists below a key, by those of the tree of nodes

-- the answers at a key one bit longer
pub half_answers : {T : Type 0} (view : TableView T) (p : KeyBits) (v : Option T) (s q : KeyBits) (a : Option T) → ((k : KeyBits) → answers_from view p v (s ++ k) ≡ answers_from view q a k) → (x : Bool) (k : KeyBits)
    → answers_from view p v ((s ++ x ∷ []) ++ k) ≡ answers_from view (q ++ x ∷ []) (option_or (fin.get view.entries q) a) k
half_answers view p v s q a same x k = ap (answers_from view p v) (append_assoc s (x ∷ []) k) ∙ same (x ∷ k) ∙ (λ i. sym (answers_after view q a x) i k)

not_at_most : (a b : ℕ) → b < a → nat_le a b ≡ false
not_at_most a b h = grind (arith, h)

module _ {T : Type 0} (w : ℕ) (view : TableView T) {A : Type 0} (tree : ℕ → ℕ → Values T → (KeyBits → Bool) → List A) where
  abbrev pub have : KeyBits → Option T → List A
  have q a = tree ((w - length q) / 5) (w - length q) (answers_from view q a) (from q (fin.contains_key view.kept))

  -- no node stands below keys that are too long
  pub deep_below : (m : ℕ) (q : KeyBits) (a : Option T) → w < length q + m → nodes_below w view have m q a ≡ []
  unfolding nodes_below
  deep_below zero q a h = ap (λ b. cond (b && fin.contains_key view.kept q) (have q a) []) (not_at_most (length q) w (omega (arith, h)))
  deep_below (suc m) q a h =
      let lf = length-append q (false ∷ []) in
      let lt = length-append q (true ∷ []) in
      λ i. deep_below m (q ++ false ∷ []) (option_or (fin.get view.entries q) a) (omega (arith, h, lf)) i ++ deep_below m (q ++ true ∷ []) (option_or (fin.get view.entries q) a) (omega (arith, h, lt)) i

  module _ (p : KeyBits) (v : Option T) (fits : length p + 5 ≤ w) where
    abbrev pub slot : KeyBits → List A
    slot c = cond (from p (fin.contains_key view.kept) c) (tree ((w - length p - 5) / 5) (w - length p - 5) (from c (answers_from view p v)) (from c (from p (fin.contains_key view.kept)))) []

    -- the nodes below the key s of a node, slot by slot
    pub slots_below : (m : ℕ) (s q : KeyBits) (a : Option T) → length s + m ≡ 5 → q ≡ p ++ s → ((k : KeyBits) → answers_from view p v (s ++ k) ≡ answers_from view q a k)
        → flat_map (λ c. slot (s ++ c)) (keys_of_length m) ≡ nodes_below w view have m q a
    unfolding nodes_below
    slots_below zero s q a long here same =
        let size = ap length here ∙ length-append p s in
        let n : w - length p - 5 ≡ w - length q = omega (arith, size, long) in
        let within = at_most (length q) w (omega (arith, size, long, fits)) in
        append-nil _
        ∙ ap slot (append-nil s)
        ∙ (λ i. cond (fin.contains_key view.kept (sym here i)) (tree (n i / 5) (n i) (λ k. same k i) (λ k. fin.contains_key view.kept ((sym (append_assoc p s k) ∙ ap (λ r. r ++ k) (sym here)) i))) [])
        ∙ ap (λ b. cond (b && fin.contains_key view.kept q) (have q a) []) (sym within)
    slots_below (suc m) s q a long here same =
        flat-two (λ c. slot (s ++ c)) (map (λ k. false ∷ k) (keys_of_length m)) (map (λ k. true ∷ k) (keys_of_length m))
        ∙ (λ i. half false (slots_below m (s ++ false ∷ []) (q ++ false ∷ []) (option_or (fin.get view.entries q) a) (longer false) (there false) (half_answers view p v s q a same false)) i
        ++ half true (slots_below m (s ++ true ∷ []) (q ++ true ∷ []) (option_or (fin.get view.entries q) a) (longer true) (there true) (half_answers view p v s q a same true)) i)
      where
        longer : (x : Bool) → length (s ++ x ∷ []) + m ≡ 5
        longer x = let more = length-append s (x ∷ []) in omega (arith, more, long)

        there : (x : Bool) → q ++ x ∷ [] ≡ p ++ (s ++ x ∷ [])
        there x = ap (λ r. r ++ x ∷ []) here ∙ append_assoc p s (x ∷ [])

        half : (x : Bool) → flat_map (λ c. slot ((s ++ x ∷ []) ++ c)) (keys_of_length m) ≡ nodes_below w view have m (q ++ x ∷ []) (option_or (fin.get view.entries q) a)
            → flat_map (λ c. slot (s ++ c)) (map (λ k. x ∷ k) (keys_of_length m)) ≡ nodes_below w view have m (q ++ x ∷ []) (option_or (fin.get view.entries q) a)
        half x rest =
            flat-mapped (λ c. slot (s ++ c)) (λ k. x ∷ k) (keys_of_length m)
            ∙ (λ i. flat_map (λ c. slot (sym (append_assoc s (x ∷ []) c) i)) (keys_of_length m))
            ∙ rest

module _ {T : Type 0} (cmp : T → T → Ordering) (w : ℕ) (view : TableView T) (p : KeyBits) (v : Option T) where
  level : length p + 5 ≤ w → (w - length p) / 5 ≡ suc ((w - length p - 5) / 5)
  level fits = omega (arith, fits)

  last : w < length p + 5 → (w - length p) / 5 ≡ 0
  last deep = omega (arith, deep)

  slots_are : (c : KeyBits) → [] ++ c ≡ c
  slots_are c = refl

  -- a node's mask and lists stand before those of the nodes below
  pub node-masks : node_masks cmp w view p v ≡ mask_of cmp (w - length p) (answers_from view p v) [] ∷ masks_below cmp w view 5 p v
  unfolding child_places
  node-masks = elim (nat_order (length p + 5) w) [
    | inl fits ↦
        ap (λ l. tree_masks cmp l (w - length p) (answers_from view p v) (from p (fin.contains_key view.kept))) (level fits)
        ∙ ap (λ l. mask_of cmp (w - length p) (answers_from view p v) [] ∷ l) (slots_below w view (tree_masks cmp) p v fits 5 [] p v refl (sym (append-nil p)) (λ k. refl))
    | inr deep ↦
        ap (λ l. tree_masks cmp l (w - length p) (answers_from view p v) (from p (fin.contains_key view.kept))) (last deep)
        ∙ ap (λ l. mask_of cmp (w - length p) (answers_from view p v) [] ∷ l) (sym (deep_below w view (tree_masks cmp) 5 p v deep))
  ]

  pub node-lists : node_lists cmp w view p v ≡ lists_of cmp (w - length p) (answers_from view p v) [] ++ lists_below cmp w view 5 p v
  unfolding child_places
  node-lists = elim (nat_order (length p + 5) w) [
    | inl fits ↦
        ap (λ l. tree_lists cmp l (w - length p) (answers_from view p v) (from p (fin.contains_key view.kept))) (level fits)
        ∙ ap (λ l. lists_of cmp (w - length p) (answers_from view p v) [] ++ l) (slots_below w view (tree_lists cmp) p v fits 5 [] p v refl (sym (append-nil p)) (λ k. refl))
    | inr deep ↦
        ap (λ l. tree_lists cmp l (w - length p) (answers_from view p v) (from p (fin.contains_key view.kept))) (last deep)
        ∙ sym (append-nil _)
        ∙ ap (λ l. lists_of cmp (w - length p) (answers_from view p v) [] ++ l) (sym (deep_below w view (tree_lists cmp) 5 p v deep))
  ]

-- ---- no node below a place that is not inner

module _ {T : Type 0} (w : ℕ) (view : TableView T) (p : KeyBits) (stored child inner : ℕ) (child_is : length p + 5 ≤ w → child ≡ child_bits (fin.contains_key view.kept) p) (law : AreInner stored child inner 0) {A : Type 0} (told : KeyBits → Option T → List A) where
  no_slot : (b : ℕ) → 15 ≤ b → b < 31 → bit_at inner b ≡ 0 → (q : KeyBits) → q ≡ p ++ place_key b → (x : Bool) (a : Option T) → nodes_below w view told 0 (q ++ x ∷ []) a ≡ []
  unfolding nodes_below
  no_slot b high h none q here x a =
      elim (nat_order (length p + 5) w) [
        | inl fits ↦
            let bit = sym (bitmap_bit child_places (λ c. fin.contains_key view.kept (p ++ c)) (2 * (b - 15) + cond x 1 0) (place_key b ++ x ∷ []) (slot_named b (place_key b) (key_place b h) high h x)) ∙ ap (λ m. bit_at m (2 * (b - 15) + cond x 1 0)) (sym (child_is fits)) ∙ no_slots stored child inner law b high h none x in
            let gone : fin.contains_key view.kept (q ++ x ∷ []) ≡ false = ap (fin.contains_key view.kept) (ap (λ r. r ++ x ∷ []) here ∙ append_assoc p (place_key b) (x ∷ [])) ∙ no_flag (fin.contains_key view.kept (p ++ (place_key b ++ x ∷ []))) bit in
            ap (λ t. cond (nat_le (length (q ++ x ∷ [])) w && t) (told (q ++ x ∷ []) a) []) gone ∙ neither (nat_le (length (q ++ x ∷ [])) w)
        | inr deep ↦
            let four = last_long b (place_key b) (key_place b h) high h in
            let size = ap length here ∙ length-append p (place_key b) in
            let more = length-append q (x ∷ []) in
            ap (λ t. cond (t && fin.contains_key view.kept (q ++ x ∷ [])) (told (q ++ x ∷ []) a) []) (not_at_most (length (q ++ x ∷ [])) w (omega (arith, four, size, more, deep)))
      ]
    where
      neither : (t : Bool) → cond (t && false) (told (q ++ x ∷ []) a) [] ≡ []
      neither true = refl
      neither false = refl

  pub nothing_left : (m b : ℕ) → 31 ≤ b + m → b < 31 → bit_at inner b ≡ 0 → (q : KeyBits) → q ≡ p ++ place_key b → (a : Option T) → nodes_below w view told (5 - length (place_key b)) q a ≡ []
  unfolding nodes_below
  nothing_left zero b enough h none q here a = absurd (omega (arith, enough, h))
  nothing_left (suc m) b enough h none q here a = elim (nat_order 15 b) [
    | inl high ↦
        let four = last_long b (place_key b) (key_place b h) high h in
        let n : 5 - length (place_key b) ≡ suc 0 = omega (arith, four) in
        ap (λ n. nodes_below w view told n q a) n ∙ both 0 (no_slot b high h none q here)
    | inr low ↦
        let short = key_short b h in
        let n : 5 - length (place_key b) ≡ suc (4 - length (place_key b)) = omega (arith, short) in
        ap (λ n. nodes_below w view told n q a) n ∙ both (4 - length (place_key b)) (λ x a.
        deeper x a (nothing_left m (2 * b + 1 + cond x 1 0) (omega (arith, enough)) (small x low) (not_filled stored child inner law b low none x).1 (q ++ x ∷ []) (there x) a))
  ]
    where
      both : (n : ℕ) → ((x : Bool) (a : Option T) → nodes_below w view told n (q ++ x ∷ []) a ≡ []) → nodes_below w view told (suc n) q a ≡ []
      both n f = λ i. f false (option_or (fin.get view.entries q) a) i ++ f true (option_or (fin.get view.entries q) a) i

      there : (x : Bool) → q ++ x ∷ [] ≡ p ++ place_key (2 * b + 1 + cond x 1 0)
      there x = ap (λ r. r ++ x ∷ []) here ∙ append_assoc p (place_key b) (x ∷ []) ∙ ap (λ r. p ++ r) (sym (key_half b h x))

      deeper : (x : Bool) (a : Option T) → nodes_below w view told (5 - length (place_key (2 * b + 1 + cond x 1 0))) (q ++ x ∷ []) a ≡ [] → nodes_below w view told (4 - length (place_key b)) (q ++ x ∷ []) a ≡ []
      deeper x a rest =
          let size = ap length (key_half b h x) ∙ length-append (place_key b) (x ∷ []) in
          let n : 4 - length (place_key b) ≡ 5 - length (place_key (2 * b + 1 + cond x 1 0)) = omega (arith, size) in
          ap (λ n. nodes_below w view told n (q ++ x ∷ []) a) n ∙ rest

      small : (x : Bool) → b < 15 → 2 * b + 1 + cond x 1 0 < 31
      small true low = omega (arith, low)
      small false low = omega (arith, low)

-- those below a place that is inner are those below its halves
pub halves_below : {T : Type 0} (w : ℕ) (view : TableView T) {A : Type 0} (told : KeyBits → Option T → List A) (b : ℕ) → b < 31 → (q : KeyBits) (a : Option T)
    → nodes_below w view told (5 - length (place_key b)) q a
    ≡ nodes_below w view told (5 - length (place_key (2 * b + 1))) (q ++ false ∷ []) (option_or (fin.get view.entries q) a) ++ nodes_below w view told (5 - length (place_key (2 * b + 1 + 1))) (q ++ true ∷ []) (option_or (fin.get view.entries q) a)
unfolding nodes_below
halves_below w view told b h q a =
    let short = key_short b h in
    let low = (let e : 2 * b + 1 ≡ 2 * b + 1 + 0 = omega arith in ap (λ c. length (place_key c)) e ∙ ap length (key_half b h false) ∙ length-append (place_key b) (false ∷ [])) in
    let high = ap length (key_half b h true) ∙ length-append (place_key b) (true ∷ []) in
    let n : 5 - length (place_key b) ≡ suc (4 - length (place_key b)) = omega (arith, short) in
    let l : 4 - length (place_key b) ≡ 5 - length (place_key (2 * b + 1)) = omega (arith, low) in
    let r : 4 - length (place_key b) ≡ 5 - length (place_key (2 * b + 1 + 1)) = omega (arith, high) in
    ap (λ n. nodes_below w view told n q a) n
    ∙ (λ i. nodes_below w view told (l i) (q ++ false ∷ []) (option_or (fin.get view.entries q) a) ++ nodes_below w view told (r i) (q ++ true ∷ []) (option_or (fin.get view.entries q) a))

-- ---- at a slot

module _ {T : Type 0} (w : ℕ) (view : TableView T) {A : Type 0} (told : KeyBits → Option T → List A) (q : KeyBits) (a : Option T) where
  pub slot_node : (r : KeyBits) → q ≡ r → fin.contains_key view.kept q ≡ true → length q ≤ w → nodes_below w view told 0 q a ≡ told r a
  unfolding nodes_below
  slot_node r e kept fits = (λ i. cond (at_most (length q) w fits i && kept i) (told q a) []) ∙ ap (λ r. told r a) e

  pub slot_empty : fin.contains_key view.kept q ≡ false → nodes_below w view told 0 q a ≡ []
  unfolding nodes_below
  slot_empty gone = ap (λ t. cond (nat_le (length q) w && t) (told q a) []) gone ∙ neither (nat_le (length q) w)
    where
      neither : (t : Bool) → cond (t && false) (told q a) [] ≡ []
      neither true = refl
      neither false = refl

  pub slot_none : fin.contains_key view.kept q ≡ false → (m : ℕ) → m ≡ m + length (nodes_below w view told 0 q a)
  slot_none gone m = let l = ap length (slot_empty gone) in omega (arith, l)
