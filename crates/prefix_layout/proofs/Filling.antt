-- The values of a node, stored at once: its places, and the kept positions.
use Rattle.std.proofs.Common.{◌≡◌, ◌≢◌, ℕ, zero, suc, ◌/◌, ◌%◌, ◌^◌, ◌<◌, ◌≤◌, Bool, true, false, cond, List, [], ◌∷◌, ◌++◌, length, map, filter, refl, sym, ap, ◌∙◌, arith, length-append, Option, Some}
use Rattle.std.specs.Prelude.{◌==◌, bit_and, count_ones}
use Rattle.std.specs.List.{AllByRecursion, zip}
use Rattle.std.specs.FinMap as finite
use Rattle.std.proofs.lemmas.Bool.{ne_eqb}
use Rattle.std.proofs.lemmas.Nat.{and_mask}
use Rattle.std.proofs.Math.Nat.{mod-eq_of_lt}
use Rattle.std.proofs.lemmas.List.{map-append, append-nil}
use Rattle.std.proofs.lemmas.List.Elements.{filter-append}
use lib.Count.{ones, ones_step}
use Rattle.std.specs.Ordering.{eq_by_cmp}
use Rattle.std.specs.List.{list_any}
use Rattle.prefix_model.specs.Keys.{KeyBits, prefixes, shorter_first}
use Rattle.prefix_model.specs.Masks.{set_bits}
use Rattle.prefix_model.specs.Tables.{KeyMap}
use Rattle.prefix_model.specs.Positions.{PositionSet, position_set, positions_of_key, with_positions, insert_positions, has_node_length, data_places, bits_of, count_true}
use Rattle.prefix_model.specs.Building.{insert_all}
use Rattle.prefix_model.specs.Spelling.{Codec}
use Rattle.prefix_model.proofs.Building.{position_set-insert, get_with}
use Rattle.prefix_model.proofs.KeyLemmas.{map_map}
use Rattle.prefix_model.proofs.Order.{shorter_total, shorter_exact}
use Rattle.prefix_model.proofs.Archive.Numbers.{length-bits_of}
use Rattle.prefix_table.specs.Fills.{node_entries}
use Rattle.prefix_model.proofs.Bitmaps.SlotLaws.{ones_zero, ones_some}
use Rattle.prefix_layout.specs.Reads.{set_places, values_in, with_values}
use Rattle.prefix_layout.proofs.Paths.{length-marked, length-data_places}
use Rattle.prefix_layout.proofs.SetBits.{place, places_read}
use Rattle.prefix_layout.proofs.Waits.{places_few}

-- ---- the places of a word

-- the word of the places
pub word_is : (x : ℕ) → bit_and x 2147483647 ≡ x % 2147483648
word_is x = and_mask x 31

pub word_within : (x : ℕ) → bit_and x 2147483647 < 2 ^ 31
word_within x = let e = word_is x in omega (arith, e)

pub places_of_word : (x : ℕ) → set_places (bit_and x 2147483647) ≡ set_places x
places_of_word x =
    let again : bit_and (bit_and x 2147483647) 2147483647 ≡ bit_and x 2147483647 = word_is (bit_and x 2147483647) ∙ mod-eq_of_lt (word_within x) in
    places_read (bit_and x 2147483647) ∙ ap (λ y. map place (set_bits y)) again ∙ sym (places_read x)

count_bits : (n x : ℕ) → x < 2 ^ n → count_true (bits_of n x) ≡ ones x
count_bits zero x l = let none : x ≡ 0 = omega (arith, l) in sym (ap ones none ∙ ones_zero)
count_bits (suc n) x l =
    let rest = count_bits n (x / 2) (omega (arith, l)) in
    let low = lowest (x % 2) (omega arith) in
    let step = ones_step x in
    omega (arith, rest, low, step)
  where
    lowest : (d : ℕ) → d < 2 → cond (d == 1) 1 0 ≡ d
    lowest zero h = refl
    lowest (suc zero) h = refl
    lowest (suc (suc d)) h = absurd (omega arith)

-- how many places there are
pub count_of_word : (x : ℕ) → count_ones (bit_and x 2147483647) ≡ length (set_places x)
count_of_word x =
    let y = bit_and x 2147483647 in
    sym (count_bits 31 y (word_within x))
    ∙ sym (length-marked data_places (bits_of 31 y) (omega (arith, length-data_places, length-bits_of 31 y)))
    ∙ ap length (places_of_word x)

-- a word with no place
pub no_places : (x : ℕ) → bit_and x 2147483647 ≡ 0 → set_places x ≡ []
no_places x none = of (set_places x) (sym (count_of_word x) ∙ ap ones none ∙ ones_zero)
  where
    of : (ss : List KeyBits) → length ss ≡ 0 → ss ≡ []
    of [] e = refl
    of (s ∷ ss) e = absurd (omega (arith, e))

-- ---- the positions of the keys of one node

-- the prefixes of a key but the empty one
later_prefixes : KeyBits → List KeyBits
later_prefixes [] = []
later_prefixes (b ∷ s) = map (λ q. b ∷ q) (prefixes s)

same_list : (xs : List KeyBits) → map (λ q. [] ++ q) xs ≡ xs
same_list [] = refl
same_list (x ∷ xs) = ap (λ r. x ∷ r) (same_list xs)

prefixes_split : (p s : KeyBits) → prefixes (p ++ s) ≡ prefixes p ++ map (λ q. p ++ q) (later_prefixes s)
unfolding later_prefixes
prefixes_split [] [] = refl
prefixes_split [] (b ∷ s) = ap (λ r. [] ∷ r) (sym (same_list (map (λ q. b ∷ q) (prefixes s))))
prefixes_split (a ∷ p) s =
    ap (λ r. [] ∷ r) (ap (map (λ q. a ∷ q)) (prefixes_split p s) ∙ map-append (λ q. a ∷ q) (prefixes p) (map (λ q. p ++ q) (later_prefixes s))
    ∙ ap (λ r. map (λ q. a ∷ q) (prefixes p) ++ r) (map_map (λ q. a ∷ q) (λ q. p ++ q) (later_prefixes s)))

all_mapped_to : (P : KeyBits → Type 0) (f : KeyBits → KeyBits) (xs : List KeyBits) → AllByRecursion (λ x. P (f x)) xs → AllByRecursion P (map f xs)
all_mapped_to P f [] h = tt
all_mapped_to P f (x ∷ xs) h = (h.0, all_mapped_to P f xs h.1)

raised : (n m : ℕ) (xs : List KeyBits) → n < m → AllByRecursion (λ q. length q ≤ n) xs → AllByRecursion (λ q. suc (length q) ≤ m) xs
raised n m [] l h = tt
raised n m (x ∷ xs) l h = ((let e = h.0 in omega (arith, e, l)), raised n m xs l h.1)

prefixes_short : (s : KeyBits) → AllByRecursion (λ q. length q ≤ length s) (prefixes s)
prefixes_short [] = (omega arith, tt)
prefixes_short (b ∷ s) = (omega arith, all_mapped_to (λ q. length q ≤ suc (length s)) (λ q. b ∷ q) (prefixes s) (raised (length s) (suc (length s)) (prefixes s) (omega arith) (prefixes_short s)))

none_kept : (p : KeyBits) (xs : List KeyBits) (n : ℕ) → length p % 5 ≡ 0 → n < 5 → AllByRecursion (λ q. suc (length q) ≤ n) xs → (b : Bool) → filter has_node_length (map (λ q. p ++ q) (map (λ q. b ∷ q) xs)) ≡ []
none_kept p [] n five few h b = refl
none_kept p (q ∷ xs) n five few h b =
    let short = h.0 in
    let size = length-append p (b ∷ q) in
    let off : has_node_length (p ++ (b ∷ q)) ≡ false = ne_eqb (length (p ++ (b ∷ q)) % 5) 0 (λ z. omega (arith, z, size, five, few, short)) in
    ap (λ t. cond t ((p ++ (b ∷ q)) ∷ filter has_node_length (map (λ q. p ++ q) (map (λ q. b ∷ q) xs))) (filter has_node_length (map (λ q. p ++ q) (map (λ q. b ∷ q) xs)))) off
    ∙ none_kept p xs n five few h.1 b

-- a key of a node has the positions of the node
pub positions_of_place : (p s : KeyBits) → length p % 5 ≡ 0 → length s < 5 → positions_of_key (p ++ s) ≡ positions_of_key p
unfolding later_prefixes
positions_of_place p s five few =
    ap (filter has_node_length) (prefixes_split p s)
    ∙ filter-append has_node_length (prefixes p) (map (λ q. p ++ q) (later_prefixes s))
    ∙ ap (λ r. filter has_node_length (prefixes p) ++ r) (behind s few)
    ∙ append-nil (filter has_node_length (prefixes p))
  where
    behind : (s : KeyBits) → length s < 5 → filter has_node_length (map (λ q. p ++ q) (later_prefixes s)) ≡ []
    behind [] l = refl
    behind (b ∷ s) l = none_kept p (prefixes s) (suc (length s)) five l (raised (length s) (suc (length s)) (prefixes s) (omega arith) (prefixes_short s)) b

-- positions that are kept twice are kept once
kept_twice : (kept : PositionSet) (ps : List KeyBits) → insert_positions (insert_positions kept ps) ps ≡ insert_positions kept ps
kept_twice kept ps = finite.same_map shorter_total shorter_exact _ _ (λ q.
    get_with (insert_positions kept ps) ps q
    ∙ ap (cond (list_any (eq_by_cmp shorter_first q) ps) (Some tt)) (get_with kept ps q)
    ∙ twice (list_any (eq_by_cmp shorter_first q) ps) (finite.get kept q)
    ∙ sym (get_with kept ps q))
  where
    twice : (b : Bool) (o : Option (Unit {0})) → cond b (Some tt) (cond b (Some tt) o) ≡ cond b (Some tt) o
    twice true o = refl
    twice false o = refl

module _ {V : Type 0} (p : KeyBits) (five : length p % 5 ≡ 0) where
  -- the node is kept already
  more_entries : (m : KeyMap V) (ss : List KeyBits) (vs : List V) → AllByRecursion (λ s. length s < 5) ss → with_positions (position_set m) p ≡ position_set m → position_set (insert_all m (zip (map (λ s. p ++ s) ss) vs)) ≡ position_set m
  more_entries m [] vs h there = refl
  more_entries m (s ∷ ss) [] h there = refl
  more_entries m (s ∷ ss) (v ∷ vs) h there =
      let same : position_set (finite.insert m (p ++ s) v) ≡ position_set m =
      sym (position_set-insert m (p ++ s) v) ∙ ap (insert_positions (position_set m)) (positions_of_place p s five h.0) ∙ there in
      more_entries (finite.insert m (p ++ s) v) ss vs h.1 (ap (λ (kept : PositionSet). with_positions kept p) same ∙ there ∙ sym same) ∙ same

  -- with the values of a node that has some, the node is kept
  positions_of_entries : (m : KeyMap V) (ss : List KeyBits) (vs : List V) → AllByRecursion (λ s. length s < 5) ss → 0 < length ss → length vs ≡ length ss → with_positions (position_set m) p ≡ position_set (insert_all m (zip (map (λ s. p ++ s) ss) vs))
  positions_of_entries m [] vs h some count = absurd (omega arith)
  positions_of_entries m (s ∷ ss) [] h some count = absurd (omega (arith, count))
  positions_of_entries m (s ∷ ss) (v ∷ vs) h some count =
      let first : with_positions (position_set m) p ≡ position_set (finite.insert m (p ++ s) v) =
      ap (insert_positions (position_set m)) (sym (positions_of_place p s five h.0)) ∙ position_set-insert m (p ++ s) v in
      let there : with_positions (position_set (finite.insert m (p ++ s) v)) p ≡ position_set (finite.insert m (p ++ s) v) =
      ap (λ (kept : PositionSet). with_positions kept p) (sym first) ∙ kept_twice (position_set m) (positions_of_key p) ∙ first in
      first ∙ sym (more_entries (finite.insert m (p ++ s) v) ss vs h.1 there)

  pub positions_filled : (m : KeyMap V) (x : ℕ) (vs : List V) → bit_and x 2147483647 ≢ 0 → length vs ≡ length (set_places x) → with_positions (position_set m) p ≡ position_set (insert_all m (zip (map (λ s. p ++ s) (set_places x)) vs))
  positions_filled m x vs some count =
      positions_of_entries m (set_places x) vs (places_few x) (let c = count_of_word x in let more = ones_more (bit_and x 2147483647) some in omega (arith, c, more)) count
    where
      ones_more : (y : ℕ) → y ≢ 0 → 0 < ones y
      ones_more y ne = let z = ones_some y ne in omega (arith, z)

module _ {V : Type 0} (codec : Codec V) (p : KeyBits) (x : ℕ) (bytes : List ℕ) (m : KeyMap V) where
  -- where there is no place, nothing is stored
  pub with_none : bit_and x 2147483647 ≡ 0 → m ≡ with_values codec p x bytes m
  with_none none = ap (λ ss. insert_all m (zip (map (λ s. p ++ s) ss) (values_in codec (length ss) bytes))) (sym (no_places x none))

  -- and else the values that were read
  pub with_read : (vs : List V) → vs ≡ values_in codec (count_ones (bit_and x 2147483647)) bytes → insert_all m (node_entries p (bit_and x 2147483647) vs) ≡ with_values codec p x bytes m
  with_read vs e =
      ap (λ vs. insert_all m (node_entries p (bit_and x 2147483647) vs)) e
      ∙ (λ j. insert_all m (zip (map (λ s. p ++ s) (places_of_word x j)) (values_in codec (count_of_word x j) bytes)))
