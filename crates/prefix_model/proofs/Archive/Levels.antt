-- The positions of a table are the keys at which nodes come out of a queue of tries.
use Rattle.prefix_model.specs.Reading.{ComesOut, positions_below, PositionsComeOut}
use Rattle.std.proofs.Common.{◌≡◌, ◌⊎◌, ℕ, zero, suc, ◌+◌, ◌*◌, ◌/◌, ◌%◌, ◌<◌, ◌≤◌, Bool, true, false, T, cond, List, [], ◌∷◌, ◌++◌, length, map, filter, refl, sym, ap, ◌∙◌, subst, arith, inl, inr, Option, Some, None, append_assoc}
use Rattle.std.specs.Prelude.{is_some, ◌||◌}
use Rattle.std.specs.List.Sorted.{IsStrictlySortedBy}
use Rattle.std.specs.declared.cmp.Ordering.TheVariants.{Less}
use Rattle.std.specs.FinMap.Entries.{below_all}
use Rattle.prefix_model.specs.SpellingLaws.{ListsPositions}
use Rattle.std.specs.List.{flat_map, AllByRecursion}
use Rattle.std.proofs.lemmas.Bool.{ltb-true, eqb-true, eq-eqb, cases_lt}
use Rattle.std.proofs.lemmas.List.{length-append, append-nil, map-append}
use Rattle.std.proofs.lemmas.List.Concat.{flat_map-append}
use Rattle.prefix_model.specs.Keys.{KeyBits, shorter_first, same_key, stands_in, keys_of_length, prefixes}
use Rattle.prefix_model.specs.Positions.{has_node_length, positions, data_places, child_places}
use Rattle.prefix_model.proofs.KeyLemmas.{holds_first, holds_second, lt_to_less, same_key-same, map_map, all_append, all_filter, both_ways, among, or_true, or_cases, in_left, in_right, in_either, filter_in, filter_out, flat_map_in, flat_map_out, prefixes_in, prefixes_out}
use Rattle.prefix_model.proofs.Archive.Places.{Trie, sub}
use Rattle.prefix_model.proofs.Archive.Count.{Narrow, count, has, mark}
use Rattle.prefix_model.proofs.Archive.Tries.{Node, root, children, Grows, has_none}
use Rattle.prefix_model.proofs.Archive.Ordered.{marks, Rising, OfLength, same_keys, ordered, in_order_has, is_ordered, rising_append, rising_filter, rising_length, lengths_keys, shorter_before, IsOrdered}

-- ---- positions

rising : (ks : List KeyBits) → IsOrdered ks → IsStrictlySortedBy shorter_first ks
unfolding IsStrictlySortedBy
rising [] h = tt
rising (k ∷ ks) h = (all_below ks (holds_first _ _ h), rising ks (holds_second _ _ h))
  where
    all_below : (ls : List KeyBits) → T (below_all shorter_first k (marks ls)) → AllByRecursion (λ l. shorter_first k l ≡ Less) ls
    all_below [] h = tt
    all_below (l ∷ ls) h = (lt_to_less _ (holds_first _ _ h), all_below ls (holds_second _ _ h))

-- the positions are the empty key and the fronts of keys that have a node length, in order
pub lists_positions : ListsPositions
lists_positions ks = record { ordered = rising (positions ks) (ordered all); members = λ q. (there q, back q) }
  where
    node_prefixes : KeyBits → List KeyBits
    node_prefixes k = filter has_node_length (prefixes k)

    all : List KeyBits
    all = [] ∷ flat_map node_prefixes ks

    there : (q : KeyBits) → stands_in (positions ks) q ≡ true → (q ≡ []) ⊎ ((has_node_length q ≡ true) × ((k : KeyBits) × (rest : KeyBits) × (stands_in ks k ≡ true) × (k ≡ q ++ rest)))
    there q h =
        elim (or_cases (same_key q []) (stands_in (flat_map node_prefixes ks) q) (sym (in_order_has all q) ∙ h)) [
          | inl e ↦ inl (same_key-same q [] e)
          | inr e ↦
              let k = flat_map_out node_prefixes ks q e in
              let p = filter_out has_node_length (prefixes k.0) q k.2 in
              let r = prefixes_out k.0 q p.1 in
              inr (p.0, (k.0, r.0, k.1, r.1))
        ]

    back : (q : KeyBits) → (q ≡ []) ⊎ ((has_node_length q ≡ true) × ((k : KeyBits) × (rest : KeyBits) × (stands_in ks k ≡ true) × (k ≡ q ++ rest))) → stands_in (positions ks) q ≡ true
    back q (inl e) = in_order_has all q ∙ ap (λ b. b || stands_in (flat_map node_prefixes ks) q) (ap (λ k. same_key k []) e)
    back q (inr h) =
        in_order_has all q
        ∙ ap (λ b. same_key q [] || b) (flat_map_in node_prefixes ks h.1.0 q h.1.2 (filter_in has_node_length (prefixes h.1.0) q h.0 (ap (λ k. stands_in (prefixes k) q) h.1.3 ∙ prefixes_in q h.1.1)))
        ∙ or_true (same_key q [])

-- ---- keys five bits longer

-- five times n
abbrev pub five : ℕ → ℕ
five zero = zero
five (suc n) = suc (suc (suc (suc (suc (five n)))))

five_times : (n : ℕ) → five n ≡ 5 * n
five_times zero = omega arith
five_times (suc n) = let ih = five_times n in omega arith

goes_on : KeyBits → List KeyBits
goes_on p = map (λ c. p ++ c) child_places

longer : (a : ℕ) → keys_of_length (suc (suc (suc (suc (suc a))))) ≡ flat_map goes_on (keys_of_length a)
unfolding child_places goes_on
longer zero = refl
longer (suc a) = (λ i. map (λ k. false ∷ k) (longer a i) ++ map (λ k. true ∷ k) (longer a i)) ∙ (λ i. behind false (keys_of_length a) i ++ behind true (keys_of_length a) i) ∙ sym (flat_map-append goes_on (map (λ k. false ∷ k) (keys_of_length a)) (map (λ k. true ∷ k) (keys_of_length a)))
  where
    behind : (b : Bool) (ks : List KeyBits) → map (λ k. b ∷ k) (flat_map goes_on ks) ≡ flat_map goes_on (map (λ k. b ∷ k) ks)
    behind b [] = refl
    behind b (k ∷ ks) = map-append (λ k. b ∷ k) (goes_on k) (flat_map goes_on ks) ∙ (λ i. map_map (λ k. b ∷ k) (λ c. k ++ c) child_places i ++ behind b ks i)

filter_append : {A : Type 0} (p : A → Bool) (xs ys : List A) → filter p (xs ++ ys) ≡ filter p xs ++ filter p ys
filter_append p [] ys = refl
filter_append p (x ∷ xs) ys = elim (p x) as (λ b. cond b (x ∷ filter p (xs ++ ys)) (filter p (xs ++ ys)) ≡ cond b (x ∷ filter p xs) (filter p xs) ++ filter p ys) [ true ↦ ap (λ r. x ∷ r) (filter_append p xs ys) | false ↦ filter_append p xs ys ]

-- the places of children have five bits
pub five_bits : OfLength 5 child_places
unfolding child_places
five_bits = lengths_keys 5

-- ---- tries with a key

module _ {V : Type 0} where
  some_or_none : (o : Option V) (n : ℕ) → 0 < mark o + n → (is_some o ≡ true) ⊎ (0 < n)
  some_or_none None n h = inr (omega arith)
  some_or_none (Some x) n h = inl refl

  count_found : (n : ℕ) (t : Trie V) → 0 < count n t → (k : KeyBits) × (is_some (t k) ≡ true)
  count_found zero t h = elim (some_or_none (t []) 0 (omega arith)) [ inl e ↦ ([], e) | inr l ↦ absurd (omega arith) ]
  count_found (suc n) t h =
      let left = count n (λ k. t (false ∷ k)) in
      let right = count n (λ k. t (true ∷ k)) in
      elim (some_or_none (t []) (left + right) h) [
        | inl e ↦ ([], e)
        | inr l ↦ elim (cases_lt 0 left) [
          | inl some ↦ let r = count_found n (λ k. t (false ∷ k)) some in (false ∷ r.0, r.1)
          | inr none ↦ let r = count_found n (λ k. t (true ∷ k)) (omega arith) in (true ∷ r.0, r.1)
        ]
      ]

  -- a trie with a value has one at some key
  pub has_found : (w : ℕ) (t : Trie V) → has w t ≡ true → (k : KeyBits) × (is_some (t k) ≡ true)
  has_found w t e = count_found w t (ltb-true 0 (count w t) e)

  -- and one with a value at some key has a value
  pub has_from : (w : ℕ) (t : Trie V) → Narrow w t → (k : KeyBits) → is_some (t k) ≡ true → has w t ≡ true
  has_from w t h k e = go (has w t) refl
    where
      go : (b : Bool) → has w t ≡ b → has w t ≡ true
      go true p = p
      go false p = let none = ap (λ (u : Trie V). is_some (u k)) (has_none w t h p) in cc

-- a trie, and the keys at which it holds something
module _ {V : Type 0} (w : ℕ) (f : Trie V) (narrow : Narrow w f) (ks : List KeyBits) (held : (k : KeyBits) → stands_in ks k ≡ is_some (f k)) where
  abbrev pub is_position : KeyBits → Bool
  is_position q = stands_in (positions ks) q

  position_of : (q r : KeyBits) → has_node_length q ≡ true → is_some (f (q ++ r)) ≡ true → is_position q ≡ true
  position_of q r e h =
      in_order_has ([] ∷ flat_map (λ k. filter has_node_length (prefixes k)) ks) q
      ∙ ap (λ b. same_key q [] || b) (flat_map_in (λ k. filter has_node_length (prefixes k)) ks (q ++ r) q (held (q ++ r) ∙ h) (filter_in has_node_length (prefixes (q ++ r)) q e (prefixes_in q r)))
      ∙ or_true (same_key q [])

  root_position : is_position [] ≡ true
  root_position = in_order_has ([] ∷ flat_map (λ k. filter has_node_length (prefixes k)) ks) []

  -- a position other than the empty key has a node's length, and a key goes on from it
  record GoesOn (q : KeyBits) : Type 0 where
    len : has_node_length q ≡ true
    rest : KeyBits
    some : is_some (f (q ++ rest)) ≡ true

  position_out : (q : KeyBits) → is_position q ≡ true → (q ≡ []) ⊎ GoesOn q
  position_out q h =
      elim (or_cases (same_key q []) _ (sym (in_order_has ([] ∷ flat_map (λ k. filter has_node_length (prefixes k)) ks) q) ∙ h)) [
        | inl e ↦ inl (same_key-same q [] e)
        | inr e ↦
            let k = flat_map_out (λ k. filter has_node_length (prefixes k)) ks q e in
            let p = filter_out has_node_length (prefixes k.0) q k.2 in
            let r = prefixes_out k.0 q p.1 in
            inr (record { len = p.0; rest = r.0; some = ap (λ l. is_some (f l)) (sym r.1) ∙ sym (held k.0) ∙ k.1 })
      ]

  narrow_sub : (q : KeyBits) → Narrow w (sub f q)
  narrow_sub q k l = narrow (q ++ k) (omega (arith, length-append q k))

  -- behind a position
  position_has : (q : KeyBits) → has_node_length q ≡ true → 0 < length q → is_position q ≡ has w (sub f q)
  position_has q e l = both_ways (is_position q) (has w (sub f q))
      (λ h. elim (position_out q h) [
        | inl nil ↦ absurd (omega (arith, ap length nil))
        | inr g ↦ has_from w (sub f q) (narrow_sub q) g.rest g.some
      ])
      (λ h. let r = has_found w (sub f q) h in position_of q r.0 e r.1)

  position_short : (q : KeyBits) → is_position q ≡ true → length q ≤ w
  position_short q h =
      elim (position_out q h) [
        | inl nil ↦ omega (arith, ap length nil)
        | inr g ↦ elim (cases_lt w (length q)) [
          | inl long ↦ let none = ap is_some (narrow (q ++ g.rest) (omega (arith, length-append q g.rest))) in let some = g.some in absurd cc
          | inr short ↦ short
        ]
      ]

  -- ---- levels

  abbrev level : ℕ → List KeyBits
  level n = filter is_position (keys_of_length (five n))

  abbrev levels : ℕ → List KeyBits
  levels zero = level zero
  levels (suc n) = levels n ++ level (suc n)

  level_lengths : (n : ℕ) → OfLength (five n) (level n)
  level_lengths n = all_filter (λ k. length k ≡ five n) is_position (keys_of_length (five n)) (lengths_keys (five n))

  weaker : {P Q : KeyBits → Type 0} (xs : List KeyBits) → ((x : KeyBits) → P x → Q x) → AllByRecursion P xs → AllByRecursion Q xs
  weaker [] g h = tt
  weaker (x ∷ xs) g h = (g x h.0, weaker xs g h.1)

  below_next : (n : ℕ) → AllByRecursion (λ x. length x < five (suc n)) (levels n)
  below_next zero = weaker (level zero) (λ x e. omega arith) (level_lengths zero)
  below_next (suc n) = all_append (λ x. length x < five (suc (suc n))) (levels n) (level (suc n)) (weaker (levels n) (λ x e. omega arith) (below_next n)) (weaker (level (suc n)) (λ x e. omega arith) (level_lengths (suc n)))

  rising_levels : (n : ℕ) → Rising shorter_first (levels n)
  rising_levels zero = rising_filter shorter_first is_position (keys_of_length 0) (rising_length 0)
  rising_levels (suc n) = rising_append shorter_first (levels n) (level (suc n)) (rising_levels n) (rising_filter shorter_first is_position (keys_of_length (five (suc n))) (rising_length (five (suc n)))) (shorter_before (five (suc n)) (levels n) (level (suc n)) (below_next n) (level_lengths (suc n)))

  levels_out : (n : ℕ) (q : KeyBits) → stands_in (levels n) q ≡ true → is_position q ≡ true
  levels_out zero q h = (filter_out is_position (keys_of_length (five zero)) q h).0
  levels_out (suc n) q h =
      elim (in_either (levels n) (level (suc n)) q h) [ inl here ↦ levels_out n q here | inr there ↦ (filter_out is_position (keys_of_length (five (suc n))) q there).0 ]

  level_in : (j : ℕ) (q : KeyBits) → is_position q ≡ true → length q ≡ five j → stands_in (level j) q ≡ true
  level_in j q h e = filter_in is_position (keys_of_length (five j)) q h (subst (λ n. stands_in (keys_of_length n) q ≡ true) e (among q))

  levels_in : (n j : ℕ) (q : KeyBits) → is_position q ≡ true → length q ≡ five j → j ≤ n → stands_in (levels n) q ≡ true
  levels_in zero j q h e l = level_in zero q h (e ∙ ap five (let z : j ≡ 0 = omega arith in z))
  levels_in (suc n) j q h e l =
      elim (cases_lt n j) [
        | inl last ↦ in_right (levels n) (level (suc n)) q (level_in (suc n) q h (e ∙ ap five (let z : j ≡ suc n = omega arith in z)))
        | inr before ↦ in_left (levels n) (level (suc n)) q (levels_in n j q h e before)
      ]

  node_length : (q : KeyBits) → is_position q ≡ true → length q % 5 ≡ 0
  node_length q h = elim (position_out q h) [ inl nil ↦ omega (arith, ap length nil) | inr g ↦ eqb-true (length q % 5) 0 g.len ]

  positions_levels : positions ks ≡ levels w
  positions_levels =
      same_keys (positions ks) (levels w) (ordered ([] ∷ flat_map (λ k. filter has_node_length (prefixes k)) ks)) (is_ordered (levels w) (rising_levels w)) (λ q. both_ways (is_position q) (stands_in (levels w) q)
      (λ h. levels_in w (length q / 5) q h (let a = node_length q h in omega (arith, five_times (length q / 5))) (omega (arith, position_short q h)))
      (λ h. levels_out w q h))

  -- ---- one level from another

  abbrev kids_of : KeyBits → List KeyBits
  kids_of p = filter is_position (goes_on p)

  node_five : (n : ℕ) (q : KeyBits) → length q ≡ five n → has_node_length q ≡ true
  node_five n q e = eq-eqb (length q % 5) 0 (let t = five_times n in omega arith)

  no_kids : (n : ℕ) (p : KeyBits) → length p ≡ five n → is_position p ≡ false → kids_of p ≡ []
  unfolding goes_on
  no_kids n p e h = go child_places five_bits
    where
      not_there : (c : KeyBits) → length c ≡ 5 → (b : Bool) → is_position (p ++ c) ≡ b → is_position (p ++ c) ≡ false
      not_there c l true there =
          elim (position_out (p ++ c) there) [
            | inl nil ↦ absurd (omega (arith, ap length nil, length-append p c))
            | inr g ↦ let here = position_of p (c ++ g.rest) (node_five n p e) (ap (λ k. is_some (f k)) (sym (append_assoc p c g.rest)) ∙ g.some) in absurd cc
          ]
      not_there c l false there = there

      go : (cs : List KeyBits) → OfLength 5 cs → filter is_position (map (λ c. p ++ c) cs) ≡ []
      go [] l = refl
      go (c ∷ cs) l = ap (λ b. cond b ((p ++ c) ∷ filter is_position (map (λ c. p ++ c) cs)) (filter is_position (map (λ c. p ++ c) cs))) (not_there c l.0 _ refl) ∙ go cs l.1

  level_next : (n : ℕ) → level (suc n) ≡ flat_map kids_of (level n)
  level_next n = ap (filter is_position) (longer (five n)) ∙ go (keys_of_length (five n)) (lengths_keys (five n))
    where
      go : (ps : List KeyBits) → OfLength (five n) ps → filter is_position (flat_map goes_on ps) ≡ flat_map kids_of (filter is_position ps)
      go [] l = refl
      go (p ∷ ps) l =
          filter_append is_position (goes_on p) (flat_map goes_on ps)
          ∙ ap (λ r. kids_of p ++ r) (go ps l.1)
          ∙ (elim (is_position p) as (λ b. is_position p ≡ b → kids_of p ++ flat_map kids_of (filter is_position ps) ≡ flat_map kids_of (cond b (p ∷ filter is_position ps) (filter is_position ps))) [
            | true ↦ λ e. refl
            | false ↦ λ e. ap (λ r. r ++ flat_map kids_of (filter is_position ps)) (no_kids n p l.0 e)
          ] refl)

  -- ---- nodes

  abbrev pub node_at : KeyBits → Node V
  node_at p = record { values = map (λ s. f (p ++ s)) data_places; kids = map (λ c. is_position (p ++ c)) child_places }

  record Matches (p : KeyBits) : Type 0 where
    root_is : root w (sub f p) ≡ node_at p
    children_are : children w (sub f p) ≡ map (sub f) (kids_of p)

  matches : (n : ℕ) (p : KeyBits) → length p ≡ five n → Matches p
  unfolding goes_on
  matches n p e = record { root_is = λ i. record { values = map (λ s. f (p ++ s)) data_places; kids = kids child_places five_bits i }; children_are = below child_places five_bits }
    where
      sub_sub : (c : KeyBits) → sub (sub f p) c ≡ sub f (p ++ c)
      sub_sub c = λ i k. f (sym (append_assoc p c k) i)

      there : (c : KeyBits) → length c ≡ 5 → has w (sub (sub f p) c) ≡ is_position (p ++ c)
      there c l =
          let len : length (p ++ c) ≡ five (suc n) = omega (arith, length-append p c) in
          ap (has w) (sub_sub c) ∙ sym (position_has (p ++ c) (node_five (suc n) (p ++ c) len) (omega arith))

      kids : (cs : List KeyBits) → OfLength 5 cs → map (λ c. has w (sub (sub f p) c)) cs ≡ map (λ c. is_position (p ++ c)) cs
      kids [] l = refl
      kids (c ∷ cs) l = λ i. there c l.0 i ∷ kids cs l.1 i

      below : (cs : List KeyBits) → OfLength 5 cs → filter (has w) (map (sub (sub f p)) cs) ≡ map (sub f) (filter is_position (map (λ c. p ++ c) cs))
      below [] l = refl
      below (c ∷ cs) l =
          (λ i. cond (there c l.0 i) (sub_sub c i ∷ below cs l.1 i) (below cs l.1 i))
          ∙ (elim (is_position (p ++ c)) as (λ b. cond b (sub f (p ++ c) ∷ map (sub f) (filter is_position (map (λ c. p ++ c) cs))) (map (sub f) (filter is_position (map (λ c. p ++ c) cs)))
          ≡ map (sub f) (cond b ((p ++ c) ∷ filter is_position (map (λ c. p ++ c) cs)) (filter is_position (map (λ c. p ++ c) cs)))) [ true ↦ refl | false ↦ refl ])

  grows_level : (ps qs : List KeyBits) (nds : List (Node V)) → AllByRecursion Matches ps → Grows w (map (sub f) (qs ++ flat_map kids_of ps)) nds → Grows w (map (sub f) (ps ++ qs)) (map node_at ps ++ nds)
  grows_level [] qs nds h g = subst (λ l. Grows w (map (sub f) l) nds) (append-nil qs) g
  grows_level (p ∷ ps) qs nds h g =
      let ih = grows_level ps (qs ++ kids_of p) nds h.1 (subst (λ l. Grows w (map (sub f) l) nds) (sym (append_assoc qs (kids_of p) (flat_map kids_of ps))) g) in
      let same : map (sub f) (ps ++ (qs ++ kids_of p)) ≡ map (sub f) (ps ++ qs) ++ children w (sub f p)
      = ap (map (sub f)) (sym (append_assoc ps qs (kids_of p))) ∙ map-append (sub f) (ps ++ qs) (kids_of p) ∙ ap (λ r. map (sub f) (ps ++ qs) ++ r) (sym h.0.children_are) in
      (h.0.root_is, subst (λ l. Grows w l (map node_at ps ++ nds)) same ih)

  one_level : (n : ℕ) (nds : List (Node V)) → Grows w (map (sub f) (level (suc n))) nds → Grows w (map (sub f) (level n)) (map node_at (level n) ++ nds)
  one_level n nds g =
      subst (λ l. Grows w (map (sub f) l) (map node_at (level n) ++ nds)) (append-nil (level n))
      (grows_level (level n) [] nds (weaker (level n) (λ p e. matches n p e) (level_lengths n)) (subst (λ l. Grows w (map (sub f) l) nds) (level_next n) g))

  all_levels : (n : ℕ) (nds : List (Node V)) → Grows w (map (sub f) (level (suc n))) nds → Grows w (map (sub f) (level zero)) (map node_at (levels n) ++ nds)
  all_levels zero nds g = one_level zero nds g
  all_levels (suc n) nds g =
      subst (λ l. Grows w (map (sub f) (level zero)) l) (sym (ap (λ l. l ++ nds) (map-append node_at (levels n) (level (suc n))) ∙ append_assoc (map node_at (levels n)) (map node_at (level (suc n))) nds))
      (all_levels n (map node_at (level (suc n)) ++ nds) (one_level (suc n) nds g))

  five_above : (n : ℕ) → n < five (suc n)
  five_above n = omega (arith, five_times n)

  empty_level : level (suc w) ≡ []
  empty_level = go (keys_of_length (five (suc w))) (lengths_keys (five (suc w)))
    where
      none : (q : KeyBits) → length q ≡ five (suc w) → (b : Bool) → is_position q ≡ b → is_position q ≡ false
      none q l true e = absurd (omega (arith, position_short q e, five_above w))
      none q l false e = e

      go : (qs : List KeyBits) → OfLength (five (suc w)) qs → filter is_position qs ≡ []
      go [] l = refl
      go (q ∷ qs) l = ap (λ b. cond b (q ∷ filter is_position qs) (filter is_position qs)) (none q l.0 _ refl) ∙ go qs l.1

  first_level : level zero ≡ [] ∷ []
  first_level = ap (λ b. cond b ([] ∷ []) []) root_position

  -- the nodes at the positions come out of the trie
  pub grows_positions : Grows w (f ∷ []) (map node_at (positions ks))
  grows_positions =
      let g = all_levels w [] (subst (λ l. Grows w (map (sub f) l) []) (sym empty_level) tt) in
      subst (λ l. Grows w (map (sub f) l) (map node_at (positions ks))) first_level
      (subst (λ l. Grows w (map (sub f) (level zero)) l) (append-nil (map node_at (levels w)) ∙ ap (map node_at) (sym positions_levels)) g)

  -- ---- the positions come out of a queue

  out_level : (ps qs rest : List KeyBits) → ComesOut kids_of (qs ++ flat_map kids_of ps) rest → ComesOut kids_of (ps ++ qs) (ps ++ rest)
  out_level [] qs rest g = subst (λ l. ComesOut kids_of l rest) (append-nil qs) g
  out_level (p ∷ ps) qs rest g = (
    refl,
    subst (λ l. ComesOut kids_of l (ps ++ rest)) (sym (append_assoc ps qs (kids_of p)))
        (out_level ps (qs ++ kids_of p) rest (subst (λ l. ComesOut kids_of l rest) (sym (append_assoc qs (kids_of p) (flat_map kids_of ps))) g)),
  )

  out_one : (n : ℕ) (rest : List KeyBits) → ComesOut kids_of (level (suc n)) rest → ComesOut kids_of (level n) (level n ++ rest)
  out_one n rest g = subst (λ l. ComesOut kids_of l (level n ++ rest)) (append-nil (level n)) (out_level (level n) [] rest (subst (λ l. ComesOut kids_of l rest) (level_next n) g))

  out_all : (n : ℕ) (rest : List KeyBits) → ComesOut kids_of (level (suc n)) rest → ComesOut kids_of (level zero) (levels n ++ rest)
  out_all zero rest g = out_one zero rest g
  out_all (suc n) rest g = subst (ComesOut kids_of (level zero)) (sym (append_assoc (levels n) (level (suc n)) rest)) (out_all n (level (suc n) ++ rest) (out_one (suc n) rest g))

  positions_out : ComesOut (positions_below ks) ([] ∷ []) (positions ks)
  unfolding goes_on
  positions_out =
      let g = out_all w [] (subst (λ l. ComesOut kids_of l []) (sym empty_level) tt) in
      subst (λ l. ComesOut kids_of l (positions ks)) first_level (subst (ComesOut kids_of (level zero)) (append-nil (levels w) ∙ sym positions_levels) g)

-- the length of the longest key
pub longest : List KeyBits → ℕ
longest [] = 0
longest (k ∷ ks) = length k + longest ks

-- which no key exceeds
pub within_longest : (ks : List KeyBits) (k : KeyBits) → stands_in ks k ≡ true → length k ≤ longest ks
unfolding longest
within_longest [] k h = absurd cc
within_longest (l ∷ ks) k h = elim (or_cases (same_key k l) (stands_in ks k) h) [ inl same ↦ omega (arith, ap length (same_key-same k l same)) | inr later ↦ omega (arith, within_longest ks k later) ]

-- the positions come out of a queue that begins with the empty key
pub positions_come_out : PositionsComeOut
positions_come_out ks = positions_out (longest ks) stored narrow ks (λ k. sym (is (stands_in ks k)))
  where
    stored : Trie (Unit {0})
    stored k = cond (stands_in ks k) (Some tt) None

    is : (b : Bool) → is_some (let o : Option (Unit {0}) = cond b (Some tt) None in o) ≡ b
    is true = refl
    is false = refl

    narrow : Narrow (longest ks) stored
    narrow k l = go (stands_in ks k) refl
      where
        go : (b : Bool) → stands_in ks k ≡ b → stored k ≡ None
        go true e = absurd (omega (arith, within_longest ks k e))
        go false e = ap (λ b. cond b (Some tt) None) e
