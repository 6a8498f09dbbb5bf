-- What a contract sees of a trie, key by key.
use Rattle.std.specs.Prelude.{◌≡◌, ◌≢◌, ℕ, zero, suc, ◌*◌, ◌/◌, ◌<◌, ◌≤◌, ◌||◌, ◌⊎◌, Bool, true, false, cond, List, [], ◌∷◌, ◌++◌, length, take, drop, Option, Some, None, is_some, slice_get}
use Rattle.std.proofs.Common.{refl, sym, ap, ◌∙◌, arith, length-take}
use Rattle.std.specs.Option.{option_and_then, option_map, option_to_list}
use Rattle.std.specs.Ordering.{eq_by_cmp, nat_cmp}
use Rattle.std.specs.declared.cmp.Ordering.{Ordering}
use Rattle.std.specs.Cmp.{IsTotalOrder, nat_cmp_total, unsigned_tied}
use Rattle.std.specs.FinMap as map_of
use Rattle.std.specs.FinMap.{IsAntisymmetric}
use Rattle.std.specs.FinMap.Entries.{find}
use Rattle.std.proofs.lemmas.Option.{same_Some}
use Rattle.std.proofs.lemmas.Bool.Decides.{eqb_tells}
use Rattle.std.proofs.Common.{inl, inr}
use Rattle.prefix_model.specs.Keys.{KeyBits, key_cmp, shorter_first, keys_of_length, same_key, stands_in, number}
use Rattle.prefix_model.proofs.KeyLemmas.{tests_same, same_key-itself, in_left, in_right}
use Rattle.prefix_model.proofs.Order.{key_exact, key_total, shorter_exact, shorter_total}
use Rattle.prefix_table.specs.Tries.{told, by_number, keys_up_to, all_keys, value_of, bit_of, node_at, number_at, held, is_kept, table_view, IsTrie}
use Rattle.prefix_table.specs.declared.trie.Node.{Node}
use Rattle.prefix_table.specs.declared.trie.Trie.{Trie}
use Rattle.prefix_model.proofs.KeyLists.{same_or_other}
use Rattle.prefix_model.proofs.KeyPlaces.{key_at_number}
use Rattle.prefix_model.proofs.KeyLists.Same.{same, other}
use Rattle.prefix_table.proofs.TrieWays.{number_apart, number_tells}

-- ---- a map of what is told

-- one key more in front
told_first : {X : Type 0} (R : KeyBits → KeyBits → Ordering) (k q : KeyBits) (v : X) (rest : List (KeyBits × X)) → find R q ((k, v) ∷ rest) ≡ cond (eq_by_cmp R q k) (Some v) (find R q rest)
told_first R k q v rest = refl

find-told : {X : Type 0} (R : KeyBits → KeyBits → Ordering) → IsTotalOrder R → IsAntisymmetric R → (f : KeyBits → Option X) (ks : List KeyBits) (q : KeyBits)
    → find R q (told f ks) ≡ cond (stands_in ks q) (f q) None
find-told R total exact f [] q = refl
find-told {X} R total exact f (k ∷ ks) q = of (f k) refl (find-told R total exact f ks q)
  where
    tied : eq_by_cmp R q k ≡ same_key q k
    tied = tests_same R total exact q k

    of : (o : Option X) → f k ≡ o → find R q (told f ks) ≡ cond (stands_in ks q) (f q) None
        → find R q (option_to_list (option_map (λ v. (k, v)) o) ++ told f ks) ≡ cond (same_key q k || stands_in ks q) (f q) None
    of (Some v) e rest = elim (same_or_other q k) [
      | same z ↦
          let yes : same_key q k ≡ true = ap (same_key q) (sym z) ∙ same_key-itself q in
          ap (λ b. cond b (Some v) (find R q (told f ks))) (tied ∙ yes) ∙ sym e ∙ ap f (sym z) ∙ ap (λ b. cond (b || stands_in ks q) (f q) None) (sym yes)
      | other differ ↦ ap (λ b. cond b (Some v) (find R q (told f ks))) (tied ∙ differ) ∙ rest ∙ ap (λ b. cond (b || stands_in ks q) (f q) None) (sym differ)
    ]
    of None e rest = elim (same_or_other q k) [
      | same z ↦
          let yes : same_key q k ≡ true = ap (same_key q) (sym z) ∙ same_key-itself q in
          let none : f q ≡ None = ap f z ∙ e in
          rest ∙ always (stands_in ks q) none ∙ sym none ∙ ap (λ b. cond (b || stands_in ks q) (f q) None) (sym yes)
      | other differ ↦ rest ∙ ap (λ b. cond (b || stands_in ks q) (f q) None) (sym differ)
    ]
      where
        always : (b : Bool) → f q ≡ None → cond b (f q) None ≡ None
        always true none = none
        always false none = refl

-- ---- the keys of at most n bits

stands_of : (ks : List KeyBits) (i : ℕ) (q : KeyBits) → slice_get ks i ≡ Some q → stands_in ks q ≡ true
stands_of [] i q e = cc
stands_of (k ∷ ks) zero q e = let z : k ≡ q = cc in ap (λ b. b || stands_in ks q) (ap (same_key q) z ∙ same_key-itself q)
stands_of (k ∷ ks) (suc i) q e = or_later (same_key q k) (stands_of ks i q e)
  where
    or_later : (b : Bool) → stands_in ks q ≡ true → (b || stands_in ks q) ≡ true
    or_later true h = refl
    or_later false h = h

up_to : (n : ℕ) (q : KeyBits) → length q ≤ n → stands_in (keys_up_to n) q ≡ true
unfolding keys_up_to
up_to zero [] l = refl
up_to zero (b ∷ q) l = absurd (omega arith)
up_to (suc n) q l = elim (eqb_tells (length q) (suc n)) [
  | inl here ↦ in_right (keys_up_to n) (keys_of_length (suc n)) q (ap (λ k. stands_in (keys_of_length k) q) (sym here.1) ∙ stands_of (keys_of_length (length q)) (number q) q (key_at_number q))
  | inr less ↦ (let other : length q ≢ suc n = less.1 in in_left (keys_up_to n) (keys_of_length (suc n)) q (up_to n q (omega (arith, other))))
]

all_stand : (q : KeyBits) → length q ≤ 130 → stands_in all_keys q ≡ true
unfolding all_keys
all_stand q l = up_to 130 q l

-- a map of what is told at all keys answers what is told, where nothing is told of longer keys
get-told : {X : Type 0} (R : KeyBits → KeyBits → Ordering) → IsTotalOrder R → IsAntisymmetric R → (f : KeyBits → Option X) → ((q : KeyBits) → 130 < length q → f q ≡ None) → (q : KeyBits)
    → map_of.get (map_of.from_entries {R = R} (told f all_keys)) q ≡ f q
get-told {X} R total exact f long q =
    map_of.get-from_entries total (told f all_keys) q ∙ find-told R total exact f all_keys q ∙ of (stands_in all_keys q) refl
  where
    of : (b : Bool) → stands_in all_keys q ≡ b → cond b (f q) None ≡ f q
    of true e = refl
    of false e = sym (long q (beyond (length q) refl))
      where
        beyond : (n : ℕ) → length q ≡ n → 130 < length q
        beyond n z = elim (at_most (length q) 130) [
          | inl l ↦ (let yes = all_stand q l in absurd cc)
          | inr m ↦ m
        ]
          where
            at_most : (a b : ℕ) → (a ≤ b) ⊎ (b < a)
            at_most zero b = inl (omega arith)
            at_most (suc a) zero = inr (omega arith)
            at_most (suc a) (suc b) = elim (at_most a b) [ inl l ↦ inl (omega (arith, l)) | inr m ↦ inr (omega (arith, m)) ]

-- ---- positions by their numbers

-- what is found has that number
found_number : (f : KeyBits → Option ℕ) (ks : List KeyBits) (a : ℕ) (p : KeyBits) → find nat_cmp a (by_number f ks) ≡ Some p → f p ≡ Some a
found_number f [] a p e = cc
found_number f (k ∷ ks) a p e = of (f k) refl e (found_number f ks a p)
  where
    of : (o : Option ℕ) → f k ≡ o → find nat_cmp a (option_to_list (option_map (λ b. (b, k)) o) ++ by_number f ks) ≡ Some p → (find nat_cmp a (by_number f ks) ≡ Some p → f p ≡ Some a) → f p ≡ Some a
    of None h e rest = rest e
    of (Some b) h e rest = elim (eqb_tells a b) [
      | inl here ↦
          (let test : eq_by_cmp nat_cmp a b ≡ true = unsigned_tied a b ∙ here.0 in
          let first : Some k ≡ Some p = ap (λ t. cond t (Some k) (find nat_cmp a (by_number f ks))) (sym test) ∙ e in
          ap f (sym (same_Some k p first)) ∙ h ∙ ap Some (sym here.1))
      | inr apart ↦ rest (ap (λ t. cond t (Some k) (find nat_cmp a (by_number f ks))) (sym (unsigned_tied a b ∙ apart.0)) ∙ e)
    ]

find_number : (f : KeyBits → Option ℕ) → ((p q : KeyBits) (a : ℕ) → f p ≡ Some a → f q ≡ Some a → p ≡ q) → (ks : List KeyBits) (a : ℕ) (p : KeyBits) → f p ≡ Some a → stands_in ks p ≡ true
    → find nat_cmp a (by_number f ks) ≡ Some p
find_number f one [] a p e stands = cc
find_number f one (k ∷ ks) a p e stands = of (f k) refl (find_number f one ks a p e)
  where
    of : (o : Option ℕ) → f k ≡ o → (stands_in ks p ≡ true → find nat_cmp a (by_number f ks) ≡ Some p) → find nat_cmp a (option_to_list (option_map (λ b. (b, k)) o) ++ by_number f ks) ≡ Some p
    of None h rest = elim (same_or_other p k) [
      | same z ↦ (let none : f p ≡ None = ap f z ∙ h in absurd cc)
      | other differ ↦ rest (ap (λ b. b || stands_in ks p) (sym differ) ∙ stands)
    ]
    of (Some b) h rest = elim (eqb_tells a b) [
      | inl here ↦
          ap (λ t. cond t (Some k) (find nat_cmp a (by_number f ks))) (unsigned_tied a b ∙ here.0)
          ∙ ap Some (one k p a (h ∙ ap Some (sym here.1)) e)
      | inr apart ↦ elim (same_or_other p k) [
        | same z ↦ (let is_b : Some a ≡ Some b = sym e ∙ ap f z ∙ h in let eq = same_Some a b is_b in absurd (apart.1 eq))
        | other differ ↦ ap (λ t. cond t (Some k) (find nat_cmp a (by_number f ks))) (unsigned_tied a b ∙ apart.0) ∙ rest (ap (λ b. b || stands_in ks p) (sym differ) ∙ stands)
      ]
    ]

some-map : {A B : Type 0} (f : A → B) (o : Option A) → is_some (option_map f o) ≡ is_some o
some-map f None = refl
some-map f (Some x) = refl

module _ {T : Type 0} where
  kept_short : (t : Trie T) → IsTrie t → (p : KeyBits) (o : Option Node) → node_at t p ≡ o → 125 < length p → o ≡ None
  kept_short t trie p None e long = refl
  kept_short t trie p (Some n) e long = let node = trie.each p n e in absurd (omega (arith, node.depth_within, long))

  pub get_entry : (t : Trie T) → IsTrie t → (k : KeyBits) → map_of.get (table_view t).entries k ≡ held t k
  unfolding table_view
  get_entry t trie k = get-told key_cmp key_total key_exact (held t) (λ q long.
      let d = length q / 5 * 5 in
      let size = length-take d q in
      ap (option_and_then (λ n. value_of t n (bit_of (drop d q)))) (kept_short t trie (take d q) (node_at t (take d q)) refl (omega (arith, size, long)))) k

  pub get_kept : (t : Trie T) → IsTrie t → (p : KeyBits) → map_of.get (table_view t).kept p ≡ option_map (λ _. tt) (node_at t p)
  unfolding table_view
  get_kept t trie p = get-told shorter_first shorter_total shorter_exact (λ q. option_map (λ _. tt) (node_at t q)) (λ q long.
      ap (option_map (λ _. tt)) (kept_short t trie q (node_at t q) refl (omega (arith, long)))) p

  pub contains_kept : (t : Trie T) → IsTrie t → (p : KeyBits) → map_of.contains_key (table_view t).kept p ≡ is_kept t p
  contains_kept t trie p = ap is_some (get_kept t trie p) ∙ some-map (λ _. tt) (node_at t p)

  -- a node number names the position whose number it is
  pub place_of_number : (t : Trie T) → IsTrie t → (p : KeyBits) (a : ℕ) → number_at t p ≡ Some a → map_of.get (table_view t).places a ≡ Some p
  unfolding table_view
  place_of_number t trie p a e =
      let tells = number_tells t trie p a e in
      let short = (trie.each p tells.0 tells.1.here).depth_within in
      map_of.get-from_entries nat_cmp_total (by_number (number_at t) all_keys) a
      ∙ find_number (number_at t) (λ u v b. number_apart t trie u v b) all_keys a p e (all_stand p (omega (arith, short)))

  pub number_of_place : (t : Trie T) → (p : KeyBits) (a : ℕ) → map_of.get (table_view t).places a ≡ Some p → number_at t p ≡ Some a
  unfolding table_view
  number_of_place t p a e = found_number (number_at t) all_keys a p (sym (map_of.get-from_entries nat_cmp_total (by_number (number_at t) all_keys) a) ∙ e)
