-- The positions of the nodes of a table, from node to node, are its kept positions in key order.
use Rattle.std.proofs.Common.{◌≡◌, ℕ, zero, suc, ◌+◌, ◌-◌, ◌*◌, ◌/◌, ◌<◌, ◌≤◌, Bool, true, false, cond, List, [], ◌∷◌, ◌++◌, inl, inr, length, take, drop, map, refl, sym, ap, ◌∙◌, subst, arith, append_assoc, append-nil, length-append}
use Rattle.std.specs.Prelude.{◌||◌, nat_le}
use Rattle.std.specs.List.{flat_map, AllByRecursion}
use Rattle.std.specs.FinMap as fin
use Rattle.std.specs.declared.cmp.Ordering.TheVariants.{Less}
use Rattle.std.proofs.lemmas.List.{take-append-drop}
use borrow.Author.Tests.{leb-true}
use Rattle.prefix_model.specs.Keys.{KeyBits, key_cmp, same_key, stands_in, keys_of_length}
use Rattle.prefix_model.specs.Positions.{child_places}
use Rattle.prefix_model.proofs.KeyLemmas.{both_ways, or_cases, or_true, all_append, same_key-same, same_key-itself, flat_map_in, flat_map_out, among}
use Rattle.prefix_model.proofs.Archive.Ordered.{Rising, Before, rising_append, OfLength, lengths_keys}
use Rattle.prefix_model.specs.TableViews.{TableView, HoldsPositions}
use Rattle.prefix_aggregate.specs.ChangeSets.{node_positions}
use Rattle.prefix_aggregate.specs.Trees.{tree_positions}
use Rattle.prefix_aggregate.proofs.KeyOrder.{same_keys, is_ordered, positions_ordered, positions_in, positions_out}

-- ---- the order of keys with a common front

cmp_front : (p x y : KeyBits) → key_cmp (p ++ x) (p ++ y) ≡ key_cmp x y
cmp_front [] x y = refl
cmp_front (true ∷ p) x y = cmp_front p x y
cmp_front (false ∷ p) x y = cmp_front p x y

cmp_longer : (p c s : KeyBits) → 0 < length c → key_cmp p ((p ++ c) ++ s) ≡ Less
cmp_longer [] [] s z = absurd (omega arith)
cmp_longer [] (b ∷ c) s z = refl
cmp_longer (true ∷ p) c s z = cmp_longer p c s z
cmp_longer (false ∷ p) c s z = cmp_longer p c s z

cmp_fork : (c d s t : KeyBits) → length c ≡ length d → key_cmp c d ≡ Less → key_cmp (c ++ s) (d ++ t) ≡ Less
cmp_fork [] [] s t n e = absurd cc
cmp_fork [] (b ∷ d) s t n e = absurd (omega arith)
cmp_fork (b ∷ c) [] s t n e = absurd (omega arith)
cmp_fork (true ∷ c) (true ∷ d) s t n e = cmp_fork c d s t (omega arith) e
cmp_fork (false ∷ c) (false ∷ d) s t n e = cmp_fork c d s t (omega arith) e
cmp_fork (false ∷ c) (true ∷ d) s t n e = refl
cmp_fork (true ∷ c) (false ∷ d) s t n e = absurd cc

-- ---- trees rise

abbrev pub Begins : KeyBits → KeyBits → Type 0
Begins p q = (s : KeyBits) × (q ≡ p ++ s)

all_flat : (Q P : KeyBits → Type 0) (g : KeyBits → List KeyBits) (cs : List KeyBits) → AllByRecursion Q cs → ((c : KeyBits) → Q c → AllByRecursion P (g c)) → AllByRecursion P (flat_map g cs)
all_flat Q P g [] h f = tt
all_flat Q P g (c ∷ cs) h f = all_append P (g c) (flat_map g cs) (f c h.0) (all_flat Q P g cs h.1 f)

all_more : (P Q : KeyBits → Type 0) (ks : List KeyBits) → ((k : KeyBits) → P k → Q k) → AllByRecursion P ks → AllByRecursion Q ks
all_more P Q [] f h = tt
all_more P Q (k ∷ ks) f h = (f k h.0, all_more P Q ks f h.1)

all_if : (P : KeyBits → Type 0) (b : Bool) (ks : List KeyBits) → AllByRecursion P ks → AllByRecursion P (cond b ks [])
all_if P true ks h = h
all_if P false ks h = tt

rising_if : (b : Bool) (ks : List KeyBits) → Rising key_cmp ks → Rising key_cmp (cond b ks [])
rising_if true ks h = h
rising_if false ks h = tt

bit_below : (b : Bool) (k : KeyBits) (ls : List KeyBits) → AllByRecursion (λ l. key_cmp k l ≡ Less) ls → AllByRecursion (λ l. key_cmp (b ∷ k) l ≡ Less) (map (λ l. b ∷ l) ls)
bit_below b k [] h = tt
bit_below true k (l ∷ ls) h = (h.0, bit_below true k ls h.1)
bit_below false k (l ∷ ls) h = (h.0, bit_below false k ls h.1)

rising_bit : (b : Bool) (ks : List KeyBits) → Rising key_cmp ks → Rising key_cmp (map (λ k. b ∷ k) ks)
rising_bit b [] h = tt
rising_bit b (k ∷ ks) h = (bit_below b k ks h.0, rising_bit b ks h.1)

before_bits : (ks ls : List KeyBits) → Before key_cmp (map (λ k. false ∷ k) ks) (map (λ k. true ∷ k) ls)
before_bits [] ls = tt
before_bits (k ∷ ks) ls = (row ls, before_bits ks ls)
  where
    row : (ls : List KeyBits) → AllByRecursion (λ l. key_cmp (false ∷ k) l ≡ Less) (map (λ l. true ∷ l) ls)
    row [] = tt
    row (l ∷ ls) = (refl, row ls)

rising_keys : (n : ℕ) → Rising key_cmp (keys_of_length n)
rising_keys zero = (tt, tt)
rising_keys (suc n) = rising_append key_cmp _ _ (rising_bit false (keys_of_length n) (rising_keys n)) (rising_bit true (keys_of_length n) (rising_keys n)) (before_bits (keys_of_length n) (keys_of_length n))

five : OfLength 5 child_places
unfolding child_places
five = lengths_keys 5

children_rise : Rising key_cmp child_places
unfolding child_places
children_rise = rising_keys 5

module _ (kept : KeyBits → Bool) where
  tree_begins : (l : ℕ) (p : KeyBits) → AllByRecursion (Begins p) (tree_positions l kept p)
  tree_begins zero p = (([], sym (append-nil p)), tt)
  tree_begins (suc l) p = (
    ([], sym (append-nil p)),
    all_flat (λ c. length c ≡ 5) (Begins p) (λ c. cond (kept (p ++ c)) (tree_positions l kept (p ++ c)) []) child_places five
        (λ c n. all_if (Begins p) (kept (p ++ c)) (tree_positions l kept (p ++ c)) (all_more (Begins (p ++ c)) (Begins p) (tree_positions l kept (p ++ c)) (λ k b. (c ++ b.0, b.1 ∙ append_assoc p c b.0)) (tree_begins l (p ++ c)))),
  )

  rising_flat : (p : KeyBits) (g : KeyBits → List KeyBits) (cs : List KeyBits) → Rising key_cmp cs → OfLength 5 cs → ((c : KeyBits) → Rising key_cmp (g c)) → ((c : KeyBits) → AllByRecursion (Begins (p ++ c)) (g c)) → Rising key_cmp (flat_map g cs)
  rising_flat p g [] r n each begins = tt
  rising_flat p g (c ∷ cs) r n each begins =
      rising_append key_cmp (g c) (flat_map g cs) (each c) (rising_flat p g cs r.1 n.1 each begins)
      (all_more (Begins (p ++ c)) (λ x. AllByRecursion (λ y. key_cmp x y ≡ Less) (flat_map g cs)) (g c) (λ x b. row x b cs r.0 n.1) (begins c))
    where
      row : (x : KeyBits) → Begins (p ++ c) x → (ds : List KeyBits) → AllByRecursion (λ d. key_cmp c d ≡ Less) ds → OfLength 5 ds → AllByRecursion (λ y. key_cmp x y ≡ Less) (flat_map g ds)
      row x b [] h m = tt
      row x b (d ∷ ds) h m =
          all_append (λ y. key_cmp x y ≡ Less) (g d) (flat_map g ds)
          (all_more (Begins (p ++ d)) (λ y. key_cmp x y ≡ Less) (g d) (λ y e.
          (λ i. key_cmp ((b.1 ∙ append_assoc p c b.0) i) ((e.1 ∙ append_assoc p d e.0) i)) ∙ cmp_front p (c ++ b.0) (d ++ e.0) ∙ cmp_fork c d b.0 e.0 (n.0 ∙ sym m.0) h.0) (begins d))
          (row x b ds h.1 m.1)

  tree_rises : (l : ℕ) (p : KeyBits) → Rising key_cmp (tree_positions l kept p)
  tree_rises zero p = (tt, tt)
  tree_rises (suc l) p = (
    all_flat (λ c. length c ≡ 5) (λ q. key_cmp p q ≡ Less) (λ c. cond (kept (p ++ c)) (tree_positions l kept (p ++ c)) []) child_places five
        (λ c n. all_if (λ q. key_cmp p q ≡ Less) (kept (p ++ c)) (tree_positions l kept (p ++ c))
        (all_more (Begins (p ++ c)) (λ q. key_cmp p q ≡ Less) (tree_positions l kept (p ++ c)) (λ q b. ap (key_cmp p) b.1 ∙ cmp_longer p c b.0 (omega (arith, n))) (tree_begins l (p ++ c)))),
    rising_flat p (λ c. cond (kept (p ++ c)) (tree_positions l kept (p ++ c)) []) child_places children_rise five
        (λ c. rising_if (kept (p ++ c)) (tree_positions l kept (p ++ c)) (tree_rises l (p ++ c)))
        (λ c. all_if (Begins (p ++ c)) (kept (p ++ c)) (tree_positions l kept (p ++ c)) (tree_begins l (p ++ c))),
  )

  -- ---- and have the kept positions

  all_in : (P : KeyBits → Type 0) (ks : List KeyBits) (k : KeyBits) → AllByRecursion P ks → stands_in ks k ≡ true → P k
  all_in P [] k h e = absurd cc
  all_in P (l ∷ ks) k h e = elim (or_cases (same_key k l) (stands_in ks k) e) [ inl s ↦ subst P (sym (same_key-same k l s)) h.0 | inr s ↦ all_in P ks k h.1 s ]

  here : (p q : KeyBits) (n : ℕ) → kept p ≡ true → same_key q p ≡ true → (kept q ≡ true) × (length q ≤ length p + n)
  here p q n h s = let e = same_key-same q p s in (ap kept e ∙ h, (let g = ap length e in omega (arith, g)))

  tree_out : (l : ℕ) (p q : KeyBits) → kept p ≡ true → stands_in (tree_positions l kept p) q ≡ true → (kept q ≡ true) × (length q ≤ length p + 5 * l)
  tree_out zero p q h e = elim (or_cases (same_key q p) false e) [ inl s ↦ here p q (5 * 0) h s | inr s ↦ absurd cc ]
  tree_out (suc l) p q h e =
      elim (or_cases (same_key q p) (stands_in (flat_map (λ c. cond (kept (p ++ c)) (tree_positions l kept (p ++ c)) []) child_places) q) e) [
        | inl s ↦ here p q (5 * suc l) h s
        | inr s ↦
            let (c, among, there) = flat_map_out (λ c. cond (kept (p ++ c)) (tree_positions l kept (p ++ c)) []) child_places q s in
            let n : length c ≡ 5 = all_in (λ c. length c ≡ 5) child_places c five among in
            let size = length-append p c in
            elim (kept (p ++ c)) as (λ b. kept (p ++ c) ≡ b → stands_in (cond b (tree_positions l kept (p ++ c)) []) q ≡ true → (kept q ≡ true) × (length q ≤ length p + 5 * suc l)) [
              | true ↦ λ k t. (let ih = tree_out l (p ++ c) q k t in (ih.0, (let m = ih.1 in omega (arith, m, size, n))))
              | false ↦ λ k t. absurd cc
            ] refl there
      ]

  module _ (above : (p c : KeyBits) → length c ≡ 5 → kept (p ++ c) ≡ true → kept p ≡ true) where
    front : (j : ℕ) (r : KeyBits) → length r ≡ 5 * suc j → (length (take 5 r) ≡ 5) × (length (drop 5 r) ≡ 5 * j)
    front j (a ∷ b ∷ c ∷ d ∷ e ∷ r) n = (refl, omega (arith, n))
    front j [] n = absurd (omega (arith, n))
    front j (a ∷ []) n = absurd (omega (arith, n))
    front j (a ∷ b ∷ []) n = absurd (omega (arith, n))
    front j (a ∷ b ∷ c ∷ []) n = absurd (omega (arith, n))
    front j (a ∷ b ∷ c ∷ d ∷ []) n = absurd (omega (arith, n))

    split : (p r : KeyBits) → p ++ r ≡ (p ++ take 5 r) ++ drop 5 r
    split p r = ap (λ s. p ++ s) (sym (take-append-drop 5 r)) ∙ sym (append_assoc p (take 5 r) (drop 5 r))

    up : (j : ℕ) (p r : KeyBits) → length r ≡ 5 * j → kept (p ++ r) ≡ true → kept p ≡ true
    up zero p [] n h = sym (ap kept (append-nil p)) ∙ h
    up zero p (b ∷ r) n h = absurd (omega arith)
    up (suc j) p r n h = let f = front j r n in above p (take 5 r) f.0 (up j (p ++ take 5 r) (drop 5 r) f.1 (sym (ap kept (split p r)) ∙ h))

    first : (l : ℕ) (p : KeyBits) → stands_in (tree_positions l kept p) p ≡ true
    first zero p = ap (λ b. b || false) (same_key-itself p)
    first (suc l) p = ap (λ b. b || stands_in (flat_map (λ c. cond (kept (p ++ c)) (tree_positions l kept (p ++ c)) []) child_places) p) (same_key-itself p)

    a_child : (c : KeyBits) → length c ≡ 5 → stands_in child_places c ≡ true
    unfolding child_places
    a_child c n = subst (λ m. stands_in (keys_of_length m) c ≡ true) n (among c)

    tree_in : (l j : ℕ) (p r : KeyBits) → length r ≡ 5 * j → j ≤ l → kept (p ++ r) ≡ true → stands_in (tree_positions l kept p) (p ++ r) ≡ true
    tree_in l zero p [] n m h = ap (stands_in (tree_positions l kept p)) (append-nil p) ∙ first l p
    tree_in l zero p (b ∷ r) n m h = absurd (omega arith)
    tree_in zero (suc j) p r n m h = absurd (omega arith)
    tree_in (suc l) (suc j) p r n m h =
        let f = front j r n in
        let c : KeyBits = take 5 r in
        let deep : kept ((p ++ c) ++ drop 5 r) ≡ true = sym (ap kept (split p r)) ∙ h in
        let there : stands_in (tree_positions l kept (p ++ c)) (p ++ r) ≡ true = ap (stands_in (tree_positions l kept (p ++ c))) (split p r) ∙ tree_in l j (p ++ c) (drop 5 r) f.1 (omega arith) deep in
        let child : stands_in (cond (kept (p ++ c)) (tree_positions l kept (p ++ c)) []) (p ++ r) ≡ true = ap (λ b. stands_in (cond b (tree_positions l kept (p ++ c)) []) (p ++ r)) (up j (p ++ c) (drop 5 r) f.1 deep) ∙ there in
        ap (λ b. same_key (p ++ r) p || b) (flat_map_in (λ c. cond (kept (p ++ c)) (tree_positions l kept (p ++ c)) []) child_places c (p ++ r) (a_child c f.0) child) ∙ or_true (same_key (p ++ r) p)

pub in_order : {T : Type 0} (w : ℕ) (view : TableView T) → HoldsPositions view → tree_positions ((w - 0) / 5) (fin.contains_key view.kept) [] ≡ node_positions w view.kept
in_order w view holds =
    same_keys (tree_positions ((w - 0) / 5) (fin.contains_key view.kept) []) (node_positions w view.kept) (is_ordered _ (tree_rises (fin.contains_key view.kept) ((w - 0) / 5) [])) (positions_ordered w view.kept) (λ q. both_ways _ _ (out q) (back q))
  where
    out : (q : KeyBits) → stands_in (tree_positions ((w - 0) / 5) (fin.contains_key view.kept) []) q ≡ true → stands_in (node_positions w view.kept) q ≡ true
    out q h =
        let (is, n) = tree_out (fin.contains_key view.kept) ((w - 0) / 5) [] q holds.root h in
        positions_in w view.kept q is (short (length q) w (omega (arith, n)))
      where
        short : (a b : ℕ) → a ≤ b → nat_le a b ≡ true
        short a b h = grind (arith, h)

    back : (q : KeyBits) → stands_in (node_positions w view.kept) q ≡ true → stands_in (tree_positions ((w - 0) / 5) (fin.contains_key view.kept) []) q ≡ true
    back q h =
        let (short, is) = positions_out w view.kept q h in
        let n : length q ≤ w = leb-true (length q) w short in
        let (whole, most) = holds.lengths q is in
        tree_in (fin.contains_key view.kept) holds.above ((w - 0) / 5) (length q / 5) [] q (omega (arith, whole)) (omega (arith, n, whole)) is
