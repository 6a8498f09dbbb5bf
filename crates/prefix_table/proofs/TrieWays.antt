-- The way down from the root: one more step, where it ends, and what a number names.
use Rattle.std.specs.Prelude.{◌≡◌, ◌≢◌, ℕ, zero, suc, ◌-◌, ◌*◌, ◌/◌, ◌%◌, ◌^◌, ◌<◌, ◌≤◌, ◌==◌, false, cond, [], ◌∷◌, ◌++◌, length, take, drop, Option, Some, None, is_some, IsSome, slice_get}
use Rattle.std.proofs.Common.{refl, sym, ap, ◌∙◌, subst, arith, length-drop, length-take}
use Rattle.std.specs.Option.{option_and_then}
use Rattle.std.specs.Int.{bit_at}
use Rattle.std.proofs.lemmas.Nat.Bits.{bit_at-suc, bit_at_lowest, bit_at-lt, bit_at-zero}
use Rattle.std.proofs.lemmas.List.{take-append-drop}
use Rattle.std.proofs.lemmas.Option.{same_Some, slice_get_within}
use Rattle.std.proofs.lemmas.Bool.{ne_eqb}
use Rattle.prefix_model.specs.Keys.{KeyBits, number, low_bits}
use Rattle.prefix_table.specs.NodeLists.{ListsOf, block, items_of}
use Rattle.prefix_model.specs.Slots.{place}
use Rattle.prefix_table.specs.Tries.{child, child_number, node_below, number_below, node_at, number_at, numbered, IsTrie}
use Rattle.prefix_table.specs.declared.trie.Node.{Node}
use Rattle.prefix_table.specs.declared.trie.Trie.{Trie}
use Rattle.prefix_model.proofs.KeyPlaces.{number-lt, low_bits-number}
use Rattle.prefix_model.proofs.Bitmaps.SlotLaws.{picked-place}

-- ---- steps of five bits

-- a key of node length is empty, or goes five bits on from one
pub data Split (p : KeyBits) : Type 0 where
  top : p ≡ [] → Split p
  under : (q c : KeyBits) → length c ≡ 5 → p ≡ q ++ c → Split p

pub split : (p : KeyBits) → length p % 5 ≡ 0 → Split p
split [] e = top refl
split (b ∷ p) e =
    let k = b ∷ p in
    let n = suc (length p) - 5 in
    let five : length (drop n k) ≡ 5 = let d = length-drop n k in omega (arith, d, e) in
    under (take n k) (drop n k) five (sym (take-append-drop n k))

-- two numbers in their order
pub data InOrder (i j : ℕ) : Type 0 where
  less : i < j → InOrder i j
  alike : i ≡ j → InOrder i j
  more : j < i → InOrder i j

pub order_of : (i j : ℕ) → InOrder i j
order_of zero zero = alike refl
order_of zero (suc j) = less (omega arith)
order_of (suc i) zero = more (omega arith)
order_of (suc i) (suc j) = elim (order_of i j) [ less l ↦ less (omega (arith, l)) | alike e ↦ alike (ap suc e) | more l ↦ more (omega (arith, l)) ]

pub not_zero : (a : ℕ) → a ≢ 0 → (a == 0) ≡ false
not_zero a some = ne_eqb a 0 some

pub bits_some : (bits c : ℕ) → bit_at bits c ≡ 1 → bits ≢ 0
bits_some bits c set none = let z = ap (λ n. bit_at n c) none in let e = bit_at-zero c in omega (arith, z, e, set)

pub items_some : {A : Type 0} (lists : ListsOf A) (bits at : ℕ) → bits ≢ 0 → items_of lists bits at ≡ block lists at
items_some lists bits at some = ap (λ b. cond b [] (block lists at)) (not_zero bits some)

-- a place is at most its slot, and below that of each later slot
pub place_small : (bits i : ℕ) → place bits i ≤ i
unfolding place
place_small bits zero = omega arith
place_small bits (suc i) = let r = place_small (bits / 2) i in omega (arith, r)

pub place_rises : (bits i j : ℕ) → i < j → bit_at bits i ≡ 1 → place bits i < place bits j
unfolding place
place_rises bits i zero l set = absurd (omega arith)
place_rises bits zero (suc j) l set = let low = bit_at_lowest bits in omega (arith, low, set)
place_rises bits (suc i) (suc j) l set = let r = place_rises (bits / 2) i j (omega arith) (sym (bit_at-suc bits i) ∙ set) in omega (arith, r)

pub place_tells : (bits i j : ℕ) → bit_at bits i ≡ 1 → bit_at bits j ≡ 1 → place bits i ≡ place bits j → i ≡ j
place_tells bits i j set_i set_j e = elim (order_of i j) [
  | less l ↦ (let r = place_rises bits i j l set_i in absurd (omega (arith, r, e)))
  | alike z ↦ z
  | more l ↦ (let r = place_rises bits j i l set_j in absurd (omega (arith, r, e)))
]

pub slot_small : (c : KeyBits) → length c ≡ 5 → number c < 32
slot_small c five = subst (λ (k : ℕ). number c < 2 ^ k) five (number-lt c)

module _ {T : Type 0} where
  -- no node stands at another length
  pub below-off : (t : Trie T) (n : Node) (p : KeyBits) → length p % 5 ≢ 0 → node_below t n p ≡ None
  unfolding node_below
  below-off t n [] off = absurd (off refl)
  below-off t n (a ∷ []) off = refl
  below-off t n (a ∷ b ∷ []) off = refl
  below-off t n (a ∷ b ∷ c ∷ []) off = refl
  below-off t n (a ∷ b ∷ c ∷ d ∷ []) off = refl
  below-off t n (a ∷ b ∷ c ∷ d ∷ e ∷ p) off =
      let rest : length p % 5 ≢ 0 = λ z. off (omega (arith, z)) in
      of (child t n (number (a ∷ b ∷ c ∷ d ∷ e ∷ []))) (λ m. below-off t m p rest)
    where
      of : (o : Option Node) → ((m : Node) → node_below t m p ≡ None) → option_and_then (λ m. node_below t m p) o ≡ None
      of None rest = refl
      of (Some m) rest = rest m

  below-one : (t : Trie T) (n : Node) (c : KeyBits) → length c ≡ 5 → node_below t n c ≡ child t n (number c)
  unfolding node_below
  below-one t n [] five = absurd (omega arith)
  below-one t n (a ∷ []) five = absurd (omega arith)
  below-one t n (a ∷ b ∷ []) five = absurd (omega arith)
  below-one t n (a ∷ b ∷ c ∷ []) five = absurd (omega arith)
  below-one t n (a ∷ b ∷ c ∷ d ∷ []) five = absurd (omega arith)
  below-one t n (a ∷ b ∷ c ∷ d ∷ e ∷ []) five = of (child t n (number (a ∷ b ∷ c ∷ d ∷ e ∷ [])))
    where
      of : (o : Option Node) → option_and_then (λ (m : Node). Some m) o ≡ o
      of None = refl
      of (Some m) = refl
  below-one t n (a ∷ b ∷ c ∷ d ∷ e ∷ f ∷ p) five = absurd (omega arith)

  -- five bits more are one step down
  pub below-step : (t : Trie T) (n : Node) (p c : KeyBits) → length c ≡ 5 → node_below t n (p ++ c) ≡ option_and_then (λ m. child t m (number c)) (node_below t n p)
  unfolding node_below
  below-step t n [] c five = below-one t n c five
  below-step t n (x ∷ []) c five = below-off t n (x ∷ c) (λ z. let s : suc (length c) % 5 ≡ 0 = z in omega (arith, s, five))
  below-step t n (x ∷ y ∷ []) c five = below-off t n (x ∷ y ∷ c) (λ z. let s : suc (suc (length c)) % 5 ≡ 0 = z in omega (arith, s, five))
  below-step t n (x ∷ y ∷ z ∷ []) c five = below-off t n (x ∷ y ∷ z ∷ c) (λ h. let s : suc (suc (suc (length c))) % 5 ≡ 0 = h in omega (arith, s, five))
  below-step t n (x ∷ y ∷ z ∷ w ∷ []) c five = below-off t n (x ∷ y ∷ z ∷ w ∷ c) (λ h. let s : suc (suc (suc (suc (length c)))) % 5 ≡ 0 = h in omega (arith, s, five))
  below-step t n (x ∷ y ∷ z ∷ w ∷ v ∷ p) c five = of (child t n (number (x ∷ y ∷ z ∷ w ∷ v ∷ []))) (λ m. below-step t m p c five)
    where
      of : (o : Option Node) → ((m : Node) → node_below t m (p ++ c) ≡ option_and_then (λ k. child t k (number c)) (node_below t m p)) → option_and_then (λ m. node_below t m (p ++ c)) o ≡ option_and_then (λ m. child t m (number c)) (option_and_then (λ m. node_below t m p) o)
      of None rest = refl
      of (Some m) rest = rest m

  -- the number of a child
  abbrev pub step_number : Trie T → Node → ℕ → Option ℕ
  step_number t m c = option_and_then (λ k. Some (child_number m c)) (child t m c)

  pub number-off : (t : Trie T) (n : Node) (x : ℕ) (p : KeyBits) → length p % 5 ≢ 0 → number_below t n x p ≡ None
  unfolding number_below
  number-off t n x [] off = absurd (off refl)
  number-off t n x (a ∷ []) off = refl
  number-off t n x (a ∷ b ∷ []) off = refl
  number-off t n x (a ∷ b ∷ c ∷ []) off = refl
  number-off t n x (a ∷ b ∷ c ∷ d ∷ []) off = refl
  number-off t n x (a ∷ b ∷ c ∷ d ∷ e ∷ p) off =
      let rest : length p % 5 ≢ 0 = λ z. off (omega (arith, z)) in
      of (child t n (number (a ∷ b ∷ c ∷ d ∷ e ∷ []))) (λ m. number-off t m (child_number n (number (a ∷ b ∷ c ∷ d ∷ e ∷ []))) p rest)
    where
      of : (o : Option Node) → ((m : Node) → number_below t m (child_number n (number (a ∷ b ∷ c ∷ d ∷ e ∷ []))) p ≡ None)
          → option_and_then (λ m. number_below t m (child_number n (number (a ∷ b ∷ c ∷ d ∷ e ∷ []))) p) o ≡ None
      of None rest = refl
      of (Some m) rest = rest m

  number-one : (t : Trie T) (n : Node) (x : ℕ) (c : KeyBits) → length c ≡ 5 → number_below t n x c ≡ step_number t n (number c)
  unfolding number_below
  number-one t n x [] five = absurd (omega arith)
  number-one t n x (a ∷ []) five = absurd (omega arith)
  number-one t n x (a ∷ b ∷ []) five = absurd (omega arith)
  number-one t n x (a ∷ b ∷ c ∷ []) five = absurd (omega arith)
  number-one t n x (a ∷ b ∷ c ∷ d ∷ []) five = absurd (omega arith)
  number-one t n x (a ∷ b ∷ c ∷ d ∷ e ∷ []) five = refl
  number-one t n x (a ∷ b ∷ c ∷ d ∷ e ∷ f ∷ p) five = absurd (omega arith)

  pub number-step : (t : Trie T) (n : Node) (x : ℕ) (p c : KeyBits) → length c ≡ 5 → number_below t n x (p ++ c) ≡ option_and_then (λ m. step_number t m (number c)) (node_below t n p)
  unfolding number_below node_below
  number-step t n x [] c five = number-one t n x c five
  number-step t n x (a ∷ []) c five = number-off t n x (a ∷ c) (λ z. let s : suc (length c) % 5 ≡ 0 = z in omega (arith, s, five))
  number-step t n x (a ∷ b ∷ []) c five = number-off t n x (a ∷ b ∷ c) (λ z. let s : suc (suc (length c)) % 5 ≡ 0 = z in omega (arith, s, five))
  number-step t n x (a ∷ b ∷ d ∷ []) c five = number-off t n x (a ∷ b ∷ d ∷ c) (λ h. let s : suc (suc (suc (length c))) % 5 ≡ 0 = h in omega (arith, s, five))
  number-step t n x (a ∷ b ∷ d ∷ e ∷ []) c five = number-off t n x (a ∷ b ∷ d ∷ e ∷ c) (λ h. let s : suc (suc (suc (suc (length c)))) % 5 ≡ 0 = h in omega (arith, s, five))
  number-step t n x (a ∷ b ∷ d ∷ e ∷ f ∷ p) c five = of (child t n (number (a ∷ b ∷ d ∷ e ∷ f ∷ []))) (λ m. number-step t m (child_number n (number (a ∷ b ∷ d ∷ e ∷ f ∷ []))) p c five)
    where
      of : (o : Option Node) → ((m : Node) → number_below t m (child_number n (number (a ∷ b ∷ d ∷ e ∷ f ∷ []))) (p ++ c) ≡ option_and_then (λ k. step_number t k (number c)) (node_below t m p)) → option_and_then (λ m. number_below t m (child_number n (number (a ∷ b ∷ d ∷ e ∷ f ∷ []))) (p ++ c)) o ≡ option_and_then (λ m. step_number t m (number c)) (option_and_then (λ m. node_below t m p) o)
      of None rest = refl
      of (Some m) rest = rest m

  -- ---- the nodes of a trie are known by what stands at the root and by one step

  pub record Steps (t : Trie T) (f : KeyBits → Option Node) : Type 0 where
    pub root : f [] ≡ Some t.root
    pub step : (p c : KeyBits) → length c ≡ 5 → f (p ++ c) ≡ option_and_then (λ m. child t m (number c)) (f p)
    pub off : (p : KeyBits) → length p % 5 ≢ 0 → f p ≡ None

  -- by the count of steps
  steps_of : (t : Trie T) (f : KeyBits → Option Node) → Steps t f → (k : ℕ) (p : KeyBits) → length p ≡ 5 * k → node_at t p ≡ f p
  unfolding node_below
  steps_of t f s zero [] e = sym s.root
  steps_of t f s zero (b ∷ p) e = absurd (omega arith)
  steps_of t f s (suc k) p e =
      let n = 5 * k in
      let whole = take-append-drop n p in
      let five : length (drop n p) ≡ 5 = let d = length-drop n p in omega (arith, d, e) in
      let size : length (take n p) ≡ 5 * k = let d = length-take n p in omega (arith, d, e) in
      ap (node_at t) (sym whole) ∙ below-step t t.root (take n p) (drop n p) five
      ∙ ap (option_and_then (λ m. child t m (number (drop n p)))) (steps_of t f s k (take n p) size)
      ∙ sym (s.step (take n p) (drop n p) five) ∙ ap f whole

  pub steps-node_at : (t : Trie T) (f : KeyBits → Option Node) → Steps t f → (p : KeyBits) → node_at t p ≡ f p
  steps-node_at t f s p = of (length p % 5) refl
    where
      of : (r : ℕ) → length p % 5 ≡ r → node_at t p ≡ f p
      of zero e = steps_of t f s (length p / 5) p (omega (arith, e))
      of (suc r) e =
          let off : length p % 5 ≢ 0 = λ z. omega (arith, e, z) in
          below-off t t.root p off ∙ sym (s.off p off)

  -- ---- the node of a number

  pub kept_length : (t : Trie T) (p : KeyBits) (n : Node) → node_at t p ≡ Some n → length p % 5 ≡ 0
  kept_length t p n e = of (length p % 5) refl
    where
      of : (r : ℕ) → length p % 5 ≡ r → length p % 5 ≡ 0
      of zero z = z
      of (suc r) z = let none = below-off t t.root p (λ y. omega (arith, z, y)) in absurd cc

  -- the node above, and the slot at which a node stands below it
  pub record Below (t : Trie T) (q c : KeyBits) (n : Node) : Type 0 where
    pub above : Node
    pub here : node_at t q ≡ Some above
    pub is_child : child t above (number c) ≡ Some n

  pub above_of : (t : Trie T) (q c : KeyBits) (n : Node) → length c ≡ 5 → node_at t (q ++ c) ≡ Some n → Below t q c n
  above_of t q c n five e = of (node_at t q) refl (sym (below-step t t.root q c five) ∙ e)
    where
      of : (o : Option Node) → node_at t q ≡ o → option_and_then (λ m. child t m (number c)) o ≡ Some n → Below t q c n
      of None z h = cc
      of (Some m) z h = record { above = m; here = z; is_child = h }

  pub child_below : (t : Trie T) (q c : KeyBits) (m : Node) → length c ≡ 5 → node_at t q ≡ Some m → node_at t (q ++ c) ≡ child t m (number c)
  child_below t q c m five e = below-step t t.root q c five ∙ ap (option_and_then (λ k. child t k (number c))) e

  pub child_number_below : (t : Trie T) (q c : KeyBits) (m n : Node) → length c ≡ 5 → node_at t q ≡ Some m → child t m (number c) ≡ Some n → number_at t (q ++ c) ≡ Some (child_number m (number c))
  child_number_below t q c m n five e h =
      number-step t t.root 0 q c five ∙ ap (option_and_then (λ k. step_number t k (number c))) e ∙ ap (option_and_then (λ k. Some (child_number m (number c)))) h

  pub numbered_later : (t : Trie T) (a : ℕ) → a ≢ 0 → numbered t a ≡ slice_get (block t.nodes.lists ((a - 1) / 32)) ((a - 1) % 32)
  numbered_later t a later = ap (λ b. cond b (Some t.root) (slice_get (block t.nodes.lists ((a - 1) / 32)) ((a - 1) % 32))) (not_zero a later)

  pub numbered_within : (t : Trie T) (a : ℕ) → a ≢ 0 → IsSome (numbered t a) → (a - 1) % 32 < length (block t.nodes.lists ((a - 1) / 32))
  numbered_within t a later some = of (slice_get (block t.nodes.lists ((a - 1) / 32)) ((a - 1) % 32)) refl
    where
      of : (o : Option Node) → slice_get (block t.nodes.lists ((a - 1) / 32)) ((a - 1) % 32) ≡ o → (a - 1) % 32 < length (block t.nodes.lists ((a - 1) / 32))
      of (Some n) e = slice_get_within (block t.nodes.lists ((a - 1) / 32)) ((a - 1) % 32) n e
      of None e = let none : numbered t a ≡ None = numbered_later t a later ∙ e in absurd (let no = ap is_some none in cc)

  -- ---- what a child is

  pub record IsChild (t : Trie T) (m : Node) (c : ℕ) (n : Node) : Type 0 where
    pub set : bit_at m.child_bits c ≡ 1
    pub some : m.child_bits ≢ 0
    pub item : slice_get (block t.nodes.lists m.children) (place m.child_bits c) ≡ Some n

  pub is_child : (t : Trie T) (m : Node) (c : ℕ) (n : Node) → child t m c ≡ Some n → IsChild t m c n
  is_child t m c n e = of (bit_at m.child_bits c) refl (bit_at-lt m.child_bits c)
    where
      by_place : cond (bit_at m.child_bits c == 1) (slice_get (items_of t.nodes.lists m.child_bits m.children) (place m.child_bits c)) None ≡ Some n
      by_place = sym (picked-place m.child_bits (items_of t.nodes.lists m.child_bits m.children) c) ∙ e

      of : (d : ℕ) → bit_at m.child_bits c ≡ d → d < 2 → IsChild t m c n
      of zero z l = let none : None ≡ Some n = ap (λ k. cond (k == 1) (slice_get (items_of t.nodes.lists m.child_bits m.children) (place m.child_bits c)) None) (sym z) ∙ by_place in absurd cc
      of (suc (suc d)) z l = absurd (omega arith)
      of (suc zero) z l =
          let read : slice_get (items_of t.nodes.lists m.child_bits m.children) (place m.child_bits c) ≡ Some n = ap (λ k. cond (k == 1) (slice_get (items_of t.nodes.lists m.child_bits m.children) (place m.child_bits c)) None) (sym z) ∙ by_place in
          let some : m.child_bits ≢ 0 = bits_some m.child_bits c z in
          record { set = z; some = some; item = ap (λ xs. slice_get xs (place m.child_bits c)) (sym (items_some t.nodes.lists m.child_bits m.children some)) ∙ read }

  -- ---- numbers name positions

  pub number_zero : (t : Trie T) → number_at t [] ≡ Some 0
  unfolding number_below
  number_zero t = refl

  pub node_root : (t : Trie T) → node_at t [] ≡ Some t.root
  unfolding node_below
  node_root t = refl

  -- what the number of a position tells
  pub record IsNumbered (t : Trie T) (p : KeyBits) (a : ℕ) (n : Node) : Type 0 where
    pub here : node_at t p ≡ Some n
    pub named : numbered t a ≡ Some n
    pub limit : a ≤ 2 ^ 37

  pub data Standing (t : Trie T) (p : KeyBits) (a : ℕ) (n : Node) : Type 0 where
    at_root : p ≡ [] → a ≡ 0 → t.root ≡ n → Standing t p a n
    at_child : (q c : KeyBits) (m : Node) → length c ≡ 5 → p ≡ q ++ c → node_at t q ≡ Some m → child t m (number c) ≡ Some n → a ≡ child_number m (number c) → Standing t p a n

  pub record Stands (t : Trie T) (p : KeyBits) (a : ℕ) : Type 0 where
    pub node : Node
    pub how : Standing t p a node

  pub stands_at : (t : Trie T) (p : KeyBits) (a : ℕ) → number_at t p ≡ Some a → Stands t p a
  unfolding number_below
  stands_at t p a e = of (length p % 5) refl
    where
      first : p ≡ [] → Stands t p a
      first z = record { node = t.root; how = at_root z (same_Some a 0 (sym e ∙ ap (number_at t) z)) refl }

      later : (q c : KeyBits) → length c ≡ 5 → p ≡ q ++ c → (o : Option Node) → node_at t q ≡ o → Stands t p a
      later q c five z None h =
          let none : number_at t p ≡ None = ap (number_at t) z ∙ number-step t t.root 0 q c five ∙ ap (option_and_then (λ m. step_number t m (number c))) h in absurd cc
      later q c five z (Some m) h = further (child t m (number c)) refl
        where
          step : number_at t p ≡ step_number t m (number c)
          step = ap (number_at t) z ∙ number-step t t.root 0 q c five ∙ ap (option_and_then (λ m. step_number t m (number c))) h

          further : (o : Option Node) → child t m (number c) ≡ o → Stands t p a
          further None y = let none : number_at t p ≡ None = step ∙ ap (option_and_then (λ k. Some (child_number m (number c)))) y in absurd cc
          further (Some n) y =
              let some : number_at t p ≡ Some (child_number m (number c)) = step ∙ ap (option_and_then (λ k. Some (child_number m (number c)))) y in
              record { node = n; how = at_child q c m five z h y (same_Some a _ (sym e ∙ some)) }

      of : (r : ℕ) → length p % 5 ≡ r → Stands t p a
      of zero z = elim (split p z) [ top y ↦ first y | under q c five y ↦ later q c five y (node_at t q) refl ]
      of (suc r) z = let none = number-off t t.root 0 p (λ y. omega (arith, z, y)) in absurd cc

  numbered_child : (t : Trie T) (m : Node) (c a : ℕ) (n : Node) → m.children < 2 ^ 32 → c < 32 → child t m c ≡ Some n → a ≡ child_number m c → (numbered t a ≡ Some n) × (a ≤ 2 ^ 37)
  numbered_child t m c a n within small e is =
      let known = is_child t m c n e in
      let low = place_small m.child_bits c in
      let block_is : (a - 1) / 32 ≡ m.children = omega (arith, is, low, small) in
      let place_is : (a - 1) % 32 ≡ place m.child_bits c = omega (arith, is, low, small) in
      let later : a ≢ 0 = (λ z. omega (arith, is, z)) in
      (numbered_later t a later ∙ (λ j. slice_get (block t.nodes.lists (block_is j)) (place_is j)) ∙ known.item, omega (arith, is, low, small, within))

  pub number_tells : (t : Trie T) → IsTrie t → (p : KeyBits) (a : ℕ) → number_at t p ≡ Some a → (n : Node) × IsNumbered t p a n
  unfolding node_below
  number_tells t trie p a e = of (stands_at t p a e)
    where
      of : Stands t p a → (n : Node) × IsNumbered t p a n
      of s = elim s.how [
        | at_root z first is ↦ (
          s.node,
          record {
            here = ap (node_at t) z ∙ ap Some is;
            named = ap (numbered t) first ∙ ap Some is;
            limit = omega (arith, first);
          },
        )
        | at_child q c m five z h y is ↦
            let node = trie.each q m h in
            let both = numbered_child t m (number c) a s.node node.children_within (slot_small c five) y is in
            (s.node, record { here = ap (node_at t) z ∙ child_below t q c m five h ∙ y; named = both.0; limit = both.1 })
      ]

  pub number_of_node : (t : Trie T) (p : KeyBits) (n : Node) → node_at t p ≡ Some n → IsSome (number_at t p)
  unfolding number_below
  number_of_node t p n e = elim (split p (kept_length t p n e)) [
    | top z ↦ ap (λ k. is_some (number_at t k)) z
    | under q c five z ↦
        let above = above_of t q c n five (ap (node_at t) (sym z) ∙ e) in
        ap (λ k. is_some (number_at t k)) z ∙ ap is_some (child_number_below t q c above.above n five above.here above.is_child)
  ]

  -- a number names one position
  pub number_apart : (t : Trie T) → IsTrie t → (p q : KeyBits) (a : ℕ) → number_at t p ≡ Some a → number_at t q ≡ Some a → p ≡ q
  number_apart t trie p q a e f = of (stands_at t p a e) (stands_at t q a f)
    where
      both : (u c : KeyBits) (m : Node) (n : Node) (v d : KeyBits) (k : Node) (l : Node) → length c ≡ 5 → length d ≡ 5 → node_at t u ≡ Some m → node_at t v ≡ Some k → child t m (number c) ≡ Some n → child t k (number d) ≡ Some l
          → child_number m (number c) ≡ child_number k (number d) → u ++ c ≡ v ++ d
      both u c m n v d k l five_c five_d hu hv yc yd same =
          let known_c = is_child t m (number c) n yc in
          let known_d = is_child t k (number d) l yd in
          let low_c = place_small m.child_bits (number c) in
          let low_d = place_small k.child_bits (number d) in
          let small_c = slot_small c five_c in
          let small_d = slot_small d five_d in
          let blocks : m.children ≡ k.children = omega (arith, same, low_c, low_d, small_c, small_d) in
          let places : place m.child_bits (number c) ≡ place k.child_bits (number d) = omega (arith, same, low_c, low_d, small_c, small_d) in
          let fronts = trie.own_children u v m k hu hv known_c.some known_d.some blocks in
          let nodes : m ≡ k = same_Some m k (sym hu ∙ ap (node_at t) fronts ∙ hv) in
          let bits : m.child_bits ≡ k.child_bits = (λ j. (nodes j).child_bits) in
          let slots = place_tells m.child_bits (number c) (number d) known_c.set (ap (λ b. bit_at b (number d)) bits ∙ known_d.set) (places ∙ ap (λ b. place b (number d)) (sym bits)) in
          let ends : c ≡ d = sym (low_bits-number c) ∙ (λ j. low_bits ((five_c ∙ sym five_d) j) (slots j)) ∙ low_bits-number d in
          (λ j. fronts j ++ ends j)

      of : Stands t p a → Stands t q a → p ≡ q
      of s r = elim s.how [
        | at_root z first is ↦ elim r.how [
          | at_root y second same ↦ z ∙ sym y
          | at_child v d k five_d y hv yd same ↦ absurd (omega (arith, first, same))
        ]
        | at_child u c m five_c z hu yc is ↦ elim r.how [
          | at_root y second same ↦ absurd (omega (arith, second, is))
          | at_child v d k five_d y hv yd same ↦ z ∙ both u c m s.node v d k r.node five_c five_d hu hv yc yd (sym is ∙ same) ∙ sym y
        ]
      ]
