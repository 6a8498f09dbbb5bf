-- Nodes whose records are still to come: no key begins with two of them, and none that is stored with one.
use Rattle.std.proofs.Common.{◌≡◌, ◌≢◌, ℕ, zero, suc, ◌+◌, ◌%◌, ◌<◌, Bool, true, false, cond, List, [], ◌∷◌, ◌++◌, length, map, replicate, refl, sym, ap, ◌∙◌, subst, arith, append_assoc, length-append, Some, None}
use Rattle.std.specs.Prelude.{◌==◌}
use Rattle.std.specs.Int.{bit_at}
use Rattle.std.specs.List.{AllByRecursion, filter, zip, range_with_len}
use Rattle.std.specs.FinMap as finite
use Rattle.std.proofs.lemmas.List.{append_cancel_left}
use Rattle.prefix_model.specs.Keys.{KeyBits, key_cmp, low_bits, number}
use Rattle.prefix_model.specs.Masks.{set_bits}
use Rattle.prefix_model.specs.Tables.{KeyMap}
use Rattle.prefix_model.specs.Building.{insert_all}
use Rattle.prefix_model.proofs.Order.{key_total}
use Rattle.prefix_model.proofs.KeyLemmas.{all_append, all_filter}
use Rattle.prefix_model.proofs.KeyNumbers.{length-low_bits}
use Rattle.prefix_model.proofs.Fronts.{same_parts}
use Rattle.prefix_model.proofs.KeyPlaces.{places_short}
use Rattle.prefix_model.proofs.KeyLists.{tied-same_key, not_same}
use Rattle.prefix_model.proofs.KeyPieces.{number_five}
use Rattle.prefix_layout.specs.Reads.{set_places, set_children, keys_below}
use Rattle.prefix_layout.proofs.SetBits.{place, place_found, places_read, word_small, children_read, set_bits_small, all_weaker}

-- ---- lists

-- of each two items the earlier one stands so to the later one
abbrev pub Pairs : {A : Type 0} → (A → A → Type 0) → List A → Type 0
Pairs P [] = Unit {0}
Pairs P (x ∷ xs) = AllByRecursion (P x) xs × Pairs P xs

all_of : {A : Type 0} (P : A → Type 0) (xs : List A) → ((x : A) → P x) → AllByRecursion P xs
all_of P [] f = tt
all_of P (x ∷ xs) f = (f x, all_of P xs f)

all_mapped : {A B : Type 0} (P : B → Type 0) (f : A → B) (xs : List A) → AllByRecursion (λ x. P (f x)) xs → AllByRecursion P (map f xs)
all_mapped P f [] h = tt
all_mapped P f (x ∷ xs) h = (h.0, all_mapped P f xs h.1)

both_all : {A : Type 0} (P Q R : A → Type 0) (xs : List A) → ((x : A) → P x → Q x → R x) → AllByRecursion P xs → AllByRecursion Q xs → AllByRecursion R xs
both_all P Q R [] f h k = tt
both_all P Q R (x ∷ xs) f h k = (f x h.0 k.0, both_all P Q R xs f h.1 k.1)

pub all_replicated : {A : Type 0} (P : A → Type 0) (n : ℕ) (x : A) → P x → AllByRecursion P (replicate n x)
all_replicated P zero x h = tt
all_replicated P (suc n) x h = (h, all_replicated P n x h)

pairs_filter : {A : Type 0} (P : A → A → Type 0) (t : A → Bool) (xs : List A) → Pairs P xs → Pairs P (filter t xs)
pairs_filter P t [] h = tt
pairs_filter P t (x ∷ xs) h = elim (t x) as (λ b. Pairs P (cond b (x ∷ filter t xs) (filter t xs))) [ true ↦ (all_filter (P x) t xs h.0, pairs_filter P t xs h.1) | false ↦ pairs_filter P t xs h.1 ]

pairs_append : {A : Type 0} (P : A → A → Type 0) (xs ys : List A) → Pairs P xs → Pairs P ys → AllByRecursion (λ x. AllByRecursion (P x) ys) xs → Pairs P (xs ++ ys)
pairs_append P [] ys h k c = k
pairs_append P (x ∷ xs) ys h k c = (all_append (P x) xs ys h.0 c.0, pairs_append P xs ys h.1 k c.1)

all_over : (m a n : ℕ) → m < a → AllByRecursion (λ x. m < x) (range_with_len a n)
all_over m a zero l = tt
all_over m a (suc n) l = (l, all_over m (a + 1) n (omega arith))

pairs_range : (a n : ℕ) → Pairs (λ x y. x < y) (range_with_len a n)
pairs_range a zero = tt
pairs_range a (suc n) = (all_over a (a + 1) n (omega arith), pairs_range (a + 1) n)

pairs_set : (x : ℕ) → Pairs (λ a b. a < b) (set_bits x)
unfolding set_bits
pairs_set x = pairs_filter (λ a b. a < b) (λ b. bit_at x b == 1) (range_with_len 0 32) (pairs_range 0 32)

-- ---- keys that fork

-- no key begins with both
abbrev pub Forks : KeyBits → KeyBits → Type 0
Forks p q = (r s : KeyBits) → p ++ r ≡ q ++ s → ⊥

children_fork : (p : KeyBits) (a b : ℕ) → a < b → b < 32 → Forks (p ++ low_bits 5 a) (p ++ low_bits 5 b)
children_fork p a b less small r s e =
    let behind : low_bits 5 a ++ r ≡ low_bits 5 b ++ s = append_cancel_left p (low_bits 5 a ++ r) (low_bits 5 b ++ s) (sym (append_assoc p (low_bits 5 a) r) ∙ e ∙ append_assoc p (low_bits 5 b) s) in
    let one : low_bits 5 a ≡ low_bits 5 b = (same_parts (low_bits 5 a) (low_bits 5 b) r s (length-low_bits 5 a ∙ sym (length-low_bits 5 b)) behind).0 in
    let same : a ≡ b = sym (number_five a (omega arith)) ∙ ap number one ∙ number_five b small in
    omega (arith, same)

-- the children of a node
child_keys : KeyBits → List ℕ → List KeyBits
child_keys p bs = map (λ c. p ++ c) (map (low_bits 5) bs)

children_pairs : (p : KeyBits) (bs : List ℕ) → AllByRecursion (λ b. b < 32) bs → Pairs (λ a b. a < b) bs → Pairs Forks (child_keys p bs)
unfolding child_keys
children_pairs p [] small h = tt
children_pairs p (b ∷ bs) small h = (
  all_mapped (Forks (p ++ low_bits 5 b)) (λ c. p ++ c) (map (low_bits 5) bs) (all_mapped (λ c. Forks (p ++ low_bits 5 b) (p ++ c)) (low_bits 5) bs
      (both_all (λ c. b < c) (λ c. c < 32) (λ c. Forks (p ++ low_bits 5 b) (p ++ low_bits 5 c)) bs (λ c l k. children_fork p b c l k) h.0 small.1)),
  children_pairs p bs small.1 h.1,
)

below_forks : (p : KeyBits) (x : ℕ) → Pairs Forks (keys_below p x)
unfolding child_keys
below_forks p x = subst (λ cs. Pairs Forks (map (λ c. p ++ c) cs)) (sym (children_read x)) (children_pairs p (set_bits x) (set_bits_small x) (pairs_set x))

-- and each goes five bits on
children_long : (x : ℕ) → AllByRecursion (λ c. length c ≡ 5) (set_children x)
children_long x = subst (AllByRecursion (λ c. length c ≡ 5)) (sym (children_read x)) (all_mapped (λ c. length c ≡ 5) (low_bits 5) (set_bits x) (all_of (λ b. length (low_bits 5 b) ≡ 5) (set_bits x) (λ b. length-low_bits 5 b)))

pub places_few : (x : ℕ) → AllByRecursion (λ s. length s < 5) (set_places x)
places_few x = subst (AllByRecursion (λ s. length s < 5)) (sym (places_read x)) (all_mapped (λ s. length s < 5) place _ (all_weaker (λ b. b < 31) (λ b. length (place b) < 5) _ (λ b l. places_short b (place b) (place_found b l)) (word_small x)))

-- ---- entries of one node

module _ {V : Type 0} where
  -- a key of another node holds what it held
  held_elsewhere : (m : KeyMap V) (p : KeyBits) (ss : List KeyBits) (vs : List V) (k : KeyBits) → AllByRecursion (λ s. k ≢ p ++ s) ss → finite.get (insert_all m (zip (map (λ s. p ++ s) ss) vs)) k ≡ finite.get m k
  held_elsewhere m p [] vs k h = refl
  held_elsewhere m p (s ∷ ss) [] k h = refl
  held_elsewhere m p (s ∷ ss) (v ∷ vs) k h =
      held_elsewhere (finite.insert m (p ++ s) v) p ss vs k h.1
      ∙ finite.get-insert key_total m (p ++ s) v k
      ∙ ap (λ b. cond b (Some v) (finite.get m k)) (tied-same_key k (p ++ s) ∙ not_same k (p ++ s) h.0)

  -- no entry stands at or below a key
  abbrev pub IsFree : KeyMap V → KeyBits → Type 0
  IsFree m p = (r : KeyBits) → finite.get m (p ++ r) ≡ None

  -- the nodes that are waiting, with their depths
  pub record AreWaiting (ps : List KeyBits) (ds : List ℕ) (m : KeyMap V) : Type 0 where
    pub fives : AllByRecursion (λ d. d % 5 ≡ 0) ds
    pub forks : Pairs Forks ps
    pub free : AllByRecursion (IsFree m) ps

  pub root_waits : AreWaiting ([] ∷ []) (0 ∷ []) (finite.empty {X = V} {R = key_cmp})
  root_waits = record { fives = (refl, tt); forks = (tt, tt); free = ((λ r. finite.get-empty key_cmp r), tt) }

  -- after the first of them: its values are stored, and its children wait
  pub next_waiting : (p : KeyBits) (d : ℕ) (ps : List KeyBits) (ds : List ℕ) (x y n : ℕ) (vs : List V) (m : KeyMap V) → AreWaiting (p ∷ ps) (d ∷ ds) m
      → AreWaiting (ps ++ keys_below p y) (ds ++ replicate n (d + 5)) (insert_all m (zip (map (λ s. p ++ s) (set_places x)) vs))
  next_waiting p d ps ds x y n vs m h =
      let five = h.fives.0 in
      let others : AllByRecursion (λ q. IsFree after q) ps =
      both_all (Forks p) (IsFree m) (IsFree after) ps (λ q f free r. held_elsewhere m p (set_places x) vs (q ++ r) (all_of (λ s. (q ++ r) ≢ p ++ s) (set_places x) (λ s e. f s r (sym e))) ∙ free r) h.forks.0 h.free.1 in
      let children : AllByRecursion (IsFree after) (keys_below p y) =
      all_mapped (IsFree after) (λ c. p ++ c) (set_children y) (all_weaker (λ c. length c ≡ 5) (λ c. IsFree after (p ++ c)) (set_children y) (λ c five r.
      held_elsewhere m p (set_places x) vs ((p ++ c) ++ r) (all_weaker (λ s. length s < 5) (λ s. ((p ++ c) ++ r) ≢ p ++ s) (set_places x) (λ s few e. deeper c r s five few e) (places_few x))
      ∙ ap (finite.get m) (append_assoc p c r) ∙ h.free.0 (c ++ r)) (children_long y)) in
      record {
        fives = all_append (λ d. d % 5 ≡ 0) ds (replicate n (d + 5)) h.fives.1 (all_replicated (λ d. d % 5 ≡ 0) n (d + 5) (omega (arith, five)));
        forks = pairs_append Forks ps (keys_below p y) h.forks.1 (below_forks p y) (all_weaker (Forks p) (λ q. AllByRecursion (Forks q) (keys_below p y)) ps (λ q f.
            all_mapped (Forks q) (λ c. p ++ c) (set_children y) (all_of (λ c. Forks q (p ++ c)) (set_children y) (λ c r s e. f (c ++ s) r (sym (append_assoc p c s) ∙ sym e)))) h.forks.0);
        free = all_append (IsFree after) ps (keys_below p y) others children;
      }
    where
      after : KeyMap V
      after = insert_all m (zip (map (λ s. p ++ s) (set_places x)) vs)

      deeper : (c r s : KeyBits) → length c ≡ 5 → length s < 5 → (p ++ c) ++ r ≡ p ++ s → ⊥
      deeper c r s five few e =
          let behind = ap length (append_cancel_left p (c ++ r) s (sym (append_assoc p c r) ∙ e)) in
          let size = length-append c r in
          omega (arith, behind, size, five, few)
