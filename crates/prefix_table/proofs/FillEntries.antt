-- The entries of a node, stored one after the other.
use Rattle.std.specs.Prelude.{◌≡◌, ℕ, zero, suc, ◌+◌, ◌/◌, ◌%◌, ◌^◌, ◌<◌, ◌≤◌, ◌==◌, ◌||◌, not, Bool, true, false, cond, List, [], ◌∷◌, ◌++◌, length, map, drop, Option, Some, None, is_some, slice_get}
use Rattle.std.specs.List.{zip, AllByRecursion}
use Rattle.std.specs.Option.{option_map}
use Rattle.std.specs.FinMap as map_of
use Rattle.std.proofs.Common.{refl, sym, ap, ◌∙◌, arith}
use Rattle.std.proofs.lemmas.Option.{same_Some}
use lib.Count.{ones, ones_step}
use Rattle.prefix_model.specs.Keys.{KeyBits, same_key, stands_in}
use Rattle.prefix_model.specs.Tables.{KeyMap}
use Rattle.prefix_model.specs.Positions.{data_places, bits_of}
use Rattle.prefix_model.specs.Building.{insert_all}
use Rattle.prefix_model.specs.FirstCause.{marked}
use Rattle.prefix_model.specs.Slots.{picked, index_of, apart}
use Rattle.prefix_model.proofs.KeyLemmas.{same_key-itself, or_true, both_true}
use Rattle.prefix_model.proofs.Order.{key_total}
use Rattle.prefix_model.proofs.Bitmaps.SlotLaws.{picked-none, ones_zero}
use Rattle.prefix_model.proofs.KeyLists.{tied-same_key, slice_get-index_of, places_apart, place_index, not_same, not_one}
use Rattle.prefix_model.proofs.Fronts.{same_parts}
use Rattle.prefix_model.proofs.KeyPlaces.{places_short, place_at}
use Rattle.prefix_model.proofs.Bitmaps.NodeBits.{places_count}
use Rattle.prefix_table.specs.Tries.{bit_of}
use Rattle.prefix_table.specs.Fills.{node_entries}

-- what holds of each item holds of all
all_items : {A : Type 0} (P : A → Type 0) (xs : List A) → ((i : ℕ) (x : A) → slice_get xs i ≡ Some x → P x) → AllByRecursion P xs
all_items P [] h = tt
all_items P (x ∷ xs) h = (h 0 x refl, all_items P xs (λ i y e. h (suc i) y e))

not_here : (b : Bool) (o : Option ℕ) → is_some (cond b (Some 0) (option_map suc o)) ≡ false → (b ≡ false) × (is_some o ≡ false)
not_here true o e = cc
not_here false None e = (refl, refl)
not_here false (Some i) e = cc

bit_is : (i : ℕ) (s : KeyBits) → slice_get data_places i ≡ Some s → bit_of s ≡ i
bit_is i s is = same_Some _ _ (sym (place_index s (places_short i s is)) ∙ slice_get-index_of data_places s i places_apart is)

module _ {T : Type 0} (p : KeyBits) where
  -- the entries at these places, by the bits of a number
  abbrev entries_at : List KeyBits → ℕ → ℕ → List T → List (KeyBits × T)
  entries_at ps n x vs = zip (map (λ s. p ++ s) (marked ps (bits_of n x))) vs

  -- the same, where the first place is taken or not
  abbrev with_first : ℕ → KeyBits → List KeyBits → List T → List (KeyBits × T)
  with_first d q rest vs = zip (map (λ s. p ++ s) (cond (d == 1) (q ∷ rest) rest)) vs

  abbrev keys_at : List (KeyBits × T) → List KeyBits
  keys_at es = map (λ e. e.0) es

  all_picked : (g : KeyBits → Option T) (ps : List KeyBits) (n x : ℕ) (vs : List T) → ((i : ℕ) (s : KeyBits) → slice_get ps i ≡ Some s → g (p ++ s) ≡ picked x vs i) → AllByRecursion (λ e. g e.0 ≡ Some e.1) (entries_at ps n x vs)
  unfolding picked
  all_picked g [] n x vs h = tt
  all_picked g (q ∷ ps) zero x vs h = tt
  all_picked g (q ∷ ps) (suc n) x vs h = go (λ ws k. all_picked g ps n (x / 2) ws k) (x % 2) vs (omega arith) refl h
    where
      Rest : List T → Type 0
      Rest ws = ((i : ℕ) (s : KeyBits) → slice_get ps i ≡ Some s → g (p ++ s) ≡ picked (x / 2) ws i) → AllByRecursion (λ e. g e.0 ≡ Some e.1) (entries_at ps n (x / 2) ws)

      go : ((ws : List T) → Rest ws) → (d : ℕ) (ws : List T) → d < 2 → x % 2 ≡ d → ((i : ℕ) (s : KeyBits) → slice_get (q ∷ ps) i ≡ Some s → g (p ++ s) ≡ picked x ws i) → AllByRecursion (λ e. g e.0 ≡ Some e.1) (with_first d q (marked ps (bits_of n (x / 2))) ws)
      go rest zero ws l e k = rest ws (λ i s a. k (suc i) s a ∙ ap (λ r. picked (x / 2) (drop r ws) i) e)
      go rest (suc zero) [] l e k = tt
      go rest (suc zero) (w ∷ ws) l e k = (k 0 q refl ∙ ap (λ r. cond (r == 1) (Some w) None) e, rest ws (λ i s a. k (suc i) s a ∙ ap (λ r. picked (x / 2) (drop r (w ∷ ws)) i) e))
      go rest (suc (suc d)) ws l e k = absurd (omega arith)

  stands_picked : (ps : List KeyBits) (n x : ℕ) (vs : List T) (b : ℕ) (d : KeyBits) (v : T) → length ps ≤ n → slice_get ps b ≡ Some d → picked x vs b ≡ Some v → stands_in (keys_at (entries_at ps n x vs)) (p ++ d) ≡ true
  unfolding picked
  stands_picked [] n x vs b d v l e h = cc
  stands_picked (q ∷ ps) zero x vs b d v l e h = absurd (omega arith)
  stands_picked (q ∷ ps) (suc n) x vs zero d v l e h = go (x % 2) vs (omega arith) h
    where
      rest : List KeyBits
      rest = marked ps (bits_of n (x / 2))

      go : (k : ℕ) (ws : List T) → k < 2 → cond (k == 1) (slice_get ws 0) None ≡ Some v → stands_in (keys_at (with_first k q rest ws)) (p ++ d) ≡ true
      go zero ws k f = cc
      go (suc zero) [] k f = cc
      go (suc zero) (w ∷ ws) k f =
          let same : q ≡ d = cc in
          ap (λ b. b || stands_in (keys_at (zip (map (λ s. p ++ s) rest) ws)) (p ++ d)) (ap (λ s. same_key (p ++ d) (p ++ s)) same ∙ same_key-itself (p ++ d))
      go (suc (suc k)) ws l f = absurd (omega arith)
  stands_picked (q ∷ ps) (suc n) x vs (suc b) d v l e h = go (λ ws f. stands_picked ps n (x / 2) ws b d v (omega arith) e f) (x % 2) vs (omega arith) h
    where
      others : List KeyBits
      others = marked ps (bits_of n (x / 2))

      go : ((ws : List T) → picked (x / 2) ws b ≡ Some v → stands_in (keys_at (entries_at ps n (x / 2) ws)) (p ++ d) ≡ true)
          → (k : ℕ) (ws : List T) → k < 2 → picked (x / 2) (drop k ws) b ≡ Some v → stands_in (keys_at (with_first k q others ws)) (p ++ d) ≡ true
      go rest zero ws k f = rest ws f
      go rest (suc zero) [] k f = absurd (let none : picked (x / 2) [] b ≡ None = picked-none (x / 2) b in let z : ◌≡◌ {A = Option T} None (Some v) = sym none ∙ f in cc)
      go rest (suc zero) (w ∷ ws) k f = ap (λ t. same_key (p ++ d) (p ++ q) || t) (rest ws f) ∙ or_true (same_key (p ++ d) (p ++ q))
      go rest (suc (suc k)) ws l f = absurd (omega arith)

  -- ---- how many they are

  still_none : (m : KeyMap T) (q : KeyBits) (v : T) (ps : List KeyBits) → is_some (index_of ps q) ≡ false → AllByRecursion (λ s. map_of.get m (p ++ s) ≡ None) ps → AllByRecursion (λ s. map_of.get (map_of.insert m (p ++ q) v) (p ++ s) ≡ None) ps
  still_none m q v [] a h = tt
  still_none m q v (s ∷ ps) a h =
      let away = not_here (same_key q s) (index_of ps q) a in
      let differ : same_key (p ++ s) (p ++ q) ≡ false = not_same (p ++ s) (p ++ q) (λ z. not_one q s away.0 (sym (same_parts p p s q refl z).1)) in
      (map_of.get-insert key_total m (p ++ q) v (p ++ s) ∙ ap (λ b. cond b (Some v) (map_of.get m (p ++ s))) (tied-same_key (p ++ s) (p ++ q) ∙ differ) ∙ h.0, still_none m q v ps away.1 h.1)

  counted_at : (m : KeyMap T) (ps : List KeyBits) (n x : ℕ) (vs : List T) → length ps ≡ n → x < 2 ^ n → length vs ≡ ones x → apart ps ≡ true → AllByRecursion (λ s. map_of.get m (p ++ s) ≡ None) ps
      → map_of.len (insert_all m (entries_at ps n x vs)) ≡ map_of.len m + length vs
  counted_at m [] zero x vs e l c a h =
      let none : x ≡ 0 = omega (arith, l) in
      let count = c ∙ ap ones none ∙ ones_zero in
      omega (arith, count)
  counted_at m [] (suc n) x vs e l c a h = absurd (omega (arith, e))
  counted_at m (q ∷ ps) zero x vs e l c a h = absurd (omega (arith, e))
  counted_at m (q ∷ ps) (suc n) x vs e l c a h =
      let half : x / 2 < 2 ^ n = omega (arith, l) in
      go (λ w ws r k. counted_at w ps n (x / 2) ws (omega (arith, e)) half r differ.1 k) (x % 2) vs (omega arith) refl c
    where
      differ : (not (is_some (index_of ps q)) ≡ true) × (apart ps ≡ true)
      differ = both_true (not (is_some (index_of ps q))) (apart ps) a

      bits : ones x ≡ x % 2 + ones (x / 2)
      bits = ones_step x

      not-true : (b : Bool) → not b ≡ true → b ≡ false
      not-true true z = cc
      not-true false z = refl

      go : ((w : KeyMap T) (ws : List T) → length ws ≡ ones (x / 2) → AllByRecursion (λ s. map_of.get w (p ++ s) ≡ None) ps → map_of.len (insert_all w (entries_at ps n (x / 2) ws)) ≡ map_of.len w + length ws)
          → (d : ℕ) (ws : List T) → d < 2 → x % 2 ≡ d → length ws ≡ ones x → map_of.len (insert_all m (with_first d q (marked ps (bits_of n (x / 2))) ws)) ≡ map_of.len m + length ws
      go rest zero ws k f r = rest m ws (omega (arith, r, bits, f)) h.1
      go rest (suc zero) [] k f r = absurd (omega (arith, r, bits, f))
      go rest (suc zero) (w ∷ ws) k f r =
          let more = rest (map_of.insert m (p ++ q) w) ws (omega (arith, r, bits, f)) (still_none m q w ps (not-true (is_some (index_of ps q)) differ.0) h.1) in
          let one : map_of.len (map_of.insert m (p ++ q) w) ≡ map_of.len m + 1 = map_of.len-insert key_total m (p ++ q) w ∙ ap (λ o. cond (is_some o) (map_of.len m) (map_of.len m + 1)) h.0 in
          omega (arith, more, one)
      go rest (suc (suc d)) ws k f r = absurd (omega arith)

  -- ---- all places of the node

  -- each entry is held, where the places are
  pub entries_held : (g : KeyBits → Option T) (bits : ℕ) (vs : List T) → ((s : KeyBits) → length s < 5 → g (p ++ s) ≡ picked bits vs (bit_of s)) → AllByRecursion (λ e. g e.0 ≡ Some e.1) (node_entries p bits vs)
  entries_held g bits vs h = all_picked g data_places 31 bits vs (λ i s is. h s (places_short i s is) ∙ ap (picked bits vs) (bit_is i s is))

  -- a place that holds a value is the place of an entry
  pub entry_stands : (bits : ℕ) (vs : List T) (d : KeyBits) (v : T) → length d < 5 → picked bits vs (bit_of d) ≡ Some v → stands_in (keys_at (node_entries p bits vs)) (p ++ d) ≡ true
  entry_stands bits vs d v short some = stands_picked data_places 31 bits vs (bit_of d) d v (let c = places_count in omega (arith, c)) (place_at d (length d) refl short) some

  -- and where the places held none, each is one more
  pub entries_counted : (m : KeyMap T) (bits : ℕ) (vs : List T) → bits < 2 ^ 31 → length vs ≡ ones bits → ((s : KeyBits) → length s < 5 → map_of.get m (p ++ s) ≡ None) → map_of.len (insert_all m (node_entries p bits vs)) ≡ map_of.len m + length vs
  entries_counted m bits vs small count none = counted_at m data_places 31 bits vs places_count small count places_apart (all_items (λ s. map_of.get m (p ++ s) ≡ None) data_places (λ i s is. none s (places_short i s is)))
