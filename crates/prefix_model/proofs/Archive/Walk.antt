-- Reading a family entry by entry.
use Rattle.std.proofs.Common.{◌≡◌, ◌⊎◌, ℕ, ◌≤◌, Bool, true, false, cond, List, [], ◌∷◌, ◌++◌, length, map, take, drop, filter, refl, sym, ap, ◌∙◌, subst, arith, inl, inr, Option, Some, None, append_assoc}
use Rattle.std.specs.Prelude.{is_some, ◌||◌}
use Rattle.std.specs.List.{zip, AllByRecursion}
use Rattle.std.specs.Ordering.{eq_by_cmp}
use Rattle.std.specs.FinMap.{find}
use Rattle.std.specs.FinMap.Entries.{is_some-find}
use Rattle.std.proofs.lemmas.List.{map-append, take-append-drop, length-append}
use Rattle.prefix_model.specs.Keys.{KeyBits, key_cmp, same_key, stands_in}
use Rattle.prefix_model.specs.Positions.{NodeRecord, data_places, child_places, bits_of, count_true}
use Rattle.prefix_model.specs.FirstCause.{marked}
use Rattle.prefix_model.specs.Reading.{child_keys, entries_read}
use Rattle.prefix_model.proofs.KeyLemmas.{same_key-same, same_key-itself, all_append, any_same, tests_same, or_true, in_left, in_right, or_cases}
use Rattle.prefix_model.proofs.Archive.Places.{Trie, sub, short, in_data, in_children}
use Rattle.prefix_model.proofs.Archive.Count.{Narrow, has}
use Rattle.prefix_model.proofs.Archive.Tries.{Node, Pairs, root, children, Grows}
use Rattle.prefix_model.proofs.Archive.Scan.{shape_of, marks_in}
use Rattle.prefix_model.proofs.Archive.Filled.{fill, behind, length-behind, nodes_from}
use Rattle.prefix_model.proofs.Order.{key_total, key_exact}
use Rattle.prefix_model.proofs.Archive.Levels.{has_from}
use Rattle.prefix_model.proofs.Archive.Sound.{pairs_append}

few : (x : ℕ) → length (bits_of 31 x) ≤ length data_places
unfolding data_places
few x = omega arith

module _ {V : Type 0} where
  abbrev entries_at : KeyBits → List KeyBits → List (Option V) → List (KeyBits × V)
  entries_at p [] os = []
  entries_at p (s ∷ ss) [] = []
  entries_at p (s ∷ ss) (None ∷ os) = entries_at p ss os
  entries_at p (s ∷ ss) (Some v ∷ os) = (p ++ s, v) ∷ entries_at p ss os

  -- the entries of nodes
  abbrev pub walk : List KeyBits → List (Node V) → List (KeyBits × V)
  walk ps [] = []
  walk [] (nd ∷ nds) = []
  walk (p ∷ ps) (nd ∷ nds) = entries_at p data_places nd.values ++ walk (ps ++ map (λ c. p ++ c) (marked child_places nd.kids)) nds

  abbrev keys_of : List (KeyBits × V) → List KeyBits
  keys_of es = map (λ e. e.0) es

  -- ---- from records and values

  zip_fill : (p : KeyBits) (ss : List KeyBits) (bs : List Bool) (vs : List V) → count_true bs ≤ length vs → zip (map (λ s. p ++ s) (marked ss bs)) vs ≡ entries_at p ss (fill bs vs)
  zip_fill p [] bs vs h = refl
  zip_fill p (s ∷ ss) [] vs h = refl
  zip_fill p (s ∷ ss) (false ∷ bs) vs h = zip_fill p ss bs vs (omega arith)
  zip_fill p (s ∷ ss) (true ∷ bs) [] h = absurd (omega arith)
  zip_fill p (s ∷ ss) (true ∷ bs) (v ∷ vs) h = ap (λ r. (p ++ s, v) ∷ r) (zip_fill p ss bs vs (omega arith))

  drop_behind : (p : KeyBits) (ss : List KeyBits) (bs : List Bool) (vs : List V) → length bs ≤ length ss → count_true bs ≤ length vs → drop (length (map (λ s. p ++ s) (marked ss bs))) vs ≡ behind bs vs
  drop_behind p [] [] vs l h = refl
  drop_behind p [] (b ∷ bs) vs l h = absurd (omega arith)
  drop_behind p (s ∷ ss) [] vs l h = refl
  drop_behind p (s ∷ ss) (false ∷ bs) vs l h = drop_behind p ss bs vs (omega arith) (omega arith)
  drop_behind p (s ∷ ss) (true ∷ bs) [] l h = absurd (omega arith)
  drop_behind p (s ∷ ss) (true ∷ bs) (v ∷ vs) l h = drop_behind p ss bs vs (omega arith) (omega arith)

  -- the entries that are read are those that a walk over the nodes meets
  pub read_walk : (ps : List KeyBits) (rs : List NodeRecord) (vs : List V) → marks_in (map shape_of rs) ≤ length vs → entries_read ps rs vs ≡ walk ps (nodes_from (map shape_of rs) vs)
  read_walk ps [] vs h = refl
  read_walk [] (r ∷ rs) vs h = refl
  read_walk (p ∷ ps) (r ∷ rs) vs h =
      let bs = bits_of 31 r.data_bits in
      let len = length-behind bs vs (omega arith) in
      λ i. zip_fill p data_places bs vs (omega arith) i
      ++ (ap (entries_read (ps ++ child_keys p r) rs) (drop_behind p data_places bs vs (few r.data_bits) (omega arith)) ∙ read_walk (ps ++ child_keys p r) rs (behind bs vs) (omega arith)) i

module _ {V : Type 0} (w : ℕ) (f : Trie V) (narrow : Narrow w f) where
  -- the trie holds each of these entries
  abbrev pub AllRight : List (KeyBits × V) → Type 0
  AllRight es = AllByRecursion (λ (e : KeyBits × V). f e.0 ≡ Some e.1) es

  abbrev StandAt : List KeyBits → List (Trie V) → Type 0
  StandAt ps ts = Pairs (λ (p : KeyBits) (t : Trie V). t ≡ sub f p) ps ts

  right_at : (p : KeyBits) (ss : List KeyBits) → AllRight (entries_at p ss (map (λ s. f (p ++ s)) ss))
  right_at p [] = tt
  right_at p (s ∷ ss) =
      elim (f (p ++ s)) as (λ o. f (p ++ s) ≡ o → AllRight (entries_at p (s ∷ ss) (o ∷ map (λ s. f (p ++ s)) ss))) [ None ↦ λ e. right_at p ss | Some v ↦ λ e. (e, right_at p ss) ] refl

  children_stand : (p : KeyBits) (cs : List KeyBits) → StandAt (map (λ c. p ++ c) (marked cs (map (λ c. has w (sub (sub f p) c)) cs))) (filter (has w) (map (sub (sub f p)) cs))
  children_stand p [] = tt
  children_stand p (c ∷ cs) =
      elim (has w (sub (sub f p) c)) as (λ b. StandAt (map (λ c. p ++ c) (cond b (c ∷ marked cs (map (λ c. has w (sub (sub f p) c)) cs)) (marked cs (map (λ c. has w (sub (sub f p) c)) cs))))
      (cond b (sub (sub f p) c ∷ filter (has w) (map (sub (sub f p)) cs)) (filter (has w) (map (sub (sub f p)) cs)))) [
        | true ↦ ((λ i k. f (sym (append_assoc p c k) i)), children_stand p cs)
        | false ↦ children_stand p cs
      ]

  kid_keys : KeyBits → List KeyBits
  kid_keys p = map (λ c. p ++ c) (marked child_places (root w (sub f p)).kids)

  next_stand : (p : KeyBits) (ps : List KeyBits) (t : Trie V) (ts : List (Trie V)) → t ≡ sub f p → StandAt ps ts → StandAt (ps ++ kid_keys p) (ts ++ children w t)
  unfolding kid_keys
  next_stand p ps t ts e h = pairs_append (λ (p : KeyBits) (t : Trie V). t ≡ sub f p) ps (kid_keys p) ts (children w t) h (subst (λ u. StandAt (kid_keys p) (children w u)) (sym e) (children_stand p child_places))

  node_path : (p : KeyBits) (t : Trie V) (nd : Node V) → t ≡ sub f p → root w t ≡ nd → root w (sub f p) ≡ nd
  node_path p t nd e g = ap (root w) (sym e) ∙ g

  -- a walk meets entries of the trie only
  pub walk_right : (ps : List KeyBits) (ts : List (Trie V)) (nds : List (Node V)) → StandAt ps ts → Grows w ts nds → AllRight (walk ps nds)
  unfolding kid_keys
  walk_right ps ts [] h g = tt
  walk_right [] ts (nd ∷ nds) h g = tt
  walk_right (p ∷ ps) [] (nd ∷ nds) h g = absurd h
  walk_right (p ∷ ps) (t ∷ ts) (nd ∷ nds) h g =
      subst (λ (x : Node V). AllRight (entries_at p data_places x.values ++ walk (ps ++ map (λ c. p ++ c) (marked child_places x.kids)) nds)) (node_path p t nd h.0 g.0)
      (all_append (λ (e : KeyBits × V). f e.0 ≡ Some e.1) (entries_at p data_places (map (λ s. f (p ++ s)) data_places)) (walk (ps ++ kid_keys p) nds) (right_at p data_places)
      (walk_right (ps ++ kid_keys p) (ts ++ children w t) nds (next_stand p ps t ts h.0 h.1) g.1))

  at_holds : (p k : KeyBits) (v : V) (ss : List KeyBits) → stands_in ss k ≡ true → f (p ++ k) ≡ Some v → stands_in (keys_of (entries_at p ss (map (λ s. f (p ++ s)) ss))) (p ++ k) ≡ true
  at_holds p k v [] h e = cc
  at_holds p k v (s ∷ ss) h e =
      elim (or_cases (same_key k s) (stands_in ss k) h) [
        | inl same ↦
            let eq : k ≡ s = same_key-same k s same in
            subst (λ l. stands_in (keys_of (entries_at p (l ∷ ss) (f (p ++ l) ∷ map (λ s. f (p ++ s)) ss))) (p ++ k) ≡ true) eq
            (subst (λ o. stands_in (keys_of (entries_at p (k ∷ ss) (o ∷ map (λ s. f (p ++ s)) ss))) (p ++ k) ≡ true) (sym e) (ap (λ b. b || stands_in (keys_of (entries_at p ss (map (λ s. f (p ++ s)) ss))) (p ++ k)) (same_key-itself (p ++ k))))
        | inr later ↦
            let ih = at_holds p k v ss later e in
            elim (f (p ++ s)) as (λ o. stands_in (keys_of (entries_at p (s ∷ ss) (o ∷ map (λ s. f (p ++ s)) ss))) (p ++ k) ≡ true) [ None ↦ ih | Some x ↦ ap (λ b. same_key (p ++ k) (p ++ s) || b) ih ∙ or_true (same_key (p ++ k) (p ++ s)) ]
      ]

  kid_stands : (p c : KeyBits) (cs : List KeyBits) → stands_in cs c ≡ true → has w (sub (sub f p) c) ≡ true → stands_in (map (λ c. p ++ c) (marked cs (map (λ c. has w (sub (sub f p) c)) cs))) (p ++ c) ≡ true
  kid_stands p c [] h e = cc
  kid_stands p c (d ∷ cs) h e =
      let rest = marked cs (map (λ c. has w (sub (sub f p) c)) cs) in
      elim (or_cases (same_key c d) (stands_in cs c) h) [
        | inl same ↦
            let eq : c ≡ d = same_key-same c d same in
            ap (λ b. stands_in (map (λ c. p ++ c) (cond b (d ∷ rest) rest)) (p ++ c)) (ap (λ l. has w (sub (sub f p) l)) (sym eq) ∙ e) ∙ ap (λ b. b || stands_in (map (λ c. p ++ c) rest) (p ++ c)) (ap (λ l. same_key (p ++ c) (p ++ l)) (sym eq) ∙ same_key-itself (p ++ c))
        | inr later ↦
            let ih = kid_stands p c cs later e in
            elim (has w (sub (sub f p) d)) as (λ b. stands_in (map (λ c. p ++ c) (cond b (d ∷ rest) rest)) (p ++ c) ≡ true) [ true ↦ ap (λ b. same_key (p ++ c) (p ++ d) || b) ih ∙ or_true (same_key (p ++ c) (p ++ d)) | false ↦ ih ]
      ]

  holds_append : (es fs : List (KeyBits × V)) (q : KeyBits) → (stands_in (keys_of es) q ≡ true) ⊎ (stands_in (keys_of fs) q ≡ true) → stands_in (keys_of (es ++ fs)) q ≡ true
  holds_append es fs q (inl h) = ap (λ l. stands_in l q) (map-append (λ e. e.0) es fs) ∙ in_left (keys_of es) (keys_of fs) q h
  holds_append es fs q (inr h) = ap (λ l. stands_in l q) (map-append (λ e. e.0) es fs) ∙ in_right (keys_of es) (keys_of fs) q h

  -- and each of them
  pub walk_holds : (ps : List KeyBits) (ts : List (Trie V)) (nds : List (Node V)) → StandAt ps ts → Grows w ts nds → (q k : KeyBits) (v : V) → stands_in ps q ≡ true → f (q ++ k) ≡ Some v → stands_in (keys_of (walk ps nds)) (q ++ k) ≡ true
  unfolding kid_keys
  walk_holds [] ts nds h g q k v e s = cc
  walk_holds (p ∷ ps) [] nds h g q k v e s = absurd h
  walk_holds (p ∷ ps) (t ∷ ts) [] h g q k v e s = absurd g
  walk_holds (p ∷ ps) (t ∷ ts) (nd ∷ nds) h g q k v e s =
      let ih = walk_holds (ps ++ kid_keys p) (ts ++ children w t) nds (next_stand p ps t ts h.0 h.1) g.1 in
      subst (λ (x : Node V). stands_in (keys_of (entries_at p data_places x.values ++ walk (ps ++ map (λ c. p ++ c) (marked child_places x.kids)) nds)) (q ++ k) ≡ true) (node_path p t nd h.0 g.0)
      (holds_append (entries_at p data_places (map (λ s. f (p ++ s)) data_places)) (walk (ps ++ kid_keys p) nds) (q ++ k)
      (elim (or_cases (same_key q p) (stands_in ps q) e) [
        | inl same ↦ here (same_key-same q p same) ih
        | inr later ↦ inr (ih q k v (in_left ps (kid_keys p) q later) s)
      ]))
    where
      here : q ≡ p → ((q k : KeyBits) (v : V) → stands_in (ps ++ kid_keys p) q ≡ true → f (q ++ k) ≡ Some v → stands_in (keys_of (walk (ps ++ kid_keys p) nds)) (q ++ k) ≡ true)
          → (stands_in (keys_of (entries_at p data_places (map (λ s. f (p ++ s)) data_places))) (q ++ k) ≡ true) ⊎ (stands_in (keys_of (walk (ps ++ kid_keys p) nds)) (q ++ k) ≡ true)
      here eq ih = go (short 5 k) refl
        where
          stored : f (p ++ k) ≡ Some v
          stored = ap (λ l. f (l ++ k)) (sym eq) ∙ s

          whole : (p ++ take 5 k) ++ drop 5 k ≡ p ++ k
          whole = append_assoc p (take 5 k) (drop 5 k) ∙ ap (λ l. p ++ l) (take-append-drop 5 k)

          go : (b : Bool) → short 5 k ≡ b
              → (stands_in (keys_of (entries_at p data_places (map (λ s. f (p ++ s)) data_places))) (q ++ k) ≡ true) ⊎ (stands_in (keys_of (walk (ps ++ kid_keys p) nds)) (q ++ k) ≡ true)
          go true e = inl (ap (λ l. stands_in (keys_of (entries_at p data_places (map (λ s. f (p ++ s)) data_places))) (l ++ k)) eq ∙ at_holds p k v data_places (in_data k e) stored)
          go false e =
              let c = take 5 k in
              let some : f ((p ++ c) ++ drop 5 k) ≡ Some v = ap f whole ∙ stored in
              let below : is_some (sub (sub f p) c (drop 5 k)) ≡ true = ap is_some (ap f (sym (append_assoc p c (drop 5 k))) ∙ some) in
              let there : has w (sub (sub f p) c) ≡ true = has_from w (sub (sub f p) c) (λ l n. narrow (p ++ (c ++ l)) (omega (arith, length-append p (c ++ l), length-append c l))) (drop 5 k) below in
              inr (ap (stands_in (keys_of (walk (ps ++ kid_keys p) nds))) (ap (λ l. l ++ k) eq ∙ sym whole) ∙ ih (p ++ c) (drop 5 k) v (in_right ps (kid_keys p) (p ++ c) (kid_stands p c child_places (in_children k e) there)) some)

  -- the walk from the root meets entries of the trie only
  pub walk_all_right : (nds : List (Node V)) → Grows w (f ∷ []) nds → AllRight (walk ([] ∷ []) nds)
  walk_all_right nds g = walk_right ([] ∷ []) (f ∷ []) nds (refl, tt) g

  -- what the walk from the root finds
  pub walk_finds : (nds : List (Node V)) → Grows w (f ∷ []) nds → (q : KeyBits) → find key_cmp q (walk ([] ∷ []) nds) ≡ f q
  walk_finds nds g q = go (find key_cmp q es) (f q) refl refl
    where
      es : List (KeyBits × V)
      es = walk ([] ∷ []) nds

      at_root : StandAt ([] ∷ []) (f ∷ [])
      at_root = (refl, tt)

      right : (fs : List (KeyBits × V)) → AllRight fs → (v : V) → find key_cmp q fs ≡ Some v → f q ≡ Some v
      right [] h v e = cc
      right (x ∷ fs) h v e =
          elim (eq_by_cmp key_cmp q x.0) as (λ b. eq_by_cmp key_cmp q x.0 ≡ b → cond b (Some x.1) (find key_cmp q fs) ≡ Some v → f q ≡ Some v) [
            | true ↦ λ p r. ap f (same_key-same q x.0 (sym (tests_same key_cmp key_total key_exact q x.0) ∙ p)) ∙ h.0 ∙ r
            | false ↦ λ p r. right fs h.1 v r
          ] refl e

      go : (a b : Option V) → find key_cmp q es ≡ a → f q ≡ b → find key_cmp q es ≡ f q
      go (Some v) b p r = p ∙ sym (right es (walk_right ([] ∷ []) (f ∷ []) nds at_root g) v p)
      go None None p r = p ∙ sym r
      go None (Some v) p r =
          let held = walk_holds ([] ∷ []) (f ∷ []) nds at_root g [] q v refl r in
          let some = is_some-find key_cmp q es ∙ any_same _ _ (keys_of es) (λ l. tests_same key_cmp key_total key_exact q l) ∙ held in
          let none = ap is_some p in absurd cc
