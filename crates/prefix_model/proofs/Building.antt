-- Laws for readers and builders of tables, which insert entry by entry.
use Rattle.std.proofs.Common.{◌≡◌, ℕ, Bool, true, false, cond, T, List, [], ◌∷◌, ◌++◌, map, refl, sym, ap, ◌∙◌, subst, Option, Some, None}
use Rattle.std.specs.Prelude.{is_some, ◌||◌}
use Rattle.std.specs.Option.{option_or}
use Rattle.std.specs.List.{list_any, flat_map, AllByRecursion}
use Rattle.std.specs.declared.cmp.Ordering.{Ordering}
use Rattle.std.specs.Ordering.{eq_by_cmp, is_eq, ordering_reverse}
use Rattle.std.specs.Cmp.{tied_itself}
use Rattle.std.specs.FinMap as map
use Rattle.std.specs.FinMap.{find, is_sorted}
use Rattle.std.specs.FinMap.Entries.{below_all, is_some-find}
use Rattle.prefix_model.specs.Keys.{KeyBits, key_cmp, shorter_first, same_key, stands_in}
use Rattle.prefix_model.specs.Tables.{KeyMap, Values, after, answer, answer_under}
use Rattle.prefix_model.specs.Positions.{PositionSet, positions_in, position_set, positions_of_key, insert_positions, with_positions, root_alone}
use Rattle.prefix_model.specs.Spelling.{Codec, Spells}
use Rattle.prefix_model.specs.Reading.{family_entries}
use Rattle.prefix_model.specs.LeastTable.{placed, least_table}
use Rattle.prefix_model.specs.Building.{insert_all}
use Rattle.prefix_model.proofs.Order.{key_total, key_exact, shorter_total, shorter_exact}
use Rattle.prefix_model.proofs.KeyLemmas.{holds_first, holds_second, lt_to_less, or_swap, or_false, flat_map_same, stands_in-keys, same_key-same, tests_same, any_same, any_append}
use Rattle.prefix_model.proofs.Archive.Ordered.{found, in_order_has}
use Rattle.prefix_model.proofs.Archive.Spelled.{family_found, family_right}
use Rattle.prefix_model.proofs.Fewest.Ascending.{lists_placed}

-- ---- entries

module _ {V : Type 0} where
  -- two lists of entries, one behind the other
  pub insert_all-append : (m : KeyMap V) (xs ys : List (KeyBits × V)) → insert_all m (xs ++ ys) ≡ insert_all (insert_all m xs) ys
  insert_all-append m [] ys = refl
  insert_all-append m (x ∷ xs) ys = insert_all-append (map.insert m x.0 x.1) xs ys

  -- the keys of entries
  abbrev pub keys_of : List (KeyBits × V) → List KeyBits
  keys_of es = map (λ e. e.0) es

  -- f holds each of these entries
  abbrev pub AllHeld : Values V → List (KeyBits × V) → Type 0
  AllHeld f es = AllByRecursion (λ e. f e.0 ≡ Some e.1) es

  -- whatever their order, entries that f holds put what f holds at their keys, and nothing elsewhere
  pub get-insert_all : (f : Values V) (es : List (KeyBits × V)) (m : KeyMap V) → AllHeld f es → (q : KeyBits) → map.get (insert_all m es) q ≡ cond (stands_in (keys_of es) q) (f q) (map.get m q)
  get-insert_all f [] m h q = refl
  get-insert_all f (e ∷ es) m h q =
      get-insert_all f es (map.insert m e.0 e.1) h.1 q
      ∙ ap (cond (stands_in (keys_of es) q) (f q)) (map.get-insert key_total m e.0 e.1 q ∙ ap (λ b. cond b (Some e.1) (map.get m q)) (tests_same key_cmp key_total key_exact q e.0))
      ∙ joined (same_key q e.0) refl (stands_in (keys_of es) q)
    where
      joined : (b : Bool) → same_key q e.0 ≡ b → (c : Bool) → cond c (f q) (cond b (Some e.1) (map.get m q)) ≡ cond (b || c) (f q) (map.get m q)
      joined false s c = refl
      joined true s true = refl
      joined true s false = sym (ap f (same_key-same q e.0 s) ∙ h.0)

  -- the keys of entries are those at which something is found
  pub stands-find : (es : List (KeyBits × V)) (q : KeyBits) → stands_in (keys_of es) q ≡ is_some (find key_cmp q es)
  stands-find es q = sym (is_some-find key_cmp q es ∙ any_same _ _ (keys_of es) (λ k. tests_same key_cmp key_total key_exact q k))

  -- entries that f holds, among which each that f has is found, build a table that holds what f does
  pub insert_all-found : (f : Values V) (es : List (KeyBits × V)) → AllHeld f es → ((q : KeyBits) → find key_cmp q es ≡ f q) → (q : KeyBits) → map.get (insert_all map.empty es) q ≡ f q
  insert_all-found f es h all q =
      get-insert_all f es map.empty h q
      ∙ (λ i. cond ((stands-find es q ∙ ap is_some (all q)) i) (f q) (map.get-empty key_cmp q i))
      ∙ kept (f q)
    where
      kept : (o : Option V) → cond (is_some o) o None ≡ o
      kept None = refl
      kept (Some x) = refl

  -- and so build the table that holds it
  pub insert_all-builds : (m : KeyMap V) (es : List (KeyBits × V)) → AllHeld (map.get m) es → ((q : KeyBits) → find key_cmp q es ≡ map.get m q) → insert_all map.empty es ≡ m
  insert_all-builds m es h all = map.same_map key_total key_exact (insert_all map.empty es) m (insert_all-found (map.get m) es h all)

  -- ---- a table's own entries

  -- entries above e are found as before
  still_held : (f : Values V) (e : KeyBits × V) (es : List (KeyBits × V)) → T (below_all key_cmp e.0 es) → AllHeld f es → AllHeld (λ q. cond (eq_by_cmp key_cmp q e.0) (Some e.1) (f q)) es
  still_held f e [] b h = tt
  still_held f e (x ∷ es) b h = (ap (λ r. cond (is_eq r) (Some e.1) (f x.0)) (key_total.antisymm x.0 e.0 ∙ ap ordering_reverse (lt_to_less (key_cmp e.0 x.0) (holds_first _ _ b))) ∙ h.0, still_held f e es (holds_second _ _ b) h.1)

  -- entries in key order are each found
  pub sorted_held : (es : List (KeyBits × V)) → T (is_sorted key_cmp es) → AllHeld (λ q. find key_cmp q es) es
  sorted_held [] h = tt
  sorted_held (e ∷ es) h =
      (ap (λ r. cond (is_eq r) (Some e.1) (find key_cmp e.0 es)) (tied_itself key_total e.0), still_held (λ q. find key_cmp q es) e es (holds_first _ _ h) (sorted_held es (holds_second _ _ h)))

  -- a table's entries in key order build it again
  pub insert_all-entries : (m : KeyMap V) → insert_all map.empty (map.entries m) ≡ m
  insert_all-entries m = insert_all-builds m (map.entries m) (subst (λ (f : Values V). AllHeld f (map.entries m)) (λ i q. sym (map.get-entries m q) i) (sorted_held (map.entries m) (map.entries_sorted m))) (λ q. sym (map.get-entries m q))

  -- what is placed builds the least table
  pub insert_all-placed : (cmp : V → V → Ordering) (w : ℕ) (m : KeyMap V) → insert_all map.empty (placed cmp w (answer m) None) ≡ least_table cmp w m
  insert_all-placed cmp w m = ap (insert_all map.empty) (sym (lists_placed cmp w m)) ∙ insert_all-entries (least_table cmp w m)

  -- what is read from bytes that spell a table builds it
  pub insert_all-read : (codec : Codec V) (w : ℕ) (front rest : List ℕ) (m : KeyMap V) → Spells codec w front m → insert_all map.empty (family_entries codec (front ++ rest)) ≡ m
  insert_all-read codec w front rest m s = insert_all-builds m (family_entries codec (front ++ rest)) (family_right codec w front rest m s) (family_found codec w front rest m s)

-- ---- kept positions

-- to tie by length and then in key order is to be one key
pub tie_any : (q : KeyBits) (ps : List KeyBits) → list_any (eq_by_cmp shorter_first q) ps ≡ stands_in ps q
tie_any q ps = any_same _ _ ps (λ p. tests_same shorter_first shorter_total shorter_exact q p)

-- kept positions with more of them
pub get_with : (kept : PositionSet) (ps : List KeyBits) (q : KeyBits) → map.get (insert_positions kept ps) q ≡ cond (list_any (eq_by_cmp shorter_first q) ps) (Some tt) (map.get kept q)
get_with kept [] q = refl
get_with kept (p ∷ ps) q =
    map.get-insert shorter_total (insert_positions kept ps) p tt q
    ∙ elim (eq_by_cmp shorter_first q p) as (λ b. cond b (Some tt) (map.get (insert_positions kept ps) q) ≡ cond (b || list_any (eq_by_cmp shorter_first q) ps) (Some tt) (map.get kept q)) [ true ↦ refl | false ↦ get_with kept ps q ]

-- a marked key, where it is there
abbrev pub mark_if : Bool → Option (Unit {0})
mark_if b = cond b (Some tt) None

marked_some : (o : Option (Unit {0})) → o ≡ mark_if (is_some o)
marked_some None = refl
marked_some (Some tt) = refl

-- a position set has the positions
pub get-position_set : {V : Type 0} (m : KeyMap V) (q : KeyBits) → map.get (position_set m) q ≡ mark_if (stands_in (positions_in m) q)
get-position_set m q = map.get-from_entries shorter_total (map (λ p. (p, tt)) (positions_in m)) q ∙ marked_some _ ∙ ap mark_if (found (positions_in m) q)

-- an inserted key adds its positions
stands_in-insert : {V : Type 0} (m : KeyMap V) (k : KeyBits) (v : V) (q : KeyBits) → stands_in (positions_in (map.insert m k v)) q ≡ (stands_in (positions_of_key k) q || stands_in (positions_in m) q)
stands_in-insert m k v q =
    in_order_has ([] ∷ flat_map positions_of_key (map.keys (map.insert m k v))) q
    ∙ ap (λ b. same_key q [] || b) (flat_map_same positions_of_key (map.keys (map.insert m k v)) (k ∷ map.keys m) members q ∙ any_append (same_key q) (positions_of_key k) (flat_map positions_of_key (map.keys m)))
    ∙ or_swap (same_key q []) (stands_in (positions_of_key k) q) _
    ∙ ap (λ b. stands_in (positions_of_key k) q || b) (sym (in_order_has ([] ∷ flat_map positions_of_key (map.keys m)) q))
  where
    members : (q : KeyBits) → stands_in (map.keys (map.insert m k v)) q ≡ (same_key q k || stands_in (map.keys m) q)
    members q =
        stands_in-keys (map.insert m k v) q
        ∙ ap is_some (map.get-insert key_total m k v q ∙ ap (λ b. cond b (Some v) (map.get m q)) (tests_same key_cmp key_total key_exact q k))
        ∙ elim (same_key q k) as (λ b. is_some (cond b (Some v) (map.get m q)) ≡ (b || is_some (map.get m q))) [ true ↦ refl | false ↦ refl ]
        ∙ ap (λ b. same_key q k || b) (sym (stands_in-keys m q))

-- the positions of a table with one more entry are those that it had, with those of the key
pub position_set-insert : {V : Type 0} (m : KeyMap V) (k : KeyBits) (v : V) → with_positions (position_set m) k ≡ position_set (map.insert m k v)
position_set-insert m k v = map.same_map shorter_total shorter_exact (with_positions (position_set m) k) (position_set (map.insert m k v)) (λ q.
    get_with (position_set m) (positions_of_key k) q
    ∙ (λ i. cond (tie_any q (positions_of_key k) i) (Some tt) (get-position_set m q i))
    ∙ either (stands_in (positions_of_key k) q) (stands_in (positions_in m) q)
    ∙ ap mark_if (sym (stands_in-insert m k v q))
    ∙ sym (get-position_set (map.insert m k v) q))
  where
    either : (a b : Bool) → cond a (Some tt) (mark_if b) ≡ mark_if (a || b)
    either true b = refl
    either false b = refl

-- an empty table has the root alone
pub position_set-empty : (V : Type 0) → root_alone ≡ position_set (map.empty {X = V} {R = key_cmp})
position_set-empty V = map.same_map shorter_total shorter_exact root_alone (position_set none) (λ q.
    map.get-insert shorter_total map.empty [] tt q
    ∙ (λ i. cond (tests_same shorter_first shorter_total shorter_exact q [] i) (Some tt) (map.get-empty shorter_first q i))
    ∙ ap mark_if (sym (stands q ∙ or_false (same_key q [])))
    ∙ sym (get-position_set none q))
  where
    none : KeyMap V
    none = map.empty

    stands : (q : KeyBits) → stands_in (positions_in none) q ≡ (same_key q [] || false)
    stands q =
        in_order_has ([] ∷ flat_map positions_of_key (map.keys none)) q
        ∙ ap (λ b. same_key q [] || b) (flat_map_same positions_of_key (map.keys none) [] (λ k. stands_in-keys none k ∙ ap is_some (map.get-empty key_cmp k)) q)

-- ---- answers below the last stored key

module _ {V : Type 0} where
  -- where nothing is stored, what is inherited is answered
  pub answer_none : (v : Option V) (f : Values V) → ((k : KeyBits) → f k ≡ None) → (k : KeyBits) → answer_under v f k ≡ v
  answer_none v f none [] = ap (λ o. option_or o v) (none [])
  answer_none v f none (b ∷ k) = answer_none (option_or (f []) v) (after b f) (λ l. none (b ∷ l)) k ∙ ap (λ o. option_or o v) (none [])

  -- where nothing is stored behind a bit, what is stored here is answered, or else what is inherited
  pub answer_last : (v : Option V) (f : Values V) → ((b : Bool) (k : KeyBits) → f (b ∷ k) ≡ None) → (k : KeyBits) → answer_under v f k ≡ option_or (f []) v
  answer_last v f none [] = refl
  answer_last v f none (b ∷ k) = answer_none (option_or (f []) v) (after b f) (none b) k
