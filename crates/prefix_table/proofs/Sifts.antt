-- Entries that are asked about part by part: at a key, in one half and then in the other.
use Rattle.std.specs.Prelude.{◌≡◌, ◌≢◌, ◌⊎◌, ℕ, suc, ◌+◌, ◌-◌, ◌*◌, ◌%◌, ◌<◌, ◌≤◌, ◌&&◌, not, Bool, true, false, cond, T, List, [], ◌∷◌, ◌++◌, length, map, replicate, Option, Some, None, IsSome, is_some, slice_get, slice_set}
use Rattle.std.specs.FinMap as map_of
use Rattle.std.specs.FinMap.Entries.{is_sorted-where_key, find-where_key, same_entries}
use Rattle.std.specs.List.{filter, items_where_true}
use Rattle.std.specs.List.Retain.{ReturnsInTurn}
use Rattle.std.specs.Fn.{Called}
use Rattle.std.proofs.Common.{inl, inr, refl, sym, ap, ◌∙◌, subst, arith, length-append, Bor}
use Rattle.std.proofs.lemmas.Bool.{eq-eqb}
use denote.Param.Members.{Mut}
use Rattle.prefix_model.specs.Keys.{KeyBits, key_cmp, low_bits, prefixes, stands_in, same_key}
use Rattle.prefix_model.specs.Positions.{bitmap, data_places, child_places, has_node_length, position_set, positions_in}
use Rattle.prefix_model.specs.Tables.{KeyMap, HasWidth}
use Rattle.prefix_model.specs.Walks.{begins_with, walk, own}
use Rattle.prefix_model.proofs.KeyNumbers.{length-low_bits}
use Rattle.prefix_model.proofs.KeyLemmas.{same_key-itself, stands_in-keys, prefixes_in, filter_in}
use Rattle.prefix_model.proofs.Building.{get-position_set, mark_if}
use Rattle.prefix_model.proofs.Archive.Levels.{lists_positions}
use Rattle.prefix_model.proofs.Order.{key_total, key_exact, shorter_total, shorter_exact}
use Rattle.prefix_model.proofs.Fronts.{follows, append_none}
use Rattle.prefix_model.proofs.KeyLists.{Same, same_or_other, not_same, not_one}
use Rattle.prefix_model.proofs.KeyLists.Same.{same, other}
use Rattle.prefix_model.proofs.KeyPieces.{number_five}
use Rattle.prefix_model.proofs.TablePositions.{low_bits_none}
use Rattle.prefix_model.proofs.WalkSplits.{walk_parts}
use Rattle.prefix_model.proofs.Bitmaps.NodeBits.{length_of_children}
use Rattle.prefix_table.specs.Tries.{child, held, is_kept, node_at, number_at, table_view, IsTrie}
use Rattle.prefix_table.specs.Writes.{IsBareChild, IsCut, IsDropped, IsCleared}
use Rattle.prefix_table.specs.declared.trie.Node.{Node}
use Rattle.prefix_table.specs.Retains.{IsAsked, IsNamed, IsRetained, IsOwnSifted, IsSifted, walk_of, own_of}
use Rattle.prefix_table.specs.declared.trie.Trie.{Trie}
use Rattle.prefix_table.proofs.TrieChanges.{longer}
use Rattle.prefix_table.proofs.TrieViews.{get_entry, contains_kept}
use Rattle.prefix_table.proofs.TrieReads.{holds, data_bits_are, child_bits_are}
use Rattle.prefix_table.proofs.TrieWays.{below-off, child_below}
use Rattle.prefix_table.proofs.TrieClears.{no_length, left_key, right_key}

module _ {X P : Type 0} (R : P → X → Bool → P → Type 0) where
  -- calls in turn over one list and then over another
  pub turns_append : (p q r : P) (bs cs : List Bool) (xs ys : List X) → length bs ≡ length xs → ReturnsInTurn R p bs xs q → ReturnsInTurn R q cs ys r → ReturnsInTurn R p (bs ++ cs) (xs ++ ys) r
  turns_append p q r [] cs [] ys l h g = subst (λ x. ReturnsInTurn R x cs ys r) (sym h) g
  turns_append p q r [] cs (x ∷ xs) ys l h g = absurd (omega (arith, l))
  turns_append p q r (b ∷ bs) cs [] ys l h g = absurd h
  turns_append p q r (b ∷ bs) cs (x ∷ xs) ys l h g = (h.0, h.1, turns_append h.0 q r bs cs xs ys (omega (arith, l)) h.2 g)

pub items_append : {X : Type 0} (bs cs : List Bool) (xs ys : List X) → length bs ≡ length xs → items_where_true (bs ++ cs) (xs ++ ys) ≡ items_where_true bs xs ++ items_where_true cs ys
items_append [] cs [] ys l = refl
items_append [] cs (x ∷ xs) ys l = absurd (omega (arith, l))
items_append (b ∷ bs) cs [] ys l = absurd (omega (arith, l))
items_append (true ∷ bs) cs (x ∷ xs) ys l = ap (λ zs. x ∷ zs) (items_append bs cs xs ys (omega (arith, l)))
items_append (false ∷ bs) cs (x ∷ xs) ys l = items_append bs cs xs ys (omega (arith, l))

-- tables with the same values at the keys that begin with p have one walk there
pub walk_same : {V : Type 0} (m n : KeyMap V) (p : KeyBits) → ((r : KeyBits) → map_of.get m (p ++ r) ≡ map_of.get n (p ++ r)) → walk m p ≡ walk n p
walk_same m n p alike =
    same_entries key_cmp key_total key_exact (walk m p) (walk n p)
    (is_sorted-where_key key_cmp (begins_with p) (map_of.entries m) (map_of.entries_sorted m))
    (is_sorted-where_key key_cmp (begins_with p) (map_of.entries n) (map_of.entries_sorted n)) (λ q.
    find-where_key key_cmp (begins_with p) q (λ x e. ap (begins_with p) (sym (key_exact q x e))) (map_of.entries m)
    ∙ ap (λ o. cond (begins_with p q) o None) (sym (map_of.get-entries m q))
    ∙ of q (begins_with p q) refl
    ∙ sym (find-where_key key_cmp (begins_with p) q (λ x e. ap (begins_with p) (sym (key_exact q x e))) (map_of.entries n)
    ∙ ap (λ o. cond (begins_with p q) o None) (sym (map_of.get-entries n q))))
  where
    of : (q : KeyBits) (b : Bool) → begins_with p q ≡ b → cond (begins_with p q) (map_of.get m q) None ≡ cond (begins_with p q) (map_of.get n q) None
    of q false e = ap (λ b. cond b (map_of.get m q) None) e ∙ sym (ap (λ b. cond b (map_of.get n q) None) e)
    of q true e = let f = follows p q e in ap (λ o. cond (begins_with p q) o None) (ap (map_of.get m) f.whole ∙ alike f.rest ∙ sym (ap (map_of.get n) f.whole))

module _ {T : Type 0} where
  pub trie_walk_same : (t t' : Trie T) → IsTrie t → IsTrie t' → (p : KeyBits) → ((r : KeyBits) → held t' (p ++ r) ≡ held t (p ++ r)) → walk_of t' p ≡ walk_of t p
  trie_walk_same t t' trie trie' p alike = walk_same (table_view t').entries (table_view t).entries p (λ r. get_entry t' trie' (p ++ r) ∙ alike r ∙ sym (get_entry t trie (p ++ r)))

  walk_parts_of : (t : Trie T) → IsTrie t → (p : KeyBits) → walk_of t p ≡ own_of t p ++ (walk_of t (p ++ false ∷ []) ++ walk_of t (p ++ true ∷ []))
  walk_parts_of t trie p = walk_parts (table_view t).entries p ∙ ap (λ o. own p o ++ (walk_of t (p ++ false ∷ []) ++ walk_of t (p ++ true ∷ []))) (get_entry t trie p)

append_three : (x y z : KeyBits) → (x ++ y) ++ z ≡ x ++ (y ++ z)
append_three [] y z = refl
append_three (b ∷ x) y z = ap (λ k. b ∷ k) (append_three x y z)

other_half : (k r q : KeyBits) (a b : Bool) → (a ≢ b) → k ++ a ∷ r ≢ (k ++ b ∷ []) ++ q
other_half [] r q a b differ e = differ (let h : a ≡ b = cc in h)
other_half (x ∷ k) r q a b differ e = other_half k r q a b differ (let h : k ++ a ∷ r ≡ (k ++ b ∷ []) ++ q = cc in h)

shorter_half : (k q : KeyBits) (b : Bool) → k ≢ (k ++ b ∷ []) ++ q
shorter_half k q b e = let z = ap length e in let a = length-append (k ++ b ∷ []) q in let c = length-append k (b ∷ []) in omega (arith, z, a, c)

module _ {F T : Type 0} (ask : F → KeyBits × T → Bool → F → Type 0) where
  -- a key, the half of 0 and then the half of 1
  pub sifted_halves : (f f1 f2 f3 : F) (t t1 t2 t3 : Trie T) → IsTrie t → (p s : KeyBits) → length p % 5 ≡ 0 → length s < 5 → IsOwnSifted ask f f1 t t1 p (p ++ s)
      → IsSifted ask f1 f2 t1 t2 p ((p ++ s) ++ false ∷ []) → IsSifted ask f2 f3 t2 t3 p ((p ++ s) ++ true ∷ []) → IsSifted ask f f3 t t3 p (p ++ s)
  sifted_halves f f1 f2 f3 t t1 t2 t3 trie p s lp ls mine left right = record {
    trie = right.trie;
    answers = mine.answers ++ (left.answers ++ right.answers);
    count = length-append mine.answers (left.answers ++ right.answers)
        ∙ (λ i. mine.count i + (length-append left.answers right.answers ∙ (λ j. left_count j + right_count j) ∙ sym (length-append old0 old1)) i)
        ∙ sym (length-append old (old0 ++ old1)) ∙ ap length (sym (walk_parts_of t trie key));
    asked = subst (λ es. ReturnsInTurn ask f (mine.answers ++ (left.answers ++ right.answers)) es f3) (sym (walk_parts_of t trie key))
        (turns_append ask f f1 f3 mine.answers (left.answers ++ right.answers) old (old0 ++ old1) mine.count mine.asked
        (turns_append ask f1 f2 f3 left.answers right.answers old0 old1 left_count
        (subst (λ es. ReturnsInTurn ask f1 left.answers es f2) left_walk left.asked) (subst (λ es. ReturnsInTurn ask f2 right.answers es f3) right_walk right.asked)));
    left = walk_parts_of t3 right.trie key
        ∙ (λ i. (own_last ∙ mine.left) i ++ ((left_last ∙ left.left ∙ ap (items_where_true left.answers) left_walk) i ++ (right.left ∙ ap (items_where_true right.answers) right_walk) i))
        ∙ sym (ap (items_where_true (mine.answers ++ (left.answers ++ right.answers))) (walk_parts_of t trie key)
        ∙ items_append mine.answers (left.answers ++ right.answers) old (old0 ++ old1) mine.count
        ∙ ap (λ zs. items_where_true mine.answers old ++ zs) (items_append left.answers right.answers old0 old1 left_count));
    kept_below = kept_below;
    held_else = λ k out. right.held_else k (λ r e. out (true ∷ r) (e ∙ append_three key (true ∷ []) r)) ∙ left.held_else k (λ r e. out (false ∷ r) (e ∙ append_three key (false ∷ []) r))
        ∙ mine.held_else k (λ e. out [] (e ∙ sym (append_none key)));
    kept_else = λ q out. right.kept_else q (λ r e. out (true ∷ r) (e ∙ append_three key (true ∷ []) r)) ∙ left.kept_else q (λ r e. out (false ∷ r) (e ∙ append_three key (false ∷ []) r)) ∙ mine.kept q;
    fewer = λ k h. mine.fewer k (left.fewer k (right.fewer k h));
    numbers = λ q r e. right.numbers q r e ∙ left.numbers q r e ∙ mine.numbers q r e;
  }
    where
      key : KeyBits
      key = p ++ s

      old : List (KeyBits × T)
      old = own_of t key

      old0 : List (KeyBits × T)
      old0 = walk_of t (key ++ false ∷ [])

      old1 : List (KeyBits × T)
      old1 = walk_of t (key ++ true ∷ [])

      halves_differ : (k : KeyBits) (b : Bool) (r : KeyBits) → (k ++ b ∷ []) ++ r ≢ k
      halves_differ k b r e = shorter_half k r b (sym e)

      -- what was held in a half is still held there when it is asked about
      left_walk : walk_of t1 (key ++ false ∷ []) ≡ old0
      left_walk = trie_walk_same t t1 trie mine.trie (key ++ false ∷ []) (λ r. mine.held_else ((key ++ false ∷ []) ++ r) (halves_differ key false r))

      right_untouched : (r : KeyBits) → held t2 ((key ++ true ∷ []) ++ r) ≡ held t1 ((key ++ true ∷ []) ++ r)
      right_untouched r = left.held_else ((key ++ true ∷ []) ++ r) (λ q e. other_half key r q true false (λ z. let y : true ≡ false = z in cc) (sym (append_three key (true ∷ []) r) ∙ e))

      right_walk : walk_of t2 (key ++ true ∷ []) ≡ old1
      right_walk = trie_walk_same t t2 trie left.trie (key ++ true ∷ []) (λ r. right_untouched r ∙ mine.held_else ((key ++ true ∷ []) ++ r) (halves_differ key true r))

      left_count : length left.answers ≡ length old0
      left_count = left.count ∙ ap length left_walk

      right_count : length right.answers ≡ length old1
      right_count = right.count ∙ ap length right_walk

      own_last : own_of t3 key ≡ own_of t1 key
      own_last = ap (own key) (right.held_else key (λ q. shorter_half key q true) ∙ left.held_else key (λ q. shorter_half key q false))

      left_untouched : (r : KeyBits) → held t3 ((key ++ false ∷ []) ++ r) ≡ held t2 ((key ++ false ∷ []) ++ r)
      left_untouched r = right.held_else ((key ++ false ∷ []) ++ r) (λ q e. other_half key r q false true (λ z. let y : false ≡ true = z in cc) (sym (append_three key (false ∷ []) r) ∙ e))

      left_last : walk_of t3 (key ++ false ∷ []) ≡ walk_of t2 (key ++ false ∷ [])
      left_last = trie_walk_same t2 t3 left.trie right.trie (key ++ false ∷ []) left_untouched

      not_p : (b : Bool) (r : KeyBits) → (key ++ b ∷ []) ++ r ≢ p
      not_p b r e = let z = ap length e in let a = length-append (key ++ b ∷ []) r in let c = length-append key (b ∷ []) in let d = length-append p s in omega (arith, z, a, c, d)

      kept_below : (r : KeyBits) → key ++ r ≢ p → is_kept t3 (key ++ r) ≡ true → (q : KeyBits) × IsSome (held t3 ((key ++ r) ++ q))
      kept_below [] away h = absurd (let none = off in let e = ap (is_kept t3) (sym (append_none key)) ∙ h in cc)
        where
          some : length s ≢ 0
          some e = away (append_none key ∙ (λ j. p ++ no_length s e j) ∙ append_none p)

          off : is_kept t3 key ≡ false
          off = ap is_some (below-off t3 t3.root key (λ e. let a = length-append p s in omega (arith, a, e, lp, ls, some)))
      kept_below (true ∷ r) away h =
          let join = append_three key (true ∷ []) r in
          let found = right.kept_below r (not_p true r) (ap (is_kept t3) join ∙ h) in
          (found.0, ap (λ k. is_some (held t3 (k ++ found.0))) (sym join) ∙ found.1)
      kept_below (false ∷ r) away h =
          let join = append_three key (false ∷ []) r in
          let still = right.kept_else ((key ++ false ∷ []) ++ r) (λ q e. other_half key r q false true (λ z. let y : false ≡ true = z in cc) (sym join ∙ e)) in
          let found = left.kept_below r (not_p false r) (sym still ∙ ap (is_kept t3) join ∙ h) in (
            found.0,
            ap (λ k. is_some (held t3 (k ++ found.0))) (sym join) ∙ ap (λ k. is_some (held t3 k)) (append_three (key ++ false ∷ []) r found.0)
                ∙ ap is_some (left_untouched (r ++ found.0)) ∙ ap (λ k. is_some (held t2 k)) (sym (append_three (key ++ false ∷ []) r found.0)) ∙ found.1,
          )

-- ---- a child

some_test : (places : List KeyBits) (test : KeyBits → Bool) → (bitmap (map test places) ≡ 0) ⊎ ((s : KeyBits) × (i : ℕ) × (slice_get places i ≡ Some s) × (test s ≡ true))
some_test [] test = inl refl
some_test (s ∷ places) test =
    elim (test s) as (λ b. test s ≡ b → (cond b 1 0 + 2 * bitmap (map test places) ≡ 0) ⊎ ((k : KeyBits) × (i : ℕ) × (slice_get (s ∷ places) i ≡ Some k) × (test k ≡ true))) [
      | true ↦ λ e. inr (s, 0, refl, e)
      | false ↦ λ e. elim (some_test places test) [
        | inl none ↦ inl (omega (arith, none))
        | inr (k, i, is, passes) ↦ inr (k, suc i, is, passes)
      ]
    ] refl

module _ {F T : Type 0} (ask : F → KeyBits × T → Bool → F → Type 0) (f f' : F) (t t1 : Trie T) (p c : KeyBits) (five : length c ≡ 5) (inner : IsSifted ask f f' t t1 (p ++ c) (p ++ c)) where
  -- a child that has something in it has an entry at or below it
  has_entry : (n : Node) → node_at t1 (p ++ c) ≡ Some n → (((n.data_bits ≡ 0) × (n.child_bits ≡ 0)) → ⊥) → (q : KeyBits) × IsSome (held t1 ((p ++ c) ++ q))
  has_entry n at some =
      elim (some_test data_places (λ s. is_some (map_of.get (table_view t1).entries ((p ++ c) ++ s)))) [
        | inr (s, i, is, passes) ↦ (s, ap is_some (sym (get_entry t1 inner.trie ((p ++ c) ++ s))) ∙ passes)
        | inl no_data ↦ elim (some_test child_places (λ s. map_of.contains_key (table_view t1).kept ((p ++ c) ++ s))) [
          | inl no_child ↦ absurd (some (data_bits_are t1 inner.trie (p ++ c) n at ∙ no_data, child_bits_are t1 inner.trie (p ++ c) n at ∙ no_child))
          | inr (s, i, is, passes) ↦
              let found = inner.kept_below s (longer (p ++ c) s (length_of_children i s is)) (sym (contains_kept t1 inner.trie ((p ++ c) ++ s)) ∙ passes) in
              (s ++ found.0, ap (λ k. is_some (held t1 k)) (sym (append_three (p ++ c) s found.0)) ∙ found.1)
        ]
      ]

  pub sifted_child_kept : (n : Node) → node_at t1 (p ++ c) ≡ Some n → (((n.data_bits ≡ 0) × (n.child_bits ≡ 0)) → ⊥) → IsSifted ask f f' t t1 p (p ++ c)
  sifted_child_kept n at some = record {
    trie = inner.trie;
    answers = inner.answers;
    count = inner.count;
    asked = inner.asked;
    left = inner.left;
    kept_below = λ r away h. of r (same_or_other ((p ++ c) ++ r) (p ++ c)) h;
    held_else = inner.held_else;
    kept_else = inner.kept_else;
    fewer = inner.fewer;
    numbers = λ q r e. inner.numbers q (r ++ c) ((λ j. e j ++ c) ∙ append_three q r c);
  }
    where
      of : (r : KeyBits) → Same ((p ++ c) ++ r) (p ++ c) → is_kept t1 ((p ++ c) ++ r) ≡ true → (q : KeyBits) × IsSome (held t1 (((p ++ c) ++ r) ++ q))
      of r (same e) h = let found = has_entry n at some in (found.0, ap (λ k. is_some (held t1 (k ++ found.0))) e ∙ found.1)
      of r (other differ) h = inner.kept_below r (not_one ((p ++ c) ++ r) (p ++ c) differ) h

  pub sifted_child_cut : (t2 : Trie T) → IsCut t1 t2 (p ++ c) → ((q r : KeyBits) → p ≡ q ++ r → number_at t2 q ≡ number_at t1 q) → IsSifted ask f f' t t2 p (p ++ c)
  sifted_child_cut t2 cut numbers = record {
    trie = cut.trie;
    answers = inner.answers;
    count = inner.count;
    asked = inner.asked;
    left = trie_walk_same t1 t2 inner.trie cut.trie (p ++ c) (λ r. cut.held ((p ++ c) ++ r)) ∙ inner.left;
    kept_below = λ r away h. of r (same_or_other ((p ++ c) ++ r) (p ++ c)) (sym (cut.kept ((p ++ c) ++ r)) ∙ h);
    held_else = λ k out. cut.held k ∙ inner.held_else k out;
    kept_else = λ q out. cut.kept q ∙ ap (λ b. not b && is_kept t1 q) (not_same q (p ++ c) (λ e. out [] (e ∙ sym (append_none (p ++ c))))) ∙ inner.kept_else q out;
    fewer = λ k h. inner.fewer k (ap is_some (sym (cut.held k)) ∙ h);
    numbers = λ q r e. numbers q r e ∙ inner.numbers q (r ++ c) ((λ j. e j ++ c) ∙ append_three q r c);
  }
    where
      of : (r : KeyBits) → Same ((p ++ c) ++ r) (p ++ c) → (not (same_key ((p ++ c) ++ r) (p ++ c)) && is_kept t1 ((p ++ c) ++ r)) ≡ true → (q : KeyBits) × IsSome (held t2 (((p ++ c) ++ r) ++ q))
      of r (same e) h = absurd (let s = ap (λ k. same_key k (p ++ c)) e ∙ same_key-itself (p ++ c) in let g = ap (λ b. not b && is_kept t1 ((p ++ c) ++ r)) s in cc)
      of r (other differ) h =
          let there = sym (ap (λ b. not b && is_kept t1 ((p ++ c) ++ r)) differ) ∙ h in
          let found = inner.kept_below r (not_one ((p ++ c) ++ r) (p ++ c) differ) there in
          (found.0, ap is_some (cut.held (((p ++ c) ++ r) ++ found.0)) ∙ found.1)

-- tables that hold nothing at the keys that begin with p have no walk there
walk_none : {V : Type 0} (m : KeyMap V) (p : KeyBits) → ((r : KeyBits) → map_of.get m (p ++ r) ≡ None) → walk m p ≡ []
walk_none m p none =
    same_entries key_cmp key_total key_exact (walk m p) []
    (is_sorted-where_key key_cmp (begins_with p) (map_of.entries m) (map_of.entries_sorted m)) tt (λ q.
    find-where_key key_cmp (begins_with p) q (λ x e. ap (begins_with p) (sym (key_exact q x e))) (map_of.entries m)
    ∙ ap (λ o. cond (begins_with p q) o None) (sym (map_of.get-entries m q))
    ∙ of q (begins_with p q) refl)
  where
    of : (q : KeyBits) (b : Bool) → begins_with p q ≡ b → cond (begins_with p q) (map_of.get m q) None ≡ None
    of q false e = ap (λ b. cond b (map_of.get m q) None) e
    of q true e = let f = follows p q e in ap (λ b. cond b (map_of.get m q) None) e ∙ ap (map_of.get m) f.whole ∙ none f.rest

module _ {F T : Type 0} (ask : F → KeyBits × T → Bool → F → Type 0) where
  pub sifted_absent : (f : F) (t : Trie T) → IsTrie t → (p c : KeyBits) → IsCleared t t p (p ++ c) → IsSifted ask f f t t p (p ++ c)
  sifted_absent f t trie p c bare = record {
    trie = trie;
    answers = [];
    count = ap length (sym nothing);
    asked = subst (λ es. ReturnsInTurn ask f [] es f) (sym nothing) refl;
    left = nothing;
    kept_below = λ r away h. absurd (let e = bare.kept_below r away in cc);
    held_else = λ k out. refl;
    kept_else = λ q out. refl;
    fewer = λ k h. h;
    numbers = λ q r e. refl;
  }
    where
      nothing : walk_of t (p ++ c) ≡ []
      nothing = walk_none (table_view t).entries (p ++ c) (λ r. get_entry t trie ((p ++ c) ++ r) ∙ bare.held_below r)

  -- ---- the entry at a key

  pub own_none : (f : F) (t : Trie T) → IsTrie t → (p key : KeyBits) → held t key ≡ None → IsOwnSifted ask f f t t p key
  own_none f t trie p key none = record {
    trie = trie;
    answers = [];
    count = ap length (sym (ap (own key) none));
    asked = subst (λ es. ReturnsInTurn ask f [] es f) (sym (ap (own key) none)) refl;
    left = ap (own key) none;
    held_else = λ k out. refl;
    kept = λ q. refl;
    fewer = λ k h. h;
    numbers = λ q r e. refl;
  }

  pub own_stays : (f f' : F) (t : Trie T) → IsTrie t → (p key : KeyBits) (x : T) → held t key ≡ Some x → ask f (key, x) true f' → IsOwnSifted ask f f' t t p key
  own_stays f f' t trie p key x some asked = record {
    trie = trie;
    answers = true ∷ [];
    count = ap length (sym (ap (own key) some));
    asked = subst (λ es. ReturnsInTurn ask f (true ∷ []) es f') (sym (ap (own key) some)) (f', asked, refl);
    left = ap (own key) some ∙ ap (items_where_true (true ∷ [])) (sym (ap (own key) some));
    held_else = λ k out. refl;
    kept = λ q. refl;
    fewer = λ k h. h;
    numbers = λ q r e. refl;
  }

  pub own_goes : (f f' : F) (t t' : Trie T) (p key : KeyBits) (x : T) → held t key ≡ Some x → ask f (key, x) false f' → IsDropped t t' p key → IsOwnSifted ask f f' t t' p key
  own_goes f f' t t' p key x some asked dropped = record {
    trie = dropped.trie;
    answers = false ∷ [];
    count = ap length (sym (ap (own key) some));
    asked = subst (λ es. ReturnsInTurn ask f (false ∷ []) es f') (sym (ap (own key) some)) (f', asked, refl);
    left = ap (own key) (dropped.held_else key ∙ ap (λ b. cond b None (held t key)) (same_key-itself key)) ∙ ap (items_where_true (false ∷ [])) (sym (ap (own key) some));
    held_else = λ k out. dropped.held_else k ∙ ap (λ b. cond b None (held t k)) (not_same k key out);
    kept = dropped.kept;
    fewer = λ k h. less (same_key k key) (held t k) (ap is_some (sym (dropped.held_else k)) ∙ h);
    numbers = dropped.numbers;
  }
    where
      less : (b : Bool) (o : Option T) → IsSome (cond b None o) → IsSome o
      less true o h = cc
      less false o h = h

  -- all below a position
  pub sifted_whole : (f f' : F) (t t1 : Trie T) (q : KeyBits) → IsSifted ask f f' t t1 q (q ++ low_bits 0 0) → IsSifted ask f f' t t1 q q
  sifted_whole f f' t t1 q h = subst (IsSifted ask f f' t t1 q) (ap (λ k. q ++ k) low_bits_none ∙ append_none q) h

  -- the same at a key that is written otherwise
  pub sifted_key : (f f' : F) (t t1 : Trie T) (p k l : KeyBits) → k ≡ l → IsSifted ask f f' t t1 p k → IsSifted ask f f' t t1 p l
  sifted_key f f' t t1 p k l e h = subst (IsSifted ask f f' t t1 p) e h

-- ---- what the calls of a part need

module _ {T : Type 0} where
  pub width_kept : (w : ℕ) (t t' : Trie T) → IsTrie t → IsTrie t' → ((k : KeyBits) → IsSome (held t' k) → IsSome (held t k)) → HasWidth w (table_view t).entries → HasWidth w (table_view t').entries
  width_kept w t t' trie trie' fewer wide = λ k h. wide k (ap is_some (get_entry t trie k) ∙ fewer k (ap is_some (sym (get_entry t' trie' k)) ∙ h))

  pub bare_child : (t : Trie T) (p : KeyBits) (n leaf : Node) (slot : ℕ) → slot < 32 → node_at t p ≡ Some n → node_at t (p ++ low_bits 5 slot) ≡ Some leaf → leaf.data_bits ≡ 0 → leaf.child_bits ≡ 0 → IsBareChild t n slot
  bare_child t p n leaf slot small at here no_data no_children = record {
    leaf = leaf;
    is_child = ap (child t n) (sym (number_five slot small)) ∙ sym (child_below t p (low_bits 5 slot) n (length-low_bits 5 slot) at) ∙ here;
    no_data = no_data;
    no_children = no_children;
  }

module _ {R : Type 0} (bits : R → KeyBits) (w : ℕ) (key : R) (p : KeyBits) (d : ℕ) where
  pub named_child : (level path : ℕ) → level ≡ 5 → IsNamed bits w key p d (low_bits level path) → IsNamed bits w key (p ++ low_bits 5 path) (d + 5) (low_bits 0 0)
  named_child level path five h =
      let n : IsNamed bits w key p d (low_bits 5 path) = subst (λ k. IsNamed bits w key p d (low_bits k path)) five h in
      let a = length-append p (low_bits 5 path) in
      let b = length-low_bits 5 path in
      let z = length-low_bits 0 0 in
      let e = n.depth_is in
      let lens : length p + length (low_bits 5 path) ≡ length (p ++ low_bits 5 path) + length (low_bits 0 0) = omega (arith, a, b, z) in
      record {
        depth_is = omega (arith, a, b, e);
        names = λ l. n.names (omega (arith, l, lens))
            ∙ (λ i. (sym (ap (λ k. (p ++ low_bits 5 path) ++ k) low_bits_none ∙ append_none (p ++ low_bits 5 path))) i ++ replicate (w - lens i) false);
      }

  pub named_left : (level path : ℕ) → IsNamed bits w key p d (low_bits level path) → IsNamed bits w key p d (low_bits (level + 1) (2 * path))
  named_left level path n = record {
    depth_is = n.depth_is;
    names = λ l.
        let a = length-low_bits level path in
        let b = length-low_bits (level + 1) (2 * path) in
        let count : w - (length p + length (low_bits level path)) ≡ suc (w - (length p + length (low_bits (level + 1) (2 * path)))) = omega (arith, a, b, l) in
        n.names (omega (arith, a, b, l)) ∙ ap (λ k. (p ++ low_bits level path) ++ replicate k false) count
        ∙ sym (append_three (p ++ low_bits level path) (false ∷ []) (replicate (w - (length p + length (low_bits (level + 1) (2 * path)))) false))
        ∙ ap (λ k. k ++ replicate (w - (length p + length (low_bits (level + 1) (2 * path)))) false) (sym (left_key p level path));
  }

set_front : (xs ys : KeyBits) (b c : Bool) → slice_set (xs ++ b ∷ ys) (length xs) c ≡ xs ++ c ∷ ys
set_front [] ys b c = refl
set_front (x ∷ xs) ys b c = ap (λ k. x ∷ k) (set_front xs ys b c)

pub named_right : {R : Type 0} (bits : R → KeyBits) (w : ℕ) (key after : R) (p : KeyBits) (d level path : ℕ) → (d + level < w → bits after ≡ slice_set (bits key) (d + level) true)
    → IsNamed bits w key p d (low_bits level path) → IsNamed bits w after p d (low_bits (level + 1) (2 * path + 1))
named_right bits w key after p d level path made n = record {
  depth_is = n.depth_is;
  names = λ l.
      let a = length-low_bits level path in
      let b = length-low_bits (level + 1) (2 * path + 1) in
      let c = length-append p (low_bits level path) in
      let e = n.depth_is in
      let k = p ++ low_bits level path in
      let rest = replicate (w - (length p + length (low_bits (level + 1) (2 * path + 1)))) false in
      let count : w - (length p + length (low_bits level path)) ≡ suc (w - (length p + length (low_bits (level + 1) (2 * path + 1)))) = omega (arith, a, b, l) in
      let place : d + level ≡ length k = omega (arith, a, c, e) in
      let was : bits key ≡ k ++ false ∷ rest = n.names (omega (arith, a, b, l)) ∙ ap (λ m. k ++ replicate m false) count in
      made (omega (arith, a, b, e, l)) ∙ (λ i. slice_set (was i) (place i) true) ∙ set_front k rest false true
      ∙ sym (append_three k (true ∷ []) rest) ∙ ap (λ m. m ++ rest) (sym (right_key p level path));
}

-- a call at the key of an entry and its value
pub asks : {F R T : Type 0} (bits : R → KeyBits) (w : ℕ) (g : Mut F (R × (ℕ × (Bor T × Unit {0}))) Bool) (f f' : F) (key : R) (p s : KeyBits) (d level : ℕ) (shown : Bor T) (r answer : Bool) → IsNamed bits w key p d s → length s ≡ level → length (p ++ s) ≤ w → r ≡ answer
    → Called g f (key, (d + level, (shown, tt))) r f' → IsAsked bits w g f (p ++ s, shown.now) answer f'
asks bits w g f f' key p s d level shown r answer n size fits told called =
    let a = length-append p s in
    let e = n.depth_is in
    let whole : d + level ≡ length (p ++ s) = omega (arith, a, e, size) in
    record {
      key = key;
      names = n.names (omega (arith, a, fits)) ∙ ap (λ m. (p ++ s) ++ replicate (w - m) false) (sym a);
      shown = shown;
      shows = refl;
      called = subst (λ b. Called g f (key, (length (p ++ s), (shown, tt))) b f') told (subst (λ m. Called g f (key, (m, (shown, tt))) r f') whole called);
    }

-- ---- the whole of a table

all_of : {V : Type 0} (m : KeyMap V) → walk m [] ≡ map_of.entries m
all_of m = go (map_of.entries m)
  where
    go : {V : Type 0} (es : List (KeyBits × V)) → filter (λ e. begins_with [] e.0) es ≡ es
    go [] = refl
    go (e ∷ es) = ap (λ xs. e ∷ xs) (go es)

pub retained_entries : {F T : Type 0} (ask : F → KeyBits × T → Bool → F → Type 0) (f f' : F) (t t' : Trie T) → IsSifted ask f f' t t' [] ([] ++ low_bits 0 0) → IsRetained ask f (table_view t).entries (table_view t').entries
retained_entries ask f f' t t' h =
    let whole = sifted_whole ask f f' t t' [] h in
    let old = all_of (table_view t).entries in (
      whole.answers,
      f',
      whole.count ∙ ap length old,
      subst (λ es. ReturnsInTurn ask f whole.answers es f') old whole.asked,
      sym (all_of (table_view t').entries) ∙ whole.left ∙ ap (items_where_true whole.answers) old,
    )

pub retained_from : {F T : Type 0} (ask : F → KeyBits × T → Bool → F → Type 0) (f : F) (old before new : KeyMap T) → old ≡ before → IsRetained ask f old new → IsRetained ask f before new
retained_from ask f old before new e h = subst (λ m. IsRetained ask f m new) e h

pub named_zero : {R : Type 0} (bits : R → KeyBits) (w : ℕ) (key : R) → bits key ≡ replicate w false → IsNamed bits w key [] 0 (low_bits 0 0)
named_zero bits w key clear =
    let z = length-low_bits 0 0 in
    let none : KeyBits = [] in
    let count : w ≡ w - (length none + length (low_bits 0 0)) = omega (arith, z) in
    record {
      depth_is = refl;
      names = λ l. clear ∙ ap (λ m. replicate m false) count ∙ ap (λ k. k ++ replicate (w - (length none + length (low_bits 0 0))) false) (sym low_bits_none);
    }

same_truth : (a b : Bool) → (a ≡ true → b ≡ true) → (b ≡ true → a ≡ true) → a ≡ b
same_truth true b f g = sym (f refl)
same_truth false true f g = g refl
same_truth false false f g = refl

marked : (o : Option (Unit {0})) → o ≡ mark_if (is_some o)
marked None = refl
marked (Some tt) = refl

pub retained_kept : {F T : Type 0} (ask : F → KeyBits × T → Bool → F → Type 0) (f f' : F) (t t' : Trie T) → IsSifted ask f f' t t' [] ([] ++ low_bits 0 0) → (table_view t').kept ≡ position_set (table_view t').entries
retained_kept {T = T} ask f f' t t' h =
    map_of.same_map shorter_total shorter_exact (table_view t').kept (position_set m) (λ q.
    marked (map_of.get (table_view t').kept q) ∙ ap mark_if (same_truth (map_of.contains_key (table_view t').kept q) (stands_in (positions_in m) q) (there q) (back q)) ∙ sym (get-position_set m q))
  where
    m : KeyMap T
    m = (table_view t').entries

    whole : IsSifted ask f f' t t' [] []
    whole = sifted_whole ask f f' t t' [] h

    there : (q : KeyBits) → map_of.contains_key (table_view t').kept q ≡ true → stands_in (positions_in m) q ≡ true
    there q k = ((lists_positions (map_of.keys m)).members q).1 (of (same_or_other q []))
      where
        of : Same q [] → (q ≡ []) ⊎ ((has_node_length q ≡ true) × ((k : KeyBits) × (rest : KeyBits) × (stands_in (map_of.keys m) k ≡ true) × (k ≡ q ++ rest)))
        of (same e) = inl e
        of (other differ) =
            let found = whole.kept_below q (not_one q [] differ) (sym (contains_kept t' whole.trie q) ∙ k) in
            inr (eq-eqb (length q % 5) 0 ((holds t' whole.trie).lengths q k).0, (q ++ found.0, found.0, stands_in-keys m (q ++ found.0) ∙ (ap is_some (get_entry t' whole.trie (q ++ found.0)) ∙ found.1), refl))

    back : (q : KeyBits) → stands_in (positions_in m) q ≡ true → map_of.contains_key (table_view t').kept q ≡ true
    back q k = of (((lists_positions (map_of.keys m)).members q).0 k)
      where
        of : (q ≡ []) ⊎ ((has_node_length q ≡ true) × ((k : KeyBits) × (rest : KeyBits) × (stands_in (map_of.keys m) k ≡ true) × (k ≡ q ++ rest))) → map_of.contains_key (table_view t').kept q ≡ true
        of (inl e) = ap (map_of.contains_key (table_view t').kept) e ∙ (holds t' whole.trie).root
        of (inr (l, x)) =
            (holds t' whole.trie).stored (q ++ x.1) q (ap (λ y. is_some (map_of.get m y)) (sym x.3) ∙ sym (stands_in-keys m x.0) ∙ x.2)
            (filter_in has_node_length (prefixes (q ++ x.1)) q l (prefixes_in q x.1))
