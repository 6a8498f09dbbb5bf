-- The theorems on spellings.
use Rattle.std.specs.FinMap.{find}
use Rattle.std.proofs.Common.{◌≡◌, ℕ, ◌+◌, ◌^◌, ◌<◌, Bool, true, false, cond, not, eqb, List, [], ◌∷◌, ◌++◌, length, map, take, drop, refl, sym, ap, ◌∙◌, subst, arith, inl, inr, Option, Some, None, Result, Ok, ◌*◌, ◌≤◌}
use Rattle.std.specs.Prelude.{is_some, IfSome}
use Rattle.std.specs.List.{flat_map, filter_map, cons_option, AllByRecursion}
use Rattle.std.specs.FinMap as map
use Rattle.std.proofs.lemmas.Bool.{eqb-true, cases_lt}
use Rattle.std.proofs.lemmas.List.{length-map, append_cancel_right, append-nil, nil_from_length, get_or-append-add}
use Rattle.std.proofs.lemmas.List.Concat.{flat_map-append}
use Rattle.prefix_model.specs.declared.Cause.{Cause}
use Rattle.prefix_model.specs.declared.Cause.TheVariants.{TrailingBytes}
use Rattle.prefix_model.specs.Keys.{KeyBits, key_cmp, same_key, stands_in}
use Rattle.prefix_model.specs.Tables.{KeyMap, HasWidth}
use Rattle.prefix_model.specs.Positions.{bits_set, count_true, data_places, child_places, positions, records, data_bits, child_bits}
use Rattle.prefix_model.specs.Spelling.{IsBytes, Codec, HasSpelling, IsLawful, word, record_bytes, layout, spelling, Spells, SpellsPair}
use Rattle.prefix_model.specs.FirstCause.{◌>>=◌, refuse_if, check, check_pair, first_word, read_records, pieces}
use Rattle.prefix_model.specs.SpellingLaws.{SpellsOne, AcceptsSpelled, SpellsAccepted, IsExact, SpellsOnePair}
use Rattle.prefix_model.specs.Reading.{family_entries, ReadsTable}
use Rattle.prefix_model.proofs.KeyLemmas.{stands_in-keys, map_map, all_append}
use Rattle.prefix_model.proofs.Archive.Walk.{walk, read_walk, walk_finds, walk_all_right}
use Rattle.prefix_model.proofs.Archive.Numbers.{bits_set-bitmap}
use Rattle.prefix_model.proofs.Archive.Places.{Trie, nothing, at, short, build, build_short, build_long}
use Rattle.prefix_model.proofs.Archive.Count.{sum_of, Narrow}
use Rattle.prefix_model.proofs.Archive.Tries.{Node, Shape, shape, Grows, grows_one, tries, regrown, grown_root, count_grown, FitTogether, IsLively, root, children, placed, rebuilt, narrow_children}
use Rattle.prefix_model.proofs.Archive.Scan.{bind_ok, records_of, marks_in, LivelyAfter, shape_of}
use Rattle.prefix_model.proofs.Archive.Filled.{somes, all_values}
use Rattle.prefix_model.proofs.Order.{key_total, key_exact}
use Rattle.prefix_model.proofs.Archive.Listing.{table_of, get-table_of, count_entries}
use Rattle.prefix_model.proofs.Archive.Levels.{grows_positions}
use Rattle.prefix_model.proofs.Archive.Sound.{root_fits}
use Rattle.prefix_model.proofs.Archive.Families.{bytes_of, AreNodes, nodes_read, accepts_nodes, reads_again, accepted, enough_again}

abbrev first_of_list : {V : Type 0} → List (Trie V) → Trie V
first_of_list [] = nothing
first_of_list (t ∷ ts) = t

abbrev passes_with : {A : Type 0} → A → Result A Cause
passes_with x = Ok x

all_split : {A : Type 0} (P : A → Type 0) (xs ys : List A) → AllByRecursion P (xs ++ ys) → AllByRecursion P xs × AllByRecursion P ys
all_split P [] ys h = (tt, h)
all_split P (x ∷ xs) ys h = let r = all_split P xs ys h.1 in ((h.0, r.0), r.1)

module _ {V : Type 0} where
  -- ---- the nodes of a table

  -- the keys of a table
  abbrev pub keys_in : KeyMap V → List KeyBits
  keys_in m = map (λ e. e.0) (map.entries m)

  -- its positions
  abbrev pub places_of : KeyMap V → List KeyBits
  places_of m = positions (keys_in m)

  -- whether a key is one of them
  abbrev pub there : KeyMap V → KeyBits → Bool
  there m = stands_in (places_of m)

  narrow_of : (w : ℕ) (m : KeyMap V) → HasWidth w m → Narrow w (map.get m)
  narrow_of w m h k l = go (map.get m k) refl
    where
      go : (o : Option V) → map.get m k ≡ o → map.get m k ≡ None
      go None e = e
      go (Some x) e = absurd (omega (arith, h k (ap is_some e)))

  -- the node at a key
  abbrev pub node : (KeyBits → Option V) → (KeyBits → Bool) → KeyBits → Node V
  node f g p = record { values = map (λ s. f (p ++ s)) data_places; kids = map (λ c. g (p ++ c)) child_places }

  -- the nodes at its positions
  abbrev pub nodes_of : KeyMap V → List (Node V)
  nodes_of m = map (node (map.get m) (there m)) (places_of m)

  -- the shape of the node at a key
  abbrev pub shape_at : (KeyBits → Option V) → (KeyBits → Bool) → KeyBits → Shape
  shape_at f g p = record { marks = map (λ s. is_some (f (p ++ s))) data_places; kids = map (λ c. g (p ++ c)) child_places }

  -- the data bits of a record are those of the shape
  pub marks_fit : (f : KeyBits → Option V) (g : KeyBits → Bool) (p : KeyBits) → bits_set (data_bits f p) ≡ count_true (shape_at f g p).marks
  unfolding data_places
  marks_fit f g p = bits_set-bitmap (shape_at f g p).marks (omega arith)

  -- and the child bits
  pub kids_fit : (f : KeyBits → Option V) (g : KeyBits → Bool) (p : KeyBits) → bits_set (child_bits g p) ≡ count_true (shape_at f g p).kids
  unfolding child_places
  kids_fit f g p = bits_set-bitmap (shape_at f g p).kids (omega arith)

  pub records_at : (f : KeyBits → Option V) (g : KeyBits → Bool) (a b : ℕ) (ps : List KeyBits) → records f g a b ps ≡ records_of a b (map (shape_at f g) ps)
  records_at f g a b [] = refl
  records_at f g a b (p ∷ ps) =
      λ i. record { data_bits = data_bits f p; child_bits = child_bits g p; data_index = a; child_index = b }
      ∷ ((λ j. records f g (a + marks_fit f g p j) (b + kids_fit f g p j) ps) ∙ records_at f g (a + count_true (shape_at f g p).marks) (b + count_true (shape_at f g p).kids) ps) i

  -- the shapes of the nodes at these keys
  pub shapes_at : (f : KeyBits → Option V) (g : KeyBits → Bool) (ps : List KeyBits) → map (shape_at f g) ps ≡ map shape (map (node f g) ps)
  shapes_at f g [] = refl
  shapes_at f g (p ∷ ps) = λ i. record { marks = sym (map_map is_some (λ s. f (p ++ s)) data_places) i; kids = map (λ c. g (p ++ c)) child_places } ∷ shapes_at f g ps i

  filter_somes : (h : KeyBits → Option V) (ps : List KeyBits) → filter_map h ps ≡ somes (map h ps)
  filter_somes h [] = refl
  filter_somes h (p ∷ ps) = ap (cons_option (h p)) (filter_somes h ps)

  values_at : (spell : V → List ℕ) (f : KeyBits → Option V) (g : KeyBits → Bool) (ps : List KeyBits) → flat_map (λ p. flat_map spell (filter_map (λ s. f (p ++ s)) data_places)) ps ≡ flat_map spell (all_values (map (node f g) ps))
  values_at spell f g [] = refl
  values_at spell f g (p ∷ ps) =
      (λ i. flat_map spell (filter_somes (λ s. f (p ++ s)) data_places i) ++ values_at spell f g ps i)
      ∙ sym (flat_map-append spell (somes (map (λ s. f (p ++ s)) data_places)) (all_values (map (node f g) ps)))

  grows_nodes : (w : ℕ) (m : KeyMap V) → HasWidth w m → Grows w (map.get m ∷ []) (nodes_of m)
  grows_nodes w m h = grows_positions w (map.get m) (narrow_of w m h) (keys_in m) (stands_in-keys m)

  lively_map : (nds : List (Node V)) → AllByRecursion (λ (nd : Node V). IsLively (shape nd)) nds → AllByRecursion IsLively (map shape nds)
  lively_map [] h = tt
  lively_map (nd ∷ nds) h = (h.0, lively_map nds h.1)

  lively_back : (nds : List (Node V)) → AllByRecursion IsLively (map shape nds) → AllByRecursion (λ (nd : Node V). IsLively (shape nd)) nds
  lively_back [] h = tt
  lively_back (nd ∷ nds) h = (h.0, lively_back nds h.1)

  fits_of : (w : ℕ) (t : Trie V) (nds : List (Node V)) → Narrow w t → Grows w (t ∷ []) nds → FitTogether w (0 ∷ []) (map shape nds) × LivelyAfter false (map shape nds)
  fits_of w t [] h g = absurd g
  fits_of w t (nd ∷ nds) h g = let r = root_fits w t nd nds h g in (r.0, lively_map nds r.1)

  marks_of_nodes : (nds : List (Node V)) → marks_in (map shape nds) ≡ sum_of (λ (nd : Node V). count_true (map is_some nd.values)) nds
  marks_of_nodes [] = refl
  marks_of_nodes (nd ∷ nds) = ap (λ n. count_true (map is_some nd.values) + n) (marks_of_nodes nds)

  -- a table has as many entries as its nodes have data bits
  pub entries_counted : (w : ℕ) (m : KeyMap V) → HasWidth w m → length (map.entries m) ≡ marks_in (map shape (nodes_of m))
  entries_counted w m h =
      let narrow = narrow_of w m h in
      let a = count_entries w m narrow in
      let b = count_grown w (map.get m ∷ []) (nodes_of m) (narrow, tt) (grows_nodes w m h) in
      let c = marks_of_nodes (nodes_of m) in omega (arith, a, b, c)

module _ {V : Type 0} (P : V → Type 0) where
  all_somes : (h : KeyBits → Option V) (qs : List KeyBits) → ((k : KeyBits) → IfSome (h k) P) → AllByRecursion P (somes (map h qs))
  all_somes h [] e = tt
  all_somes h (q ∷ qs) e = one (h q) (somes (map h qs)) (e q) (all_somes h qs e)
    where
      one : (o : Option V) (xs : List V) → IfSome o P → AllByRecursion P xs → AllByRecursion P (cons_option o xs)
      one None xs e h = h
      one (Some x) xs e h = (e, h)

  all_nodes : (f : KeyBits → Option V) (g : KeyBits → Bool) (ps : List KeyBits) → ((k : KeyBits) → IfSome (f k) P) → AllByRecursion P (all_values (map (node f g) ps))
  all_nodes f g [] e = tt
  all_nodes f g (p ∷ ps) e = all_append P (somes (map (λ s. f (p ++ s)) data_places)) (all_values (map (node f g) ps)) (all_somes (λ s. f (p ++ s)) data_places (λ s. e (p ++ s))) (all_nodes f g ps e)

  -- a trie whose values are all such
  abbrev Holds : Trie V → Type 0
  Holds t = (k : KeyBits) → IfSome (t k) P

  somes_at : (ps : List KeyBits) (os : List (Option V)) (k : KeyBits) → AllByRecursion P (somes os) → IfSome (at None ps os k) P
  somes_at [] os k h = tt
  somes_at (p ∷ ps) [] k h = tt
  somes_at (p ∷ ps) (None ∷ os) k h = elim (same_key k p) as (λ b. IfSome (cond b None (at None ps os k)) P) [ true ↦ tt | false ↦ somes_at ps os k h ]
  somes_at (p ∷ ps) (Some x ∷ os) k h = elim (same_key k p) as (λ b. IfSome (cond b (Some x) (at None ps os k)) P) [ true ↦ h.0 | false ↦ somes_at ps os k h.1 ]

  holds_at : (ps : List KeyBits) (ts : List (Trie V)) (c : KeyBits) → AllByRecursion Holds ts → Holds (at nothing ps ts c)
  holds_at [] ts c h = λ k. tt
  holds_at (p ∷ ps) [] c h = λ k. tt
  holds_at (p ∷ ps) (t ∷ ts) c h = elim (same_key c p) as (λ b. Holds (cond b t (at nothing ps ts c))) [ true ↦ h.0 | false ↦ holds_at ps ts c h.1 ]

  module _ (w : ℕ) where
    holds_placed : (bs : List Bool) (ts : List (Trie V)) → AllByRecursion Holds ts → AllByRecursion Holds (placed w bs ts)
    holds_placed [] ts h = tt
    holds_placed (false ∷ bs) ts h = (λ k. tt, holds_placed bs ts h)
    holds_placed (true ∷ bs) [] h = (λ k. tt, holds_placed bs [] h)
    holds_placed (true ∷ bs) (t ∷ ts) h = (h.0, holds_placed bs ts h.1)

    holds_build : (vs : List (Option V)) (ts : List (Trie V)) → AllByRecursion P (somes vs) → AllByRecursion Holds ts → Holds (build vs ts)
    holds_build vs ts h k q =
        elim (short 5 q) as (λ b. short 5 q ≡ b → IfSome (build vs ts q) P) [
          | true ↦ λ e. subst (λ o. IfSome o P) (sym (build_short vs ts q e)) (somes_at data_places vs q h)
          | false ↦ λ e. subst (λ o. IfSome o P) (sym (build_long vs ts q e)) (holds_at child_places ts (take 5 q) k (drop 5 q))
        ] refl

    holds_grown : (ts : List (Trie V)) (nds : List (Node V)) → AllByRecursion (Narrow w) ts → Grows w ts nds → AllByRecursion P (all_values nds) → AllByRecursion Holds ts
    holds_grown [] nds h g e = tt
    holds_grown (t ∷ ts) [] h g e = absurd g
    holds_grown (t ∷ ts) (nd ∷ nds) h g e =
        let vs = all_split P (somes nd.values) (all_values nds) e in
        let ih = holds_grown (ts ++ children w t) nds (all_append (Narrow w) ts (children w t) h.1 (narrow_children w t h.0)) g.1 vs.1 in
        let parts = all_split Holds ts (children w t) ih in
        (subst Holds (rebuilt w t h.0) (holds_build (root w t).values (placed w (root w t).kids (children w t)) (subst (λ (x : Node V). AllByRecursion P (somes x.values)) (sym g.0) vs.0) (holds_placed (root w t).kids (children w t) parts.1)), parts.0)

-- ---- theorems

module _ {V : Type 0} (codec : Codec V) where
  spelled_nodes : (m : KeyMap V) → spelling codec m ≡ bytes_of codec (nodes_of m) (length (map.entries m))
  spelled_nodes m =
      let ps = places_of m in
      let f = map.get m in
      let g = there m in
      ap (λ (h : KeyBits → Option V). layout codec (length (map.entries m)) h g ps) (λ i k. sym (map.get-entries m k) i)
      ∙ (λ i. word (sym (length-map ps (node f g)) i) ++ (word (length (map.entries m)) ++ (flat_map record_bytes ((records_at f g 0 1 ps ∙ ap (records_of 0 1) (shapes_at f g ps)) i) ++ values_at codec.spell f g ps i)))

  spelled_is : (w : ℕ) (m : KeyMap V) → HasWidth w m → spelling codec m ≡ bytes_of codec (nodes_of m) (marks_in (map shape (nodes_of m)))
  spelled_is w m h = spelled_nodes m ∙ ap (bytes_of codec (nodes_of m)) (entries_counted w m h)

  pub are_nodes : (w : ℕ) (front : List ℕ) (m : KeyMap V) → Spells codec w front m → AreNodes codec w (nodes_of m)
  are_nodes w front m s =
      let fits = fits_of w (map.get m) (nodes_of m) (narrow_of w m s.width) (grows_nodes w m s.width) in
      record {
        together = fits.0;
        lively = fits.1;
        nodes_fit = subst (λ n. n < 2 ^ 32) (sym (length-map (places_of m) (node (map.get m) (there m)))) s.positions_fit;
        entries_fit = subst (λ n. n < 2 ^ 32) (entries_counted w m s.width) s.entries_fit;
        spelled = all_nodes (HasSpelling codec) (map.get m) (there m) (places_of m) s.values;
      }

  front_is : (w : ℕ) (front : List ℕ) (m : KeyMap V) → Spells codec w front m → front ≡ bytes_of codec (nodes_of m) (marks_in (map shape (nodes_of m)))
  front_is w front m s = s.same ∙ spelled_is w m s.width

  -- what is spelled is accepted
  pub accepts_spelled : AcceptsSpelled codec
  accepts_spelled w front rest m s = ap (λ a. check codec w (a ++ rest)) (front_is w front m s) ∙ accepts_nodes codec w (nodes_of m) (are_nodes w front m s) rest

  nodes_again : (w : ℕ) (front rest : List ℕ) (m : KeyMap V) → Spells codec w front m → nodes_read codec (front ++ rest) ≡ nodes_of m
  nodes_again w front rest m s = ap (λ a. nodes_read codec (a ++ rest)) (front_is w front m s) ∙ reads_again codec w (nodes_of m) (are_nodes w front m s) rest

  -- the trie that grows these nodes
  abbrev first_trie : ℕ → List (Node V) → Trie V
  first_trie w nds = first_of_list (tries w 1 nds)

  trie_again : (w : ℕ) (m : KeyMap V) → HasWidth w m → first_trie w (nodes_of m) ≡ map.get m
  trie_again w m h = ap first_of_list (regrown w (map.get m ∷ []) (nodes_of m) (narrow_of w m h, tt) (grows_nodes w m h))

  ok_is : {A : Type 0} (x y : A) → passes_with x ≡ passes_with y → x ≡ y
  ok_is x y e = cc

  -- a front of bytes spells at most one table
  pub spells_one : SpellsOne codec
  spells_one w front rest other_front other_rest m n s t e =
      let rests : rest ≡ other_rest = ok_is rest other_rest (sym (accepts_spelled w front rest m s) ∙ ap (check codec w) e ∙ accepts_spelled w other_front other_rest n t) in
      let nodes : nodes_of m ≡ nodes_of n = sym (nodes_again w front rest m s) ∙ ap (nodes_read codec) e ∙ nodes_again w other_front other_rest n t in
      let answers : map.get m ≡ map.get n = sym (trie_again w m s.width) ∙ ap (first_trie w) nodes ∙ trie_again w n t.width in
      (map.same_map key_total key_exact m n (λ q i. answers i q), append_cancel_right front other_front other_rest (ap (λ r. front ++ r) (sym rests) ∙ e), rests)

  width_of : (w : ℕ) (f : Trie V) → Narrow w f → (m : KeyMap V) → map.get m ≡ f → HasWidth w m
  width_of w f narrow m e k some =
      elim (cases_lt w (length k)) [ inl long ↦ let none = ap is_some ((λ i. e i k) ∙ narrow k long) in absurd cc | inr fine ↦ fine ]

  some_nodes : (w : ℕ) (nds : List (Node V)) → FitTogether w (0 ∷ []) (map shape nds) → LivelyAfter false (map shape nds) → (t : Trie V) × Narrow w t × Grows w (t ∷ []) nds
  some_nodes w [] fit lively = absurd fit
  some_nodes w (nd ∷ nds) fit lively = grown_root w nd nds fit (lively_back nds lively)

  -- what is accepted is spelled
  pub spells_accepted : IsLawful codec → SpellsAccepted codec
  spells_accepted lawful w bytes rest fits e =
      let a = accepted codec lawful w bytes rest fits e in
      let nds = nodes_read codec bytes in
      let g = some_nodes w nds a.are_nodes.together a.are_nodes.lively in
      let f : Trie V = g.0 in
      let m = table_of w f in
      let get_is : map.get m ≡ f = get-table_of w f g.1 in
      let width : HasWidth w m = width_of w f g.1 m get_is in
      let nodes : nodes_of m ≡ nds = grows_one w (f ∷ []) (nodes_of m) nds (subst (λ t. Grows w (t ∷ []) (nodes_of m)) get_is (grows_nodes w m width)) g.2 in
      let counted : length (map.entries m) ≡ marks_in (map shape nds) = entries_counted w m width ∙ ap (λ x. marks_in (map shape x)) nodes in
      let held = holds_grown (HasSpelling codec) w (f ∷ []) nds (g.1, tt) g.2 a.are_nodes.spelled in
      let spells : Spells codec w (spelling codec m) m = record {
        width = width;
        positions_fit = subst (λ n. n < 2 ^ 32) (ap length (sym nodes) ∙ length-map (places_of m) (node (map.get m) (there m))) a.are_nodes.nodes_fit;
        entries_fit = subst (λ n. n < 2 ^ 32) (sym counted) a.are_nodes.entries_fit;
        values = λ k. subst (λ (t : Trie V). IfSome (t k) (HasSpelling codec)) (sym get_is) (held.0 k);
        same = refl;
      } in
      (m, spells, a.joined ∙ ap (λ x. bytes_of codec x (marks_in (map shape x)) ++ rest) (sym nodes) ∙ ap (λ x. x ++ rest) (sym (spelled_is w m width)))

  IsBytes-behind : (front rest : List ℕ) → IsBytes (front ++ rest) → IsBytes rest
  IsBytes-behind front rest h i = subst (λ n. n < 256) (get_or-append-add front rest i 0) (h (length front + i))

  no_more : (b : List ℕ) → refuse_if (not (eqb (length b) 0)) TrailingBytes ≡ passes_with tt → b ≡ []
  no_more b e = go (eqb (length b) 0) refl
    where
      go : (c : Bool) → eqb (length b) 0 ≡ c → b ≡ []
      go true p = nil_from_length b (eqb-true (length b) 0 p)
      go false p = let q = ap (λ c. refuse_if (not c) TrailingBytes) (sym p) ∙ e in absurd cc

  -- there is no cause in what spells a pair
  pub spelled_pair : (v w : ℕ) (bytes : List ℕ) (m n : KeyMap V) → SpellsPair codec v w bytes m n → check_pair codec v w bytes ≡ Ok tt
  spelled_pair v w bytes m n s =
      ap (check_pair codec v w) s.joined
      ∙ ap (λ r. r >>= λ rest. check codec w rest >>= λ behind. refuse_if (not (eqb (length behind) 0)) TrailingBytes) (accepts_spelled v s.front s.rest m s.first_spelled)
      ∙ ap (λ r. r >>= λ behind. refuse_if (not (eqb (length behind) 0)) TrailingBytes) (ap (check codec w) (sym (append-nil s.rest)) ∙ accepts_spelled w s.rest [] n s.second_spelled)

  -- there is no cause just where bytes spell a pair
  pub is_exact : IsLawful codec → IsExact codec
  is_exact lawful v w bytes fits = (there, back)
    where
      there : check_pair codec v w bytes ≡ Ok tt → (m : KeyMap V) × (n : KeyMap V) × SpellsPair codec v w bytes m n
      there e =
          let p = bind_ok (check codec v bytes) _ tt e in
          let q = bind_ok (check codec w p.0) _ tt p.2 in
          let one = spells_accepted lawful v bytes p.0 fits p.1 in
          let rest_fits : IsBytes p.0 = IsBytes-behind (spelling codec one.0) p.0 (subst IsBytes one.2 fits) in
          let two = spells_accepted lawful w p.0 q.0 rest_fits q.1 in
          let nil : q.0 ≡ [] = no_more q.0 q.2 in (
            one.0,
            two.0,
            record {
              front = spelling codec one.0;
              rest = spelling codec two.0;
              first_spelled = one.1;
              second_spelled = two.1;
              joined = one.2 ∙ ap (λ r. spelling codec one.0 ++ r) (two.2 ∙ ap (λ r. spelling codec two.0 ++ r) nil ∙ append-nil (spelling codec two.0));
            },
          )

      back : ((m : KeyMap V) × (n : KeyMap V) × SpellsPair codec v w bytes m n) → check_pair codec v w bytes ≡ Ok tt
      back (m, n, s) = spelled_pair v w bytes m n s

  -- bytes spell at most one pair
  pub spells_one_pair : SpellsOnePair codec
  spells_one_pair v w bytes m n m2 n2 s t =
      let one = spells_one v s.front s.rest t.front t.rest m m2 s.first_spelled t.first_spelled (sym s.joined ∙ t.joined) in
      let two = spells_one w s.rest [] t.rest [] n n2 s.second_spelled t.second_spelled (ap (λ r. r ++ []) one.2) in
      (one.0, two.0)

  -- ---- reading

  -- the table that accepted bytes spell
  pub decode : ℕ → List ℕ → KeyMap V
  decode w bytes = table_of w (first_trie w (nodes_read codec bytes))

  -- which is the table
  pub decode_again : (w : ℕ) (front rest : List ℕ) (m : KeyMap V) → Spells codec w front m → decode w (front ++ rest) ≡ m
  unfolding decode
  decode_again w front rest m s =
      ap (λ nds. table_of w (first_trie w nds)) (nodes_again w front rest m s)
      ∙ ap (table_of w) (trie_again w m s.width)
      ∙ map.same_map key_total key_exact (table_of w (map.get m)) m (λ q. λ i. get-table_of w (map.get m) (narrow_of w m s.width) i q)

  -- accepted bytes spell it
  pub decode_accepted : IsLawful codec → (w : ℕ) (bytes rest : List ℕ) → IsBytes bytes → check codec w bytes ≡ Ok rest → Spells codec w (spelling codec (decode w bytes)) (decode w bytes) × (bytes ≡ spelling codec (decode w bytes) ++ rest)
  decode_accepted lawful w bytes rest fits e =
      let r = spells_accepted lawful w bytes rest fits e in
      let same : r.0 ≡ decode w bytes = sym (ap (decode w) r.2 ∙ decode_again w (spelling codec r.0) rest r.0 r.1) in
      subst (λ m. Spells codec w (spelling codec m) m × (bytes ≡ spelling codec m ++ rest)) same (r.1, r.2)

  -- the entries that are read are those that a walk over the nodes meets
  family_walk : (w : ℕ) (front rest : List ℕ) (m : KeyMap V) → Spells codec w front m → family_entries codec (front ++ rest) ≡ walk ([] ∷ []) (nodes_of m)
  family_walk w front rest m s =
      let all : List ℕ = front ++ rest in
      let enough : List ℕ → Type 0 = λ all. marks_in (map shape_of (read_records (first_word all) (drop 8 all))) ≤ length (map codec.read (pieces codec.size (first_word (drop 4 all)) (drop (16 * first_word all) (drop 8 all)))) in
      let some : enough all = subst (λ a. enough (a ++ rest)) (sym (front_is w front m s)) (enough_again codec w (nodes_of m) (are_nodes w front m s) rest) in
      read_walk ([] ∷ []) (read_records (first_word all) (drop 8 all)) (map codec.read (pieces codec.size (first_word (drop 4 all)) (drop (16 * first_word all) (drop 8 all)))) some
      ∙ ap (walk ([] ∷ [])) (nodes_again w front rest m s)

  -- what is read at each key is what the table has there
  pub family_found : (w : ℕ) (front rest : List ℕ) (m : KeyMap V) → Spells codec w front m → (q : KeyBits) → find key_cmp q (family_entries codec (front ++ rest)) ≡ map.get m q
  family_found w front rest m s q = ap (find key_cmp q) (family_walk w front rest m s) ∙ walk_finds w (map.get m) (narrow_of w m s.width) (nodes_of m) (grows_nodes w m s.width) q

  -- and each entry that is read is one of the table
  pub family_right : (w : ℕ) (front rest : List ℕ) (m : KeyMap V) → Spells codec w front m → AllByRecursion (λ e. map.get m e.0 ≡ Some e.1) (family_entries codec (front ++ rest))
  family_right w front rest m s =
      subst (AllByRecursion (λ (e : KeyBits × V). map.get m e.0 ≡ Some e.1)) (sym (family_walk w front rest m s))
      (walk_all_right w (map.get m) (narrow_of w m s.width) (nodes_of m) (grows_nodes w m s.width))

  -- the entries that are read are those of the table
  pub reads_table : ReadsTable codec
  reads_table w front rest m s =
      map.same_map key_total key_exact (map.from_entries (family_entries codec (front ++ rest))) m (λ q. map.get-from_entries key_total (family_entries codec (front ++ rest)) q ∙ family_found w front rest m s q)
