-- The parts of a spelling: the records and the values of a table, which are those of one table alone.
use Rattle.std.proofs.Common.{◌≡◌, ℕ, suc, ◌+◌, ◌*◌, ◌≤◌, Bool, List, [], ◌∷◌, ◌++◌, length, map, take, drop, refl, sym, ap, ◌∙◌, subst, arith, append-nil, Option, Some, None}
use Rattle.std.specs.Prelude.{is_some, IfSome, IsSome}
use Rattle.std.specs.List.{flat_map, filter_map, cons_option, AllByRecursion}
use Rattle.std.specs.FinMap as finite
use Rattle.std.proofs.lemmas.List.{length-append, take_at, drop_at, drop-drop, length-map}
use Rattle.std.proofs.lemmas.List.Concat.{flat_map-append}
use Rattle.prefix_model.specs.Keys.{KeyBits, stands_in}
use Rattle.prefix_model.specs.Tables.{KeyMap}
use Rattle.prefix_model.specs.Positions.{records, data_places, positions_in, count_true, bits_set, data_bits, child_bits}
use Rattle.prefix_model.specs.Spelling.{Codec, HasSpelling, Spells, spelling, layout, word, record_bytes}
use Rattle.prefix_model.specs.FirstCause.{first_word, read_records}
use Rattle.prefix_model.specs.InPlace.{is_position, table_records, table_values, TableIn}
use Rattle.prefix_model.proofs.KeyLemmas.{map_map, all_append}
use Rattle.prefix_model.proofs.Archive.Numbers.{length-word, first_word-word}
use Rattle.prefix_model.proofs.Archive.Tries.{shape}
use Rattle.prefix_model.proofs.Archive.Scan.{marks_in, fit_count, records_of}
use Rattle.prefix_model.proofs.Archive.Bytes.{IsFit, length-records, records_again, records_fit}
use Rattle.prefix_model.proofs.Archive.Spelled.{node, there, nodes_of, places_of, shapes_at, records_at, are_nodes, entries_counted, spells_one}
use Rattle.prefix_model.proofs.Archive.Descent.{length-filter_map}

-- lists of lists, one behind the other
flat_flat : {A B C : Type 0} (g : B → List C) (h : A → List B) (xs : List A) → flat_map (λ x. flat_map g (h x)) xs ≡ flat_map g (flat_map h xs)
flat_flat g h [] = refl
flat_flat g h (x ∷ xs) = ap (λ r. flat_map g (h x) ++ r) (flat_flat g h xs) ∙ sym (flat_map-append g (h x) (flat_map h xs))

all_kept : {A B : Type 0} (P : B → Type 0) (h : A → Option B) (xs : List A) → ((x : A) → IfSome (h x) P) → AllByRecursion P (filter_map h xs)
all_kept P h [] e = tt
all_kept P h (x ∷ xs) e = one P (h x) (filter_map h xs) (e x) (all_kept P h xs e)
  where
    one : {B : Type 0} (P : B → Type 0) (o : Option B) (ys : List B) → IfSome o P → AllByRecursion P ys → AllByRecursion P (cons_option o ys)
    one P None ys e r = r
    one P (Some y) ys e r = (e, r)

all_flat : {A B : Type 0} (P : B → Type 0) (h : A → List B) (xs : List A) → ((x : A) → AllByRecursion P (h x)) → AllByRecursion P (flat_map h xs)
all_flat P h [] e = tt
all_flat P h (x ∷ xs) e = all_append P (h x) (flat_map h xs) (e x) (all_flat P h xs e)

length-records_in : {V : Type 0} (f : KeyBits → Option V) (g : KeyBits → Bool) (a b : ℕ) (ps : List KeyBits) → length (records f g a b ps) ≡ length ps
length-records_in f g a b [] = refl
length-records_in f g a b (p ∷ ps) = ap suc (length-records_in f g (a + bits_set (data_bits f p)) (b + bits_set (child_bits g p)) ps)

module _ {V : Type 0} (m : KeyMap V) where
  -- as many records as positions
  pub length-table_records : length (table_records m) ≡ length (positions_in m)
  unfolding table_records
  length-table_records = length-records_in (finite.get m) (is_position m) 0 1 (positions_in m)

  values_counted : (ps : List KeyBits) → length (flat_map (λ p. filter_map (λ s. finite.get m (p ++ s)) data_places) ps) ≡ marks_in (map shape (map (node (finite.get m) (there m)) ps))
  values_counted [] = refl
  values_counted (p ∷ ps) =
      let here : List V = filter_map (λ s. finite.get m (p ++ s)) data_places in
      let rest : List V = flat_map (λ p. filter_map (λ s. finite.get m (p ++ s)) data_places) ps in
      let a = length-append here rest in
      let b : length here ≡ count_true (map is_some (map (λ s. finite.get m (p ++ s)) data_places)) = length-filter_map (λ s. finite.get m (p ++ s)) data_places ∙ ap count_true (sym (map_map is_some (λ s. finite.get m (p ++ s)) data_places)) in
      let c = values_counted ps in
      a ∙ (λ i. b i + c i)

  -- and as many values as entries
  pub length-table_values : (w : ℕ) → ((k : KeyBits) → IsSome (finite.get m k) → length k ≤ w) → length (table_values m) ≡ length (finite.entries m)
  unfolding table_values
  length-table_values w h = values_counted (positions_in m) ∙ sym (entries_counted w m h)

module _ {V : Type 0} (codec : Codec V) where
  -- a spelling in its parts
  abbrev pub whole : KeyMap V → List ℕ
  whole m = word (length (positions_in m)) ++ (word (length (finite.entries m)) ++ (flat_map record_bytes (table_records m) ++ flat_map codec.spell (table_values m)))

  pub spelling_whole : (m : KeyMap V) → spelling codec m ≡ whole m
  unfolding table_records table_values is_position
  spelling_whole m =
      ap (λ (h : KeyBits → Option V). layout codec (length (finite.entries m)) h (stands_in (positions_in m)) (positions_in m)) (λ i k. sym (finite.get-entries m k) i)
      ∙ ap (λ vs. word (length (positions_in m)) ++ (word (length (finite.entries m)) ++ (flat_map record_bytes (records (finite.get m) (stands_in (positions_in m)) 0 1 (positions_in m)) ++ vs)))
      (flat_flat codec.spell (λ p. filter_map (λ s. finite.get m (p ++ s)) data_places) (positions_in m))

  module _ (w : ℕ) (bytes : List ℕ) (m : KeyMap V) (s : Spells codec w bytes m) where
    -- each value has a spelling
    pub values_spelled : AllByRecursion (HasSpelling codec) (table_values m)
    unfolding table_values
    values_spelled = all_flat (HasSpelling codec) (λ p. filter_map (λ s. finite.get m (p ++ s)) data_places) (positions_in m) (λ p. all_kept (HasSpelling codec) (λ t. finite.get m (p ++ t)) data_places (λ t. s.values (p ++ t)))

    -- and each number of a record is a word
    pub records_are_words : AllByRecursion IsFit (table_records m)
    unfolding table_records is_position
    records_are_words =
        let a = are_nodes codec w bytes m s in
        let same : records (finite.get m) (stands_in (positions_in m)) 0 1 (positions_in m) ≡ records_of 0 1 (map shape (nodes_of m))
        = records_at (finite.get m) (there m) 0 1 (places_of m) ∙ ap (records_of 0 1) (shapes_at (finite.get m) (there m) (places_of m)) in
        let nodes = fit_count w (0 ∷ []) (map shape (nodes_of m)) a.together in
        let len = length-map (nodes_of m) (shape {V = V}) in
        let fit = a.nodes_fit in
        let marks = a.entries_fit in
        subst (AllByRecursion IsFit) (sym same) (records_fit w (0 ∷ []) 0 1 (map shape (nodes_of m)) a.together (omega arith) (omega arith))

    values_counted_in : length (table_values m) ≡ length (finite.entries m)
    values_counted_in = length-table_values m w s.width

    n : ℕ
    n = length (positions_in m)

    R : List ℕ
    R = flat_map record_bytes (table_records m)

    Vs : List ℕ
    Vs = flat_map codec.spell (table_values m)

    parts : bytes ≡ word n ++ (word (length (finite.entries m)) ++ (R ++ Vs))
    unfolding n R Vs
    parts = s.same ∙ spelling_whole m

    length-R : length R ≡ 16 * n
    unfolding n R
    length-R = length-records (table_records m) ∙ ap (λ k. 16 * k) (length-table_records m)

    behind_four : drop 4 bytes ≡ word (length (finite.entries m)) ++ (R ++ Vs)
    behind_four = ap (drop 4) parts ∙ drop_at (word n) _ 4 (length-word n)

    behind_eight : drop 8 bytes ≡ R ++ Vs
    behind_eight = sym (drop-drop 4 4 bytes) ∙ ap (drop 4) behind_four ∙ drop_at (word (length (finite.entries m))) (R ++ Vs) 4 (length-word (length (finite.entries m)))

    -- what stands in the bytes
    pub counts_nodes : first_word bytes ≡ length (positions_in m)
    unfolding n
    counts_nodes = ap first_word parts ∙ first_word-word n _ s.positions_fit

    pub counts_values : first_word (drop 4 bytes) ≡ length (table_values m)
    counts_values = ap first_word behind_four ∙ first_word-word (length (finite.entries m)) (R ++ Vs) s.entries_fit ∙ sym values_counted_in

    pub has_records : 16 * length (positions_in m) ≤ length (drop 8 bytes)
    unfolding n
    has_records = let a = ap length behind_eight in let b = length-append R Vs in let c = length-R in omega arith

    pub records_stand : read_records (length (positions_in m)) (take (16 * length (positions_in m)) (drop 8 bytes)) ≡ table_records m
    unfolding n R
    records_stand =
        ap (λ b. read_records n (take (16 * n) b)) behind_eight
        ∙ ap (read_records n) (take_at R Vs (16 * n) length-R ∙ sym (append-nil R))
        ∙ ap (λ k. read_records k (R ++ [])) (sym (length-table_records m))
        ∙ records_again (table_records m) [] records_are_words

    pub values_stand : drop (16 * length (positions_in m)) (drop 8 bytes) ≡ flat_map codec.spell (table_values m)
    unfolding n Vs
    values_stand = ap (drop (16 * n)) behind_eight ∙ drop_at R Vs (16 * n) length-R

    -- the table of its records and values
    pub table_in : TableIn codec w (table_records m) (table_values m)
    table_in = record {
      entries = m;
      spelled = record { width = s.width; positions_fit = s.positions_fit; entries_fit = s.entries_fit; values = s.values; same = refl };
      records_are = refl;
      values_are = refl;
    }

  -- tables with the same records and values are one
  pub one_table : (w : ℕ) (m k : KeyMap V) → Spells codec w (spelling codec m) m → Spells codec w (spelling codec k) k → table_records m ≡ table_records k → table_values m ≡ table_values k → m ≡ k
  one_table w m k s t rs vs =
      let nodes : length (positions_in m) ≡ length (positions_in k) = sym (length-table_records m) ∙ ap length rs ∙ length-table_records k in
      let count : length (finite.entries m) ≡ length (finite.entries k) = sym (length-table_values m w s.width) ∙ ap length vs ∙ length-table_values k w t.width in
      let same : spelling codec m ≡ spelling codec k
      = spelling_whole m ∙ (λ i. word (nodes i) ++ (word (count i) ++ (flat_map record_bytes (rs i) ++ flat_map codec.spell (vs i)))) ∙ sym (spelling_whole k) in
      (spells_one codec w (spelling codec m) [] (spelling codec k) [] m k s t (ap (λ b. b ++ []) same)).0
