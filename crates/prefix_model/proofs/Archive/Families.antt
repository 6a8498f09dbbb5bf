-- Families as bytes: the bytes of nodes that fit together are accepted, and accepted bytes are those of such nodes.
use Rattle.std.proofs.Common.{◌≡◌, ℕ, zero, suc, ◌+◌, ◌*◌, ◌^◌, ◌<◌, ◌≤◌, Bool, true, false, not, eqb, ltb, List, [], ◌∷◌, ◌++◌, length, map, drop, replicate, refl, sym, ap, ◌∙◌, subst, arith, append_assoc, Ok}
use Rattle.std.specs.List.{list_any, flat_map, AllByRecursion}
use Rattle.std.proofs.lemmas.Bool.{ltb-false, le-ltb, eqb-false, eqb-true}
use Rattle.std.proofs.lemmas.List.{length-append, length-map, length-drop, drop_at, drop-drop}
use Rattle.prefix_model.specs.declared.Cause.TheVariants.{Truncated, InvalidValue, MissingRootNode, DataListTooShort, DataListTooLong}
use Rattle.prefix_model.specs.Positions.{bitmap, bits_of, count_true}
use Rattle.prefix_model.specs.Spelling.{IsBytes, Codec, HasSpelling, IsLawful, word, record_bytes}
use Rattle.prefix_model.specs.FirstCause.{◌>>=◌, first_word, read_records, pieces, check_records, check_values, check_body, check}
use Rattle.prefix_model.proofs.Archive.Numbers.{IsBytes-drop, length-word, first_word-word, first_word-lt, word_taken, bits_of-bitmap}
use Rattle.prefix_model.proofs.Archive.Tries.{Node, Shape, shape, FitTogether}
use Rattle.prefix_model.proofs.Archive.Scan.{bind_ok, passed, passes, shape_of, records_of, marks_in, LivelyAfter, scan_sound, scan_complete, fit_count}
use Rattle.prefix_model.proofs.Archive.Filled.{somes, nodes_from, all_values, nodes_shapes, nodes_values, nodes_again, length-somes}
use Rattle.prefix_model.proofs.Archive.Bytes.{IsFit, length-records, records_again, records_taken, length-read_records, read_wide, records_fit, length-values, pieces_again, accepted_again, values_again, length-pieces, values_taken}

not_zero : (n : ℕ) → 0 < n → eqb n 0 ≡ false
not_zero n l = go (eqb n 0) refl
  where
    go : (b : Bool) → eqb n 0 ≡ b → eqb n 0 ≡ false
    go true e = absurd (omega (arith, eqb-true n 0 e))
    go false e = e

some_true : (n : ℕ) → eqb n 0 ≡ false → 0 < n
some_true zero e = let t = eqb-false 0 0 e in absurd (t refl)
some_true (suc n) e = omega arith

length-records_of : (a b : ℕ) (ss : List Shape) → length (records_of a b ss) ≡ length ss
length-records_of a b [] = refl
length-records_of a b (s ∷ ss) = ap suc (length-records_of (a + count_true s.marks) (b + count_true s.kids) ss)

shapes_again : (w : ℕ) (ds : List ℕ) (a b : ℕ) (ss : List Shape) → FitTogether w ds ss → map shape_of (records_of a b ss) ≡ ss
shapes_again w [] a b [] h = refl
shapes_again w [] a b (s ∷ ss) h = absurd h
shapes_again w (d ∷ ds) a b [] h = absurd h
shapes_again w (d ∷ ds) a b (s ∷ ss) h =
    λ i. record {
      marks = (ap (λ n. bits_of n (bitmap s.marks)) (sym h.0.data_len) ∙ bits_of-bitmap s.marks) i;
      kids = (ap (λ n. bits_of n (bitmap s.kids)) (sym h.0.kids_len) ∙ bits_of-bitmap s.kids) i;
    } ∷ shapes_again w (ds ++ replicate (count_true s.kids) (d + 5)) (a + count_true s.marks) (b + count_true s.kids) ss h.1 i

module _ {V : Type 0} where
  length-all_values : (nds : List (Node V)) → length (all_values nds) ≡ marks_in (map shape nds)
  length-all_values [] = refl
  length-all_values (nd ∷ nds) = let ih = length-all_values nds in let a = length-append (somes nd.values) (all_values nds) in let b = length-somes nd.values in omega arith

module _ {V : Type 0} (codec : Codec V) where
  -- the bytes of nodes
  abbrev pub bytes_of : List (Node V) → ℕ → List ℕ
  bytes_of nds count = word (length nds) ++ (word count ++ (flat_map record_bytes (records_of 0 1 (map shape nds)) ++ flat_map codec.spell (all_values nds)))

  -- nodes that have bytes
  pub record AreNodes (w : ℕ) (nds : List (Node V)) : Type 0 where
    pub together : FitTogether w (0 ∷ []) (map shape nds)
    pub lively : LivelyAfter false (map shape nds)
    pub nodes_fit : length nds < 2 ^ 32
    pub entries_fit : marks_in (map shape nds) < 2 ^ 32
    pub spelled : AllByRecursion (HasSpelling codec) (all_values nds)

  -- and the nodes of bytes
  abbrev pub nodes_read : List ℕ → List (Node V)
  nodes_read bytes =
      let body = drop 8 bytes in
      let nodes = first_word bytes in
      nodes_from (map shape_of (read_records nodes body)) (map codec.read (pieces codec.size (first_word (drop 4 bytes)) (drop (16 * nodes) body)))

  module _ (w : ℕ) (nds : List (Node V)) (h : AreNodes w nds) (rest : List ℕ) where
    n : ℕ
    n = length nds

    count : ℕ
    count = marks_in (map shape nds)

    R : List ℕ
    R = flat_map record_bytes (records_of 0 1 (map shape nds))

    Vs : List ℕ
    Vs = flat_map codec.spell (all_values nds)

    bytes : List ℕ
    bytes = word n ++ (word count ++ (R ++ (Vs ++ rest)))

    regroup : bytes_of nds count ++ rest ≡ bytes
    unfolding bytes n count R Vs
    regroup =
        append_assoc (word (length nds)) _ rest
        ∙ ap (λ r. word (length nds) ++ r) (append_assoc (word (marks_in (map shape nds))) _ rest
        ∙ ap (λ r. word (marks_in (map shape nds)) ++ r) (append_assoc (flat_map record_bytes (records_of 0 1 (map shape nds))) (flat_map codec.spell (all_values nds)) rest))

    len_records : length R ≡ 16 * n
    unfolding n R
    len_records = length-records (records_of 0 1 (map shape nds)) ∙ ap (λ x. 16 * x) (length-records_of 0 1 (map shape nds) ∙ length-map nds shape)

    len_values : length Vs ≡ count * codec.size
    unfolding count Vs
    len_values = length-values codec (all_values nds) h.spelled ∙ ap (λ x. x * codec.size) (length-all_values nds)

    first : first_word bytes ≡ n
    unfolding bytes n
    first = first_word-word (length nds) _ h.nodes_fit

    behind_four : drop 4 bytes ≡ word count ++ (R ++ (Vs ++ rest))
    unfolding bytes
    behind_four = drop_at (word n) (word count ++ (R ++ (Vs ++ rest))) 4 (length-word n)

    second : first_word (drop 4 bytes) ≡ count
    unfolding count
    second = ap first_word behind_four ∙ first_word-word (marks_in (map shape nds)) (R ++ (Vs ++ rest)) h.entries_fit

    behind_eight : drop 8 bytes ≡ R ++ (Vs ++ rest)
    behind_eight = sym (drop-drop 4 4 bytes) ∙ ap (drop 4) behind_four ∙ drop_at (word count) (R ++ (Vs ++ rest)) 4 (length-word count)

    behind_records : drop (16 * n) (R ++ (Vs ++ rest)) ≡ Vs ++ rest
    behind_records = drop_at R (Vs ++ rest) (16 * n) len_records

    fit : AllByRecursion IsFit (records_of 0 1 (map shape nds))
    fit =
        let nodes = fit_count w (0 ∷ []) (map shape nds) h.together in
        let len = length-map nds shape in
        records_fit w (0 ∷ []) 0 1 (map shape nds) h.together (let a = h.entries_fit in omega arith) (let b = h.nodes_fit in omega arith)

    records_read : read_records n (R ++ (Vs ++ rest)) ≡ records_of 0 1 (map shape nds)
    unfolding n R
    records_read =
        ap (λ x. read_records x (R ++ (Vs ++ rest))) (sym (length-records_of 0 1 (map shape nds) ∙ length-map nds shape))
        ∙ records_again (records_of 0 1 (map shape nds)) (Vs ++ rest) fit

    values_read : pieces codec.size count (Vs ++ rest) ≡ map codec.spell (all_values nds)
    unfolding count Vs
    values_read = ap (λ x. pieces codec.size x (Vs ++ rest)) (sym (length-all_values nds)) ∙ pieces_again codec (all_values nds) rest h.spelled

    some_node : 0 < n
    unfolding n
    some_node = let c = fit_count w (0 ∷ []) (map shape nds) h.together in let len = length-map nds shape in omega arith

    values_pass : check_values codec count count (Vs ++ rest) ≡ Ok rest
    values_pass =
        passes _ DataListTooShort _ (le-ltb count count (omega arith))
        ∙ passes _ DataListTooLong _ (le-ltb count count (omega arith))
        ∙ passes _ Truncated _ (le-ltb (length (Vs ++ rest)) (count * codec.size) (omega (arith, length-append Vs rest, len_values)))
        ∙ passes _ InvalidValue _ (ap (list_any (λ piece. not (codec.accepted piece))) values_read ∙ accepted_again codec (all_values nds) h.spelled)
        ∙ ap Ok (drop_at Vs rest (count * codec.size) len_values)

    all_counted : 0 + marks_in (map shape nds) ≡ count
    unfolding count
    all_counted = omega arith

    body_passes : check_body codec w n count (R ++ (Vs ++ rest)) ≡ Ok rest
    body_passes =
        passes _ MissingRootNode _ (not_zero n some_node)
        ∙ passes _ Truncated _ (le-ltb (length (R ++ (Vs ++ rest))) (16 * n) (omega (arith, length-append R (Vs ++ rest), len_records)))
        ∙ ap (λ r. r >>= λ total. check_values codec total count (drop (16 * n) (R ++ (Vs ++ rest)))) (ap (check_records w false (0 ∷ []) 0 1) records_read ∙ scan_complete w false (0 ∷ []) 0 1 (map shape nds) h.together h.lively)
        ∙ (λ i. check_values codec (all_counted i) count (behind_records i))
        ∙ values_pass

    long : 8 ≤ length bytes
    unfolding bytes
    long = omega (arith, length-append (word n) (word count ++ (R ++ (Vs ++ rest))), length-append (word count) (R ++ (Vs ++ rest)), length-word n, length-word count)

    -- the bytes are accepted
    pub accepts_nodes : check codec w (bytes_of nds (marks_in (map shape nds)) ++ rest) ≡ Ok rest
    unfolding count
    accepts_nodes =
        ap (check codec w) regroup
        ∙ passes _ Truncated _ (le-ltb (length bytes) 8 (omega (arith, ap length behind_eight, long)))
        ∙ (λ i. check_body codec w (first i) (second i) (behind_eight i))
        ∙ body_passes

    -- and tell the nodes
    pub reads_again : nodes_read (bytes_of nds (marks_in (map shape nds)) ++ rest) ≡ nds
    unfolding count
    reads_again =
        ap nodes_read regroup
        ∙ (λ i. nodes_from (map shape_of (read_records (first i) (behind_eight i))) (map codec.read (pieces codec.size (second i) (drop (16 * first i) (behind_eight i)))))
        ∙ (λ i. nodes_from ((ap (map shape_of) records_read ∙ shapes_again w (0 ∷ []) 0 1 (map shape nds) h.together) i) (map codec.read ((ap (pieces codec.size count) behind_records ∙ values_read) i)))
        ∙ ap (nodes_from (map shape nds)) (values_again codec (all_values nds) h.spelled)
        ∙ nodes_again nds

    -- as many values as data bits
    pub enough_again : let all = bytes_of nds (marks_in (map shape nds)) ++ rest in
        marks_in (map shape_of (read_records (first_word all) (drop 8 all))) ≤ length (map codec.read (pieces codec.size (first_word (drop 4 all)) (drop (16 * first_word all) (drop 8 all))))
    unfolding count
    enough_again =
        let enough : List ℕ → Type 0 = λ all. marks_in (map shape_of (read_records (first_word all) (drop 8 all))) ≤ length (map codec.read (pieces codec.size (first_word (drop 4 all)) (drop (16 * first_word all) (drop 8 all)))) in
        let a = ap marks_in ((λ i. map shape_of (read_records (first i) (behind_eight i))) ∙ ap (map shape_of) records_read ∙ shapes_again w (0 ∷ []) 0 1 (map shape nds) h.together) in
        let values = pieces codec.size (first_word (drop 4 bytes)) (drop (16 * first_word bytes) (drop 8 bytes)) in
        let b = length-map values codec.read ∙ length-pieces codec (first_word (drop 4 bytes)) (drop (16 * first_word bytes) (drop 8 bytes)) ∙ second in
        subst enough (sym regroup) (omega (arith, a, b))

  -- accepted bytes are those of nodes
  pub record Accepted (w : ℕ) (bytes rest : List ℕ) : Type 0 where
    pub are_nodes : AreNodes w (nodes_read bytes)
    pub joined : bytes ≡ bytes_of (nodes_read bytes) (marks_in (map shape (nodes_read bytes))) ++ rest

  -- bytes that pass the check are those of nodes that fit together
  pub accepted : IsLawful codec → (w : ℕ) (bytes rest : List ℕ) → IsBytes bytes → check codec w bytes ≡ Ok rest → Accepted w bytes rest
  accepted lawful w bytes rest fits e =
      let n = first_word bytes in
      let c = first_word (drop 4 bytes) in
      let body = drop 8 bytes in
      let tail = drop (16 * n) body in
      let size = codec.size in
      let rs = read_records n body in
      let p0 = passed (ltb (length bytes) 8) Truncated (λ _. check_body codec w n c body) rest e in
      let p1 = passed (eqb n 0) MissingRootNode _ rest p0.1 in
      let p2 = passed (ltb (length body) (16 * n)) Truncated _ rest p1.1 in
      let p3 = bind_ok (check_records w false (0 ∷ []) 0 1 rs) (λ total. check_values codec total c tail) rest p2.1 in
      let total = p3.0 in
      let q0 = passed (ltb c total) DataListTooShort _ rest p3.2 in
      let q1 = passed (ltb total c) DataListTooLong _ rest q0.1 in
      let q2 = passed (ltb (length tail) (c * size)) Truncated _ rest q1.1 in
      let q3 = passed (list_any (λ piece. not (codec.accepted piece)) (pieces size c tail)) InvalidValue _ rest q2.1 in
      let rest_is : drop (c * size) tail ≡ rest = cc (q3.1) in
      let long : 8 ≤ length bytes = ltb-false (length bytes) 8 p0.0 in
      let body_long : 16 * n ≤ length body = ltb-false (length body) (16 * n) p2.0 in
      let tail_long : c * size ≤ length tail = ltb-false (length tail) (c * size) q2.0 in
      let body_fits : IsBytes body = IsBytes-drop 8 bytes fits in
      let s = scan_sound w false (0 ∷ []) 0 1 rs total (read_wide n body body_fits) p3.1 in
      let taken = values_taken codec lawful c tail (IsBytes-drop (16 * n) body body_fits) tail_long q3.0 in
      let ss = map shape_of rs in
      let vs = map codec.read (pieces size c tail) in
      let all : total ≡ 0 + marks_in ss = s.all in
      let above : total ≤ c = ltb-false c total q0.0 in
      let below : c ≤ total = ltb-false total c q1.0 in
      let len_vs : length vs ≡ c = length-map (pieces size c tail) codec.read ∙ length-pieces codec c tail in
      let counted : marks_in ss ≡ length vs = omega (arith, len_vs, all, above, below) in
      let nds = nodes_from ss vs in
      let shapes : map shape nds ≡ ss = nodes_shapes ss vs (omega (arith, counted)) in
      let values : all_values nds ≡ vs = nodes_values ss vs counted in
      let len_nds : length nds ≡ n = sym (length-map nds shape) ∙ ap length shapes ∙ length-map rs shape_of ∙ length-read_records n body in
      let marks_c : marks_in (map shape nds) ≡ c = ap marks_in shapes ∙ counted ∙ len_vs in
      record {
        are_nodes = record {
          together = subst (FitTogether w (0 ∷ [])) (sym shapes) s.together;
          lively = subst (LivelyAfter false) (sym shapes) s.lively;
          nodes_fit = subst (λ x. x < 2 ^ 32) (sym len_nds) (first_word-lt bytes fits);
          entries_fit = subst (λ x. x < 2 ^ 32) (sym marks_c) (first_word-lt (drop 4 bytes) (IsBytes-drop 4 bytes fits));
          spelled = subst (AllByRecursion (HasSpelling codec)) (sym values) taken.spelled;
        };
        joined =
            word_taken bytes fits (omega (arith, long))
            ∙ ap (λ r. word n ++ r) (word_taken (drop 4 bytes) (IsBytes-drop 4 bytes fits) (omega (arith, length-drop 4 bytes, long)) ∙ ap (λ r. word c ++ r) (drop-drop 4 4 bytes
            ∙ records_taken n body body_fits body_long ∙ ap (λ r. flat_map record_bytes rs ++ r) (taken.joined ∙ ap (λ r. flat_map codec.spell vs ++ r) rest_is)))
            ∙ sym (whole n c (flat_map record_bytes rs) (flat_map codec.spell vs))
            ∙ (λ i. (word (sym len_nds i) ++ (word (sym marks_c i) ++ (flat_map record_bytes ((s.same ∙ ap (records_of 0 1) (sym shapes)) i) ++ flat_map codec.spell (sym values i)))) ++ rest);
      }
    where
      whole : (a b : ℕ) (r v : List ℕ) → (word a ++ (word b ++ (r ++ v))) ++ rest ≡ word a ++ (word b ++ (r ++ (v ++ rest)))
      whole a b r v = append_assoc (word a) (word b ++ (r ++ v)) rest ∙ ap (λ x. word a ++ x) (append_assoc (word b) (r ++ v) rest ∙ ap (λ x. word b ++ x) (append_assoc r v rest))
