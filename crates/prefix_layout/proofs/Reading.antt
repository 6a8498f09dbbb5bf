-- The nodes of a family, read one after the other.
use Rattle.std.proofs.Common.{◌≡◌, ℕ, zero, suc, ◌+◌, ◌-◌, ◌*◌, ◌<◌, ◌≤◌, false, not, eqb, ltb, List, [], ◌∷◌, ◌++◌, length, map, get_or, take, drop, drop-cons, replicate, refl, sym, ap, ◌∙◌, subst, arith, Ok}
use Rattle.std.specs.Prelude.{◌||◌}
use Rattle.std.specs.List.{zip, list_any, AllByRecursion}
use Rattle.std.specs.FinMap as finite
use Rattle.std.proofs.lemmas.Bool.{ltb-false}
use Rattle.std.proofs.lemmas.List.{length-map, length-drop, drop-drop, drop_at, append-nil, drop-map, drop-append-le}
use Rattle.prefix_model.specs.declared.Cause.TheVariants.{Truncated, InvalidValue, MissingRootNode, DataListTooShort, DataListTooLong}
use Rattle.prefix_model.specs.Keys.{KeyBits}
use Rattle.prefix_model.specs.Tables.{KeyMap}
use Rattle.prefix_model.specs.Positions.{NodeRecord, bits_of, count_true, data_places, child_places}
use Rattle.prefix_model.specs.Building.{insert_all}
use Rattle.prefix_model.specs.Spelling.{Codec, IsBytes, Spells}
use Rattle.prefix_model.specs.FirstCause.{pieces, first_word, read_record, read_records, check_records, check_values, check_body, check}
use Rattle.prefix_model.specs.Reading.{child_keys, entries_read, family_entries}
use Rattle.prefix_model.proofs.Building.{insert_all-append, insert_all-read}
use Rattle.prefix_model.proofs.Archive.Bytes.{read_wide, length-pieces}
use Rattle.prefix_model.proofs.Archive.Linear.{read_next}
use Rattle.prefix_model.proofs.Archive.Numbers.{length-bits_of, IsBytes-drop}
use Rattle.prefix_model.proofs.Archive.Scan.{bind_ok, passed, shape_of, marks_in, scan_sound}
use Rattle.prefix_model.proofs.Archive.Spelled.{accepts_spelled}
use Rattle.prefix_model.proofs.Archive.Tries.{Shape, FitTogether, or_false}
use Rattle.prefix_layout.specs.Spans.{some_refused}
use Rattle.prefix_layout.specs.declared.read.Waiting.{Waiting}
use Rattle.prefix_layout.specs.Reads.{set_places, set_children, values_in, with_values, keys_below, waiting_key, waiting_keys, waiting_depths}
use Rattle.prefix_layout.proofs.Waits.{AreWaiting, next_waiting}
use Rattle.prefix_layout.proofs.Paths.{length-marked, length-data_places, length-child_places}

-- ---- depths

all_front : (w : ℕ) (ds es : List ℕ) → AllByRecursion (λ d. d ≤ w) (ds ++ es) → AllByRecursion (λ d. d ≤ w) ds
all_front w [] es h = tt
all_front w (d ∷ ds) es h = (h.0, all_front w ds es h.1)

-- none of the nodes is deeper than w
all_within : (w : ℕ) (ds : List ℕ) (ss : List Shape) → FitTogether w ds ss → AllByRecursion (λ d. d ≤ w) ds
all_within w [] ss h = tt
all_within w (d ∷ ds) [] h = absurd h
all_within w (d ∷ ds) (s ∷ ss) h = (h.0.depth, all_front w ds (replicate (count_true s.kids) (d + 5)) (all_within w (ds ++ replicate (count_true s.kids) (d + 5)) ss h.1))

last_within : (w : ℕ) (ds : List ℕ) (n d : ℕ) → AllByRecursion (λ d. d ≤ w) (ds ++ replicate n d) → 0 < n → d ≤ w
last_within w [] zero d h l = absurd (omega arith)
last_within w [] (suc n) d h l = h.0
last_within w (e ∷ ds) n d h l = last_within w ds n d h.1 l

-- ---- values

zip_front : {A B : Type 0} (ks : List A) (xs ys : List B) → length ks ≡ length xs → zip ks (xs ++ ys) ≡ zip ks xs
zip_front [] xs ys e = refl
zip_front (k ∷ ks) [] ys e = absurd (omega arith)
zip_front (k ∷ ks) (x ∷ xs) ys e = ap (λ r. (k, x) ∷ r) (zip_front ks xs ys (omega arith))

module _ {V : Type 0} (codec : Codec V) where
  pub length-values_in : (n : ℕ) (bytes : List ℕ) → length (values_in codec n bytes) ≡ n
  length-values_in n bytes = length-map (pieces codec.size n bytes) codec.read ∙ length-pieces codec n bytes

  one_further : (k : ℕ) (bytes : List ℕ) → drop (k * codec.size) (drop codec.size bytes) ≡ drop (suc k * codec.size) bytes
  one_further k bytes = drop-drop (k * codec.size) codec.size bytes ∙ ap (λ n. drop n bytes) (let e : codec.size + k * codec.size ≡ suc k * codec.size = omega arith in e)

  none_further : (bytes : List ℕ) → bytes ≡ drop (0 * codec.size) bytes
  none_further bytes = ap (λ n. drop n bytes) (let e : 0 ≡ 0 * codec.size = omega arith in e)

  values_split : (k n : ℕ) (bytes : List ℕ) → values_in codec (k + n) bytes ≡ values_in codec k bytes ++ values_in codec n (drop (k * codec.size) bytes)
  values_split zero n bytes = (λ j. values_in codec ((let e : 0 + n ≡ n = omega arith in e) j) (none_further bytes j))
  values_split (suc k) n bytes =
      let e : suc k + n ≡ suc (k + n) = omega arith in
      ap (λ m. values_in codec m bytes) e
      ∙ ap (λ r. codec.read (take codec.size bytes) ∷ r) (values_split k n (drop codec.size bytes) ∙ ap (λ b. values_in codec k (drop codec.size bytes) ++ values_in codec n b) (one_further k bytes))

  refused_split : (k n : ℕ) (bytes : List ℕ) → some_refused codec (k + n) bytes ≡ false → (some_refused codec k bytes ≡ false) × (some_refused codec n (drop (k * codec.size) bytes) ≡ false)
  refused_split zero n bytes h = (refl, (λ j. some_refused codec ((let e : n ≡ 0 + n = omega arith in e) j) (sym (none_further bytes) j)) ∙ h)
  refused_split (suc k) n bytes h =
      let e : suc (k + n) ≡ suc k + n = omega arith in
      let parts = or_false (not (codec.accepted (take codec.size bytes))) (some_refused codec (k + n) (drop codec.size bytes)) (ap (λ m. some_refused codec m bytes) e ∙ h) in
      let rest = refused_split k n (drop codec.size bytes) parts.1 in
      ((λ j. parts.0 j || rest.0 j), ap (some_refused codec n) (sym (one_further k bytes)) ∙ rest.1)

  module _ (w : ℕ) (whole : KeyMap V) where
    -- The records that follow are those of nodes at these keys and depths, and their values are at the front of the bytes; with them stored the table is whole.
    pub record Reading (ps : List KeyBits) (ds : List ℕ) (rs : List NodeRecord) (values : List ℕ) (m : KeyMap V) : Type 0 where
      pub together : FitTogether w ds (map shape_of rs)
      pub room : marks_in (map shape_of rs) * codec.size ≤ length values
      pub accepted : some_refused codec (marks_in (map shape_of rs)) values ≡ false
      pub same : insert_all m (entries_read ps rs (values_in codec (marks_in (map shape_of rs)) values)) ≡ whole

    -- before the record r of the node at p
    pub record OneNode (p : KeyBits) (d : ℕ) (r : NodeRecord) (ps : List KeyBits) (ds : List ℕ) (rs : List NodeRecord) (values : List ℕ) (m : KeyMap V) : Type 0 where
      pub shallow : d ≤ w
      pub room : length (set_places r.data_bits) * codec.size ≤ length values
      pub accepted : some_refused codec (length (set_places r.data_bits)) values ≡ false
      pub deep : 0 < length (set_children r.child_bits) → d + 5 ≤ w
      pub next :
          Reading (ps ++ map (λ c. p ++ c) (set_children r.child_bits)) (ds ++ replicate (length (set_children r.child_bits)) (d + 5)) rs (drop (length (set_places r.data_bits) * codec.size) values)
          (insert_all m (zip (map (λ s. p ++ s) (set_places r.data_bits)) (values_in codec (length (set_places r.data_bits)) values)))

    pub one_node : (p : KeyBits) (d : ℕ) (r : NodeRecord) (ps : List KeyBits) (ds : List ℕ) (rs : List NodeRecord) (values : List ℕ) (m : KeyMap V) → Reading (p ∷ ps) (d ∷ ds) (r ∷ rs) values m → OneNode p d r ps ds rs values m
    one_node p d r ps ds rs values m h =
        let places = set_places r.data_bits in
        let k = length places in
        let n = marks_in (map shape_of rs) in
        let size = codec.size in
        let marks : k ≡ count_true (bits_of 31 r.data_bits) = length-marked data_places (bits_of 31 r.data_bits) (omega (arith, length-data_places, length-bits_of 31 r.data_bits)) in
        let kids : length (set_children r.child_bits) ≡ count_true (bits_of 32 r.child_bits) = length-marked child_places (bits_of 32 r.child_bits) (omega (arith, length-child_places, length-bits_of 32 r.child_bits)) in
        let all : count_true (bits_of 31 r.data_bits) + n ≡ k + n = ap (λ x. x + n) (sym marks) in
        let room : (k + n) * size ≤ length values = subst (λ x. x * size ≤ length values) all h.room in
        let sum : (k + n) * size ≡ k * size + n * size = omega arith in
        let refused = refused_split k n values (ap (λ x. some_refused codec x values) (sym all) ∙ h.accepted) in
        let rest : FitTogether w (ds ++ replicate (length (set_children r.child_bits)) (d + 5)) (map shape_of rs) = subst (λ x. FitTogether w (ds ++ replicate x (d + 5)) (map shape_of rs)) (sym kids) h.together.1 in
        let keys = map (λ s. p ++ s) places in
        let count : length keys ≡ k = length-map places (λ s. p ++ s) in
        let here = values_in codec k values in
        let behind = values_in codec n (drop (k * size) values) in
        let here_count : length here ≡ k = length-values_in k values in
        let split : values_in codec (count_true (bits_of 31 r.data_bits) + n) values ≡ here ++ behind = ap (λ x. values_in codec x values) all ∙ values_split k n values in
        let these : zip keys (here ++ behind) ≡ zip keys here = zip_front keys here behind (count ∙ sym here_count) in
        let those : drop (length keys) (here ++ behind) ≡ behind = drop_at here behind (length keys) (here_count ∙ sym count) in
        record {
          shallow = h.together.0.depth;
          room = omega (arith, room, sum);
          accepted = refused.0;
          deep = λ some. last_within w ds (length (set_children r.child_bits)) (d + 5) (all_within w _ (map shape_of rs) rest) some;
          next = record {
            together = rest;
            room = omega (arith, room, sum, length-drop (k * size) values);
            accepted = refused.1;
            same =
                sym (insert_all-append m (zip keys here) (entries_read (ps ++ child_keys p r) rs behind))
                ∙ ap (insert_all m) (sym (λ j. these j ++ entries_read (ps ++ child_keys p r) rs (those j)))
                ∙ ap (λ vs. insert_all m (entries_read (p ∷ ps) (r ∷ rs) vs)) (sym split)
                ∙ h.same;
          };
        }

    pub all_read : (ps : List KeyBits) (ds : List ℕ) (rs : List NodeRecord) (values : List ℕ) (m : KeyMap V) → rs ≡ [] → Reading ps ds rs values m → m ≡ whole
    all_read ps ds rs values m e h = (subst (λ rs. Reading ps ds rs values m) e h).same

    pub some_node : (ps : List KeyBits) (ds : List ℕ) (r : NodeRecord) (rs : List NodeRecord) (values : List ℕ) (m : KeyMap V) → Reading ps ds (r ∷ rs) values m → 0 < length ds
    some_node ps [] r rs values m h = absurd h.together
    some_node ps (d ∷ ds) r rs values m h = omega arith

  -- the table of a family, entry by entry
  abbrev pub family_table : List ℕ → KeyMap V
  family_table bytes = insert_all finite.empty (family_entries codec bytes)

  pub family_spelled : (w : ℕ) (bytes : List ℕ) (m : KeyMap V) → Spells codec w bytes m → Spells codec w bytes (family_table bytes)
  family_spelled w bytes m s = subst (Spells codec w bytes) (sym (ap family_table (sym (append-nil bytes)) ∙ insert_all-read codec w bytes [] m s)) s

  -- bytes that spell a table, opened
  pub record Opened (w : ℕ) (bytes : List ℕ) : Type 0 where
    pub counts : 8 ≤ length bytes
    pub records : 16 * first_word bytes ≤ length (drop 8 bytes)
    pub start : Reading w (family_table bytes) ([] ∷ []) (0 ∷ []) (read_records (first_word bytes) (drop 8 bytes)) (drop (16 * first_word bytes) (drop 8 bytes)) finite.empty

  pub opened : (w : ℕ) (bytes : List ℕ) (m : KeyMap V) → IsBytes bytes → Spells codec w bytes m → Opened w bytes
  opened w bytes m fits s =
      let whole : bytes ++ [] ≡ bytes = append-nil bytes in
      let e : check codec w bytes ≡ Ok [] = ap (check codec w) (sym whole) ∙ accepts_spelled codec w bytes [] m s in
      let n = first_word bytes in
      let c = first_word (drop 4 bytes) in
      let body = drop 8 bytes in
      let tail = drop (16 * n) body in
      let rs = read_records n body in
      let p0 = passed (ltb (length bytes) 8) Truncated (λ _. check_body codec w n c body) [] e in
      let p1 = passed (eqb n 0) MissingRootNode _ [] p0.1 in
      let p2 = passed (ltb (length body) (16 * n)) Truncated _ [] p1.1 in
      let p3 = bind_ok (check_records w false (0 ∷ []) 0 1 rs) (λ total. check_values codec total c tail) [] p2.1 in
      let total = p3.0 in
      let q0 = passed (ltb c total) DataListTooShort _ [] p3.2 in
      let q1 = passed (ltb total c) DataListTooLong _ [] q0.1 in
      let q2 = passed (ltb (length tail) (c * codec.size)) Truncated _ [] q1.1 in
      let q3 = passed (list_any (λ piece. not (codec.accepted piece)) (pieces codec.size c tail)) InvalidValue _ [] q2.1 in
      let scanned = scan_sound w false (0 ∷ []) 0 1 rs total (read_wide n body (IsBytes-drop 8 bytes fits)) p3.1 in
      let all = scanned.all in
      let count : c ≡ marks_in (map shape_of rs) = omega (arith, all, ltb-false c total q0.0, ltb-false total c q1.0) in
      record {
        counts = ltb-false (length bytes) 8 p0.0;
        records = ltb-false (length body) (16 * n) p2.0;
        start = record {
          together = scanned.together;
          room = subst (λ x. x * codec.size ≤ length tail) count (ltb-false (length tail) (c * codec.size) q2.0);
          accepted = ap (λ x. some_refused codec x tail) (sym count) ∙ q3.0;
          same = ap (λ x. insert_all finite.empty (entries_read ([] ∷ []) rs (values_in codec x tail))) (sym count);
        };
      }

-- ---- the turns of a loop, which reads the nodes out of a queue

module _ {R : Type 0} (bits : R → KeyBits) where
  head_of : {B : Type 0} (f : Waiting R → B) (items : List (Waiting R)) (i : ℕ) (x : Waiting R) → i < length items → x ≡ get_or items i x → drop i (map f items) ≡ f x ∷ drop (i + 1) (map f items)
  head_of f items i x h e =
      let next : suc i ≡ i + 1 = omega arith in
      drop-map f i items
      ∙ ap (map f) (drop-cons items i x h ∙ (λ j. sym e j ∷ drop (next j) items))
      ∙ ap (λ r. f x ∷ r) (sym (drop-map f (i + 1) items))

  -- what was appended stands behind the others
  more_behind : {B : Type 0} (f : Waiting R → B) (items after : List (Waiting R)) (i : ℕ) (more : List B) → i < length items → map f after ≡ map f items ++ more → drop (i + 1) (map f after) ≡ drop (i + 1) (map f items) ++ more
  more_behind f items after i more h e = ap (drop (i + 1)) e ∙ drop-append-le (i + 1) (map f items) more (omega (arith, length-map items f))

  module _ {V : Type 0} (codec : Codec V) (w : ℕ) (whole : KeyMap V) where
    -- at record i of n, which is r, and the node x of the queue
    pub turn : (items : List (Waiting R)) (i n : ℕ) (body values : List ℕ) (m : KeyMap V) (x : Waiting R) (r : NodeRecord) → i < n → i < length items → x ≡ get_or items i x → r ≡ read_record (drop (16 * i) body)
        → Reading codec w whole (drop i (waiting_keys bits items)) (drop i (waiting_depths items)) (read_records (n - i) (drop (16 * i) body)) values m
        → OneNode codec w whole (waiting_key bits x) x.depth r (drop (i + 1) (waiting_keys bits items)) (drop (i + 1) (waiting_depths items)) (read_records (n - (i + 1)) (drop (16 * (i + 1)) body)) values m
    turn items i n body values m x r h inside at is reading =
        let rs = read_records (n - (i + 1)) (drop (16 * (i + 1)) body) in
        let records : read_records (n - i) (drop (16 * i) body) ≡ r ∷ rs = read_next n i body h ∙ ap (λ r. r ∷ rs) (sym is) in
        let keys = head_of (waiting_key bits) items i x inside at in
        let depths = head_of (λ (x : Waiting R). x.depth) items i x inside at in
        one_node codec w whole (waiting_key bits x) x.depth r (drop (i + 1) (waiting_keys bits items)) (drop (i + 1) (waiting_depths items)) rs values m
        (subst (λ ps. Reading codec w whole ps (x.depth ∷ drop (i + 1) (waiting_depths items)) (r ∷ rs) values m) keys
        (subst (λ ds. Reading codec w whole (drop i (waiting_keys bits items)) ds (r ∷ rs) values m) depths
        (subst (λ rs. Reading codec w whole (drop i (waiting_keys bits items)) (drop i (waiting_depths items)) rs values m) records reading)))

    pub some_left : (items : List (Waiting R)) (i n : ℕ) (body values : List ℕ) (m : KeyMap V) → i < n
        → Reading codec w whole (drop i (waiting_keys bits items)) (drop i (waiting_depths items)) (read_records (n - i) (drop (16 * i) body)) values m → i < length items
    some_left items i n body values m h reading =
        let some = some_node codec w whole _ (drop i (waiting_depths items)) _ _ values m
        (subst (λ rs. Reading codec w whole (drop i (waiting_keys bits items)) (drop i (waiting_depths items)) rs values m) (read_next n i body h) reading) in
        omega (arith, some, length-drop i (waiting_depths items), length-map items (λ (x : Waiting R). x.depth))

    -- and behind it
    pub turned : (items after : List (Waiting R)) (i : ℕ) (kids : List KeyBits) (deeps : List ℕ) (rs : List NodeRecord) (values other_values : List ℕ) (m other : KeyMap V) → i < length items
        → waiting_keys bits after ≡ waiting_keys bits items ++ kids → waiting_depths after ≡ waiting_depths items ++ deeps → other_values ≡ values → other ≡ m
        → Reading codec w whole (drop (i + 1) (waiting_keys bits items) ++ kids) (drop (i + 1) (waiting_depths items) ++ deeps) rs values m
        → Reading codec w whole (drop (i + 1) (waiting_keys bits after)) (drop (i + 1) (waiting_depths after)) rs other_values other
    turned items after i kids deeps rs values other_values m other h keys depths same_values same_table reading =
        let ks = more_behind (waiting_key bits) items after i kids h keys in
        let ds = more_behind (λ (x : Waiting R). x.depth) items after i deeps h depths in
        subst (λ ks. Reading codec w whole ks (drop (i + 1) (waiting_depths after)) rs other_values other) (sym ks)
        (subst (λ ds. Reading codec w whole (drop (i + 1) (waiting_keys bits items) ++ kids) ds rs other_values other) (sym ds)
        (subst (λ v. Reading codec w whole (drop (i + 1) (waiting_keys bits items) ++ kids) (drop (i + 1) (waiting_depths items) ++ deeps) rs v other) (sym same_values)
        (subst (λ t. Reading codec w whole (drop (i + 1) (waiting_keys bits items) ++ kids) (drop (i + 1) (waiting_depths items) ++ deeps) rs values t) (sym same_table) reading)))

-- record i of n is next, and the nodes whose records are to come stand in items from i on
pub record ReadsAt {R V : Type 0} (bits : R → KeyBits) (codec : Codec V) (w : ℕ) (whole : KeyMap V) (items : List (Waiting R)) (i n : ℕ) (body values : List ℕ) (m : KeyMap V) : Type 0 where
  pub reading : Reading codec w whole (drop i (waiting_keys bits items)) (drop i (waiting_depths items)) (read_records (n - i) (drop (16 * i) body)) values m
  pub waits : AreWaiting (drop i (waiting_keys bits items)) (drop i (waiting_depths items)) m

module _ {R V : Type 0} {bits : R → KeyBits} {codec : Codec V} {w : ℕ} {whole : KeyMap V} {items : List (Waiting R)} {i n : ℕ} {body values : List ℕ} {m : KeyMap V} where
  pub some_waiting : ReadsAt bits codec w whole items i n body values m → i < n → i < length items
  some_waiting h l = some_left bits codec w whole items i n body values m l h.reading

  -- the node x, whose record is r
  pub at_node : ReadsAt bits codec w whole items i n body values m → i < n → {x : Waiting R} {r : NodeRecord} → x ≡ get_or items i x → r ≡ read_record (drop (16 * i) body)
      → OneNode codec w whole (waiting_key bits x) x.depth r (drop (i + 1) (waiting_keys bits items)) (drop (i + 1) (waiting_depths items)) (read_records (n - (i + 1)) (drop (16 * (i + 1)) body)) values m
  at_node h l {x} {r} e is = turn bits codec w whole items i n body values m x r l (some_waiting h l) e is h.reading

  -- it waits before the others
  pub at_waiting : ReadsAt bits codec w whole items i n body values m → i < n → {x : Waiting R} → x ≡ get_or items i x → AreWaiting (waiting_key bits x ∷ drop (i + 1) (waiting_keys bits items)) (x.depth ∷ drop (i + 1) (waiting_depths items)) m
  at_waiting h l {x} e =
      let inside = some_waiting h l in
      subst (λ (ps : List KeyBits). AreWaiting ps (x.depth ∷ drop (i + 1) (waiting_depths items)) m) (head_of bits (waiting_key bits) items i x inside e)
      (subst (λ (ds : List ℕ). AreWaiting (drop i (waiting_keys bits items)) ds m) (head_of bits (λ (x : Waiting R). x.depth) items i x inside e) h.waits)

  pub next_node : ReadsAt bits codec w whole items i n body values m → i < n → {x : Waiting R} {r : NodeRecord} → x ≡ get_or items i x → r ≡ read_record (drop (16 * i) body) → (after : List (Waiting R)) (next_values : List ℕ) (next : KeyMap V)
      → waiting_keys bits after ≡ waiting_keys bits items ++ keys_below (waiting_key bits x) r.child_bits → waiting_depths after ≡ waiting_depths items ++ replicate (length (set_children r.child_bits)) (x.depth + 5)
      → next_values ≡ drop (length (set_places r.data_bits) * codec.size) values → next ≡ with_values codec (waiting_key bits x) r.data_bits values m → ReadsAt bits codec w whole after (i + 1) n body next_values next
  next_node h l {x} {r} e is after next_values next keys depths behind stored = record {
    reading =
        turned bits codec w whole items after i (keys_below (waiting_key bits x) r.child_bits) (replicate (length (set_children r.child_bits)) (x.depth + 5)) (read_records (n - (i + 1)) (drop (16 * (i + 1)) body))
        (drop (length (set_places r.data_bits) * codec.size) values) next_values (with_values codec (waiting_key bits x) r.data_bits values m) next (some_waiting h l) keys depths behind stored (at_node h l e is).next;
    waits =
        subst (λ (ps : List KeyBits). AreWaiting ps (drop (i + 1) (waiting_depths after)) next) (sym (more_behind bits (waiting_key bits) items after i (keys_below (waiting_key bits x) r.child_bits) (some_waiting h l) keys))
        (subst (λ (ds : List ℕ). AreWaiting (drop (i + 1) (waiting_keys bits items) ++ keys_below (waiting_key bits x) r.child_bits) ds next)
        (sym (more_behind bits (λ (x : Waiting R). x.depth) items after i (replicate (length (set_children r.child_bits)) (x.depth + 5)) (some_waiting h l) depths))
        (subst (AreWaiting (drop (i + 1) (waiting_keys bits items) ++ keys_below (waiting_key bits x) r.child_bits) (drop (i + 1) (waiting_depths items) ++ replicate (length (set_children r.child_bits)) (x.depth + 5))) (sym stored)
        (next_waiting (waiting_key bits x) x.depth (drop (i + 1) (waiting_keys bits items)) (drop (i + 1) (waiting_depths items)) r.data_bits r.child_bits (length (set_children r.child_bits))
        (values_in codec (length (set_places r.data_bits)) values) m (at_waiting h l e))));
  }

  pub all_nodes : ReadsAt bits codec w whole items i n body values m → n ≤ i → m ≡ whole
  all_nodes h l =
      all_read codec w whole (drop i (waiting_keys bits items)) (drop i (waiting_depths items)) (read_records (n - i) (drop (16 * i) body)) values m
      (ap (λ k. read_records k (drop (16 * i) body)) (let z : n - i ≡ 0 = omega arith in z)) h.reading

module _ {V : Type 0} {codec : Codec V} {w : ℕ} {bytes : List ℕ} where
  -- bytes that spell a table, opened at their records
  pub opened_of : {m : KeyMap V} → Spells codec w bytes m → IsBytes bytes → Opened codec w bytes
  opened_of {m} s fits = opened codec w bytes m fits s

  -- the records are within the body
  pub records_within : {m : KeyMap V} → Spells codec w bytes m → IsBytes bytes → (n : ℕ) (body : List ℕ) → n ≡ first_word bytes → body ≡ drop 8 bytes → 16 * n ≤ length body
  records_within s fits n body e f = let open_bytes = opened_of s fits in omega (arith, open_bytes.records, ap length f, ap (λ k. 16 * k) e)
