-- Records and values as bytes, and back.
use Rattle.std.proofs.Common.{◌≡◌, ℕ, zero, suc, ◌+◌, ◌*◌, ◌^◌, ◌<◌, ◌≤◌, false, not, List, [], ◌∷◌, ◌++◌, length, map, take, drop, replicate, refl, sym, ap, ◌∙◌, subst, arith, append_assoc}
use Rattle.std.specs.Prelude.{◌||◌}
use Rattle.std.specs.List.{list_any, flat_map, AllByRecursion}
use Rattle.std.proofs.lemmas.List.{length-append, take_at, drop_at, drop-drop, take-append-drop, length-drop, length-take}
use Rattle.prefix_model.specs.Positions.{NodeRecord, bitmap, count_true}
use Rattle.prefix_model.specs.Spelling.{IsBytes, Codec, HasSpelling, IsLawful, word, record_bytes}
use Rattle.prefix_model.specs.FirstCause.{first_word, read_record, read_records, pieces}
use Rattle.prefix_model.proofs.KeyLemmas.{not_false}
use Rattle.prefix_model.proofs.Archive.Numbers.{IsBytes-drop, IsBytes-take, length-word, first_word-word, first_word-lt, word_taken, bitmap-lt}
use Rattle.prefix_model.proofs.Archive.Tries.{Shape, FitTogether, or_false}
use Rattle.prefix_model.proofs.Archive.Scan.{IsWide, records_of, marks_in, kids_in}

-- ---- records

-- four words and what is behind them
words_of : (a b c d : ℕ) (rest : List ℕ) → (word a ++ (word b ++ (word c ++ word d))) ++ rest ≡ word a ++ (word b ++ (word c ++ (word d ++ rest)))
words_of a b c d rest = append_assoc (word a) (word b ++ (word c ++ word d)) rest ∙ ap (λ r. word a ++ r) (append_assoc (word b) (word c ++ word d) rest ∙ ap (λ r. word b ++ r) (append_assoc (word c) (word d) rest))

-- a record is spelled in sixteen bytes
pub length-record_bytes : (r : NodeRecord) → length (record_bytes r) ≡ 16
length-record_bytes r =
    let a = length-append (word r.data_bits) (word r.child_bits ++ (word r.data_index ++ word r.child_index)) in
    let b = length-append (word r.child_bits) (word r.data_index ++ word r.child_index) in
    let c = length-append (word r.data_index) (word r.child_index) in
    omega (arith, a, b, c, length-word r.data_bits, length-word r.child_bits, length-word r.data_index, length-word r.child_index)

-- and records in as many times sixteen
pub length-records : (rs : List NodeRecord) → length (flat_map record_bytes rs) ≡ 16 * length rs
length-records [] = omega arith
length-records (r ∷ rs) = let ih = length-records rs in let a = length-append (record_bytes r) (flat_map record_bytes rs) in let b = length-record_bytes r in omega arith

drop_word : (n : ℕ) (rest : List ℕ) → drop 4 (word n ++ rest) ≡ rest
drop_word n rest = drop_at (word n) rest 4 (length-word n)

-- each number of the record is a word
pub record IsFit (r : NodeRecord) : Type 0 where
  pub data_bits : r.data_bits < 2 ^ 32
  pub child_bits : r.child_bits < 2 ^ 32
  pub data_index : r.data_index < 2 ^ 32
  pub child_index : r.child_index < 2 ^ 32

record_again : (r : NodeRecord) (rest : List ℕ) → IsFit r → read_record (record_bytes r ++ rest) ≡ r
record_again r rest h =
    ap read_record (words_of r.data_bits r.child_bits r.data_index r.child_index rest)
    ∙ (λ i. record { data_bits = a i; child_bits = b i; data_index = c i; child_index = d i })
  where
    all : List ℕ
    all = word r.data_bits ++ (word r.child_bits ++ (word r.data_index ++ (word r.child_index ++ rest)))

    behind_one : drop 4 all ≡ word r.child_bits ++ (word r.data_index ++ (word r.child_index ++ rest))
    behind_one = drop_word r.data_bits _

    behind_two : drop 8 all ≡ word r.data_index ++ (word r.child_index ++ rest)
    behind_two = sym (drop-drop 4 4 all) ∙ ap (drop 4) behind_one ∙ drop_word r.child_bits _

    behind_three : drop 12 all ≡ word r.child_index ++ rest
    behind_three = sym (drop-drop 4 8 all) ∙ ap (drop 4) behind_two ∙ drop_word r.data_index _

    a : first_word all ≡ r.data_bits
    a = first_word-word r.data_bits _ h.data_bits

    b : first_word (drop 4 all) ≡ r.child_bits
    b = ap first_word behind_one ∙ first_word-word r.child_bits _ h.child_bits

    c : first_word (drop 8 all) ≡ r.data_index
    c = ap first_word behind_two ∙ first_word-word r.data_index _ h.data_index

    d : first_word (drop 12 all) ≡ r.child_index
    d = ap first_word behind_three ∙ first_word-word r.child_index _ h.child_index

-- records that are spelled are read again
pub records_again : (rs : List NodeRecord) (rest : List ℕ) → AllByRecursion IsFit rs → read_records (length rs) (flat_map record_bytes rs ++ rest) ≡ rs
records_again [] rest h = refl
records_again (r ∷ rs) rest h =
    let behind = flat_map record_bytes rs ++ rest in
    let joined = append_assoc (record_bytes r) (flat_map record_bytes rs) rest in
    λ i. (ap read_record joined ∙ record_again r behind h.0) i ∷ (ap (λ bytes. read_records (length rs) (drop 16 bytes)) joined ∙ ap (read_records (length rs)) (drop_at (record_bytes r) behind 16 (length-record_bytes r)) ∙ records_again rs rest h.1) i

record_taken : (bytes : List ℕ) → IsBytes bytes → 16 ≤ length bytes → bytes ≡ record_bytes (read_record bytes) ++ drop 16 bytes
record_taken bytes h l =
    word_taken bytes h (omega arith)
    ∙ ap (λ r. word (first_word bytes) ++ r)
    (next 4 (omega arith) ∙ ap (λ r. word (first_word (drop 4 bytes)) ++ r) (next 8 (omega arith) ∙ ap (λ r. word (first_word (drop 8 bytes)) ++ r) (next 12 (omega arith))))
    ∙ sym (words_of (first_word bytes) (first_word (drop 4 bytes)) (first_word (drop 8 bytes)) (first_word (drop 12 bytes)) (drop 16 bytes))
  where
    next : (n : ℕ) → n + 4 ≤ length bytes → drop n bytes ≡ word (first_word (drop n bytes)) ++ drop (n + 4) bytes
    next n le = word_taken (drop n bytes) (IsBytes-drop n bytes h) (omega (arith, length-drop n bytes)) ∙ ap (λ r. word (first_word (drop n bytes)) ++ r) (drop-drop 4 n bytes)

-- bytes that are read as records spell them
pub records_taken : (n : ℕ) (bytes : List ℕ) → IsBytes bytes → 16 * n ≤ length bytes → bytes ≡ flat_map record_bytes (read_records n bytes) ++ drop (16 * n) bytes
records_taken zero bytes h l = ap (λ n. drop n bytes) (let e : 0 ≡ 16 * 0 = omega arith in e)
records_taken (suc n) bytes h l =
    let rest = drop 16 bytes in
    let ih = records_taken n rest (IsBytes-drop 16 bytes h) (omega (arith, length-drop 16 bytes)) in
    let e : 16 + 16 * n ≡ 16 * suc n = omega arith in
    record_taken bytes h (omega arith)
    ∙ ap (λ r. record_bytes (read_record bytes) ++ r) (ih ∙ ap (λ r. flat_map record_bytes (read_records n rest) ++ r) (drop-drop (16 * n) 16 bytes ∙ ap (λ k. drop k bytes) e))
    ∙ sym (append_assoc (record_bytes (read_record bytes)) (flat_map record_bytes (read_records n rest)) (drop (16 * suc n) bytes))

-- as many records are read as were asked for
pub length-read_records : (n : ℕ) (bytes : List ℕ) → length (read_records n bytes) ≡ n
length-read_records zero bytes = refl
length-read_records (suc n) bytes = ap suc (length-read_records n (drop 16 bytes))

-- and each fits in four words
pub read_wide : (n : ℕ) (bytes : List ℕ) → IsBytes bytes → AllByRecursion IsWide (read_records n bytes)
read_wide zero bytes h = tt
read_wide (suc n) bytes h = (first_word-lt (drop 4 bytes) (IsBytes-drop 4 bytes h), read_wide n (drop 16 bytes) (IsBytes-drop 16 bytes h))

abbrev AreBits : Shape → Type 0
AreBits s = (length s.marks ≡ 31) × (length s.kids ≡ 32)

-- the records of nodes that fit together are words, where the counts are
pub records_fit : (w : ℕ) (ds : List ℕ) (a b : ℕ) (ss : List Shape) → FitTogether w ds ss → a + marks_in ss < 2 ^ 32 → b + kids_in ss < 2 ^ 32 → AllByRecursion IsFit (records_of a b ss)
records_fit w ds a b [] h k l = tt
records_fit w [] a b (s ∷ ss) h k l = absurd h
records_fit w (d ∷ ds) a b (s ∷ ss) h k l =
    let marks : bitmap s.marks < 2 ^ 31 = subst (λ n. bitmap s.marks < 2 ^ n) h.0.data_len (bitmap-lt s.marks) in
    let kids : bitmap s.kids < 2 ^ 32 = subst (λ n. bitmap s.kids < 2 ^ n) h.0.kids_len (bitmap-lt s.kids) in (
      record { data_bits = omega arith; child_bits = kids; data_index = omega arith; child_index = omega arith },
      records_fit w (ds ++ replicate (count_true s.kids) (d + 5)) (a + count_true s.marks) (b + count_true s.kids) ss h.1 (omega arith) (omega arith),
    )

-- ---- values

module _ {V : Type 0} (codec : Codec V) where
  -- values are spelled in as many times `size` bytes
  pub length-values : (vs : List V) → AllByRecursion (HasSpelling codec) vs → length (flat_map codec.spell vs) ≡ length vs * codec.size
  length-values [] h = omega arith
  length-values (v ∷ vs) h =
      let ih = length-values vs h.1 in
      let a = length-append (codec.spell v) (flat_map codec.spell vs) in
      let b = h.0.len in
      let c : suc (length vs) * codec.size ≡ codec.size + length vs * codec.size = omega arith in omega arith

  -- the pieces of spelled values are their spellings
  pub pieces_again : (vs : List V) (rest : List ℕ) → AllByRecursion (HasSpelling codec) vs → pieces codec.size (length vs) (flat_map codec.spell vs ++ rest) ≡ map codec.spell vs
  pieces_again [] rest h = refl
  pieces_again (v ∷ vs) rest h =
      let behind = flat_map codec.spell vs ++ rest in
      let joined = append_assoc (codec.spell v) (flat_map codec.spell vs) rest in
      λ i. (ap (take codec.size) joined ∙ take_at (codec.spell v) behind codec.size h.0.len) i
      ∷ (ap (λ bytes. pieces codec.size (length vs) (drop codec.size bytes)) joined ∙ ap (pieces codec.size (length vs)) (drop_at (codec.spell v) behind codec.size h.0.len) ∙ pieces_again vs rest h.1) i

  -- which the codec accepts
  pub accepted_again : (vs : List V) → AllByRecursion (HasSpelling codec) vs → list_any (λ piece. not (codec.accepted piece)) (map codec.spell vs) ≡ false
  accepted_again [] h = refl
  accepted_again (v ∷ vs) h = λ i. not (h.0.accepted i) || accepted_again vs h.1 i

  -- and from which the values are read again
  pub values_again : (vs : List V) → AllByRecursion (HasSpelling codec) vs → map codec.read (map codec.spell vs) ≡ vs
  values_again [] h = refl
  values_again (v ∷ vs) h = λ i. h.0.again i ∷ values_again vs h.1 i

  -- as many pieces as were asked for
  pub length-pieces : (n : ℕ) (bytes : List ℕ) → length (pieces codec.size n bytes) ≡ n
  length-pieces zero bytes = refl
  length-pieces (suc n) bytes = ap suc (length-pieces n (drop codec.size bytes))

  pub record Taken (n : ℕ) (bytes : List ℕ) : Type 0 where
    pub joined : bytes ≡ flat_map codec.spell (map codec.read (pieces codec.size n bytes)) ++ drop (n * codec.size) bytes
    pub spelled : AllByRecursion (HasSpelling codec) (map codec.read (pieces codec.size n bytes))

  -- under a lawful codec, accepted bytes spell the values that are read
  pub values_taken : IsLawful codec → (n : ℕ) (bytes : List ℕ) → IsBytes bytes → n * codec.size ≤ length bytes → list_any (λ piece. not (codec.accepted piece)) (pieces codec.size n bytes) ≡ false → Taken n bytes
  values_taken lawful zero bytes h l e = record { joined = ap (λ k. drop k bytes) (let z : 0 ≡ 0 * codec.size = omega arith in z); spelled = tt }
  values_taken lawful (suc n) bytes h l e =
      let size = codec.size in
      let piece = take size bytes in
      let rest = drop size bytes in
      let more : suc n * size ≡ size + n * size = omega arith in
      let p = or_false (not (codec.accepted piece)) _ e in
      let ih = values_taken lawful n rest (IsBytes-drop size bytes h) (omega (arith, length-drop size bytes)) p.1 in
      let law = lawful piece (IsBytes-take size bytes h) (omega (arith, length-take size bytes)) (not_false _ p.0) in
      record {
        joined = sym (take-append-drop size bytes) ∙ (λ i. sym law.1 i ++ (ih.joined ∙ ap (λ r. flat_map codec.spell (map codec.read (pieces size n rest)) ++ r) (drop-drop (n * size) size bytes ∙ ap (λ k. drop k bytes) (sym more))) i)
            ∙ sym (append_assoc (codec.spell (codec.read piece)) (flat_map codec.spell (map codec.read (pieces size n rest))) (drop (suc n * size) bytes));
        spelled = (law.0, ih.spelled);
      }
