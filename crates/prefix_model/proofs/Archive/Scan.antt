-- The check of the records passes exactly where they are the records of nodes that fit together.
use Rattle.std.proofs.Common.{◌≡◌, ℕ, zero, suc, ◌+◌, ◌^◌, ◌<◌, Bool, true, false, not, eqb, ltb, leb, List, [], ◌∷◌, ◌++◌, length, map, replicate, refl, sym, ap, ◌∙◌, subst, arith, Result, Ok, Err}
use Rattle.std.specs.Prelude.{◌&&◌, ◌||◌}
use Rattle.std.specs.List.{list_any, AllByRecursion}
use Rattle.std.proofs.lemmas.Bool.{ltb-false, le-ltb, leb-false, leb-true, eqb-true, eq-eqb}
use Rattle.std.proofs.lemmas.List.{length-append, length-replicate}
use Rattle.prefix_model.specs.declared.Cause.{Cause}
use Rattle.prefix_model.specs.declared.Cause.TheVariants.{NodeListInconsistent, DataListInconsistent, ContainsEmptyNode, DepthExceedsPrefixRepr}
use Rattle.prefix_model.specs.Positions.{NodeRecord, bitmap, bits_of, bits_set, count_true, data_places}
use Rattle.prefix_model.specs.FirstCause.{◌>>=◌, refuse_if, marked, is_too_deep, check_record, check_records}
use Rattle.prefix_model.proofs.KeyLemmas.{not_false}
use Rattle.prefix_model.proofs.Archive.Numbers.{bits_of-bitmap, bitmap-bits_of, bitmap-lt, length-bits_of, bits_set-bitmap, bits_set-low, no_bits, some_bits}
use Rattle.prefix_model.proofs.Archive.Count.{sum_of}
use Rattle.prefix_model.proofs.Archive.Tries.{Shape, IsSound, FitTogether, IsLively, or_false}

-- ---- steps that did not fail

-- where two steps pass, the first does and then the second
pub bind_ok : {A B : Type 0} (r : Result A Cause) (f : A → Result B Cause) (y : B) → (r >>= f) ≡ Ok y → (x : A) × (r ≡ Ok x) × (f x ≡ Ok y)
bind_ok (Ok x) f y e = (x, refl, e)
bind_ok (Err d) f y e = absurd cc

-- where the check goes on, the test does not hold
pub passed : {B : Type 0} (b : Bool) (d : Cause) (f : Unit {0} → Result B Cause) (y : B) → (refuse_if b d >>= f) ≡ Ok y → (b ≡ false) × (f tt ≡ Ok y)
passed true d f y e = absurd cc
passed false d f y e = (refl, e)

-- and where the test does not hold the next step is made
pub passes : {B : Type 0} (b : Bool) (d : Cause) (f : Unit {0} → Result B Cause) → b ≡ false → (refuse_if b d >>= f) ≡ f tt
passes b d f e = ap (λ b. refuse_if b d >>= f) e

-- the same of the last test
pub last_passed : (b : Bool) (d : Cause) (y : Unit {0}) → refuse_if b d ≡ Ok y → b ≡ false
last_passed true d y e = cc
last_passed false d y e = refl

-- and back
pub last_passes : (b : Bool) (d : Cause) → b ≡ false → refuse_if b d ≡ Ok tt
last_passes b d e = ap (λ b. refuse_if b d) e

-- ---- the records of shapes

-- the shape of the node of a record
abbrev pub shape_of : NodeRecord → Shape
shape_of r = record { marks = bits_of 31 r.data_bits; kids = bits_of 32 r.child_bits }

-- the records of nodes of these shapes
abbrev pub records_of : ℕ → ℕ → List Shape → List NodeRecord
records_of a b [] = []
records_of a b (s ∷ ss) = record { data_bits = bitmap s.marks; child_bits = bitmap s.kids; data_index = a; child_index = b } ∷ records_of (a + count_true s.marks) (b + count_true s.kids) ss

-- the data bits of all shapes
abbrev pub marks_in : List Shape → ℕ
marks_in ss = sum_of (λ (s : Shape). count_true s.marks) ss

-- and the child bits
abbrev pub kids_in : List Shape → ℕ
kids_in ss = sum_of (λ (s : Shape). count_true s.kids) ss

-- all but the first are not empty, and the first too where there are others before
abbrev pub LivelyAfter : Bool → List Shape → Type 0
LivelyAfter true ss = AllByRecursion IsLively ss
LivelyAfter false [] = Unit {0}
LivelyAfter false (s ∷ ss) = AllByRecursion IsLively ss

pub record Scanned (w : ℕ) (later : Bool) (ds : List ℕ) (a b : ℕ) (rs : List NodeRecord) (total : ℕ) : Type 0 where
  pub together : FitTogether w ds (map shape_of rs)
  pub lively : LivelyAfter later (map shape_of rs)
  pub same : rs ≡ records_of a b (map shape_of rs)
  pub all : total ≡ a + marks_in (map shape_of rs)

record Apart (w d : ℕ) (r : NodeRecord) : Type 0 where
  sound : IsSound w d (shape_of r)
  marks_back : bitmap (bits_of 31 r.data_bits) ≡ r.data_bits
  marks_count : bits_set r.data_bits ≡ count_true (bits_of 31 r.data_bits)

apart_of : (w d : ℕ) (r : NodeRecord) → is_too_deep w d r.data_bits ≡ false → Apart w d r
unfolding is_too_deep
apart_of w d r e =
    let p = or_false (ltb w d) _ e in
    let q = or_false (list_any (λ s. ltb w (d + length s)) (marked data_places (bits_of 31 r.data_bits))) (leb (2 ^ 31) r.data_bits) p.1 in
    let low : r.data_bits < 2 ^ 31 = leb-false (2 ^ 31) r.data_bits q.1 in
    record {
      sound = record { data_len = length-bits_of 31 r.data_bits; kids_len = length-bits_of 32 r.child_bits; depth = ltb-false w d p.0; fits = q.0 };
      marks_back = bitmap-bits_of 31 r.data_bits low;
      marks_count = bits_set-low 31 r.data_bits (omega arith) low;
    }

not_bare : (x y : ℕ) (a b : ℕ) → (eqb x 0 && eqb y 0) ≡ false → (a ≡ 0 → x ≡ 0) → (b ≡ 0 → y ≡ 0) → 0 < a + b
not_bare x y zero zero e h k = absurd (go x y e (h refl) (k refl))
  where
    go : (x y : ℕ) → (eqb x 0 && eqb y 0) ≡ false → x ≡ 0 → y ≡ 0 → ⊥
    go x y e p q = let r : (true && true) ≡ false = sym (λ i. eq-eqb x 0 p i && eq-eqb y 0 q i) ∙ e in cc
not_bare x y zero (suc b) e h k = omega arith
not_bare x y (suc a) b e h k = omega arith

lively_more : (later : Bool) (s : Shape) (ss : List Shape) → (later ≡ true → IsLively s) → LivelyAfter true ss → LivelyAfter later (s ∷ ss)
lively_more true s ss h k = (h refl, k)
lively_more false s ss h k = k

-- each of the four numbers fits in a word
abbrev pub IsWide : NodeRecord → Type 0
IsWide r = r.child_bits < 2 ^ 32

-- records that pass the check are those of shapes that fit together
pub scan_sound : (w : ℕ) (later : Bool) (ds : List ℕ) (a b : ℕ) (rs : List NodeRecord) (total : ℕ) → AllByRecursion IsWide rs → check_records w later ds a b rs ≡ Ok total → Scanned w later ds a b rs total
scan_sound w true [] a b [] total wide e = record { together = tt; lively = tt; same = refl; all = let is : a ≡ total = cc in omega arith }
scan_sound w false [] a b [] total wide e = record { together = tt; lively = tt; same = refl; all = let is : a ≡ total = cc in omega arith }
scan_sound w later (d ∷ ds) a b [] total wide e = absurd cc
scan_sound w later [] a b (r ∷ rs) total wide e = absurd cc
scan_sound w later (d ∷ ds) a b (r ∷ rs) total wide e =
    let one = bind_ok (check_record w later d a b r) _ total e in
    let p0 = passed (later && (eqb r.data_bits 0 && eqb r.child_bits 0)) ContainsEmptyNode _ one.0 one.1 in
    let p1 = passed (is_too_deep w d r.data_bits) DepthExceedsPrefixRepr _ one.0 p0.1 in
    let p2 = passed (not (eqb r.data_index a)) DataListInconsistent _ one.0 p1.1 in
    let p3 = last_passed (not (eqb r.child_index b)) NodeListInconsistent one.0 p2.1 in
    let first = eqb-true r.data_index a (not_false _ p2.0) in
    let second = eqb-true r.child_index b (not_false _ p3) in
    let parts = apart_of w d r p1.0 in
    let kids_back : bitmap (bits_of 32 r.child_bits) ≡ r.child_bits = bitmap-bits_of 32 r.child_bits wide.0 in
    let kids_count : bits_set r.child_bits ≡ count_true (bits_of 32 r.child_bits) = bits_set-low 32 r.child_bits (omega arith) wide.0 in
    let ih : Scanned w true (ds ++ replicate (count_true (bits_of 32 r.child_bits)) (d + 5)) (a + count_true (bits_of 31 r.data_bits)) (b + count_true (bits_of 32 r.child_bits)) rs total
    = scan_sound w true _ _ _ rs total wide.1 ((λ i. check_records w true (ds ++ replicate (sym kids_count i) (d + 5)) (a + sym parts.marks_count i) (b + sym kids_count i) rs) ∙ one.2) in
    record {
      together = (parts.sound, ih.together);
      lively = lively_more later (shape_of r) (map shape_of rs) (λ is. not_bare r.data_bits r.child_bits _ _ (sym (ap (λ c. c && (eqb r.data_bits 0 && eqb r.child_bits 0)) is) ∙ p0.0)
          (λ z. sym parts.marks_back ∙ some_bits (bits_of 31 r.data_bits) z) (λ z. sym kids_back ∙ some_bits (bits_of 32 r.child_bits) z)) ih.lively;
      same = λ i. record { data_bits = sym parts.marks_back i; child_bits = sym kids_back i; data_index = first i; child_index = second i } ∷ ih.same i;
      all = let all = ih.all in omega arith;
    }

-- ---- and back

bare_false : (later : Bool) (s : Shape) (ss : List Shape) → LivelyAfter later (s ∷ ss) → (later && (eqb (bitmap s.marks) 0 && eqb (bitmap s.kids) 0)) ≡ false
bare_false false s ss h = refl
bare_false true s ss h = go (eqb (bitmap s.marks) 0) (eqb (bitmap s.kids) 0) refl refl
  where
    go : (x y : Bool) → eqb (bitmap s.marks) 0 ≡ x → eqb (bitmap s.kids) 0 ≡ y → (x && y) ≡ false
    go true true p q =
        let a = no_bits s.marks (eqb-true _ 0 p) in
        let b = no_bits s.kids (eqb-true _ 0 q) in
        let c : 0 < count_true s.marks + count_true s.kids = h.0 in absurd (omega (arith, a, b, c))
    go true false p q = refl
    go false y p q = refl

lively_rest : (later : Bool) (s : Shape) (ss : List Shape) → LivelyAfter later (s ∷ ss) → LivelyAfter true ss
lively_rest true s ss h = h.1
lively_rest false s ss h = h

deep_false : (w d : ℕ) (s : Shape) → IsSound w d s → is_too_deep w d (bitmap s.marks) ≡ false
unfolding is_too_deep
deep_false w d s h =
    let bits : bits_of 31 (bitmap s.marks) ≡ s.marks = ap (λ n. bits_of n (bitmap s.marks)) (sym h.data_len) ∙ bits_of-bitmap s.marks in
    let low : leb (2 ^ 31) (bitmap s.marks) ≡ false = lt-leb (2 ^ 31) (bitmap s.marks) (subst (λ n. bitmap s.marks < 2 ^ n) h.data_len (bitmap-lt s.marks)) in
    λ i. le-ltb w d h.depth i || ((ap (λ bs. list_any (λ p. ltb w (d + length p)) (marked data_places bs)) bits ∙ h.fits) i || low i)
  where
    lt-leb : (x y : ℕ) → y < x → leb x y ≡ false
    lt-leb x y l = go (leb x y) refl
      where
        go : (c : Bool) → leb x y ≡ c → leb x y ≡ false
        go true e = absurd (omega (arith, leb-true x y e))
        go false e = e

same_true : (x : ℕ) → not (eqb x x) ≡ false
same_true x = ap not (eq-eqb x x refl)

-- and the records of such shapes pass it
pub scan_complete : (w : ℕ) (later : Bool) (ds : List ℕ) (a b : ℕ) (ss : List Shape) → FitTogether w ds ss → LivelyAfter later ss → check_records w later ds a b (records_of a b ss) ≡ Ok (a + marks_in ss)
scan_complete w later [] a b [] fit lively = ap Ok (omega arith)
scan_complete w later (d ∷ ds) a b [] fit lively = absurd fit
scan_complete w later [] a b (s ∷ ss) fit lively = absurd fit
scan_complete w later (d ∷ ds) a b (s ∷ ss) fit lively =
    let ih = scan_complete w true (ds ++ replicate (count_true s.kids) (d + 5)) (a + count_true s.marks) (b + count_true s.kids) ss fit.1 (lively_rest later s ss lively) in
    let marks : bits_set (bitmap s.marks) ≡ count_true s.marks = bits_set-bitmap s.marks (omega (arith, fit.0.data_len)) in
    let kids : bits_set (bitmap s.kids) ≡ count_true s.kids = bits_set-bitmap s.kids (omega (arith, fit.0.kids_len)) in
    let record_passes : check_record w later d a b (record { data_bits = bitmap s.marks; child_bits = bitmap s.kids; data_index = a; child_index = b }) ≡ Ok tt
    = passes _ ContainsEmptyNode _ (bare_false later s ss lively) ∙ passes _ DepthExceedsPrefixRepr _ (deep_false w d s fit.0) ∙ passes _ DataListInconsistent _ (same_true a) ∙ last_passes _ NodeListInconsistent (same_true b) in
    ap (λ r. r >>= λ _. check_records w true (ds ++ replicate (bits_set (bitmap s.kids)) (d + 5)) (a + bits_set (bitmap s.marks)) (b + bits_set (bitmap s.kids)) (records_of (a + count_true s.marks) (b + count_true s.kids) ss)) record_passes
    ∙ (λ i. check_records w true (ds ++ replicate (kids i) (d + 5)) (a + marks i) (b + kids i) (records_of (a + count_true s.marks) (b + count_true s.kids) ss))
    ∙ ih
    ∙ ap Ok (omega arith)

-- a node for each that child bits count, and for the first
pub fit_count : (w : ℕ) (ds : List ℕ) (ss : List Shape) → FitTogether w ds ss → length ds + kids_in ss ≡ length ss
fit_count w [] [] h = refl
fit_count w [] (s ∷ ss) h = absurd h
fit_count w (d ∷ ds) [] h = absurd h
fit_count w (d ∷ ds) (s ∷ ss) h =
    let ih = fit_count w (ds ++ replicate (count_true s.kids) (d + 5)) ss h.1 in
    let len = length-append ds (replicate (count_true s.kids) (d + 5)) in
    let more = length-replicate (count_true s.kids) (d + 5) in omega arith
