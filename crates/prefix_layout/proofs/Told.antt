-- What the check tells of spellings.
use Rattle.std.proofs.Common.{◌≡◌, ℕ, ◌+◌, ◌-◌, ◌*◌, ◌<◌, ◌≤◌, ◌^◌, false, not, ltb, eqb, List, [], ◌∷◌, ◌++◌, length, take, drop, sym, ap, ◌∙◌, subst, arith, Result, Ok, Err, append_assoc, length-append}
use Rattle.std.specs.List.{list_any}
use Rattle.std.specs.FinMap as finite
use Rattle.std.proofs.lemmas.Bool.{ltb-false}
use Rattle.std.proofs.lemmas.List.{take-append-drop, append_cancel_right, length-drop, drop_at}
use Rattle.prefix_model.specs.declared.Cause.{Cause}
use Rattle.prefix_model.specs.declared.Cause.TheVariants.{Truncated, InvalidValue, MissingRootNode, DataListTooShort, DataListTooLong}
use Rattle.prefix_model.specs.Tables.{KeyMap}
use Rattle.prefix_model.specs.Positions.{positions_in}
use Rattle.prefix_model.specs.Spelling.{Codec, IsBytes, IsLawful, Spells, spelling, word}
use Rattle.prefix_model.specs.FirstCause.{first_word, read_records, pieces, check_records, check_values, check_body, check}
use Rattle.prefix_model.proofs.Archive.Numbers.{first_word-word, length-word}
use Rattle.prefix_model.proofs.Archive.Scan.{bind_ok, passed}
use Rattle.prefix_model.proofs.Archive.Spelled.{accepts_spelled, spells_accepted}
use Rattle.prefix_layout.specs.declared.check.FamilySpan.{FamilySpan}
use Rattle.prefix_layout.specs.Spans.{AnswersCheck, TellsSpelling}

pub told : {V : Type 0} (codec : Codec V) → IsLawful codec → (w : ℕ) (bytes : List ℕ) → IsBytes bytes → (result : Result FamilySpan Cause) → AnswersCheck codec w bytes result → TellsSpelling codec w bytes result
told codec lawful w bytes fits (Ok s) h =
    let r = spells_accepted codec lawful w bytes (drop s.len bytes) fits h.0 in
    let same : spelling codec r.0 ≡ take s.len bytes = append_cancel_right (spelling codec r.0) (take s.len bytes) (drop s.len bytes) (sym r.2 ∙ sym (take-append-drop s.len bytes)) in
    (r.0, subst (λ front. Spells codec w front r.0) same r.1)
told codec lawful w bytes fits (Err e) h = λ front rest m s j. let x = sym h ∙ ap (check codec w) j ∙ accepts_spelled codec w front rest m s in cc

-- what the head of a spelling counts, and how long it is
pub record Counted {V : Type 0} (codec : Codec V) (front bytes : List ℕ) (m : KeyMap V) : Type 0 where
  pub long : 8 ≤ length bytes
  pub nodes : first_word bytes ≡ length (positions_in m)
  pub entries : first_word (drop 4 bytes) ≡ length (finite.entries m)
  pub len : 8 + 16 * first_word bytes + first_word (drop 4 bytes) * codec.size ≡ length front
  pub within : length front ≤ length bytes

-- the first two words of spelled bytes
heads : (bytes front rest more : List ℕ) (n c : ℕ) → bytes ≡ front ++ rest → front ≡ word n ++ (word c ++ more) → n < 2 ^ 32 → c < 2 ^ 32 → (first_word bytes ≡ n) × (first_word (drop 4 bytes) ≡ c)
heads bytes front rest more n c joined same first second =
    let whole : bytes ≡ word n ++ (word c ++ (more ++ rest)) = joined ∙ ap (λ a. a ++ rest) same ∙ append_assoc (word n) (word c ++ more) rest ∙ ap (λ r. word n ++ r) (append_assoc (word c) more rest) in
    (ap first_word whole ∙ first_word-word n (word c ++ (more ++ rest)) first, ap (λ b. first_word (drop 4 b)) whole ∙ ap first_word (drop_at (word n) (word c ++ (more ++ rest)) 4 (length-word n)) ∙ first_word-word c (more ++ rest) second)

-- a front and its rest, by the parts of the front
measured : (l f r b t n v : ℕ) → l ≡ f + r → 8 ≤ l → b ≡ l - 8 → n ≤ b → t ≡ b - n → v ≤ t → r ≡ t - v → 8 + n + v ≡ f
measured l f r b t n v h a p c q d e = omega arith

-- the head of what is spelled counts its positions and entries
pub counted : {V : Type 0} (codec : Codec V) (w : ℕ) (bytes front rest : List ℕ) (m : KeyMap V) → Spells codec w front m → bytes ≡ front ++ rest → Counted codec front bytes m
counted codec w bytes front rest m s joined =
    let n = first_word bytes in
    let c = first_word (drop 4 bytes) in
    let body = drop 8 bytes in
    let tail = drop (16 * n) body in
    let nodes = length (positions_in m) in
    let es = length (finite.entries m) in
    let e : check codec w bytes ≡ Ok rest = ap (check codec w) joined ∙ accepts_spelled codec w front rest m s in
    let p0 = passed (ltb (length bytes) 8) Truncated (λ _. check_body codec w n c body) rest e in
    let p1 = passed (eqb n 0) MissingRootNode _ rest p0.1 in
    let p2 = passed (ltb (length body) (16 * n)) Truncated _ rest p1.1 in
    let p3 = bind_ok (check_records w false (0 ∷ []) 0 1 (read_records n body)) (λ total. check_values codec total c tail) rest p2.1 in
    let q0 = passed (ltb c p3.0) DataListTooShort _ rest p3.2 in
    let q1 = passed (ltb p3.0 c) DataListTooLong _ rest q0.1 in
    let q2 = passed (ltb (length tail) (c * codec.size)) Truncated _ rest q1.1 in
    let q3 = passed (list_any (λ piece. not (codec.accepted piece)) (pieces codec.size c tail)) InvalidValue _ rest q2.1 in
    let rest_is : drop (c * codec.size) tail ≡ rest = cc (q3.1) in
    let words = heads bytes front rest _ nodes es joined s.same s.positions_fit s.entries_fit in
    let all = ap length joined ∙ length-append front rest in
    record {
      long = ltb-false (length bytes) 8 p0.0;
      nodes = words.0;
      entries = words.1;
      len =
          measured (length bytes) (length front) (length rest) (length body) (length tail) (16 * n) (c * codec.size) all (ltb-false (length bytes) 8 p0.0) (length-drop 8 bytes) (ltb-false (length body) (16 * n) p2.0)
          (length-drop (16 * n) body) (ltb-false (length tail) (c * codec.size) q2.0) (sym (ap length rest_is) ∙ length-drop (c * codec.size) tail);
      within = omega (arith, all);
    }
