-- What follows where an archive of two families is compacted.
use Rattle.std.proofs.Common.{◌≡◌, ◌⊎◌, inl, inr, ◌↔◌, ℕ, ◌^◌, ◌<◌, List, ◌++◌, refl, sym, ap, ◌∙◌, subst, arith, Result, Ok, Err, IfOk, IfErr, Vec, Global}
use Rattle.std.specs.Prelude.{IsOk, OnOk}
use Rattle.std.specs.FinMap as map
use Rattle.std.specs.declared.cmp.Ordering.{Ordering}
use Rattle.std.specs.Cmp.{IsTotalOrder}
use Rattle.std.specs.FinMap.{IsAntisymmetric}
use Rattle.prefix_model.specs.declared.Cause.{Cause}
use Rattle.prefix_model.specs.Tables.{KeyMap, answer, SameAnswers}
use Rattle.prefix_model.specs.LeastTable.{least_table}
use Rattle.prefix_model.specs.Spelling.{Codec, HasSpelling, Spells, SpellsPair, spelling}
use Rattle.prefix_model.specs.FirstCause.{check_pair}
use Rattle.prefix_model.proofs.Archive.Spelled.{spells_one_pair, spelled_pair}
use Rattle.prefix_model.proofs.Fewest.Tables.{keeps_answers, has_fewest, is_canonical, keeps_width, is_no_larger}
use Rattle.prefix_layout.specs.Errors.{error_of}
use Rattle.prefix_layout.specs.declared.error.ArchiveError.{ArchiveError}
use Rattle.prefix_layout.specs.declared.error.ArchiveError.TheVariants.{NodeIndexOverflow, DataIndexOverflow, OutOfMemory}
use Rattle.prefix_joint_archive.specs.Compacting.{HasRoom, IsFull, IsCompacted, SpellsLeast, LacksRoom, EndsWith, Compacts, IsCanonical}
use Rattle.prefix_joint_archive.proofs.NamedCauses.{error_tells, names_none}
use Rattle.prefix_joint_archive.proofs.LeastValues.{least_values}

module _ {V : Type 0} (codec : Codec V) where
  full_and_room : (m : KeyMap V) → IsFull m → HasRoom m → ⊥
  full_and_room m full room = omega arith

  either_full : (m n k l : KeyMap V) → m ≡ k → n ≡ l → IsFull m ⊎ IsFull n → IsFull k ⊎ IsFull l
  either_full m n k l e f (inl h) = inl (subst IsFull e h)
  either_full m n k l e f (inr h) = inr (subst IsFull f h)

module _ {V : Type 0} (codec : Codec V) (cmp : V → V → Ordering) (v w : ℕ) (bytes : List ℕ) (first second : KeyMap V) (spelled : SpellsPair codec v w bytes first second) where
  module _ (m n : KeyMap V) (is_first : m ≡ least_table cmp v first) (is_second : n ≡ least_table cmp w second) where
    ends_so : (e : ArchiveError) → ((e ≡ NodeIndexOverflow) × (IsFull m ⊎ IsFull n)) ⊎ (e ≡ OutOfMemory) → EndsWith codec cmp v w bytes e
    ends_so e (inl (is, full)) = inr (inl (is, record { first = first; second = second; input_spelled = spelled; full = either_full codec m n (least_table cmp v first) (least_table cmp w second) is_first is_second full }))
    ends_so e (inr is) = inr (inr (is, spelled_pair codec v w bytes first second spelled))

    -- writing both least tables compacts
    pub writing_compacts : (r : Result (Vec ℕ Global) ArchiveError) → IfOk r (λ output. output.items ≡ spelling codec m ++ spelling codec n) → OnOk r (HasRoom m × HasRoom n)
        → IfErr r (λ e. ((e ≡ NodeIndexOverflow) × (IsFull m ⊎ IsFull n)) ⊎ (e ≡ OutOfMemory)) → Compacts codec cmp v w bytes r
    writing_compacts (Ok output) whole room ends = record {
      first = first;
      second = second;
      input_spelled = spelled;
      first_room = subst HasRoom is_first room.0;
      second_room = subst HasRoom is_second room.1;
      output_is = whole ∙ (ap (λ x. spelling codec x ++ spelling codec n) is_first ∙ ap (λ x. spelling codec (least_table cmp v first) ++ spelling codec x) is_second);
    }
    writing_compacts (Err e) whole room ends = ends_so e ends

module _ {V : Type 0} (codec : Codec V) {cmp : V → V → Ordering} (o : IsTotalOrder cmp) (exact : IsAntisymmetric cmp) where
  -- the least table has few entries
  pub least_fits : (w : ℕ) (bytes : List ℕ) (m least : KeyMap V) → Spells codec w bytes m → least ≡ least_table cmp w m → map.len least < 2 ^ 32
  least_fits w bytes m least s is_least = rw is_least (omega (arith, is_no_larger o exact w m, map.len-entries m, s.entries_fit))

  -- the least table is spelled as it is
  spells_least : (w : ℕ) (bytes : List ℕ) (m : KeyMap V) → Spells codec w bytes m → HasRoom (least_table cmp w m) → Spells codec w (spelling codec (least_table cmp w m)) (least_table cmp w m)
  spells_least w bytes m s room = record {
    width = keeps_width o exact w m;
    positions_fit = room;
    entries_fit = omega (arith, is_no_larger o exact w m, map.len-entries m, map.len-entries (least_table cmp w m), s.entries_fit);
    values = least_values (HasSpelling codec) o exact w m s.values;
    same = refl;
  }

  output_pair : (v w : ℕ) (bytes output : List ℕ) (s : SpellsLeast codec cmp v w bytes output) → SpellsPair codec v w output (least_table cmp v s.first) (least_table cmp w s.second)
  output_pair v w bytes output s = record {
    front = spelling codec (least_table cmp v s.first);
    rest = spelling codec (least_table cmp w s.second);
    first_spelled = spells_least v s.input_spelled.front s.first s.input_spelled.first_spelled s.first_room;
    second_spelled = spells_least w s.input_spelled.rest s.second s.input_spelled.second_spelled s.second_room;
    joined = s.output_is;
  }

  pub least_is_compacted : (v w : ℕ) (bytes output : List ℕ) → SpellsLeast codec cmp v w bytes output → IsCompacted codec v w bytes output
  least_is_compacted v w bytes output s = record {
    first = s.first;
    second = s.second;
    new_first = least_table cmp v s.first;
    new_second = least_table cmp w s.second;
    input_spelled = s.input_spelled;
    output_spelled = output_pair v w bytes output s;
    first_same = keeps_answers o exact v s.first;
    second_same = keeps_answers o exact w s.second;
    first_fewest = has_fewest o exact v s.first;
    second_fewest = has_fewest o exact w s.second;
  }

err_same : {T E : Type 0} {d e : E} → ◌≡◌ {A = Result T E} (Err d) (Err e) → d ≡ e
err_same h = cc

no_cause : {a : Cause} {P : Type 0} {found : Result (Unit {0}) Cause} → found ≡ Ok tt → found ≡ Err a → P
no_cause e h = let k = sym e ∙ h in cc

-- What a result tells.
module _ {V : Type 0} (codec : Codec V) (cmp : V → V → Ordering) (v w : ℕ) (bytes : List ℕ) where
  no_cause_lacks : (a : Cause) → LacksRoom codec cmp v w bytes → check_pair codec v w bytes ≡ Err a → ⊥
  no_cause_lacks a l h = no_cause (spelled_pair codec v w bytes l.first l.second l.input_spelled) h

  pub gives_least : (r : Result (Vec ℕ Global) ArchiveError) → Compacts codec cmp v w bytes r → IfOk r (λ output. SpellsLeast codec cmp v w bytes output.items)
  gives_least (Ok output) h = h
  gives_least (Err e) h = tt

  error_found : (e : ArchiveError) (a : Cause) → EndsWith codec cmp v w bytes e → e ≡ error_of a → check_pair codec v w bytes ≡ Err a
  error_found e a (inl (b, is, found)) h = found ∙ ap Err (error_tells b a (sym is ∙ h))
  error_found e a (inr (inl (is, lacks))) h = absurd (names_none a NodeIndexOverflow refl (sym is ∙ h))
  error_found e a (inr (inr (is, ok))) h = absurd (names_none a OutOfMemory refl (sym is ∙ h))

  cause_found : (r : Result (Vec ℕ Global) ArchiveError) → Compacts codec cmp v w bytes r → (a : Cause) → r ≡ Err (error_of a) → check_pair codec v w bytes ≡ Err a
  cause_found (Ok output) h a e = cc
  cause_found (Err x) h a e = error_found x a h (err_same e)

  found_told : (r : Result (Vec ℕ Global) ArchiveError) → Compacts codec cmp v w bytes r → (a : Cause) → check_pair codec v w bytes ≡ Err a → r ≡ Err (error_of a)
  found_told (Ok output) h a e = no_cause (spelled_pair codec v w bytes h.first h.second h.input_spelled) e
  found_told (Err x) (inl (b, is, found)) a e = ap Err (is ∙ ap error_of (err_same {T = Unit {0}} (sym found ∙ e)))
  found_told (Err x) (inr (inl (is, lacks))) a e = absurd (no_cause_lacks a lacks e)
  found_told (Err x) (inr (inr (is, ok))) a e = no_cause ok e

  pub tells_causes : (r : Result (Vec ℕ Global) ArchiveError) → Compacts codec cmp v w bytes r → (a : Cause) → (r ≡ Err (error_of a)) ↔ (check_pair codec v w bytes ≡ Err a)
  tells_causes r h a = (cause_found r h a, found_told r h a)

  pub full_lacks : (r : Result (Vec ℕ Global) ArchiveError) → Compacts codec cmp v w bytes r → r ≡ Err NodeIndexOverflow → LacksRoom codec cmp v w bytes
  full_lacks (Ok output) h e = cc
  full_lacks (Err x) (inl (b, is, found)) e = absurd (names_none b NodeIndexOverflow refl (sym (err_same e) ∙ is))
  full_lacks (Err x) (inr (inl (is, lacks))) e = lacks
  full_lacks (Err x) (inr (inr (is, ok))) e = let k = sym is ∙ err_same e in cc

  no_room_spelled : (output : List ℕ) → SpellsLeast codec cmp v w bytes output → LacksRoom codec cmp v w bytes → ⊥
  no_room_spelled output s l = go l.full
    where
      same : (s.first ≡ l.first) × (s.second ≡ l.second)
      same = spells_one_pair codec v w bytes s.first s.second l.first l.second s.input_spelled l.input_spelled

      go : IsFull (least_table cmp v l.first) ⊎ IsFull (least_table cmp w l.second) → ⊥
      go (inl full) = full_and_room codec (least_table cmp v l.first) full (subst (λ m. HasRoom (least_table cmp v m)) same.0 s.first_room)
      go (inr full) = full_and_room codec (least_table cmp w l.second) full (subst (λ m. HasRoom (least_table cmp w m)) same.1 s.second_room)

  pub lacks_full : (r : Result (Vec ℕ Global) ArchiveError) → Compacts codec cmp v w bytes r → LacksRoom codec cmp v w bytes → (r ≡ Err NodeIndexOverflow) ⊎ (r ≡ Err OutOfMemory)
  lacks_full (Ok output) h l = absurd (no_room_spelled output.items h l)
  lacks_full (Err x) (inl (b, is, found)) l = absurd (no_cause_lacks b l found)
  lacks_full (Err x) (inr (inl (is, lacks))) l = inl (ap Err is)
  lacks_full (Err x) (inr (inr (is, ok))) l = inr (ap Err is)

  pub serves_pairs : (r : Result (Vec ℕ Global) ArchiveError) → Compacts codec cmp v w bytes r → check_pair codec v w bytes ≡ Ok tt → IsOk r ⊎ ((r ≡ Err NodeIndexOverflow) ⊎ (r ≡ Err OutOfMemory))
  serves_pairs (Ok output) h ok = inl refl
  serves_pairs (Err x) (inl (b, is, found)) ok = no_cause ok found
  serves_pairs (Err x) (inr (inl (is, lacks))) ok = inr (inl (ap Err is))
  serves_pairs (Err x) (inr (inr (is, memory))) ok = inr (inr (ap Err is))

  pub counts_values : (r : Result (Vec ℕ Global) ArchiveError) → Compacts codec cmp v w bytes r → r ≡ Err DataIndexOverflow → ⊥
  counts_values (Ok output) h e = cc
  counts_values (Err x) (inl (b, is, found)) e = names_none b DataIndexOverflow refl (sym (err_same e) ∙ is)
  counts_values (Err x) (inr (inl (is, lacks))) e = let k = sym is ∙ err_same e in cc
  counts_values (Err x) (inr (inr (is, ok))) e = let k = sym is ∙ err_same e in cc

  pub memory_accepted : (r : Result (Vec ℕ Global) ArchiveError) → Compacts codec cmp v w bytes r → r ≡ Err OutOfMemory → check_pair codec v w bytes ≡ Ok tt
  memory_accepted (Ok output) h e = cc
  memory_accepted (Err x) (inl (b, is, found)) e = absurd (names_none b OutOfMemory refl (sym (err_same e) ∙ is))
  memory_accepted (Err x) (inr (inl (is, lacks))) e = let k = sym is ∙ err_same e in cc
  memory_accepted (Err x) (inr (inr (is, ok))) e = ok

pub gives_compacted : {V : Type 0} (codec : Codec V) {cmp : V → V → Ordering} (o : IsTotalOrder cmp) (exact : IsAntisymmetric cmp) (v w : ℕ) (bytes : List ℕ) (r : Result (Vec ℕ Global) ArchiveError) → Compacts codec cmp v w bytes r → IfOk r (λ output. IsCompacted codec v w bytes output.items)
gives_compacted codec o exact v w bytes (Ok output) h = least_is_compacted codec o exact v w bytes output.items h
gives_compacted codec o exact v w bytes (Err e) h = tt

module _ {V : Type 0} (codec : Codec V) {cmp : V → V → Ordering} (o : IsTotalOrder cmp) (exact : IsAntisymmetric cmp) where
  same_back : (w : ℕ) (m n : KeyMap V) → least_table cmp w m ≡ least_table cmp w n → SameAnswers w m n
  same_back w m n e k l = keeps_answers o exact w m k l ∙ (ap (λ (t : KeyMap V). answer t k) e ∙ sym (keeps_answers o exact w n k l))

  pub is_canonical_archive : IsCanonical codec cmp
  is_canonical_archive v w a b new_a new_b s t = (there, back)
    where
      there : new_a ≡ new_b → SameAnswers v s.first t.first × SameAnswers w s.second t.second
      there e =
          let p = output_pair codec o exact v w a new_a s in
          let q = subst (λ x. SpellsPair codec v w x (least_table cmp v t.first) (least_table cmp w t.second)) (sym e) (output_pair codec o exact v w b new_b t) in
          let same = spells_one_pair codec v w new_a (least_table cmp v s.first) (least_table cmp w s.second) (least_table cmp v t.first) (least_table cmp w t.second) p q in
          (same_back v s.first t.first same.0, same_back w s.second t.second same.1)

      back : SameAnswers v s.first t.first × SameAnswers w s.second t.second → new_a ≡ new_b
      back (h, k) =
          s.output_is
          ∙ (ap (λ x. spelling codec x ++ spelling codec (least_table cmp w s.second)) (is_canonical o exact v s.first t.first h)
          ∙ (ap (λ x. spelling codec (least_table cmp v t.first) ++ spelling codec x) (is_canonical o exact w s.second t.second k) ∙ sym t.output_is))
