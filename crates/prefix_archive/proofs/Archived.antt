-- Bytes that spell tables are those of the tables.
use Rattle.std.proofs.Common.{◌≡◌, ℕ, true, false, not, ◌==◌, List, [], ◌++◌, length, Ok, Err, refl, sym, ap, ◌∙◌, subst, append-nil}
use Rattle.std.specs.Prelude.{Result}
use Rattle.std.proofs.lemmas.Bool.{eqb-true}
use Rattle.std.proofs.lemmas.List.{nil_from_length}
use Rattle.prefix_model.specs.declared.Cause.{Cause}
use Rattle.prefix_model.specs.declared.Cause.TheVariants.{TrailingBytes}
use Rattle.prefix_model.specs.Tables.{KeyMap}
use Rattle.prefix_model.specs.Spelling.{Codec, IsLawful, Spells, SpellsPair, spelling}
use Rattle.prefix_model.specs.FirstCause.{◌>>=◌, refuse_if, check}
use Rattle.prefix_model.proofs.Archive.Spelled.{spells_one, spells_one_pair, spells_accepted}
use Rattle.prefix_archive.specs.Archives.{TellsBytes, TellsBytesOfPair, SpellsOneTable, HasOneSpelling, IsPrefixFree, HasCauseUnlessSpelled, ReadsWritten}
use Rattle.prefix_model.proofs.Archive.FirstCauses.{spelled_alone}

module _ {V : Type 0} (codec : Codec V) where
  pub tells_bytes : TellsBytes codec
  tells_bytes w a b m n s t = (
    ((λ e. (spells_one codec w a [] b [] m n s t (ap (λ x. x ++ []) e)).0), (λ e. s.same ∙ ap (spelling codec) e ∙ sym t.same)),
    s.same,
  )

  whole_pair : (v w : ℕ) (a : List ℕ) (m n : KeyMap V) → SpellsPair codec v w a m n → a ≡ spelling codec m ++ spelling codec n
  whole_pair v w a m n s = s.joined ∙ (λ i. s.first_spelled.same i ++ s.second_spelled.same i)

  pub tells_bytes_of_pair : TellsBytesOfPair codec
  tells_bytes_of_pair v w a b m1 m2 n1 n2 s t = (
    (
      (λ e. spells_one_pair codec v w b m1 m2 n1 n2 (subst (λ x. SpellsPair codec v w x m1 m2) e s) t),
      (λ e. whole_pair v w a m1 m2 s ∙ (λ i. spelling codec (e.0 i) ++ spelling codec (e.1 i)) ∙ sym (whole_pair v w b n1 n2 t)),
    ),
    whole_pair v w a m1 m2 s,
  )

  pub spells_one_table : SpellsOneTable codec
  spells_one_table w bytes m n s t = (spells_one codec w bytes [] bytes [] m n s t refl).0

  pub has_one_spelling : HasOneSpelling codec
  has_one_spelling w a b m s t = s.same ∙ sym t.same

  pub is_prefix_free : IsPrefixFree codec
  is_prefix_free w a rest m n s t = (spells_one codec w a rest (a ++ rest) [] m n s t (sym (append-nil (a ++ rest)))).2

  nothing_behind : (rest : List ℕ) → refuse_if (not (length rest == 0)) TrailingBytes ≡ Ok tt → rest ≡ []
  nothing_behind rest h =
      elim (length rest == 0) as (λ b. (length rest == 0) ≡ b → refuse_if (not b) TrailingBytes ≡ Ok tt → rest ≡ []) [
        | true ↦ λ e k. nil_from_length rest (eqb-true (length rest) 0 e)
        | false ↦ λ e k. cc
      ] refl h

  pub has_cause : IsLawful codec → HasCauseUnlessSpelled codec
  has_cause lawful w bytes fits = (λ h. found (check codec w bytes) refl h, λ m. spelled_alone codec w bytes m.0 m.1)
    where
      found : (r : Result (List ℕ) Cause) → check codec w bytes ≡ r → (r >>= λ behind. refuse_if (not (length behind == 0)) TrailingBytes) ≡ Ok tt → (m : KeyMap V) × Spells codec w bytes m
      found (Err e) is h = cc
      found (Ok rest) is h =
          let none = nothing_behind rest h in
          let it = spells_accepted codec lawful w bytes rest fits is in
          (it.0, subst (λ b. Spells codec w b it.0) (sym (it.2 ∙ ap (λ r. spelling codec it.0 ++ r) none ∙ append-nil (spelling codec it.0))) it.1)

  pub reads_written : ReadsWritten codec
  reads_written w m wide positions entries values =
      let s : Spells codec w (spelling codec m) m = record { width = wide; positions_fit = positions; entries_fit = entries; values = values; same = refl } in
      (spelled_alone codec w (spelling codec m) m s, λ n t. spells_one_table w (spelling codec m) n m t s)
