-- Words of the code's contracts.
use Rattle.std.specs.Prelude.{◌≡◌, ℕ, ◌≤◌, not, Bool, List, ◌++◌, take, drop, length, Result, Ok, Err, MatchResult}
use Rattle.std.specs.List.{list_any}
use Rattle.prefix_model.specs.declared.Cause.{Cause}
use Rattle.std.specs.FinMap.{entries}
use Rattle.prefix_model.specs.Tables.{KeyMap}
use Rattle.prefix_model.specs.Positions.{positions_in}
use Rattle.prefix_model.specs.Spelling.{Codec, Spells}
use Rattle.prefix_model.specs.FirstCause.{pieces, first_word, check}
use Rattle.prefix_layout.specs.Errors.{error_of}
use Rattle.prefix_layout.specs.declared.error.ArchiveError.{ArchiveError}
use Rattle.prefix_layout.specs.declared.check.FamilySpan.{FamilySpan}

-- whether one of n values is refused
abbrev pub some_refused : {V : Type 0} → Codec V → ℕ → List ℕ → Bool
some_refused codec n bytes = list_any (λ piece. not (codec.accepted piece)) (pieces codec.size n bytes)

-- the span of the family at the front of the bytes
pub record IsSpan (bytes : List ℕ) (s : FamilySpan) : Type 0 where
  pub nodes : s.nodes ≡ first_word bytes
  pub entries : s.entries ≡ first_word (drop 4 bytes)
  pub len : s.len ≤ length bytes

-- what the check answers: the span where there is no cause, and else the cause
abbrev pub AnswersCheck : {V : Type 0} → Codec V → ℕ → List ℕ → Result FamilySpan Cause → Type 0
AnswersCheck codec w bytes result = MatchResult result (λ s. (check codec w bytes ≡ Ok (drop s.len bytes)) × IsSpan bytes s) (λ e. check codec w bytes ≡ Err e)

-- a front of the bytes spells a table, and its length is told; or none does
abbrev pub TellsSpelling : {V X : Type 0} → Codec V → ℕ → List ℕ → Result FamilySpan X → Type 0
TellsSpelling {V} codec w bytes result =
    MatchResult result
    (λ s. (m : KeyMap V) × Spells codec w (take s.len bytes) m)
    (λ e. (front rest : List ℕ) (m : KeyMap V) → Spells codec w front m → bytes ≡ front ++ rest → ⊥)

-- the same, with the error that names the cause
abbrev pub NamesCause : {V : Type 0} → Codec V → ℕ → List ℕ → Result FamilySpan ArchiveError → Type 0
NamesCause codec w bytes result =
    MatchResult result
    (λ s. (check codec w bytes ≡ Ok (drop s.len bytes)) × IsSpan bytes s)
    (λ e. (cause : Cause) × (e ≡ error_of cause) × (check codec w bytes ≡ Err cause))

-- a front of the bytes spells a table of a width of at most 128
pub record BeginsWithFamily {V : Type 0} (codec : Codec V) (bytes : List ℕ) : Type 0 where
  pub width : ℕ
  pub within : width ≤ 128
  pub front : List ℕ
  pub rest : List ℕ
  pub table : KeyMap V
  pub spelled : Spells codec width front table
  pub joined : bytes ≡ front ++ rest

-- the counts of a table, and the length of its spelling
pub record IsSpanOf {V : Type 0} (front : List ℕ) (m : KeyMap V) (s : FamilySpan) : Type 0 where
  pub nodes : s.nodes ≡ length (positions_in m)
  pub entries : s.entries ≡ length (entries m)
  pub len : s.len ≡ length front

-- the span is that of each table that a front of the bytes spells; there is one at most
abbrev pub TellsSpan : {V : Type 0} → Codec V → List ℕ → FamilySpan → Type 0
TellsSpan {V} codec bytes s = (w : ℕ) (front rest : List ℕ) (m : KeyMap V) → Spells codec w front m → bytes ≡ front ++ rest → IsSpanOf front m s
