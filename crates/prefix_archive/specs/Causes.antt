-- Why archives are refused.
--     TellsCause found result      an error exactly where a cause was found, and the one that names it
--     IsTable codec w bytes      the bytes spell a table of w bits
use Rattle.std.specs.Prelude.{◌≡◌, ℕ, List, Result, Ok, Err, MatchResult}
use Rattle.prefix_model.specs.declared.Cause.{Cause}
use Rattle.prefix_model.specs.Tables.{KeyMap}
use Rattle.prefix_model.specs.Spelling.{Codec, Spells}
use Rattle.prefix_layout.specs.Errors.{error_of}
use Rattle.prefix_layout.specs.declared.error.ArchiveError.{ArchiveError}

abbrev pub TellsCause : {A : Type 0} → Result (Unit {0}) Cause → Result A ArchiveError → Type 0
TellsCause found result = MatchResult result (λ _. found ≡ Ok tt) (λ e. (cause : Cause) × (e ≡ error_of cause) × (found ≡ Err cause))

module _ {V : Type 0} (codec : Codec V) where
  abbrev pub IsTable : ℕ → List ℕ → Type 0
  IsTable w bytes = (m : KeyMap V) × Spells codec w bytes m
