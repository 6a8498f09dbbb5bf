-- The steps of a run.
--     IsReadStatus s      reading ends so
--     IsInput command old new all      all the input, where the command reads it
--     Gives bytes output      the output is the archive of the least tables of those that the bytes spell;  IsGiven is its parts
--     IsOpened bytes first second, IsRefused bytes error      what is known of bytes that were accessed
--     TellsTables      what `tables_of` tells is what the bytes spell, or the first cause for which they are refused
use Rattle.std.specs.Prelude.{◌≡◌, ◌⊎◌, ◌≤◌, ℕ, true, List, length, Option, Ok, Err}
use Rattle.prefix_model.specs.declared.Cause.{Cause}
use Rattle.prefix_model.specs.Spelling.{IsBytes}
use Rattle.prefix_model.specs.Tables.{KeyMap}
use Rattle.prefix_layout.specs.Errors.{error_of}
use Rattle.prefix_layout.specs.declared.error.ArchiveError.{ArchiveError}
use Rattle.prefix_text.specs.declared.command.Command.{Command}
use Rattle.prefix_app.specs.Compacted.{IsCause, IsCompacted, SpellsLeast, SpellsTables, max_input}
use Rattle.prefix_app.specs.Outcome.{reads_input, tables_of}
use Rattle.prefix_app.specs.Told.{ReadsAll}
use Rattle.prefix_app.specs.declared.status.Status.{Status}
use Rattle.prefix_app.specs.declared.status.Status.TheVariants.{ReadFault, NoMemory, TooLong}

abbrev pub IsReadStatus : Status → Type 0
IsReadStatus s = (s ≡ ReadFault) ⊎ ((s ≡ TooLong) ⊎ (s ≡ NoMemory))

pub record IsInput (command : Command) (old new : Option (List ℕ)) (all : List ℕ) : Type 0 where
  pub whole : reads_input command ≡ true → ReadsAll old new all
  pub within : length all ≤ max_input
  pub bytes : reads_input command ≡ true → IsBytes all

pub record IsGiven (bytes output : List ℕ) : Type 0 where
  pub least : SpellsLeast bytes output
  pub fewest : IsCompacted bytes output

-- a whole word, whose parts a goal that needs none of them does not read
unfoldable pub Gives : List ℕ → List ℕ → Type 0
Gives bytes output = IsGiven bytes output

-- the tables that the bytes spell are told, and else the first cause
pub record TellsTables : Type 0 where
  pub tables : (bytes : List ℕ) (m n : KeyMap ℕ) → SpellsTables bytes m n → tables_of bytes ≡ Ok (m, n)
  pub cause : (bytes : List ℕ) (cause : Cause) → IsCause bytes cause → tables_of bytes ≡ Err cause

-- ---- what is known of bytes that were accessed

pub record IsOpened (bytes : List ℕ) (first second : KeyMap ℕ) : Type 0 where
  pub told : tables_of bytes ≡ Ok (first, second)

pub record IsRefused (bytes : List ℕ) (error : ArchiveError) : Type 0 where
  pub cause : Cause
  pub named : error ≡ error_of cause
  pub told : tables_of bytes ≡ Err cause
