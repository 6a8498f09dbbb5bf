-- What a run of any command promises, over its outcome.
--     reads words      whether the words are a command that reads the input
--     IsFree s      a status that no outcome tells: a fault, or want of memory
--     has_own_line s      a status whose line it tells alone
--     comes_after_reading s      a status of a run that has read all its input
--     HasStatus words left s      the status is the outcome's, or free
--     HasLine words left s line      the line of the status, or of the outcome
--     WritesOutput words left before after      the outcome's output has been appended
--     WritesPart words left before after      the outcome is done, and a front of its output has been appended
use Rattle.std.specs.Prelude.{◌≡◌, ◌⊎◌, ℕ, Bool, true, false, IsTrue, List, Option, Some, None}
use Rattle.std.specs.declared.string.String.{String}
use Rattle.std.specs.declared.alloc.Global.{Global}
use Rattle.prefix_io.specs.Streams.{AppendsPrefix}
use Rattle.prefix_text.specs.Commands.{command_of}
use Rattle.prefix_text.specs.declared.command.Command.{Command}
use Rattle.prefix_app.specs.Outcome.{outcome, reads_input}
use Rattle.prefix_app.specs.Statuses.{line_of}
use Rattle.prefix_app.specs.Told.{AppendsThen, AsTold, WhereTold}
use Rattle.prefix_app.specs.declared.status.Status.{Status}
use Rattle.prefix_app.specs.declared.status.Status.TheVariants.{Done, Refused, Usage, ReadFault, WriteFault, NoMemory, Overflow, TooLong, BadLine}

abbrev pub reads_some : Option Command → Bool
reads_some None = false
reads_some (Some c) = reads_input c

abbrev pub reads : List (String Global) → Bool
reads words = reads_some (command_of words)

abbrev pub IsFree : Status → Type 0
IsFree s = (s ≡ ReadFault) ⊎ ((s ≡ WriteFault) ⊎ (s ≡ NoMemory))

abbrev pub has_own_line : Status → Bool
has_own_line Refused = false
has_own_line Overflow = false
has_own_line BadLine = false
has_own_line _ = true

abbrev pub comes_after_reading : Status → Bool
comes_after_reading Usage = false
comes_after_reading ReadFault = false
comes_after_reading NoMemory = false
comes_after_reading TooLong = false
comes_after_reading _ = true

module _ (words : List (String Global)) (left : Option (List ℕ)) where
  abbrev pub HasStatus : Status → Type 0
  HasStatus s = IsFree s ⊎ WhereTold left (λ bytes. s ≡ (outcome words bytes).status)

  abbrev pub HasLine : Status → List ℕ → Type 0
  HasLine s line = (IsTrue (has_own_line s) × (line ≡ line_of s)) ⊎ AsTold left (λ bytes. (s ≡ (outcome words bytes).status) × (line ≡ (outcome words bytes).line))

  abbrev pub WritesOutput : Option (List ℕ) → Option (List ℕ) → Type 0
  WritesOutput before after = AsTold left (λ bytes. AppendsThen before after (λ output. output ≡ (outcome words bytes).output))

  abbrev pub WritesPart : Option (List ℕ) → Option (List ℕ) → Type 0
  WritesPart before after = AsTold left (λ bytes. ((outcome words bytes).status ≡ Done) × AppendsPrefix before after (outcome words bytes).output)
