-- The words of the worked examples.
--     IsCommand words c, IsNoCommand words      what the words give
--     IsLineOf line e, IsNoLine line      what a line gives
--     HasLines text ls      the lines of a text
--     HasText e text      the line of an entry
--     Generates seed count es      what a seed gives
use Rattle.std.specs.Prelude.{◌≡◌, ℕ, List, Some, None}
use Rattle.prefix_text.specs.Commands.{command_in}
use Rattle.prefix_text.specs.Forms.{Entry}
use Rattle.prefix_text.specs.Generator.{generated}
use Rattle.prefix_text.specs.Lines.{entry_of, lines}
use Rattle.prefix_text.specs.Texts.{entry_text}
use Rattle.prefix_text.specs.declared.command.Command.{Command}

unfoldable pub IsCommand : List (List ℕ) → Command → Type 0
IsCommand words c = command_in words ≡ Some c

unfoldable pub IsNoCommand : List (List ℕ) → Type 0
IsNoCommand words = command_in words ≡ None

unfoldable pub IsLineOf : List ℕ → Entry → Type 0
IsLineOf line e = entry_of line ≡ Some e

unfoldable pub IsNoLine : List ℕ → Type 0
IsNoLine line = entry_of line ≡ None

unfoldable pub HasLines : List ℕ → List (List ℕ) → Type 0
HasLines text ls = lines text ≡ ls

unfoldable pub HasText : Entry → List ℕ → Type 0
HasText e text = entry_text e ≡ text

unfoldable pub Generates : ℕ → ℕ → List Entry → Type 0
Generates seed count es = generated count seed ≡ es
