-- How a command ends without an output.
--     ending_status e, ending_line e      the status and the line of an ending
--     IsEndingStatus s      an ending has such a status
--     EndsIn o e      the ending is that of the outcome, or want of memory
--     Makes o result      the result is the outcome's output, or such an ending
use Rattle.std.specs.Prelude.{◌≡◌, ◌⊎◌, ℕ, List, Result, MatchResult}
use Rattle.std.specs.declared.alloc.Global.{Global}
use Rattle.std.specs.declared.vec.Vec.{Vec}
use Rattle.prefix_text.specs.Texts.{bad_line_text}
use Rattle.prefix_app.specs.Outcome.{Outcome, ends, gives}
use Rattle.prefix_app.specs.Statuses.{line_of, line_of_error, status_of}
use Rattle.prefix_app.specs.declared.ending.Ending.{Ending}
use Rattle.prefix_app.specs.declared.ending.Ending.TheVariants as ending
use Rattle.prefix_app.specs.declared.status.Status.{Status}
use Rattle.prefix_app.specs.declared.status.Status.TheVariants as status

abbrev pub ending_status : Ending → Status
ending_status ending.NoMemory = status.NoMemory
ending_status (ending.Archive error) = status_of error
ending_status (ending.BadLine n) = status.BadLine

abbrev pub ending_line : Ending → List ℕ
ending_line ending.NoMemory = line_of status.NoMemory
ending_line (ending.Archive error) = line_of_error error
ending_line (ending.BadLine n) = bad_line_text n

abbrev pub IsEndingStatus : Status → Type 0
IsEndingStatus s = (s ≡ status.Refused) ⊎ ((s ≡ status.Overflow) ⊎ ((s ≡ status.NoMemory) ⊎ (s ≡ status.BadLine)))

abbrev pub EndsIn : Outcome → Ending → Type 0
EndsIn o e = (o ≡ ends (ending_status e) (ending_line e)) ⊎ ((ending_status e ≡ status.NoMemory) × (ending_line e ≡ line_of status.NoMemory))

abbrev pub Makes : Outcome → Result (Vec ℕ Global) Ending → Type 0
Makes o result = MatchResult result (λ output. o ≡ gives output.items) (EndsIn o)
