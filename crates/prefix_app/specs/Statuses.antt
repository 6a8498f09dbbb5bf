-- The statuses of a run.
--     code_of status      its exit code
--     line_of status      its line on the sink of errors, where the status alone tells it
--     refusal error      the line of bytes that are refused
--     status_of error, line_of_error error      the status and the line of an error of archives
use Rattle.std.specs.Prelude.{ℕ, List, [], ◌++◌, codes}
use Rattle.prefix_layout.specs.Errors.{text_of}
use Rattle.prefix_layout.specs.declared.error.ArchiveError.{ArchiveError}
use Rattle.prefix_layout.specs.declared.error.ArchiveError.TheVariants.{NodeIndexOverflow, DataIndexOverflow, OutOfMemory}
use Rattle.prefix_app.specs.declared.status.Status.{Status}
use Rattle.prefix_app.specs.declared.status.Status.TheVariants.{Done, Refused, Usage, ReadFault, WriteFault, NoMemory, Overflow, TooLong, BadLine}

abbrev pub code_of : Status → ℕ
code_of Done = 0
code_of Refused = 1
code_of Usage = 2
code_of ReadFault = 3
code_of WriteFault = 4
code_of NoMemory = 5
code_of Overflow = 6
code_of TooLong = 7
code_of BadLine = 8

-- the text of an error in a line
unfoldable pub refusal : ArchiveError → List ℕ
refusal error = codes "prefix_app: " ++ (text_of error ++ codes "\n")

-- the line of a status; where the outcome tells more than the status, none is here
unfoldable pub line_of : Status → List ℕ
line_of Done = []
line_of Refused = []
line_of Usage = codes "prefix_app: no such command\n"
line_of ReadFault = codes "prefix_app: read fault\n"
line_of WriteFault = codes "prefix_app: write fault\n"
line_of NoMemory = codes "prefix_app: out of memory\n"
line_of Overflow = []
line_of TooLong = codes "prefix_app: input too long\n"
line_of BadLine = []

unfoldable pub status_of : ArchiveError → Status
status_of NodeIndexOverflow = Overflow
status_of DataIndexOverflow = Overflow
status_of OutOfMemory = NoMemory
status_of _ = Refused

unfoldable pub line_of_error : ArchiveError → List ℕ
line_of_error OutOfMemory = line_of NoMemory
line_of_error error = refusal error
