-- The errors of archives.
--     error_of cause      the error that names a cause
--     IsWriteError result      the writer's errors alone
--     code_of error, text_of error      its number, from 1;  its sentence
use Rattle.std.specs.Prelude.{ℕ, List, codes, Result, Err}
use Rattle.prefix_model.specs.declared.Cause.{Cause}
use Rattle.prefix_model.specs.declared.Cause.TheVariants as cause
use Rattle.prefix_layout.specs.declared.error.ArchiveError.{ArchiveError}
use Rattle.prefix_layout.specs.declared.error.ArchiveError.TheVariants.{Truncated, TrailingBytes, InvalidValue, MissingRootNode, NodeListTooLong, NodeListTooShort, NodeListInconsistent, DataListInconsistent, DataListTooShort, DataListTooLong, ContainsEmptyNode, DepthExceedsPrefixRepr, NodeIndexOverflow, DataIndexOverflow, OutOfMemory}

abbrev pub error_of : Cause → ArchiveError
error_of cause.Truncated = Truncated
error_of cause.TrailingBytes = TrailingBytes
error_of cause.InvalidValue = InvalidValue
error_of cause.MissingRootNode = MissingRootNode
error_of cause.NodeListTooLong = NodeListTooLong
error_of cause.NodeListTooShort = NodeListTooShort
error_of cause.NodeListInconsistent = NodeListInconsistent
error_of cause.DataListInconsistent = DataListInconsistent
error_of cause.DataListTooShort = DataListTooShort
error_of cause.DataListTooLong = DataListTooLong
error_of cause.ContainsEmptyNode = ContainsEmptyNode
error_of cause.DepthExceedsPrefixRepr = DepthExceedsPrefixRepr

abbrev pub code_of : ArchiveError → ℕ
code_of Truncated = 1
code_of TrailingBytes = 2
code_of InvalidValue = 3
code_of MissingRootNode = 4
code_of NodeListTooLong = 5
code_of NodeListTooShort = 6
code_of NodeListInconsistent = 7
code_of DataListInconsistent = 8
code_of DataListTooShort = 9
code_of DataListTooLong = 10
code_of ContainsEmptyNode = 11
code_of DepthExceedsPrefixRepr = 12
code_of NodeIndexOverflow = 13
code_of DataIndexOverflow = 14
code_of OutOfMemory = 15

unfoldable pub text_of : ArchiveError → List ℕ
text_of Truncated = codes "Archive is cut short."
text_of TrailingBytes = codes "Archive has trailing bytes."
text_of InvalidValue = codes "Invalid value."
text_of MissingRootNode = codes "Missing the root node."
text_of NodeListTooLong = codes "Node list is too long"
text_of NodeListTooShort = codes "Node list is too short"
text_of NodeListInconsistent = codes "Inconsistent node list"
text_of DataListInconsistent = codes "Inconsistent data list"
text_of DataListTooShort = codes "Data list is too short"
text_of DataListTooLong = codes "Data list is too long"
text_of ContainsEmptyNode = codes "Trie contains empty nodes."
text_of DepthExceedsPrefixRepr = codes "Depth of tree exceeds the number of bits in the prefix."
text_of NodeIndexOverflow = codes "Node list too long for 32-bit index."
text_of DataIndexOverflow = codes "Data list too long for 32-bit index."
text_of OutOfMemory = codes "Out of memory."

-- the errors that the writer of a table has
abbrev pub IsWriteError : {A : Type 0} → Result A ArchiveError → Type 0
IsWriteError (Err NodeIndexOverflow) = Unit {0}
IsWriteError (Err DataIndexOverflow) = Unit {0}
IsWriteError (Err OutOfMemory) = Unit {0}
IsWriteError _ = ⊥
