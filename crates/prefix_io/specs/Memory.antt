-- What the forms in memory hold: `source_left`, `source_piece`, `source_fail`, `source_call`, `source_faults`;
-- `sink_written`, `sink_free`, `sink_fail`, `sink_call`, `sink_faults`, `is_sink_clean`.
-- What a read answers: `read_fails`, `read_count`, `read_answer`; what it moves: `moved_to`, `rest_after`.
-- What a write answers: `planned_take`, `write_plan`, `write_answer`; how much it takes: `taken`, `write_takes`.
use Rattle.std.specs.Prelude.{ℕ, nat_lt, nat_eq, min, Bool, ◌||◌, List, [], ◌∷◌, ◌++◌, length, take, drop, if◌then◌else◌}
use Rattle.std.specs.Prelude.{Option, None, Some, is_some, Result, Ok, Err}
use Rattle.prefix_io.specs.Calls.{is_listed}
use Rattle.prefix_io.specs.declared.streams.Failed.{Failed}
use Rattle.prefix_io.specs.declared.memory.MemorySource.{MemorySource}
use Rattle.prefix_io.specs.declared.memory.MemorySink.{MemorySink}
use Rattle.prefix_io.specs.declared.memory.SinkFail.{SinkFail}

-- the bytes that are left
abbrev pub source_left : MemorySource → List ℕ
source_left s = drop s.start s.bytes.items

-- the most bytes that one read gives
abbrev pub source_piece : MemorySource → ℕ
source_piece s = s.piece

-- the numbers of the reads that fail
abbrev pub source_fail : MemorySource → List ℕ
source_fail s = s.fail.items

-- the number of the next read, none past `u64::MAX`
abbrev pub source_call : MemorySource → Option ℕ
source_call s = s.call

-- how many reads have failed, at most `u64::MAX`
abbrev pub source_faults : MemorySource → ℕ
source_faults s = s.faults

-- the next read fails
abbrev pub read_fails : MemorySource → Bool
read_fails s = is_listed (source_fail s) (source_call s)

-- how many bytes a read gives to a buffer of len bytes, where it does not fail
abbrev pub read_count : MemorySource → ℕ → ℕ
read_count s len = min (min (source_piece s) len) (length (source_left s))

-- what a read answers to a buffer of len bytes
abbrev pub read_answer : MemorySource → ℕ → Result ℕ Failed
read_answer s len = if read_fails s then Err (record {}) else Ok (read_count s len)

-- the buffer after a read that answered so, where these bytes had been left
abbrev pub moved_to : {E : Type 0} → List ℕ → Result ℕ E → List ℕ → List ℕ
moved_to left (Ok n) buf = take n left ++ drop n buf
moved_to left (Err e) buf = buf

-- the bytes that are left after a read that answered so
abbrev pub rest_after : {E : Type 0} → List ℕ → Result ℕ E → List ℕ
rest_after left (Ok n) = drop n left
rest_after left (Err e) = left

-- the bytes so far
abbrev pub sink_written : MemorySink → List ℕ
sink_written s = s.bytes.items

-- for how many more bytes there is room
abbrev pub sink_free : MemorySink → ℕ
sink_free s = s.free

-- the writes that fail
abbrev pub sink_fail : MemorySink → List SinkFail
sink_fail s = s.fail.items

-- the number of the next write, none past `u64::MAX`
abbrev pub sink_call : MemorySink → Option ℕ
sink_call s = s.call

-- how many writes have failed, at most `u64::MAX`
abbrev pub sink_faults : MemorySink → ℕ
sink_faults s = s.faults

-- all that was written has been flushed
abbrev pub is_sink_clean : MemorySink → Bool
is_sink_clean s = s.is_clean

-- the `take` of the first member with this number
abbrev pub planned_take : List SinkFail → Option ℕ → Option ℕ
planned_take fail None = None
planned_take [] (Some n) = None
planned_take (f ∷ fail) (Some n) = if nat_eq f.call n then Some f.take else planned_take fail (Some n)

-- what the next write takes at most, where it was told to fail
abbrev pub write_plan : MemorySink → Option ℕ
write_plan s = planned_take (sink_fail s) (sink_call s)

-- how many of len bytes a write takes, where there is room for free of them
abbrev pub taken : Option ℕ → ℕ → ℕ → ℕ
taken None len free = min len free
taken (Some most) len free = min (min most len) free

-- how many of len bytes the next write takes
abbrev pub write_takes : MemorySink → ℕ → ℕ
write_takes s len = taken (write_plan s) len (sink_free s)

-- what a write of len bytes answers: it fails where it was told to, and where they don't fit
abbrev pub write_answer : MemorySink → ℕ → Result (Unit {0}) Failed
write_answer s len = if is_some (write_plan s) || nat_lt (sink_free s) len then Err (record {}) else Ok tt
