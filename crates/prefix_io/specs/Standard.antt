-- What the forms over the standard streams hold: `std_source_inner`, `std_source_faults`;
-- `std_sink_inner`, `std_sink_faults`, `is_std_sink_clean`.
use Rattle.std.specs.Prelude.{ℕ, Bool}
use Rattle.prefix_io.specs.declared.standard.StdSource.{StdSource}
use Rattle.prefix_io.specs.declared.standard.StdSink.{StdSink}

-- the reader
abbrev pub std_source_inner : {R : Type 0} → StdSource R → R
std_source_inner s = s.inner

-- how many reads have failed, at most `u64::MAX`
abbrev pub std_source_faults : {R : Type 0} → StdSource R → ℕ
std_source_faults s = s.faults

-- the writer
abbrev pub std_sink_inner : {W : Type 0} → StdSink W → W
std_sink_inner s = s.inner

-- how many writes and flushes have failed, at most `u64::MAX`
abbrev pub std_sink_faults : {W : Type 0} → StdSink W → ℕ
std_sink_faults s = s.faults

-- all that was written has been flushed
abbrev pub is_std_sink_clean : {W : Type 0} → StdSink W → Bool
is_std_sink_clean s = s.is_clean
