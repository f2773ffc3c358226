-- What the real sources and sinks show.
use Rattle.std.specs.Prelude.{ℕ, Bool}
use Rattle.edge_io.specs.declared.std_source.StdSource.{StdSource}
use Rattle.edge_io.specs.declared.std_sink.StdSink.{StdSink}

-- how many reads have failed, up to 2 ^ 64 - 1
abbrev pub failed_reads : {R : Type 0} → StdSource R → ℕ
failed_reads s = s.faults

-- whether the end of the input was met
abbrev pub has_ended : {R : Type 0} → StdSource R → Bool
has_ended s = s.ended

-- the reader behind a source
abbrev pub reader_of : {R : Type 0} → StdSource R → R
reader_of s = s.inner

-- how many writes have failed, up to 2 ^ 64 - 1
abbrev pub failed_writes : {W : Type 0} → StdSink W → ℕ
failed_writes s = s.faults

-- the writer behind a sink
abbrev pub writer_of : {W : Type 0} → StdSink W → W
writer_of s = s.inner
