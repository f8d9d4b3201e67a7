-- What clauses see of a sink over a writer of the standard library.
use Rattle.std.specs.Prelude.{ℕ}
use Rattle.bridge_io.specs.declared.std_sink.StdSink.{StdSink}

-- the writer
abbrev pub writer_of : {W : Type 0} → StdSink W → W
writer_of s = s.writer

-- how often it has failed
abbrev pub faults_of : {W : Type 0} → StdSink W → ℕ
faults_of s = s.faults
