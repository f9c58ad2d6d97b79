-- What a clause reads of sources and sinks over the streams of std.
use Rattle.std.specs.Prelude.{ℕ}
use Rattle.surge_io.specs.declared.stream.StreamSource.{StreamSource}
use Rattle.surge_io.specs.declared.stream.StreamSink.{StreamSink}

-- the reader below a source
abbrev pub reader_of : {R : Type 0} → StreamSource R → R
reader_of source = source.reader

-- the count of a source's faults
abbrev pub read_faults : {R : Type 0} → StreamSource R → ℕ
read_faults source = source.faults

-- the writer below a sink
abbrev pub writer_of : {W : Type 0} → StreamSink W → W
writer_of sink = sink.writer

-- the count of a sink's faults
abbrev pub write_faults : {W : Type 0} → StreamSink W → ℕ
write_faults sink = sink.faults
