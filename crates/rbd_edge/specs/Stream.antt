-- What stands under a source and a sink of std.
use Rattle.std.specs.Prelude.{ℕ}
use Rattle.rbd_edge.specs.declared.stream.StdSource.{StdSource}
use Rattle.rbd_edge.specs.declared.stream.StdSink.{StdSink}

-- the reader under a source
abbrev pub reader_of : {I : Type 0} → StdSource I → I
reader_of source = source.reader

-- how often a source failed
abbrev pub read_faults : {I : Type 0} → StdSource I → ℕ
read_faults source = source.faults

-- the writer under a sink
abbrev pub writer_of : {O : Type 0} → StdSink O → O
writer_of sink = sink.writer

-- how often a sink failed
abbrev pub write_faults : {O : Type 0} → StdSink O → ℕ
write_faults sink = sink.faults
