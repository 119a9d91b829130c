-- What the sinks in memory tell.
use Rattle.std.specs.Prelude.{ℕ, List}
use Rattle.rx_io.specs.Terms.{Plan}
use Rattle.rx_io.specs.declared.tame_sink.TameSink.{TameSink}
use Rattle.rx_io.specs.declared.memory_sink.MemorySink.{MemorySink}

-- what was given to a sink that never fails, in order
abbrev pub tame_bytes : TameSink → List ℕ
tame_bytes s = s.bytes.items

-- how many bytes one call of it gives at most
abbrev pub tame_room : TameSink → ℕ
tame_room s = s.most

-- what was given to a sink of which certain calls fail, in order
abbrev pub memory_bytes : MemorySink → List ℕ
memory_bytes s = tame_bytes s.sink

-- how many bytes one call of that sink gives at most
abbrev pub memory_room : MemorySink → ℕ
memory_room s = tame_room s.sink

-- which calls of that sink are to fail
abbrev pub memory_sink_plan : MemorySink → Plan
memory_sink_plan s = s.fails
