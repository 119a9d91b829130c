-- Proofs of the laws of the objects in memory.
use Rattle.std.specs.Prelude.{◌+◌, ◌-◌, ◌^◌, ◌<◌, length}
use Rattle.std.proofs.Common.{arith, length-take, length-drop}
use Rattle.rx_io.specs.Sources.{tame_stream, memory_stream}
use Rattle.rx_io.specs.Sinks.{tame_bytes, memory_bytes}
use Rattle.rx_io.specs.declared.tame_source.TameSource.{TameSource}
use Rattle.rx_io.specs.declared.memory_source.MemorySource.{MemorySource}
use Rattle.rx_io.specs.declared.tame_sink.TameSink.{TameSink}
use Rattle.rx_io.specs.declared.memory_sink.MemorySink.{MemorySink}

-- the bytes of each source, taken and left, and of each sink are fewer than 2 ^ 64 - 1
pub tame_countable : (s : TameSource) → length (tame_stream s).taken + length (tame_stream s).left < 2 ^ 64 - 1
tame_countable s = omega (arith, s.countable, s.inside, length-take s.at s.bytes.items, length-drop s.at s.bytes.items)

pub memory_countable : (s : MemorySource) → length (memory_stream s).taken + length (memory_stream s).left < 2 ^ 64 - 1
memory_countable s = tame_countable s.source

pub tame_sink_countable : (s : TameSink) → length (tame_bytes s) < 2 ^ 64 - 1
tame_sink_countable s = s.countable

pub memory_sink_countable : (s : MemorySink) → length (memory_bytes s) < 2 ^ 64 - 1
memory_sink_countable s = s.sink.countable
