-- What the sources in memory tell.
use Rattle.std.specs.Prelude.{ℕ, min, List, [], length, take, drop, Option, None, Some}
use Rattle.rx_base.specs.Outside.{Stream}
use Rattle.rx_io.specs.Terms.{Plan}
use Rattle.rx_io.specs.declared.tame_source.TameSource.{TameSource}
use Rattle.rx_io.specs.declared.memory_source.MemorySource.{MemorySource}

-- the bytes of a source that were taken, and those that are left
abbrev pub tame_stream : TameSource → Stream
tame_stream s = record { taken = take s.at s.bytes.items; left = drop s.at s.bytes.items }

-- how many bytes one call of it takes at most
abbrev pub tame_most : TameSource → ℕ
tame_most s = s.most

-- how many bytes a call of a source gives at most, or this number where there is no source
abbrev pub most_or : ℕ → Option TameSource → ℕ
most_or most None = most
most_or most (Some source) = tame_most source

-- the stream of a source of which certain calls fail
abbrev pub memory_stream : MemorySource → Stream
memory_stream s = tame_stream s.source

-- how many bytes one call of that source takes at most
abbrev pub memory_most : MemorySource → ℕ
memory_most s = tame_most s.source

-- which calls of that source are to fail
abbrev pub memory_plan : MemorySource → Plan
memory_plan s = s.fails
