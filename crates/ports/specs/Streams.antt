-- The streams of connections, by their numbers.
use Rattle.std.specs.Prelude.{◌≡◌, ◌≢◌, ℕ, List, [], ◌++◌, take, drop, Some, Result, slice_index_or}
use Rattle.ports.specs.Terms.{IoFault, Stream, fresh, Takes}

-- so many bytes more were taken
abbrev pub after_taken : ℕ → Stream → Stream
after_taken count stream = record { taken = stream.taken ++ take count stream.left; left = drop count stream.left }

-- the one of a connection; that of no byte where there is none
abbrev pub stream_at : ℕ → List Stream → Stream
stream_at conn streams = slice_index_or streams conn (fresh [])

-- bytes of a connection's input were taken, and none of another's
pub record TakesAt (old new : List Stream) (conn : ℕ) (buffer : List ℕ) (result : Result ℕ IoFault) : Type 0 where
  pub bytes : Takes (Some (stream_at conn old)) (Some (stream_at conn new)) result buffer
  pub others : (other : ℕ) → other ≢ conn → stream_at other new ≡ stream_at other old
