-- Bytes that were read ahead of what was asked for.
use Rattle.std.specs.Prelude.{ℕ, List, Option, slice_range}
use Rattle.rx_io.specs.Terms.{prepend_known}
use Rattle.rx_io.specs.declared.read_ahead.ReadAhead.{ReadAhead}

-- the bytes that were read and not yet given
abbrev pub ahead : ReadAhead → List ℕ
ahead r = slice_range r.bytes r.start r.end

-- what is to be given: those, and what the reader has left, where that is known
abbrev pub to_come : ReadAhead → Option (List ℕ) → Option (List ℕ)
to_come r remaining = prepend_known (ahead r) remaining
