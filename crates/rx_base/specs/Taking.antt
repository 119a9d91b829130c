-- What a call that takes bytes from a source does, and how many of its bytes one that gives them gave.
use Rattle.std.specs.Prelude.{◌≡◌, ℕ, ◌<◌, ◌≤◌, List, [], take, Option, Result, Ok, Err}
use Rattle.rx_base.specs.Outside.{Stream, Took, IsDrained}

-- at `Ok n` the first n bytes of the buffer were taken, and none only at the end; after an `Err` none were
abbrev pub Takes : {E : Type 0} → Option Stream → Option Stream → Result ℕ E → List ℕ → Type 0
Takes old new (Ok n) buffer = Took old new (take n buffer) × (n ≡ 0 → IsDrained new)
Takes old new (Err e) buffer = Took old new []

-- so many bytes of a piece, at least one
pub record IsPart (count whole : ℕ) : Type 0 where
  pub some : 0 < count
  pub within : count ≤ whole
