-- Bytes of a source that are turned into bytes for a sink, one whole line or frame after another.
use Rattle.std.specs.Prelude.{◌≡◌, ◌⊎◌, ℕ, ◌+◌, ◌^◌, ◌<◌, ◌≤◌, List, [], ◌++◌, length, flat_map, Option, All}
use Rattle.rx_base.specs.declared.fault.IoFault.TheVariants as io
use Rattle.trunk_text.specs.Terms.{Appends, IoFault, Stream, Took, Prefix, Flaw}
use Rattle.trunk_text.specs.declared.turning.Ended.{Ended}
use Rattle.trunk_text.specs.declared.turning.Ended.TheVariants.{Finished, Refused, ReadFault, WriteFault, Limit, Memory}
use Rattle.trunk_text.specs.declared.turning.Turn.{Turn}
use Rattle.trunk_text.specs.declared.turning.Turn.TheVariants.{More, Ends}

-- How bytes are turned: what a whole line or frame becomes, what the last bytes of the input become, which bytes are refused by a flaw, perhaps only where no
-- byte is left behind them, and which are a part of a line or frame
pub record Way : Type 1 where
  pub Turns : List ℕ → List ℕ → Type 0
  pub Last : List ℕ → List ℕ → Type 0
  pub IsBad : Type 0 → Flaw → List ℕ → Type 0
  pub IsPart : List ℕ → Type 0

-- bytes, and what they were turned into
pub record Pair : Type 0 where
  pub from : List ℕ
  pub to : List ℕ

-- bytes are whole lines or frames, one behind the other, and these are what each was turned into
pub record Turned (way : Way) (from to : List ℕ) : Type 0 where
  pub pairs : List Pair
  pub each : All (λ (pair : Pair). way.Turns pair.from pair.to) pairs
  pub from_is : from ≡ flat_map (λ (pair : Pair). pair.from) pairs
  pub to_is : to ≡ flat_map (λ (pair : Pair). pair.to) pairs

-- some bytes were taken of a source, and some were written to a sink
pub record Moved (old_in new_in : Option Stream) (old_out new_out : Option (List ℕ)) (from to : List ℕ) : Type 0 where
  pub took : Took old_in new_in from
  pub wrote : Appends old_out new_out to

-- a part of a line or frame was taken; where memory ran out, perhaps with one more byte
abbrev pub Loses : (List ℕ → Type 0) → (List ℕ → Type 0) → IoFault → Type 0
Loses IsPart Taken io.Failed = (part : List ℕ) × IsPart part × Taken part
Loses IsPart Taken io.Memory = (part : List ℕ) × (more : List ℕ) × IsPart part × (length more ≤ 1) × Taken (part ++ more)

-- a whole line or frame was taken, and some first bytes were written of what it becomes, perhaps none or all
abbrev pub Breaks : Way → (List ℕ → List ℕ → Type 0) → Type 0
Breaks way Moves = (from : List ℕ) × (to : List ℕ) × (front : List ℕ) × (way.Turns from to ⊎ way.Last from to) × Prefix front to × Moves from front

-- What was taken and written last, behind whole lines or frames of so many bytes, by the answer: what is left at the end of the input; bytes that are refused,
-- for which nothing is written; a part of a line or frame, for which nothing is; one that was whole, and some of what it becomes
abbrev pub EndsBy : Way → (List ℕ → List ℕ → Type 0) → Type 0 → ℕ → Ended → Type 0
EndsBy way Moves drained at Finished = (from : List ℕ) × (to : List ℕ) × way.Last from to × drained × Moves from to
EndsBy way Moves drained at (Refused flaw offset) = (from : List ℕ) × way.IsBad drained flaw from × (offset ≡ at) × Moves from []
EndsBy way Moves drained at ReadFault = Loses way.IsPart (λ from. Moves from []) io.Failed
EndsBy way Moves drained at WriteFault = Breaks way Moves
EndsBy way Moves drained at Limit = (from : List ℕ) × (2 ^ 64 ≤ at + length from) × Moves from []
EndsBy way Moves drained at Memory = Loses way.IsPart (λ from. Moves from []) io.Memory ⊎ Breaks way Moves

-- one more line or frame was taken and turned, up to so many bytes of the input, or it is the end
abbrev pub TurnsBy : Way → (List ℕ → List ℕ → Type 0) → Type 0 → ℕ → Turn → Type 0
TurnsBy way Moves drained at (More now) = (from : List ℕ) × (to : List ℕ) × way.Turns from to × (now ≡ at + length from) × Moves from to
TurnsBy way Moves drained at (Ends ended) = EndsBy way Moves drained at ended

-- all that was taken and written: whole lines or frames and what each becomes, and then by the answer
abbrev pub Goes : Way → (List ℕ → List ℕ → Type 0) → Type 0 → Ended → Type 0
Goes way Moves drained ended = (from : List ℕ) × (to : List ℕ) × Turned way from to × EndsBy way (λ more out. Moves (from ++ more) (to ++ out)) drained (length from) ended

-- the input goes on behind this offset
abbrev pub IsForward : ℕ → Turn → Type 0
IsForward at (More now) = at < now
IsForward at (Ends ended) = Unit {0}

-- these bytes were taken before, and some were written for them
abbrev pub IsGiven : List ℕ → (List ℕ → Type 0) → List ℕ → List ℕ → Type 0
IsGiven bytes Writes from to = (from ≡ bytes) × Writes to
