-- What a call on the trunk takes from its source and writes to its sink.
use Rattle.std.specs.Prelude.{◌≡◌, ◌⊎◌, ℕ, ◌+◌, ◌-◌, ◌^◌, ◌<◌, min, max, List, [], ◌++◌, length, take, Option, None, Some, Result, Ok, Err, Vec}
use Rattle.std.specs.declared.alloc.Global.{Global}
use Rattle.rx_base.specs.declared.fault.IoFault.TheVariants as io
use Rattle.links.specs.declared.journal.LinkEvent.TheVariants as event
use Rattle.trunk_wire.specs.Terms.{Appends, IoFault, IsDrained, Stream, Took, Prefix, Given, All, Gone, LinkEvent, LinkFault, Memory, ReadFault, Refused, WriteFault, Phases}
use Rattle.trunk_wire.specs.Frames.{IsFrameOf, piece_frame}
use Rattle.trunk_wire.specs.Grammar.{Part, Bad, front}

-- a count of bytes goes on by so many, and stays at the last value of its type
abbrev pub count_after : ℕ → ℕ → ℕ
count_after count more = max count (min (count + more) (2 ^ 64 - 1))

-- these bytes were taken from a source, and counted
pub record Reads (old new : Option Stream) (before now : ℕ) (bytes : List ℕ) : Type 0 where
  pub took : Took old new bytes
  pub count : now ≡ count_after before (length bytes)

-- these bytes were written to a sink, and counted
pub record Writes (old new : Option (List ℕ)) (before now : ℕ) (bytes : List ℕ) : Type 0 where
  pub wrote : Appends old new bytes
  pub count : now ≡ count_after before (length bytes)

-- the bytes of an event are its frame; at Ends there are none, and none is left
abbrev pub Brings : Type 0 → LinkEvent → List ℕ → Type 0
Brings drained event.Ends bytes = (bytes ≡ []) × drained
Brings drained other bytes = IsFrameOf other bytes

-- Bytes are refused by a kind: they are a header that is, and no byte behind it; or a part of a frame and all that was left.
abbrev pub IsRefused : Phases → Type 0 → ℕ → List ℕ → Type 0
IsRefused phases drained kind bytes = ((front phases bytes ≡ Bad kind) × (length bytes ≡ 5)) ⊎ ((kind ≡ 5) × (front phases bytes ≡ Part) × (0 < length bytes) × drained)

-- What `next` took, by its answer: the frame of the event; a refused header or a cut frame; or, after a fault, a part of a
-- frame and not a whole one.
abbrev pub TakesBy : Phases → (List ℕ → Type 0) → Type 0 → Result LinkEvent LinkFault → Type 0
TakesBy phases Taken drained (Ok event) = (bytes : List ℕ) × Taken bytes × Brings drained event bytes
TakesBy phases Taken drained (Err (Refused kind offset)) = (bytes : List ℕ) × Taken bytes × IsRefused phases drained kind bytes
TakesBy phases Taken drained (Err ReadFault) = (bytes : List ℕ) × Taken bytes × (front phases bytes ≡ Part)
TakesBy phases Taken drained (Err Memory) = (bytes : List ℕ) × Taken bytes × (front phases bytes ≡ Part)
TakesBy phases Taken drained (Err WriteFault) = ⊥

-- the same of a source, by what it tells, and of the count of bytes taken
abbrev pub TakesFrame : Phases → Option Stream → Option Stream → ℕ → ℕ → Result LinkEvent LinkFault → Type 0
TakesFrame phases old new before now result = TakesBy phases (Reads old new before now) (IsDrained new) result

-- What `give` wrote, by its answer: the piece's frame, or after a fault a first part of it, perhaps none or all. No connection
-- is ever gone.
abbrev pub WritesBy : (List ℕ → Type 0) → ℕ → List ℕ → Result Given LinkFault → Type 0
WritesBy Written conn bytes (Ok All) = Written (piece_frame conn bytes)
WritesBy Written conn bytes (Ok (Gone count)) = ⊥
WritesBy Written conn bytes (Err WriteFault) = (front : List ℕ) × Prefix front (piece_frame conn bytes) × Written front
WritesBy Written conn bytes (Err Memory) = (front : List ℕ) × Prefix front (piece_frame conn bytes) × Written front
WritesBy Written conn bytes (Err ReadFault) = ⊥
WritesBy Written conn bytes (Err (Refused kind offset)) = ⊥

-- the same of a sink, by what it tells, and of the count of bytes written
abbrev pub WritesFrame : Option (List ℕ) → Option (List ℕ) → ℕ → ℕ → ℕ → List ℕ → Result Given LinkFault → Type 0
WritesFrame old new before now conn bytes result = WritesBy (Writes old new before now) conn bytes result

-- a refusal stands at the first byte of its frame, by the count of bytes before it
abbrev pub HasOffset : ℕ → Result LinkEvent LinkFault → Type 0
HasOffset count (Ok event) = Unit {0}
HasOffset count (Err (Refused kind offset)) = offset ≡ count
HasOffset count (Err other) = Unit {0}

-- a buffer was filled; where it wasn't wholly, the source was at its end, and after a fault fewer bytes than it holds were taken
abbrev pub Fills : Option Stream → Option Stream → ℕ → ℕ → List ℕ → Result ℕ IoFault → Type 0
Fills old new before now buffer (Ok n) = Reads old new before now (take n buffer) × (n < length buffer → IsDrained new)
Fills old new before now buffer (Err fault) = (bytes : List ℕ) × Reads old new before now bytes × (length bytes < length buffer)

-- so many bytes were read, or fewer are left, or after a fault fewer were taken
abbrev pub ReadsPayload : ℕ → Option Stream → Option Stream → ℕ → ℕ → Result (Option (Vec ℕ Global)) IoFault → Type 0
ReadsPayload count old new before now (Ok (Some bytes)) = Reads old new before now bytes.items × (length bytes.items ≡ count)
ReadsPayload count old new before now (Ok None) = (bytes : List ℕ) × Reads old new before now bytes × (length bytes < count) × IsDrained new
ReadsPayload count old new before now (Err fault) = (bytes : List ℕ) × Reads old new before now bytes × (length bytes < count)

-- bytes that follow others
abbrev pub Behind : List ℕ → (List ℕ → Type 0) → List ℕ → Type 0
Behind first Taken bytes = (rest : List ℕ) × (bytes ≡ first ++ rest) × Taken rest

-- all bytes were written, or after a fault some first ones
abbrev pub WritesAll : (List ℕ → Type 0) → List ℕ → Result (Unit {0}) IoFault → Type 0
WritesAll Written bytes (Ok done) = Written bytes
WritesAll Written bytes (Err fault) = (front : List ℕ) × Prefix front bytes × Written front

-- the faults of source and sink, as those of a link
abbrev pub read_fault : IoFault → LinkFault
read_fault io.Failed = ReadFault
read_fault io.Memory = Memory

abbrev pub write_fault : IoFault → LinkFault
write_fault io.Failed = WriteFault
write_fault io.Memory = Memory
