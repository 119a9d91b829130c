-- One byte of a source, and the bytes that a sink is given.
use Rattle.std.specs.Prelude.{ℕ, List, [], ◌∷◌, Option, None, Some, Result, Ok, Err}
use Rattle.rx_base.specs.declared.fault.IoFault.TheVariants as io
use Rattle.trunk_text.specs.Terms.{IoFault}
use Rattle.trunk_text.specs.declared.turning.Ended.{Ended}
use Rattle.trunk_text.specs.declared.turning.Ended.TheVariants.{ReadFault, WriteFault, Memory}

-- a byte was taken, or none is left, or after a fault none was taken
abbrev pub TakesByte : (List ℕ → Type 0) → Type 0 → Result (Option ℕ) IoFault → Type 0
TakesByte Takes drained (Ok (Some byte)) = Takes (byte ∷ [])
TakesByte Takes drained (Ok None) = Takes [] × drained
TakesByte Takes drained (Err fault) = Takes []

-- the end by a fault of the source, and by one of the sink
abbrev pub read_ended : IoFault → Ended
read_ended io.Failed = ReadFault
read_ended io.Memory = Memory

abbrev pub write_ended : IoFault → Ended
write_ended io.Failed = WriteFault
write_ended io.Memory = Memory
