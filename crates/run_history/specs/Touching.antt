-- Which bytes an instruction touches beside its own word: a load's, a store's, or a call's buffer.
use Rattle.std.specs.Prelude.{ℕ, not, ◌||◌, Option, Some, None, option_and_then, nat_lt, if◌then◌else◌, ◌==◌}
use Rattle.run_history.specs.Terms.{Instr, Ecall, Load, Store, displaced, load_size, store_size, row, execute, permitted}
use Rattle.run_history.specs.Machine.{Machine, register}
use Rattle.run_history.specs.Call.{may_send}
use Rattle.run_history.specs.Run.{word_at}

-- so many bytes from an address on
pub record Range : Type 0 where
  pub at : ℕ
  pub count : ℕ

-- a buffer of no byte is no range
abbrev pub buffer : ℕ → ℕ → Option Range
buffer at count = if count == 0 then None else Some (record { at = at; count = count })

-- a recv's buffer, and that of a send that isn't answered before its bytes are looked at
abbrev pub call_buffer : ℕ → Machine → Option Range
call_buffer number m =
    if number == 1 then buffer (register m 10) (register m 11) else
    if number == 2 then (if nat_lt 65535 (register m 12) || not (may_send m (register m 10)) then None else buffer (register m 11) (register m 12)) else
    None

-- the bytes of memory that an instruction reads or writes, unless there are none
abbrev pub touched_by : Instr → Machine → Option Range
touched_by (Load op rd rs1 imm) m = Some (record { at = displaced (register m rs1) imm; count = load_size op })
touched_by (Store op rs1 rs2 imm) m = Some (record { at = displaced (register m rs1) imm; count = store_size op })
touched_by Ecall m = call_buffer (register m 17) m
touched_by _ m = None

-- the instruction at the program counter, if it may be fetched and is one
unfoldable pub instruction_at : Machine → Option Instr
instruction_at m = if permitted execute m.memory m.pc 4 then row (word_at m) else None

-- what the machine touches next
unfoldable pub touched : Machine → Option Range
touched m = option_and_then (λ instr. touched_by instr m) (instruction_at m)
