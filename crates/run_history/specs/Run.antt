-- Whole runs: the iteration of one instruction. Items and answers of the allocator are taken by their number, so a longer list
-- of them keeps every run that there is.
use Rattle.std.specs.Prelude.{◌≡◌, ℕ, List, [], ◌∷◌, ◌++◌, length, Option, Some, None, is_some, slice_get, if◌then◌else◌}
use Rattle.run_history.specs.Terms.{Item, sent_to, Choice, Instr, Auipc, Branch, Ebreak, Ecall, Fence, Jal, Jalr, Load, Lui, Op, OpImm, Store, row, little_number, Image, bytes_at, execute, permitted, BadAccess, BadInstruction}
use Rattle.run_history.specs.Machine.{Machine, State, register, start, Effect, Goes, Emits, Ends, Wants, Chooses, Fails}
use Rattle.run_history.specs.Instruction.{lui, auipc, jal, jalr, branch, load, store, op_imm, op, fence, ebreak}
use Rattle.run_history.specs.Call.{call}
use Rattle.run_history.specs.Repeating.{repeated}

-- what an instruction does, with the item and the answer of the allocator that are next
unfoldable pub instruction : Instr → Option Item → Option Choice → Machine → Effect
instruction (Lui rd imm) item choice m = lui rd imm m
instruction (Auipc rd imm) item choice m = auipc rd imm m
instruction (Jal rd imm) item choice m = jal rd imm m
instruction (Jalr rd rs1 imm) item choice m = jalr rd rs1 imm m
instruction (Branch operation rs1 rs2 imm) item choice m = branch operation rs1 rs2 imm m
instruction (Load operation rd rs1 imm) item choice m = load operation rd rs1 imm m
instruction (Store operation rs1 rs2 imm) item choice m = store operation rs1 rs2 imm m
instruction (OpImm operation rd rs1 imm) item choice m = op_imm operation rd rs1 imm m
instruction (Op operation rd rs1 rs2) item choice m = op operation rd rs1 rs2 m
instruction (Fence word) item choice m = fence m
instruction Ecall item choice m = call (register m 17) item choice m
instruction Ebreak item choice m = ebreak m

-- the word at the program counter
abbrev pub word_at : Machine → ℕ
word_at m = little_number (bytes_at execute m.memory m.pc 4)

-- what the instruction of a row does, if there is one
abbrev pub executed : Option Instr → Option Item → Option Choice → Machine → Effect
executed None item choice m = Fails BadInstruction
executed (Some instr) item choice m = instruction instr item choice m

-- what the machine does next, with the item and the answer of the allocator that are next
unfoldable pub does : Option Item → Option Choice → Machine → Effect
does item choice m = if permitted execute m.memory m.pc 4 then executed (row (word_at m)) item choice m else Fails BadAccess

-- the same with lists of them, of which it takes the ones that are next by their numbers
abbrev pub effect : List Item → List Choice → Machine → Effect
effect items choices m = does (slice_get items m.taken) (slice_get choices m.allocations) m

-- the state after an effect, if there is one
abbrev pub after : State → Effect → Option State
after s (Goes m) = Some (record s { machine = m })
after s (Emits conn bytes m) = Some (record s { machine = m; sends = s.sends ++ record { conn = conn; bytes = bytes; taken = s.machine.taken } ∷ [] })
after s (Ends code) = Some (record s { ended = Some code })
after s Wants = None
after s (Chooses ask) = None
after s (Fails cause) = None

-- the state after one more instruction; a program that has ended itself has none
unfoldable pub next : List Item → List Choice → State → Option State
next items choices s = if is_some s.ended then None else after s (effect items choices s.machine)

-- the state after so many instructions
abbrev pub run : List Item → List Choice → State → ℕ → Option State
run items choices s steps = repeated (next items choices) steps s

-- the run of an image with these items and all of these answers of the allocator, so many instructions long
pub record Run (image : Image) (items : List Item) (choices : List Choice) (steps : ℕ) (state : State) : Type 0 where
  pub ran : run items choices (start image) steps ≡ Some state
  pub used : state.machine.allocations ≡ length choices

-- the output of a state on a connection
abbrev pub output : State → ℕ → List ℕ
output state conn = sent_to conn state.sends
