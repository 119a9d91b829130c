-- The machine's state.
use Rattle.std.specs.Prelude.{ℕ, ◌+◌, ◌%◌, ◌^◌, Bool, false, List, [], Option, None, replicate, slice_index, slice_set, if◌then◌else◌, ◌==◌}
use Rattle.run_history.specs.Terms.{Send, Ask, Image, heap_end, heap_start, memory_of, stack_top, Area, Cause}

-- what an instruction reads and changes
pub record Machine : Type 0 where
  pub pc : ℕ
  -- 32 of them
  pub registers : List ℕ
  pub memory : List Area
  -- the ends of the heap, in which the allocator may answer a block; they never change
  pub heap_start : ℕ
  pub heap_end : ℕ
  -- the live blocks, each an address and a size, in order of address
  pub blocks : List (ℕ × ℕ)
  -- the answers of the allocator that were used
  pub allocations : ℕ
  -- the items taken
  pub taken : ℕ
  -- for each connection below 4096, whether its open was taken and its close wasn't
  pub connections : List Bool
  -- the instructions since the last item was taken, or since the start
  pub since : ℕ

-- the machine, what it has sent so far, and the code with which it ended itself, if it did
pub record State : Type 0 where
  pub machine : Machine
  pub sends : List Send
  pub ended : Option ℕ

-- register 0 reads as 0, and a write to it is dropped (RISC-V manual, "Programmers' Model for Base Integer ISA")
abbrev pub register : Machine → ℕ → ℕ
register m n = if n == 0 then 0 else slice_index m.registers n

abbrev pub with_register : ℕ → ℕ → List ℕ → List ℕ
with_register n value registers = if n == 0 then registers else slice_set registers n value

-- the address of the instruction that follows this one
abbrev pub next_pc : Machine → ℕ
next_pc m = (m.pc + 4) % 2 ^ 32

-- no connection is open
unfoldable pub no_connections : List Bool
no_connections = replicate 4096 false

-- the machine at the start: the entry, the stack's top in x2, and all other registers 0
unfoldable pub start_machine : Image → Machine
start_machine image = record {
  pc = image.entry;
  registers = slice_set (replicate 32 0) 2 (stack_top image % 2 ^ 32);
  memory = memory_of image;
  heap_start = heap_start image;
  heap_end = heap_end image;
  blocks = [];
  allocations = 0;
  taken = 0;
  connections = no_connections;
  since = 0;
}

-- a program before its first instruction
unfoldable pub start : Image → State
start image = record { machine = start_machine image; sends = []; ended = None }

-- What one instruction does: it goes on, sends bytes to a connection, ends the program with a code, wants an item
-- that isn't there, wants an answer of the allocator to an ask, or fails and changes nothing.
pub data Effect : Type 0 where
  Goes : Machine → Effect
  Emits : ℕ → List ℕ → Machine → Effect
  Ends : ℕ → Effect
  Wants : Effect
  Chooses : Ask → Effect
  Fails : Cause → Effect
