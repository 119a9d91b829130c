-- A guest with the counts of its run, and what it does next.
use Rattle.std.specs.Prelude.{ℕ, ◌+◌, ◌-◌, ◌%◌, ◌^◌, ◌<◌, ◌≤◌, Bool, List, Option, Some, None, option_map, option_and_then, slice_index}
use Rattle.guest_cpu.specs.Terms.{Choice, Site, live_blocks, Heap, Env, with_reached, Instr, Store, displaced, store_size, Area, set_count, Effect, Emits, Ends, Fails, Goes, Machine, Wants, register, with_register, Grant, Guest, Limits, grant, serves, Range, buffer, instruction_at, Event, Marks}
use Rattle.guest_cpu.specs.declared.guest_core.Core.{Core}
use Rattle.guest_cpu.specs.declared.event.Event.TheVariants as event

-- a guest, how many sends it made, how many instructions it did, and the code with which it ended itself, if it did
pub record Standing : Type 0 where
  pub guest : Guest
  pub sends : ℕ
  pub steps : ℕ
  pub ended : Option ℕ

-- the machine of what a guest has beside its memory; the blocks of the machine are the live ones of the heap
abbrev pub machine_of : Core → List Area → Machine
machine_of core memory = record {
  pc = core.regs.pc;
  registers = core.regs.x;
  memory = memory;
  heap_start = core.book.start;
  heap_end = core.book.end;
  blocks = live_blocks core.book.blocks;
  allocations = core.marks.choices;
  taken = core.marks.taken;
  connections = core.connections;
  since = core.marks.since;
}

-- where a guest stands that asks of the allocator
abbrev pub core_site : Core → Site
core_site core = record { pc = core.regs.pc; caller = slice_index core.regs.x 1; taken = core.marks.taken }

-- where a guest stands that has this beside its memory
abbrev pub standing : Core → List Area → Standing
standing core memory = record {
  guest = record { machine = machine_of core memory; heap = core.book };
  sends = core.marks.sends;
  steps = core.marks.steps;
  ended = core.ended;
}

-- the counts of where a guest stands
abbrev pub marks_of : Standing → Marks
marks_of s = record { taken = s.guest.machine.taken; since = s.guest.machine.since; steps = s.steps; choices = s.guest.machine.allocations; sends = s.sends }

-- no count is above that of the instructions
pub record AreCounted (marks : Marks) : Type 0 where
  pub taken : marks.taken ≤ marks.steps
  pub since : marks.since ≤ marks.steps
  pub choices : marks.choices ≤ marks.steps
  pub sends : marks.sends ≤ marks.steps

-- one more instruction can be counted
pub record CanCount (marks : Marks) : Type 0 where
  pub counted : AreCounted marks
  pub room : marks.steps < 2 ^ 64 - 1

-- one more instruction is counted
abbrev pub counting : Core → Core
counting core = record core { marks = record core.marks { since = core.marks.since + 1; steps = core.marks.steps + 1 } }

-- a call was done, and the guest goes on behind it
abbrev pub going_on : Core → Core
going_on core = counting (record core { regs = record core.regs { pc = (core.regs.pc + 4) % 2 ^ 32 } })

-- a call was answered
abbrev pub answering : ℕ → Core → Core
answering value core = going_on (record core { regs = record core.regs { x = with_register 10 value core.regs.x } })

-- the bytes that a store writes
abbrev pub stored_by : Option Instr → Machine → Option Range
stored_by (Some (Store op rs1 rs2 imm)) m = Some (record { at = displaced (register m rs1) imm; count = store_size op })
stored_by _ m = None

-- the bytes of a new block that are set
abbrev pub set_range : List (ℕ × ℕ) → Choice → Option Range
set_range live choice = buffer choice.at (set_count live choice)

-- the bytes that an instruction writes with this answer of the allocator: those of a new block that are set, or a store's
abbrev pub written_with : Option Choice → Option Instr → Machine → Option Range
written_with (Some choice) found m = set_range m.blocks choice
written_with None found m = stored_by found m

-- An instruction that is done, or that stops a run: the event that it is, if it is one, where the guest stands then, and
-- which bytes it wrote.
pub record Turn (E : Type 0) : Type 0 where
  pub event : Option E
  pub standing : Standing
  pub written : Option Range

-- a turn that leads there, with this event and these bytes written
abbrev pub turn_to : {E : Type 0} → Option E → Standing → Option Range → Turn E
turn_to event standing written = record { event = event; standing = standing; written = written }

-- one more instruction, with this machine and this heap behind it
abbrev pub moved : Machine → Heap → Standing → Standing
moved machine heap s = record s { guest = record { machine = machine; heap = heap }; steps = s.steps + 1 }

-- the turn of an effect of an instruction, where the allocator answered so
abbrev pub turn_of : Option Instr → Standing → Option Grant → Effect → Option (Turn Event)
turn_of found s (Some grant) (Goes m) = Some (turn_to (option_map event.Chooses grant.chosen) (moved m grant.heap s) (written_with grant.chosen found s.guest.machine))
turn_of found s (Some grant) (Emits conn bytes m) = Some (turn_to (Some (event.Emits conn bytes)) (record (moved m grant.heap s) { sends = s.sends + 1 }) None)
turn_of found s grant (Ends code) = Some (turn_to (Some (event.Exits code)) (record s { steps = s.steps + 1; ended = Some code }) None)
turn_of found s grant Wants = Some (turn_to (Some event.Asks) s None)
turn_of found s grant (Fails cause) = Some (turn_to (Some (event.Failed cause)) s None)
turn_of found s grant _ = None

-- what a guest does next in an environment
unfoldable pub turn : Limits → Env → Standing → Option (Turn Event)
turn limits env s = turn_of (instruction_at s.guest.machine) s (grant env s.guest) (serves limits env None s.guest)

-- a guest, and for each page whether a byte of it was written since the checkpoint on which it stands
pub record Live : Type 0 where
  pub standing : Standing
  pub written : List Bool

-- the flags of pages after bytes were written, in a window from a base on
abbrev pub with_range : ℕ → Option Range → List Bool → List Bool
with_range base None flags = flags
with_range base (Some range) flags = with_reached (range.at - base) range.count flags

module _ {E : Type 0} where
  -- a live guest after a turn: where it stands, and the flags of its pages
  abbrev pub live_after : ℕ → Live → Turn E → Live
  live_after base live t = record { standing = t.standing; written = with_range base t.written live.written }

  -- a guest goes on where there is no event
  abbrev pub unless_event : Option E → Live → Option Live
  unless_event None live = Some live
  unless_event (Some event) live = None

  -- a turn that is no event
  abbrev pub quietly : ℕ → Live → Turn E → Option Live
  quietly base live t = unless_event t.event (live_after base live t)

  -- one more instruction, which is no event
  unfoldable pub quiet_next : (Standing → Option (Turn E)) → ℕ → Live → Option Live
  quiet_next next base live = option_and_then (quietly base live) (next live.standing)
